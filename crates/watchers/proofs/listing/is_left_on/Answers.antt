use Rattle.std.proofs.Common.{◌<◌, ◌&&◌, Bool, not, length, get_or, sym, ◌∙◌, arith}
use Rattle.xs_model.specs.Watches.{same_watch}
use Rattle.watch_table.specs.Tables.{Made, watch_of, is_on}
use Rattle.watch_table.proofs.PlaceLemmas.{no_watch, there, none_past, any_at}
use Rattle.watchers.proofs.listing.is_left_on.Goals as goal

pub returns-then-is_left_at : goal.returns-then-is_left_at
returns-then-is_left_at c =
    let ms = c.args.watches.now in
    let within : c.loop-place.place < length c.args.watches.now = omega (arith, c.loop-place-test.true, c.len-place-end.ensures) in
    let test : Made → Bool = λ (m : Made). not (same_watch (watch_of c.args.wpath.now c.args.token.now) m.watch) && is_on c.args.node.now m in
    sym (any_at test ms c.loop-place.place within (sym (c.is_left_at.ensures (get_or ms c.loop-place.place no_watch) (there ms c.loop-place.place within)) ∙ c.if-is_left_at.true))

pub loop-place-preserved : goal.loop-place-preserved
loop-place-preserved c =
    let ms = c.args.watches.now in
    let within : c.loop-place.place < length c.args.watches.now = omega (arith, c.loop-place-test.true, c.len-place-end.ensures) in
    let test : Made → Bool = λ (m : Made). not (same_watch (watch_of c.args.wpath.now c.args.token.now) m.watch) && is_on c.args.node.now m in
    none_past test ms c.loop-place.place within c.loop-place.invariant (sym (c.is_left_at.ensures (get_or ms c.loop-place.place no_watch) (there ms c.loop-place.place within)) ∙ c.if-is_left_at.false)
