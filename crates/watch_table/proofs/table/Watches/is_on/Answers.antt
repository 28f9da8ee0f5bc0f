use Rattle.std.proofs.Common.{◌<◌, length, get_or, sym, ◌∙◌, arith}
use Rattle.watch_table.specs.Tables.{is_on}
use Rattle.watch_table.proofs.PlaceLemmas.{no_watch, there, none_past, any_at}
use Rattle.watch_table.proofs.table.Watches.is_on.Goals as goal

pub returns-then-matches : goal.returns-then-matches
returns-then-matches c =
    let within : c.loop-place.place < length c.args.self.now = omega (arith, c.loop-place-test.true, c.len-place-end.ensures) in
    sym (any_at (is_on c.args.path.now) c.args.self.now c.loop-place.place within
    (sym (c.matches.ensures (get_or c.args.self.now c.loop-place.place no_watch) (there c.args.self.now c.loop-place.place within)) ∙ c.if-matches.true))

pub loop-place-preserved : goal.loop-place-preserved
loop-place-preserved c =
    let within : c.loop-place.place < length c.args.self.now = omega (arith, c.loop-place-test.true, c.len-place-end.ensures) in
    none_past (is_on c.args.path.now) c.args.self.now c.loop-place.place within c.loop-place.invariant
    (sym (c.matches.ensures (get_or c.args.self.now c.loop-place.place no_watch) (there c.args.self.now c.loop-place.place within)) ∙ c.if-matches.false)
