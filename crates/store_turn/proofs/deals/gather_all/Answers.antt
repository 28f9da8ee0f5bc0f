use Rattle.std.proofs.Common.{arith, ◌≡◌, ◌+◌, ◌++◌, [], ◌∷◌, length, length-append, ap, ◌∙◌, subst}
use Rattle.std.specs.Prelude.{option_to_list, IsSomeAnd}
use Rattle.store_turn.specs.Seats.{known_of}
use Rattle.store_turn.proofs.Crowds.{popped_at, popped_front, still_known, is_there}
use Rattle.store_turn.proofs.deals.gather_all.Goals as goal

pub unwrap-requires : goal.unwrap-requires
unwrap-requires g c =
    let last = c.pop.ensures.items ∙ ap (λ r. c.pop.new.self.items ++ option_to_list r) c.in-Some.is in
    is_there (λ caller. caller.turn.table ≡ c.args.board.now.table_id) c.in-Some.place (c.requires.there _ c.in-Some.place (popped_at c.args.there.items c.loop-place.there.items c.pop.new.self.items c.in-Some.place c.loop-place.invariant.3 last))

pub gather-requires-clause-caller : goal.gather-requires-clause-caller
gather-requires-clause-caller g c κs within =
    let last = c.pop.ensures.items ∙ ap (λ r. c.pop.new.self.items ++ option_to_list r) c.in-Some.is in
    subst (λ o. IsSomeAnd o (λ caller. caller.turn.table ≡ c.args.board.now.table_id)) c.unwrap.ensures
    (c.requires.there _ c.in-Some.place (popped_at c.args.there.items c.loop-place.there.items c.pop.new.self.items c.in-Some.place c.loop-place.invariant.3 last))

pub loop-place-preserved : goal.loop-place-preserved
loop-place-preserved g c =
    let l = c.loop-place in
    let last = c.pop.ensures.items ∙ ap (λ r. c.pop.new.self.items ++ option_to_list r) c.in-Some.is in
    let front = l.invariant.3 in
    let less : length l.there.items ≡ length c.pop.new.self.items + 1 = ap length last ∙ length-append c.pop.new.self.items (c.in-Some.place ∷ []) in
    let more : length c.gather.new.root.me.0.known ≡ length l.root.me.0.known + 1 = ap length c.gather.ensures.known ∙ length-append l.root.me.0.known (known_of c.unwrap.result ∷ []) in
    let count = l.invariant.4 in (
      c.gather.ensures.own ∙ l.invariant.0,
      c.gather.ensures.idle.0,
      c.gather.ensures.idle.1,
      popped_front c.args.there.items l.there.items c.pop.new.self.items c.in-Some.place front last,
      omega arith,
      still_known c.args.there.items l.there.items c.pop.new.self.items c.in-Some.place c.unwrap.result l.root.me.0.known c.gather.new.root.me.0.known front last c.unwrap.ensures c.gather.ensures.known l.invariant.5,
    )
