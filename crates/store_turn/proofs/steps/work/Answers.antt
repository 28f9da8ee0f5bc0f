use Rattle.std.proofs.Common.{◌∷◌, ap, sym, ◌∙◌}
use Rattle.atomic_table.specs.Table.{rest}
use Rattle.store_turn.proofs.Results.{both_sides}
use Rattle.store_turn.proofs.steps.work.Goals as goal

pub slot_mut-desk-requires : goal.slot_mut-desk-requires
slot_mut-desk-requires g c = let has = c.requires.has in (c.requires.own, (has.0, has.1 ∙ ap (λ l. (0, has.0) ∷ l) (sym (ap rest has.1))))

pub returns-clause-served : goal.returns-clause-served
returns-clause-served g c =
    let has = c.requires.has in
    let none_left = ap rest has.1 in
    let e = c.serve.ensures in (
      c.slot_mut-desk.result.now,
      c.slot_mut-desk.ensures.value ∙ ap (λ l. (0, c.slot_mut-desk.result.now) ∷ l) none_left,
      (c.serve.new.self, ap (λ l. (0, c.serve.new.self) ∷ l) none_left, (ap (λ s. s.value) e.start, both_sides c.serve.result _ _ _ _ _ e.answer e.entries e.last e.err e.none)),
    )
