use Rattle.std.proofs.Common.{◌≡◌, true, ℕ, List, sym, ap, subst, ◌∙◌}
use Rattle.std.specs.FinMap.{find, is_sorted}
use Rattle.std.specs.Ordering.{nat_cmp}
use Rattle.id_map.specs.Places.{IsAt, IsGapFor}
use Rattle.id_map.proofs.MapLemmas.{entries_of, find_at, remove_at, find_in_gap, without_in_gap, rising-without, without}
use Rattle.id_map.proofs.map.IdMap.take.Goals as goal

pub invariant_of-self : goal.invariant_of-self
invariant_of-self g c =
    let at = subst (λ (es : List (ℕ × g.row.T.Denot)). IsAt es c.args.id c.in-Ok.place) c.deref.ensures.value c.in-Ok.ensures.found in
    subst (λ (es : List (ℕ × g.row.T.Denot)). is_sorted nat_cmp es ≡ true)
    (sym (c.remove.ensures.items ∙ remove_at c.self.inside.entries.items c.args.id c.in-Ok.place at c.remove.result c.remove.ensures.value))
    (rising-without c.args.id c.self.inside.entries.items c.self.invariant)

pub returns-in-Ok-clause-found : goal.returns-in-Ok-clause-found
returns-in-Ok-clause-found g c =
    let at = subst (λ (es : List (ℕ × g.row.T.Denot)). IsAt es c.args.id c.in-Ok.place) c.deref.ensures.value c.in-Ok.ensures.found in
    sym (find_at c.self.inside.entries.items c.args.id c.in-Ok.place at c.remove.result c.remove.ensures.value)
    ∙ ap (λ (es : List (ℕ × g.row.T.Denot)). find nat_cmp c.args.id es) (entries_of c.self.view_is)

pub returns-in-Ok-clause-after : goal.returns-in-Ok-clause-after
returns-in-Ok-clause-after g c =
    let at = subst (λ (es : List (ℕ × g.row.T.Denot)). IsAt es c.args.id c.in-Ok.place) c.deref.ensures.value c.in-Ok.ensures.found in
    c.remove.ensures.items ∙ remove_at c.self.inside.entries.items c.args.id c.in-Ok.place at c.remove.result c.remove.ensures.value
    ∙ ap (λ (es : List (ℕ × g.row.T.Denot)). without c.args.id es) (entries_of c.self.view_is)

pub returns-in-Err-clause-found : goal.returns-in-Err-clause-found
returns-in-Err-clause-found g c =
    let gap = subst (λ (es : List (ℕ × g.row.T.Denot)). IsGapFor es c.args.id c.in-Err.field-0) (c.deref.ensures.value ∙ entries_of c.self.view_is) c.in-Err.ensures.absent in
    sym (find_in_gap c.args.self.now.entries c.args.id c.in-Err.field-0 gap)

pub returns-in-Err-clause-after : goal.returns-in-Err-clause-after
returns-in-Err-clause-after g c =
    let gap = subst (λ (es : List (ℕ × g.row.T.Denot)). IsGapFor es c.args.id c.in-Err.field-0) (c.deref.ensures.value ∙ entries_of c.self.view_is) c.in-Err.ensures.absent in
    sym (without_in_gap c.args.self.now.entries c.args.id c.in-Err.field-0 gap)
