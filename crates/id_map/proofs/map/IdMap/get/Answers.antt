use Rattle.std.proofs.Common.{ℕ, List, sym, ap, subst, ◌∙◌}
use Rattle.std.specs.FinMap.{find}
use Rattle.std.specs.Ordering.{nat_cmp}
use Rattle.id_map.specs.Places.{IsAt, IsGapFor}
use Rattle.id_map.proofs.MapLemmas.{entries_of, find_at, find_in_gap}
use Rattle.id_map.proofs.map.IdMap.get.Goals as goal

pub returns-in-Ok-clause-value : goal.returns-in-Ok-clause-value
returns-in-Ok-clause-value g c =
    let at = subst (λ (es : List (ℕ × g.row.T.Denot)). IsAt es c.args.id c.in-Ok.place) c.deref.ensures.value c.in-Ok.ensures.found in
    sym (find_at c.self.inside.entries.items c.args.id c.in-Ok.place at c.index.result.now c.index.ensures)
    ∙ ap (λ (es : List (ℕ × g.row.T.Denot)). find nat_cmp c.args.id es) (entries_of c.self.view_is)

pub returns-in-Err-clause-value : goal.returns-in-Err-clause-value
returns-in-Err-clause-value g c =
    let gap = subst (λ (es : List (ℕ × g.row.T.Denot)). IsGapFor es c.args.id c.in-Err.field-0) c.deref.ensures.value c.in-Err.ensures.absent in
    sym (find_in_gap c.self.inside.entries.items c.args.id c.in-Err.field-0 gap)
    ∙ ap (λ (es : List (ℕ × g.row.T.Denot)). find nat_cmp c.args.id es) (entries_of c.self.view_is)
