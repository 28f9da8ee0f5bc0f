use Rattle.std.proofs.Common.{◌≡◌, true, ℕ, List, cond, sym, ap, subst, ◌∙◌}
use Rattle.std.specs.Prelude.{is_ok}
use Rattle.std.specs.FinMap.{put, is_sorted}
use Rattle.std.specs.List.{insert}
use Rattle.std.specs.Ordering.{nat_cmp}
use Rattle.id_map.specs.Places.{IsAt, IsGapFor}
use Rattle.id_map.proofs.MapLemmas.{entries_of, put_at, put_in_gap, rising-put}
use Rattle.id_map.proofs.map.IdMap.put.Goals as goal

pub invariant_of-self : goal.invariant_of-self
invariant_of-self g c =
    let entries : List (ℕ × g.row.T.Denot) = c.self.inside.entries.items in
    let at = subst (λ (es : List (ℕ × g.row.T.Denot)). IsAt es c.args.id c.in-Ok.place) c.deref.ensures.value c.in-Ok.ensures.found in
    subst (λ (es : List (ℕ × g.row.T.Denot)). is_sorted nat_cmp es ≡ true)
    (sym (put_at entries c.args.id c.in-Ok.place at c.index_mut.result.now c.index_mut.ensures.value c.args.item))
    (rising-put c.args.id c.args.item entries c.self.invariant)

pub returns-in-Ok-clause-entries : goal.returns-in-Ok-clause-entries
returns-in-Ok-clause-entries g c =
    let at = subst (λ (es : List (ℕ × g.row.T.Denot)). IsAt es c.args.id c.in-Ok.place) c.deref.ensures.value c.in-Ok.ensures.found in
    put_at c.self.inside.entries.items c.args.id c.in-Ok.place at c.index_mut.result.now c.index_mut.ensures.value c.args.item
    ∙ ap (λ (es : List (ℕ × g.row.T.Denot)). put nat_cmp c.args.id c.args.item es) (entries_of c.self.view_is)

pub invariant_of-self-in-Err : goal.invariant_of-self-in-Err
invariant_of-self-in-Err g c =
    let entries : List (ℕ × g.row.T.Denot) = c.self.inside.entries.items in
    let gap = subst (λ (es : List (ℕ × g.row.T.Denot)). IsGapFor es c.args.id c.in-Err.place) c.deref.ensures.value c.in-Err.ensures.absent in
    let wrote = (c.insert.ensures.items ∙ ap (λ r. cond (is_ok r) (insert entries c.in-Err.place (c.args.id, c.args.item)) entries) c.unwrap.ensures)
    ∙ put_in_gap entries c.args.id c.in-Err.place gap c.args.item in
    subst (λ (es : List (ℕ × g.row.T.Denot)). is_sorted nat_cmp es ≡ true) (sym wrote) (rising-put c.args.id c.args.item entries c.self.invariant)

pub returns-in-Err-clause-entries : goal.returns-in-Err-clause-entries
returns-in-Err-clause-entries g c =
    let entries : List (ℕ × g.row.T.Denot) = c.self.inside.entries.items in
    let gap = subst (λ (es : List (ℕ × g.row.T.Denot)). IsGapFor es c.args.id c.in-Err.place) c.deref.ensures.value c.in-Err.ensures.absent in
    (c.insert.ensures.items ∙ ap (λ r. cond (is_ok r) (insert entries c.in-Err.place (c.args.id, c.args.item)) entries) c.unwrap.ensures)
    ∙ put_in_gap entries c.args.id c.in-Err.place gap c.args.item
    ∙ ap (λ (es : List (ℕ × g.row.T.Denot)). put nat_cmp c.args.id c.args.item es) (entries_of c.self.view_is)
