use Rattle.std.proofs.Common.{◌≡◌, true, ℕ, List, ap, subst, ◌∙◌}
use Rattle.std.specs.FinMap.{is_sorted}
use Rattle.std.specs.Ordering.{nat_cmp}
use Rattle.id_map.specs.Ids.{above, first_id}
use Rattle.id_map.proofs.MapLemmas.{entries_of}
use Rattle.id_map.proofs.NextLemmas.{least_of, walk_of}
use Rattle.id_map.proofs.map.IdMap.next_after.Goals as goal

pub returns-clause-least : goal.returns-clause-least
returns-clause-least g c =
    let rising = subst (λ (es : List (ℕ × g.row.T.Denot)). is_sorted nat_cmp es ≡ true) (entries_of c.self.view_is) c.self.invariant in
    let is = c.id_above.ensures ∙ ap (λ (es : List (ℕ × g.row.T.Denot)). first_id (above c.args.id es)) (c.deref.ensures.value ∙ entries_of c.self.view_is) in
    least_of c.args.id c.args.self.now.entries c.id_above.result rising is

pub returns-clause-walk : goal.returns-clause-walk
returns-clause-walk g c =
    let rising = subst (λ (es : List (ℕ × g.row.T.Denot)). is_sorted nat_cmp es ≡ true) (entries_of c.self.view_is) c.self.invariant in
    let is = c.id_above.ensures ∙ ap (λ (es : List (ℕ × g.row.T.Denot)). first_id (above c.args.id es)) (c.deref.ensures.value ∙ entries_of c.self.view_is) in
    walk_of c.args.id c.args.self.now.entries c.id_above.result rising is
