use Rattle.std.proofs.Common.{◌≡◌, ◌↔◌, ℕ, true, Option, Some, sym, ap, subst, ◌∙◌}
use Rattle.std.specs.FinMap.{find}
use Rattle.std.specs.Ordering.{nat_cmp}
use Rattle.conn_table.specs.Tables.{Specs, IsTable, ring_id, is_ring_at}
use Rattle.conn_table.proofs.RingLemmas.{ring_is}
use Rattle.conn_table.proofs.table.Conns.by_domid.Goals as goal

pub returns-clause-only : goal.returns-clause-only
returns-clause-only c = λ id.
    let is : ring_id c.args.domid c.args.self.now ≡ c.copied.result =
    sym (c.copied.ensures ∙ c.get.ensures.value ∙ ap (λ (d : ℕ). find nat_cmp d c.self.inside.rings.entries) c.from.ensures
    ∙ c.self.invariant.each c.args.domid ∙ ap (λ (es : Specs). ring_id c.args.domid es) c.self.view_is) in
    subst (λ (o : Option ℕ). (o ≡ Some id) ↔ (is_ring_at c.args.domid id c.args.self.now ≡ true)) is
    (ring_is c.args.domid id c.args.self.now (subst (λ (es : Specs). IsTable es) c.self.view_is c.self.invariant.table))
