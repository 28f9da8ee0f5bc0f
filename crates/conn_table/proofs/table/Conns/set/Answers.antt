use Rattle.std.proofs.Common.{◌≡◌, sym, ap, subst, ◌∙◌}
use Rattle.std.specs.FinMap.{find}
use Rattle.std.specs.Option.{ForSome}
use Rattle.std.specs.Ordering.{nat_cmp}
use Rattle.conn_table.specs.Tables.{Specs, ring_id, ring_domid}
use Rattle.conn_table.proofs.KeepLemmas.{agrees_after_set, ring_after_set}
use Rattle.conn_table.proofs.table.Conns.set.Goals as goal

pub invariant_of-self : goal.invariant_of-self
invariant_of-self c =
    agrees_after_set c.self.inside.specs.entries c.self.inside.rings.entries c.self.invariant c.args.id c.args.spec c.set_in.result c.set_in.new.specs.entries c.set_in.ensures.found
    (subst (λ (es : Specs). ForSome (find nat_cmp c.args.id es) (λ old. ring_domid old ≡ ring_domid c.args.spec)) (sym c.self.view_is) c.requires)
    c.set_in.ensures.after

pub returns-clause-rings : goal.returns-clause-rings
returns-clause-rings c = λ d.
    ring_after_set c.self.inside.specs.entries c.self.inside.rings.entries c.self.invariant c.set_in.new.specs.entries (invariant_of-self c) d
    ∙ ap (λ (es : Specs). ring_id d es) c.self.view_is

pub returns-clause-table : goal.returns-clause-table
returns-clause-table c = (invariant_of-self c).table
