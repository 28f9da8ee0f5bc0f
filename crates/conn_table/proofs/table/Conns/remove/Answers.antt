use Rattle.std.proofs.Common.{sym, ap, subst, ◌∙◌}
use Rattle.conn_table.specs.Tables.{Specs, ring_id, unless}
use Rattle.conn_table.specs.Kept.{Rings, Agrees}
use Rattle.conn_table.proofs.RingLemmas.{without, ring_removed}
use Rattle.conn_table.proofs.KeepLemmas.{agrees_removed}
use Rattle.conn_table.proofs.table.Conns.remove.Goals as goal

pub invariant_of-self : goal.invariant_of-self
invariant_of-self c =
    let agrees = agrees_removed c.self.inside.specs.entries c.self.inside.rings.entries c.self.invariant c.args.id in
    subst (λ (es : Specs). Agrees es c.remove_from.new.rings.entries) (sym c.remove_from.ensures.specs)
    (subst (λ (rings : Rings). Agrees (without c.args.id c.self.inside.specs.entries) rings) (sym c.remove_from.ensures.rings) agrees)

pub returns-clause-rings : goal.returns-clause-rings
returns-clause-rings c = λ d.
    ap (λ (es : Specs). ring_id d es) c.remove_from.ensures.specs
    ∙ ring_removed c.args.id d c.self.inside.specs.entries c.self.invariant.table.rings
    ∙ ap (λ (es : Specs). unless c.args.id (ring_id d es)) c.self.view_is

pub returns-clause-table : goal.returns-clause-table
returns-clause-table c = (invariant_of-self c).table
