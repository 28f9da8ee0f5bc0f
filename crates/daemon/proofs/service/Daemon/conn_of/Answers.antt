use Rattle.std.proofs.Common.{ap, ◌∙◌}
use Rattle.conn_table.specs.Tables.{ring_id}
use Rattle.store_parts.specs.Kept.{Kept}
use Rattle.daemon.proofs.SubmitLemmas.{ring_stands}
use Rattle.daemon.proofs.service.Daemon.conn_of.Goals as goal

pub returns : goal.returns
returns c = λ m stands.
    c.by_domid.ensures.ring ∙ ap (ring_id c.args.domid) c.conns.ensures ∙ ap (λ (k : Kept). ring_id c.args.domid k.specs) c.self.view_is ∙ ring_stands c.args.self.now c.args.domid m stands
