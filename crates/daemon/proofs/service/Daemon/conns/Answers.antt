use Rattle.std.proofs.Common.{◌≤◌, length, subst}
use Rattle.store_parts.specs.Kept.{Kept}
use Rattle.daemon.proofs.PeerLemmas.{table_is_small}
use Rattle.daemon.proofs.service.Daemon.conns.Goals as goal

pub returns-clause-few : goal.returns-clause-few
returns-clause-few c = subst (λ (k : Kept). length k.specs ≤ 98288) c.self.view_is (table_is_small c.self.inside.peers.specs c.self.invariant.sound.table)
