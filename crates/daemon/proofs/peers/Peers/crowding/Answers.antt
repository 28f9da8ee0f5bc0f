use Rattle.std.proofs.Common.{◌≤◌, sym, subst}
use Rattle.std.specs.List.{AllByRecursion}
use Rattle.daemon.specs.Peers.{Connected}
use Rattle.daemon.proofs.PeerLemmas.{ids_positive}
use Rattle.daemon.proofs.peers.Peers.crowding.Goals as goal

pub crowding-requires-clause-positive : goal.crowding-requires-clause-positive
crowding-requires-clause-positive c = subst (λ (p : Connected). AllByRecursion (λ e. 1 ≤ e.0) p.queues) (sym c.self.view_is) (ids_positive c.args.self.now c.requires.sound)
