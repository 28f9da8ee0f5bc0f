use Rattle.std.proofs.Common.{◌≤◌, sym, subst}
use Rattle.std.specs.List.{AllByRecursion}
use Rattle.daemon.specs.Peers.{Connected}
use Rattle.daemon.proofs.PeerLemmas.{ids_positive}
use Rattle.daemon.proofs.peers.Peers.send.Goals as goal

pub send-requires-clause-positive : goal.send-requires-clause-positive
send-requires-clause-positive c = subst (λ (p : Connected). AllByRecursion (λ e. 1 ≤ e.0) p.queues) (sym c.self.view_is) (ids_positive c.args.self.now c.requires.sound)
