use Rattle.std.proofs.Common.{◌<◌, length, arith, subst, sym}
use Rattle.daemon.specs.Peers.{Connected}
use Rattle.daemon.proofs.PeerLemmas.{table_is_small}
use Rattle.daemon.proofs.peers.Peers.open.Goals as goal

pub least_free-conn-requires : goal.least_free-conn-requires
least_free-conn-requires c =
    let small = table_is_small c.args.self.now.specs c.requires.sound.table in
    subst (λ (k : Connected). length k.specs < 4294967295) (sym c.self.view_is) (omega arith)
