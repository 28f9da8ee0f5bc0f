use Rattle.std.proofs.Common.{refl, subst}
use Rattle.daemon.specs.Peers.{Connected, IsSound}
use Rattle.daemon.proofs.PeerLemmas.{connected, sound_same}
use Rattle.daemon.proofs.peers.Peers.reserve.Goals as goal

pub returns-clause-sound : goal.returns-clause-sound
returns-clause-sound c =
    let old : Connected = connected c.self.inside.conns c.self.inside.watchers c.self.inside.rows in
    let new : Connected = connected c.self.inside.conns c.self.inside.watchers c.reserve_bytes.new.self in
    subst (λ (k : Connected). IsSound k → IsSound new) c.self.view_is
    (λ sound. sound_same old sound new refl refl c.reserve_bytes.ensures.txns c.reserve_bytes.ensures.bytes)
