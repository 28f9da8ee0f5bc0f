use Rattle.std.proofs.Common.{refl, subst}
use Rattle.daemon.specs.Peers.{Connected, IsSound}
use Rattle.daemon.proofs.PeerLemmas.{connected, sound_after_pull}
use Rattle.daemon.proofs.peers.Peers.pull.Goals as goal

pub returns-clause-sound : goal.returns-clause-sound
returns-clause-sound c =
    let old : Connected = connected c.self.inside.conns c.self.inside.watchers c.self.inside.rows in
    let new : Connected = connected c.self.inside.conns c.self.inside.watchers c.pull.new.self in
    subst (λ (k : Connected). IsSound k → IsSound new) c.self.view_is
    (λ sound. sound_after_pull old sound new c.args.conn c.args.into.now c.pull.new.into c.pull.result refl refl c.pull.ensures.txns c.pull.ensures.pulled)
