use Rattle.std.proofs.Common.{◌≤◌, refl, sym, subst}
use Rattle.std.specs.List.{AllByRecursion}
use Rattle.daemon.specs.Peers.{Connected, IsSound}
use Rattle.daemon.proofs.PeerLemmas.{connected, ids_positive, sound_same}
use Rattle.daemon.proofs.peers.Peers.reserve_all.Goals as goal

pub reserve_all-requires : goal.reserve_all-requires
reserve_all-requires c = record { positive = subst (λ (p : Connected). AllByRecursion (λ e. 1 ≤ e.0) p.queues) (sym c.self.view_is) (ids_positive c.args.self.now c.requires.sound) }

pub returns-clause-sound : goal.returns-clause-sound
returns-clause-sound c =
    let old : Connected = connected c.self.inside.conns c.self.inside.watchers c.self.inside.rows in
    let new : Connected = connected c.self.inside.conns c.self.inside.watchers c.reserve_all.new.self in
    sound_same old (subst IsSound (sym c.self.view_is) c.requires.sound) new refl refl c.reserve_all.ensures.txns c.reserve_all.ensures.bytes
