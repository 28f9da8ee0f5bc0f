use Rattle.std.proofs.Common.{subst}
use Rattle.store_parts.specs.Kept.{Kept}
use Rattle.store_parts.specs.States.{state_of}
use Rattle.kept_model.specs.Sound.{IsSound, IsSoundStore}
use Rattle.daemon.specs.Keeps.{store_of}
use Rattle.daemon.specs.Ids.{AreIds}
use Rattle.daemon.proofs.PeerLemmas.{ids_unsent, ids_rests}
use Rattle.daemon.proofs.UnsentLemmas.{ids_open}
use Rattle.daemon.proofs.StateLemmas.{state_sound}
use Rattle.daemon.proofs.service.Daemon.is_sound.Goals as goal

pub returns-clause-store : goal.returns-clause-store
returns-clause-store c = subst (λ (k : Kept). IsSoundStore (store_of k)) c.self.view_is c.self.invariant.store

pub returns-clause-state : goal.returns-clause-state
returns-clause-state c = λ ins short.
    subst (λ (k : Kept). IsSound (state_of k ins)) c.self.view_is
    (state_sound c.self.inside.tree c.self.inside.peers c.self.inside.globals c.self.invariant ins c.are_whole.ensures c.globals_fit.ensures short)

pub returns-clause-ids : goal.returns-clause-ids
returns-clause-ids c =
    let peers = c.self.inside.peers in
    let sound = c.self.invariant.sound in
    subst AreIds c.self.view_is (record { opens = ids_open peers sound; unsent = ids_unsent peers sound; rests = ids_rests peers sound; watched = sound.watching })
