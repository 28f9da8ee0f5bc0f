use Rattle.std.proofs.Common.{◌==◌, not, subst, sym}
use Rattle.conn_table.specs.Tables.{IsTable}
use Rattle.daemon.specs.Peers.{Connected, IsSound}
use Rattle.daemon.proofs.PeerLemmas.{connected, sound_without}
use Rattle.daemon.proofs.peers.Peers.remove.Goals as goal

pub returns-clause-sound : goal.returns-clause-sound
returns-clause-sound c =
    let old : Connected = connected c.self.inside.conns c.self.inside.watchers c.self.inside.rows in
    let without : Connected = connected c.remove-2.new.self c.clear.new.self c.remove.new.self in
    subst (λ (k : Connected). IsSound k → IsSound without) c.self.view_is
    (λ sound. subst IsSound (λ i. record { specs = sym c.remove-2.ensures.after i; watched = sym c.clear.ensures i; queues = sym c.remove.ensures.queues i; txns = sym c.remove.ensures.txns i })
    (sound_without old sound (λ key. not (c.args.conn == key)) (subst IsTable c.remove-2.ensures.after c.remove-2.ensures.table)))
