use Rattle.daemon.specs.Peers.{Connected}
use Rattle.daemon.proofs.StateLemmas.{parts_whole}
use Rattle.daemon.proofs.service.Daemon.of.Goals as goal

pub invariant_of-result : goal.invariant_of-result
invariant_of-result c =
    let parts = c.args.parts in
    let peers : Connected = record { specs = parts.conns; watched = parts.watchers; queues = parts.rows.queues; txns = parts.rows.txns } in
    parts_whole parts.tree peers parts.globals c.requires.queues c.requires.txns c.is_table.ensures c.requires.own c.requires.watching c.requires.counter c.requires.sound
