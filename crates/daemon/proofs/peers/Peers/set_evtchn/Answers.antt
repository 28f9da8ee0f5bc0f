use Rattle.std.proofs.Common.{sym, subst}
use Rattle.daemon.specs.Peers.{Connected, IsSound}
use Rattle.daemon.proofs.PeerLemmas.{connected, evtchn_sound, set_there}
use Rattle.daemon.proofs.peers.Peers.set_evtchn.Goals as goal

pub returns-in-Some-clause-sound : goal.returns-in-Some-clause-sound
returns-in-Some-clause-sound c =
    let specs = c.self.inside.conns in
    let watched = c.self.inside.watchers in
    let rows = c.self.inside.rows in
    let there = sym c.in-Some.ensures.found in
    let puts = set_there c.set.result c.args.conn c.in-Some.spec c.with_evtchn.result specs c.set.new.self there c.set.ensures.found c.set.ensures.after in
    subst (λ (k : Connected). IsSound k → IsSound (connected c.set.new.self watched rows)) c.self.view_is
    (λ sound. evtchn_sound (connected specs watched rows) sound c.args.evtchn c.args.conn c.in-Some.spec c.with_evtchn.result c.set.new.self there c.with_evtchn.ensures.value puts c.set.ensures.table)
