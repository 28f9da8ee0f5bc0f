use Rattle.std.proofs.Common.{◌≡◌, true, false, is_some, Some, Ok, sym, ap, subst, ◌∙◌}
use Rattle.std.specs.Ordering.{nat_cmp}
use Rattle.std.specs.FinMap.{find}
use Rattle.daemon.specs.Acts.{Did}
use Rattle.daemon.specs.Peers.{Connected, IsSound, MayAsk}
use Rattle.conn_rows.specs.Rows.{txns_of}
use Rattle.daemon.proofs.PeerLemmas.{connected}
use Rattle.daemon.proofs.TransactionLemmas.{ended, the_open, end_dropped}
use Rattle.daemon.proofs.transactions.forget.Goals as goal

pub returns-clause-ok : goal.returns-clause-ok
returns-clause-ok c = λ tree counted.
    let conn = c.args.asker.conn in
    let spec = c.args.asker.spec in
    let tx = c.args.tx_id in
    let specs = c.peers.inside.conns in
    let watched = c.peers.inside.watchers in
    let rows = c.peers.inside.rows in
    let left = c.take-closed.new.self in
    let sound : IsSound (connected specs watched rows) = subst IsSound (sym c.peers.view_is) c.requires.sound in
    let may : MayAsk conn (connected specs watched rows) = subst (MayAsk conn) (sym c.peers.view_is) c.requires.may in
    let there = subst (λ (p : Connected). find nat_cmp conn p.specs ≡ Some spec) (sym c.peers.view_is) c.requires.there in
    let is_open = subst (λ (p : Connected). is_some (find nat_cmp tx (txns_of conn p.txns)) ≡ true) (sym c.peers.view_is) c.requires.open in
    let found = the_open (find nat_cmp tx (txns_of conn rows.txns)) is_open in
    let gone = c.take-closed.ensures.closed (ap is_some c.take-closed.ensures.found ∙ is_open) in
    subst (λ (p : Connected). Did conn tree p (ended conn tx tree p false) c.of.result tree (connected specs watched left)) c.peers.view_is
    (end_dropped conn tx tree specs watched rows sound counted may spec there found.0 found.1 c.of.result c.of.ensures.door c.of.ensures.owed (c.of.ensures.reply ∙ ap Ok c.in_ok-done.ensures) left c.take-closed.ensures.queues gone)
