use Rattle.std.proofs.Common.{◌≡◌, true, is_some, Some, sym, ap, subst, ◌∙◌}
use Rattle.std.specs.Ordering.{nat_cmp}
use Rattle.std.specs.FinMap.{find}
use Rattle.daemon.specs.Acts.{Did, IsWhole}
use Rattle.daemon.specs.Peers.{Connected, MayAsk}
use Rattle.daemon.proofs.PeerLemmas.{connected}
use Rattle.daemon.proofs.TransactionLemmas.{ended, same_some, end_absent, end_conflict}
use Rattle.daemon.proofs.transactions.end.Goals as goal

pub returns-in_default-clause-ok : goal.returns-in_default-clause-ok
returns-in_default-clause-ok c =
    let conn = c.args.asker.conn in
    let spec = c.args.asker.spec in
    let tree = c.args.tree.now in
    let specs = c.peers.inside.conns in
    let watched = c.peers.inside.watchers in
    let rows = c.peers.inside.rows in
    let whole : IsWhole tree (connected specs watched rows) = subst (IsWhole tree) (sym c.peers.view_is) c.requires.whole in
    let may : MayAsk conn (connected specs watched rows) = subst (MayAsk conn) (sym c.peers.view_is) c.requires.may in
    let there = subst (λ (p : Connected). find nat_cmp conn p.specs ≡ Some spec) (sym c.peers.view_is) c.requires.there in
    subst (λ (p : Connected). Did conn tree p (ended conn c.args.tx_id tree p c.args.commit) c.refused.result tree p) c.peers.view_is
    (end_absent conn c.args.tx_id tree specs watched rows whole.sound whole.counter may spec there c.refused.result c.refused.ensures.door c.refused.ensures.owed c.args.commit (sym c.in_default.ensures) c.refused.ensures.reply)

pub returns-then-is_some-clause-ok : goal.returns-then-is_some-clause-ok
returns-then-is_some-clause-ok c =
    let conn = c.args.asker.conn in
    let spec = c.args.asker.spec in
    let tx = c.args.tx_id in
    let tree = c.args.tree.now in
    let specs = c.peers.inside.conns in
    let watched = c.peers.inside.watchers in
    let rows = c.peers.inside.rows in
    let left = c.take-closed.new.self in
    let answer = c.refused-then-is_some.result in
    let whole : IsWhole tree (connected specs watched rows) = subst (IsWhole tree) (sym c.peers.view_is) c.requires.whole in
    let may : MayAsk conn (connected specs watched rows) = subst (MayAsk conn) (sym c.peers.view_is) c.requires.may in
    let there = subst (λ (p : Connected). find nat_cmp conn p.specs ≡ Some spec) (sym c.peers.view_is) c.requires.there in
    let gone = c.take-closed.ensures.closed (ap is_some (c.take-closed.ensures.found ∙ sym c.in-Some.ensures)) in
    let conflict = sym c.conflict.ensures.any ∙ same_some c.conflict.result ∙ sym c.is_some.ensures ∙ c.if-is_some.true in
    subst (λ (b : _). Did conn tree c.args.peers.now (ended conn tx tree c.args.peers.now b) answer tree (connected specs watched left)) (sym c.if-not-commit.false)
    (subst (λ (p : Connected). Did conn tree p (ended conn tx tree p true) answer tree (connected specs watched left)) c.peers.view_is
    (end_conflict conn tx tree specs watched rows whole.sound whole.counter may spec there c.in-Some.txn.now (sym c.in-Some.ensures) answer c.refused-then-is_some.ensures.door c.refused-then-is_some.ensures.owed conflict c.refused-then-is_some.ensures.reply left c.take-closed.ensures.queues gone))
