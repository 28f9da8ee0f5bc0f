use Rattle.std.proofs.Common.{◌≡◌, true, false, is_some, Option, Some, Ok, IfSome, refl, sym, ap, subst, ◌∙◌, arith}
use Rattle.std.specs.Option.{option_map}
use Rattle.std.specs.Ordering.{nat_cmp}
use Rattle.std.specs.FinMap.{find}
use Rattle.xs_model.specs.Trees.{IsTree}
use Rattle.mark_model.specs.Marks.{committed, has_conflict}
use Rattle.txn_access.specs.Txns.{Txn}
use Rattle.daemon.specs.declared.answer.Door.TheVariants.{Same}
use Rattle.daemon.specs.declared.reply.Answer.{Answer}
use Rattle.daemon.specs.Acts.{Did, IsCrowding, IsWhole}
use Rattle.daemon.specs.Changes.{IsMadeOr, IsSendable, without_txn}
use Rattle.daemon.specs.Peers.{Connected, MayAsk}
use Rattle.conn_rows.specs.Rows.{kept_txn, opens_of, txns_of}
use Rattle.daemon.proofs.PeerLemmas.{connected}
use Rattle.daemon.proofs.OpenTxns.{open_found, kept_found}
use Rattle.daemon.proofs.QuietLemmas.{sendable}
use Rattle.daemon.proofs.TransactionLemmas.{ended, the_open, commit_is_tree, end_committed, end_crowded}
use Rattle.daemon.proofs.transactions.commit_open.Goals as goal

pub make_open-requires-clause-tree : goal.make_open-requires-clause-tree
make_open-requires-clause-tree c =
    let conn = c.args.asker.conn in
    let spec = c.args.asker.spec in
    let tx = c.args.tx_id in
    let tree = c.args.tree.now in
    let specs = c.peers.inside.conns in
    let watched = c.peers.inside.watchers in
    let rows = c.peers.inside.rows in
    let whole : IsWhole tree (connected specs watched rows) = subst (IsWhole tree) (sym c.peers.view_is) c.requires.whole in
    let is_open = subst (λ (p : Connected). is_some (find nat_cmp tx (txns_of conn p.txns)) ≡ true) (sym c.peers.view_is) c.requires.open in
    let found = the_open (find nat_cmp tx (txns_of conn rows.txns)) is_open in
    let free : has_conflict found.0.marks ≡ false =
    subst (λ (o : Option Txn). IfSome o (λ t. has_conflict t.marks ≡ false)) found.1
    (subst (λ (p : Connected). IfSome (find nat_cmp tx (txns_of conn p.txns)) (λ t. has_conflict t.marks ≡ false)) (sym c.peers.view_is) c.requires.free)
    in
    let kept = kept_found tree.nodes (opens_of rows.txns) whole.store.kept.each conn tx (kept_txn found.0) (open_found conn tx rows.txns ∙ ap (option_map kept_txn) found.1) in
    subst (λ (o : Option Txn). IfSome o (λ t. IsTree (committed tree.nodes t.marks))) (sym found.1) (commit_is_tree tree.nodes (kept_txn found.0) whole.store.kept.tree kept free)

pub make_open-requires-clause-queues : goal.make_open-requires-clause-queues
make_open-requires-clause-queues c =
    subst (λ (p : Connected). IsSendable c.args.asker.conn 19 p.queues) (sym c.peers.view_is) (sendable c.args.asker.conn c.args.peers.now c.requires.whole.sound c.requires.may 19 (omega arith))

pub returns-in-Crowded-clause-ok : goal.returns-in-Crowded-clause-ok
returns-in-Crowded-clause-ok c =
    let conn = c.args.asker.conn in
    let spec = c.args.asker.spec in
    let tx = c.args.tx_id in
    let tree = c.args.tree.now in
    let specs = c.peers.inside.conns in
    let watched = c.peers.inside.watchers in
    let rows = c.peers.inside.rows in
    let whole : IsWhole tree (connected specs watched rows) = subst (IsWhole tree) (sym c.peers.view_is) c.requires.whole in
    let is_open = subst (λ (p : Connected). is_some (find nat_cmp tx (txns_of conn p.txns)) ≡ true) (sym c.peers.view_is) c.requires.open in
    let found = the_open (find nat_cmp tx (txns_of conn rows.txns)) is_open in
    let free : has_conflict found.0.marks ≡ false =
    subst (λ (o : Option Txn). IfSome o (λ t. has_conflict t.marks ≡ false)) found.1
    (subst (λ (p : Connected). IfSome (find nat_cmp tx (txns_of conn p.txns)) (λ t. has_conflict t.marks ≡ false)) (sym c.peers.view_is) c.requires.free)
    in
    let may : MayAsk conn (connected specs watched rows) = subst (MayAsk conn) (sym c.peers.view_is) c.requires.may in
    let there = subst (λ (p : Connected). find nat_cmp conn p.specs ≡ Some spec) (sym c.peers.view_is) c.requires.there in
    let new = c.make_open.new.tree in
    let left = c.make_open.new.rows in
    let made = subst (λ (o : Option Txn). IfSome o (λ t. IsMadeOr conn 19 t.marks specs watched tree rows (without_txn conn tx rows) c.in_ok-conn.field-0 new left)) found.1 c.in_ok-conn.ensures.ok in
    subst (λ (p : Connected). IsCrowding conn tree p (ended conn tx tree p true) c.in-Crowded.conn new (connected specs watched left)) c.peers.view_is
    (end_crowded conn tx tree specs watched rows whole.sound whole.counter may spec there found.0 found.1 free new left c.in-Crowded.conn
    (subst (λ m. IsMadeOr conn 19 found.0.marks specs watched tree rows (without_txn conn tx rows) m new left) c.in-Crowded.is made))

pub returns-clause-ok : goal.returns-clause-ok
returns-clause-ok c =
    let conn = c.args.asker.conn in
    let spec = c.args.asker.spec in
    let tx = c.args.tx_id in
    let tree = c.args.tree.now in
    let specs = c.peers.inside.conns in
    let watched = c.peers.inside.watchers in
    let rows = c.peers.inside.rows in
    let whole : IsWhole tree (connected specs watched rows) = subst (IsWhole tree) (sym c.peers.view_is) c.requires.whole in
    let is_open = subst (λ (p : Connected). is_some (find nat_cmp tx (txns_of conn p.txns)) ≡ true) (sym c.peers.view_is) c.requires.open in
    let found = the_open (find nat_cmp tx (txns_of conn rows.txns)) is_open in
    let free : has_conflict found.0.marks ≡ false =
    subst (λ (o : Option Txn). IfSome o (λ t. has_conflict t.marks ≡ false)) found.1
    (subst (λ (p : Connected). IfSome (find nat_cmp tx (txns_of conn p.txns)) (λ t. has_conflict t.marks ≡ false)) (sym c.peers.view_is) c.requires.free)
    in
    let may : MayAsk conn (connected specs watched rows) = subst (MayAsk conn) (sym c.peers.view_is) c.requires.may in
    let there = subst (λ (p : Connected). find nat_cmp conn p.specs ≡ Some spec) (sym c.peers.view_is) c.requires.there in
    let new = c.make_open.new.tree in
    let left = c.make_open.new.rows in
    let made = subst (λ (o : Option Txn). IfSome o (λ t. IsMadeOr conn 19 t.marks specs watched tree rows (without_txn conn tx rows) c.in_ok-conn.field-0 new left)) found.1 c.in_ok-conn.ensures.ok in
    let answer : Answer = record { reply = Ok c.in_ok-done.done; door = Same; owed = c.in-Done.owed } in
    subst (λ (p : Connected). Did conn tree p (ended conn tx tree p true) answer new (connected specs watched left)) c.peers.view_is
    (end_committed conn tx tree specs watched rows whole.sound whole.counter may spec there found.0 found.1 free new left answer refl (ap Ok c.in_ok-done.ensures)
    (subst (λ m. IsMadeOr conn 19 found.0.marks specs watched tree rows (without_txn conn tx rows) m new left) c.in-Done.is made))
