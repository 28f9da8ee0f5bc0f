use Rattle.std.proofs.Common.{◌≡◌, Some, refl, sym, ap, subst, ◌∙◌}
use Rattle.std.specs.Option.{option_map}
use Rattle.std.specs.Ordering.{nat_cmp}
use Rattle.std.specs.FinMap.{find, put}
use Rattle.mark_model.specs.Stores.{kept_command}
use Rattle.wire_codec.specs.Codec.{operation_of}
use Rattle.daemon.specs.Acts.{Did, IsWhole, IsAsBefore, store_in}
use Rattle.daemon.specs.Peers.{Connected, MayAsk, conn_in}
use Rattle.conn_rows.specs.Rows.{Rows, kept_txn, opens_of, txns_of}
use Rattle.daemon.proofs.PeerLemmas.{connected}
use Rattle.daemon.proofs.OpenTxns.{open_found, kept_found}
use Rattle.daemon.proofs.CommandLemmas.{on_err, same_put_back, inside_absent, inside_ran}
use Rattle.daemon.proofs.commands.inside.Goals as goal

pub returns-in_default-clause-ok : goal.returns-in_default-clause-ok
returns-in_default-clause-ok c =
    let conn = c.args.asker.conn in
    let spec = c.args.asker.spec in
    let tx = c.args.tx_id in
    let tree = c.args.tree.now in
    let specs = c.peers.inside.conns in
    let watched = c.peers.inside.watchers in
    let rows = c.peers.inside.rows in
    let operation = operation_of c.args.command.now.op in
    let path = c.args.command.now.path in
    let whole : IsWhole tree (connected specs watched rows) = subst (IsWhole tree) (sym c.peers.view_is) c.requires.whole in
    let may : MayAsk conn (connected specs watched rows) = subst (MayAsk conn) (sym c.peers.view_is) c.requires.may in
    let there = subst (λ (p : Connected). find nat_cmp conn p.specs ≡ Some spec) (sym c.peers.view_is) c.requires.there in
    subst (λ (p : Connected). Did conn tree p (kept_command (store_in tree p) conn (conn_in p conn spec) tx operation path) c.refused.result tree (connected specs watched rows)) c.peers.view_is
    (inside_absent conn tx c.requires.inside tree specs watched rows whole may spec there operation path c.refused.result c.refused.ensures.reply c.refused.ensures.door c.refused.ensures.owed (sym c.in_default.ensures.value))

pub run_inside-requires-clause-tree : goal.run_inside-requires-clause-tree
run_inside-requires-clause-tree c =
    let conn = c.args.asker.conn in
    let tx = c.args.tx_id in
    let tree = c.args.tree.now in
    let rows = c.peers.inside.rows in
    let whole : IsWhole tree (connected c.peers.inside.conns c.peers.inside.watchers rows) = subst (IsWhole tree) (sym c.peers.view_is) c.requires.whole in
    (kept_found tree.nodes (opens_of rows.txns) whole.store.kept.each conn tx (kept_txn c.in-Some.txn.now) (open_found conn tx rows.txns ∙ ap (option_map kept_txn) (sym c.in-Some.ensures.value))).marks.seen

pub returns-in_err-reply-clause-err : goal.returns-in_err-reply-clause-err
returns-in_err-reply-clause-err c =
    let conn = c.args.asker.conn in
    let tx = c.args.tx_id in
    let tree = c.args.tree.now in
    let specs = c.peers.inside.conns in
    let watched = c.peers.inside.watchers in
    let rows = c.peers.inside.rows in
    let new = c.run_inside.new.txn in
    let left : Rows = record { queues = rows.queues; txns = put nat_cmp conn (put nat_cmp tx new (txns_of conn rows.txns)) rows.txns; spare = rows.spare } in
    let whole : IsWhole tree (connected specs watched rows) = subst (IsWhole tree) (sym c.peers.view_is) c.requires.whole in
    let there = subst (λ (p : Connected). find nat_cmp conn p.specs ≡ Some c.args.asker.spec) (sym c.peers.view_is) c.requires.there in
    on_err (IsAsBefore tree c.args.peers.now tree (connected specs watched left)) c.from_residual.result
    (subst (λ (p : Connected). IsAsBefore tree p tree (connected specs watched left)) c.peers.view_is
    (same_put_back conn tx tree specs watched rows whole c.args.asker.spec there c.in-Some.txn.now new (sym c.in-Some.ensures.value) c.in-Some.ensures.rising c.in_err-reply.ensures.err left refl refl))

pub returns-clause-ok : goal.returns-clause-ok
returns-clause-ok c =
    let conn = c.args.asker.conn in
    let spec = c.args.asker.spec in
    let tx = c.args.tx_id in
    let tree = c.args.tree.now in
    let specs = c.peers.inside.conns in
    let watched = c.peers.inside.watchers in
    let rows = c.peers.inside.rows in
    let new = c.run_inside.new.txn in
    let left : Rows = record { queues = rows.queues; txns = put nat_cmp conn (put nat_cmp tx new (txns_of conn rows.txns)) rows.txns; spare = rows.spare } in
    let operation = operation_of c.args.command.now.op in
    let path = c.args.command.now.path in
    let whole : IsWhole tree (connected specs watched rows) = subst (IsWhole tree) (sym c.peers.view_is) c.requires.whole in
    let may : MayAsk conn (connected specs watched rows) = subst (MayAsk conn) (sym c.peers.view_is) c.requires.may in
    let there = subst (λ (p : Connected). find nat_cmp conn p.specs ≡ Some spec) (sym c.peers.view_is) c.requires.there in
    subst (λ (p : Connected). Did conn tree p (kept_command (store_in tree p) conn (conn_in p conn spec) tx operation path) c.of_reply.result tree (connected specs watched left)) c.peers.view_is
    (inside_ran conn tx c.requires.inside tree specs watched rows whole may spec there operation path c.in-Some.txn.now new left c.of_reply.result c.in_ok-reply.reply (sym c.in-Some.ensures.value) c.in_ok-reply.ensures.ok
    c.of_reply.ensures.reply c.of_reply.ensures.door c.of_reply.ensures.owed c.in_ok-reply.ensures.short refl refl)
