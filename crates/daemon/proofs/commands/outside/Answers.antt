use Rattle.std.proofs.Common.{◌≡◌, sym, ap, refl, subst, ◌∙◌}
use Rattle.xs_model.specs.Commands.{command}
use Rattle.xs_model.specs.Generations.{or_zero, generation_of}
use Rattle.machine_model.specs.Connections.{caller_of}
use Rattle.mark_model.specs.Stores.{kept_outside}
use Rattle.wire_codec.specs.Codec.{operation_of}
use Rattle.daemon.specs.declared.answer.Door.TheVariants.{Same}
use Rattle.daemon.specs.declared.reply.Answer.{Answer}
use Rattle.daemon.specs.Acts.{Did, IsCrowding, IsWhole, store_in}
use Rattle.daemon.specs.Changes.{IsMadeOr, IsSendable}
use Rattle.daemon.specs.Peers.{Connected, MayAsk}
use Rattle.conn_rows.specs.Rows.{Rows}
use Rattle.daemon.proofs.PeerLemmas.{connected}
use Rattle.daemon.proofs.QuietLemmas.{sendable}
use Rattle.daemon.proofs.CommandLemmas.{number_or_zero, none_written, outside_tree, outside_written, outside_crowded, outside_unwritten}
use Rattle.daemon.proofs.commands.outside.Goals as goal

pub returns-then-is_empty-clause-ok : goal.returns-then-is_empty-clause-ok
returns-then-is_empty-clause-ok c =
    let tree = c.args.tree.now in
    let peers = c.args.peers.now in
    let path = c.args.command.now.path in
    let rows : Rows = record { queues = peers.queues; txns = peers.txns; spare = 0 } in
    let number : c.unwrap_or-number.result ≡ generation_of tree.gens path = c.unwrap_or-number.ensures ∙ number_or_zero c.generation.result ∙ ap or_zero c.generation.ensures in
    outside_unwritten c.args.asker.conn tree peers.specs peers.watched rows c.requires.whole c.requires.may c.args.asker.spec (operation_of c.args.command.now.op) path
    c.unwrap_or-number.result number c.start-txn.result c.start-txn.ensures c.run_over.new.txn c.in_ok-did.did c.in_ok-did.ensures.ok
    c.of_reply.result c.of_reply.ensures.reply c.of_reply.ensures.door c.of_reply.ensures.owed c.in_ok-did.ensures.short (none_written c.in_ok-did.did.written (sym c.is_empty.ensures ∙ c.if-is_empty.true))

pub make-requires-clause-tree : goal.make-requires-clause-tree
make-requires-clause-tree c =
    let tree = c.args.tree.now in
    let path = c.args.command.now.path in
    let here : Connected = connected c.peers.inside.conns c.peers.inside.watchers c.peers.inside.rows in
    let whole : IsWhole tree here = subst (IsWhole tree) (sym c.peers.view_is) c.requires.whole in
    let may : MayAsk c.args.asker.conn here = subst (MayAsk c.args.asker.conn) (sym c.peers.view_is) c.requires.may in
    let number : c.unwrap_or-number.result ≡ generation_of tree.gens path = c.unwrap_or-number.ensures ∙ number_or_zero c.generation.result ∙ ap or_zero c.generation.ensures in
    outside_tree c.args.asker.conn tree c.peers.inside.conns c.peers.inside.watchers c.peers.inside.rows whole may c.args.asker.spec (operation_of c.args.command.now.op) path
    c.unwrap_or-number.result number c.start-txn.result c.start-txn.ensures c.run_over.new.txn c.in_ok-did.did c.in_ok-did.ensures.ok

pub make-requires-clause-queues : goal.make-requires-clause-queues
make-requires-clause-queues c =
    subst (λ (p : Connected). IsSendable c.args.asker.conn c.reply_length.result p.queues) (sym c.peers.view_is)
    (sendable c.args.asker.conn c.args.peers.now c.requires.whole.sound c.requires.may c.reply_length.result c.reply_length.ensures.within)

pub returns-in-Crowded-clause-ok : goal.returns-in-Crowded-clause-ok
returns-in-Crowded-clause-ok c =
    let conn = c.args.asker.conn in
    let spec = c.args.asker.spec in
    let tree = c.args.tree.now in
    let operation = operation_of c.args.command.now.op in
    let path = c.args.command.now.path in
    let specs = c.peers.inside.conns in
    let watched = c.peers.inside.watchers in
    let rows = c.peers.inside.rows in
    let whole : IsWhole tree (connected specs watched rows) = subst (IsWhole tree) (sym c.peers.view_is) c.requires.whole in
    let may : MayAsk conn (connected specs watched rows) = subst (MayAsk conn) (sym c.peers.view_is) c.requires.may in
    let number : c.unwrap_or-number.result ≡ generation_of tree.gens path = c.unwrap_or-number.ensures ∙ number_or_zero c.generation.result ∙ ap or_zero c.generation.ensures in
    let outcome = command operation path (caller_of spec) (generation_of tree.gens path) tree.nodes in
    let new = c.make.new.tree in
    let left = c.make.new.rows in
    subst (λ (p : Connected). IsCrowding conn tree p (kept_outside (store_in tree p) outcome) c.in-Crowded.conn new (connected specs watched left)) c.peers.view_is
    (outside_crowded conn tree specs watched rows whole may spec operation path c.unwrap_or-number.result number c.start-txn.result c.start-txn.ensures c.run_over.new.txn c.in_ok-did.did c.in_ok-did.ensures.ok
    c.reply_length.result c.reply_length.ensures.value new left c.in-Crowded.conn
    (subst (λ m. IsMadeOr conn c.reply_length.result c.run_over.new.txn.marks specs watched tree rows rows m new left) c.in-Crowded.is c.in_ok-conn.ensures.ok))

pub returns-clause-ok : goal.returns-clause-ok
returns-clause-ok c =
    let conn = c.args.asker.conn in
    let spec = c.args.asker.spec in
    let tree = c.args.tree.now in
    let operation = operation_of c.args.command.now.op in
    let path = c.args.command.now.path in
    let specs = c.peers.inside.conns in
    let watched = c.peers.inside.watchers in
    let rows = c.peers.inside.rows in
    let whole : IsWhole tree (connected specs watched rows) = subst (IsWhole tree) (sym c.peers.view_is) c.requires.whole in
    let may : MayAsk conn (connected specs watched rows) = subst (MayAsk conn) (sym c.peers.view_is) c.requires.may in
    let number : c.unwrap_or-number.result ≡ generation_of tree.gens path = c.unwrap_or-number.ensures ∙ number_or_zero c.generation.result ∙ ap or_zero c.generation.ensures in
    let outcome = command operation path (caller_of spec) (generation_of tree.gens path) tree.nodes in
    let new = c.make.new.tree in
    let left = c.make.new.rows in
    let answer : Answer = record { reply = c.in_ok-did.did.reply; door = Same; owed = c.in-Done.owed } in
    subst (λ (p : Connected). Did conn tree p (kept_outside (store_in tree p) outcome) answer new (connected specs watched left)) c.peers.view_is
    (outside_written conn tree specs watched rows whole may spec operation path c.unwrap_or-number.result number c.start-txn.result c.start-txn.ensures c.run_over.new.txn c.in_ok-did.did c.in_ok-did.ensures.ok
    c.reply_length.result c.reply_length.ensures.value new left answer refl refl
    (subst (λ m. IsMadeOr conn c.reply_length.result c.run_over.new.txn.marks specs watched tree rows rows m new left) c.in-Done.is c.in_ok-conn.ensures.ok))
