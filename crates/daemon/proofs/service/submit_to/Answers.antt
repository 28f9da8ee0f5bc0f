use Rattle.std.proofs.Common.{ℕ, ◌≤◌, List, length, sym, ap, ◌∙◌, subst}
use Rattle.std.specs.Option.{option_map}
use Rattle.std.specs.Ordering.{nat_cmp}
use Rattle.std.specs.FinMap.{find}
use Rattle.out_queues.specs.Queues.{Queue}
use Rattle.conn_rows.proofs.UnsentBytes.{unsent_found}
use Rattle.daemon.specs.Acts.{IsAsBefore}
use Rattle.daemon.proofs.WholeLemmas.{whole_same}
use Rattle.daemon.proofs.CommandLemmas.{on_err}
use Rattle.daemon.proofs.ReservedLemmas.{IsReserved, refused_whole, refused_before, crowded_steps, crowded_submits, crowded_whole, room_for_reply, done_whole, done_steps, done_submits}
use Rattle.daemon.proofs.service.submit_to.Goals as goal

pub answer-requires-clause-whole : goal.answer-requires-clause-whole
answer-requires-clause-whole c = whole_same c.args.tree.now c.args.peers.now c.requires.whole c.reserve.new.self (c.reserve.ensures.sound c.requires.whole.sound) c.reserve.ensures.specs c.reserve.ensures.watched c.reserve.ensures.txns

pub answer-requires-clause-may : goal.answer-requires-clause-may
answer-requires-clause-may c = record {
  few = λ queue found. c.requires.few queue.bytes
      (ap (find nat_cmp c.args.asker.conn) (sym c.reserve.ensures.bytes) ∙ unsent_found c.args.asker.conn c.reserve.new.self.queues ∙ ap (option_map (λ (q : Queue). q.bytes)) found);
  room = c.in_ok-reserve.ensures.ok;
}

pub returns-in-Crowded-clause-step : goal.returns-in-Crowded-clause-step
returns-in-Crowded-clause-step c =
    let was : IsReserved c.args.asker.conn c.args.asker.spec c.args.tree.now c.args.peers.now c.reserve.new.self = record { whole = c.requires.whole; there = c.requires.there; few = c.requires.few; specs = c.reserve.ensures.specs; watched = c.reserve.ensures.watched; bytes = c.reserve.ensures.bytes; rests = c.reserve.ensures.rests; txns = c.reserve.ensures.txns; sound = c.reserve.ensures.sound } in
    crowded_steps c.args.asker.conn c.args.asker.spec c.args.tree.now c.args.peers.now c.reserve.new.self was c.head_of-head.result c.payload_of.result.now c.args.message.now c.head_of-head.ensures c.payload_of.ensures
    c.answer.new.tree c.answer.new.peers c.in_ok-conn.field-0 c.in_ok-conn.ensures.ok c.in-Crowded.conn c.in-Crowded.is

pub returns-in-Crowded-clause-ok : goal.returns-in-Crowded-clause-ok
returns-in-Crowded-clause-ok c =
    let was : IsReserved c.args.asker.conn c.args.asker.spec c.args.tree.now c.args.peers.now c.reserve.new.self = record { whole = c.requires.whole; there = c.requires.there; few = c.requires.few; specs = c.reserve.ensures.specs; watched = c.reserve.ensures.watched; bytes = c.reserve.ensures.bytes; rests = c.reserve.ensures.rests; txns = c.reserve.ensures.txns; sound = c.reserve.ensures.sound } in
    crowded_submits c.args.asker.conn c.args.asker.spec c.args.tree.now c.args.peers.now c.reserve.new.self was c.head_of-head.result c.payload_of.result.now c.args.message.now c.head_of-head.ensures c.payload_of.ensures
    c.answer.new.tree c.answer.new.peers c.in_ok-conn.field-0 c.in_ok-conn.ensures.ok c.in-Crowded.conn c.in-Crowded.is

pub returns-in-Crowded-clause-whole : goal.returns-in-Crowded-clause-whole
returns-in-Crowded-clause-whole c =
    let was : IsReserved c.args.asker.conn c.args.asker.spec c.args.tree.now c.args.peers.now c.reserve.new.self = record { whole = c.requires.whole; there = c.requires.there; few = c.requires.few; specs = c.reserve.ensures.specs; watched = c.reserve.ensures.watched; bytes = c.reserve.ensures.bytes; rests = c.reserve.ensures.rests; txns = c.reserve.ensures.txns; sound = c.reserve.ensures.sound } in
    crowded_whole c.args.asker.conn c.args.asker.spec c.args.tree.now c.args.peers.now c.reserve.new.self was c.head_of-head.result c.payload_of.result.now c.args.message.now c.head_of-head.ensures c.payload_of.ensures
    c.answer.new.tree c.answer.new.peers c.in_ok-conn.field-0 c.in_ok-conn.ensures.ok c.in-Crowded.conn c.in-Crowded.is

pub send-requires-clause-room : goal.send-requires-clause-room
send-requires-clause-room c =
    let was : IsReserved c.args.asker.conn c.args.asker.spec c.args.tree.now c.args.peers.now c.reserve.new.self = record { whole = c.requires.whole; there = c.requires.there; few = c.requires.few; specs = c.reserve.ensures.specs; watched = c.reserve.ensures.watched; bytes = c.reserve.ensures.bytes; rests = c.reserve.ensures.rests; txns = c.reserve.ensures.txns; sound = c.reserve.ensures.sound } in
    room_for_reply c.args.asker.conn c.args.asker.spec c.args.tree.now c.args.peers.now c.reserve.new.self was c.head_of-head.result c.payload_of.result.now c.args.message.now c.head_of-head.ensures c.payload_of.ensures
    c.answer.new.tree c.answer.new.peers c.in_ok-conn.field-0 c.in_ok-conn.ensures.ok c.in-Done.answer c.in-Done.is
    (length c.first.result.now) (subst (λ (sent : List ℕ). length sent ≤ 4112) (sym c.first.ensures) c.put_reply-len.ensures.whole.short)

pub returns-in-Done-clause-step : goal.returns-in-Done-clause-step
returns-in-Done-clause-step c =
    let was : IsReserved c.args.asker.conn c.args.asker.spec c.args.tree.now c.args.peers.now c.reserve.new.self = record { whole = c.requires.whole; there = c.requires.there; few = c.requires.few; specs = c.reserve.ensures.specs; watched = c.reserve.ensures.watched; bytes = c.reserve.ensures.bytes; rests = c.reserve.ensures.rests; txns = c.reserve.ensures.txns; sound = c.reserve.ensures.sound } in
    done_steps c.args.asker.conn c.args.asker.spec c.args.tree.now c.args.peers.now c.reserve.new.self was c.head_of-head.result c.payload_of.result.now c.args.message.now c.head_of-head.ensures c.payload_of.ensures
    c.answer.new.tree c.answer.new.peers c.in_ok-conn.field-0 c.in_ok-conn.ensures.ok c.in-Done.answer c.in-Done.is
    c.first.result.now (c.first.ensures ∙ c.put_reply-len.ensures.bytes) c.send.new.self c.send.ensures.specs c.send.ensures.watched c.send.ensures.txns c.send.ensures.bytes c.send.ensures.rests

pub returns-in-Done-clause-ok : goal.returns-in-Done-clause-ok
returns-in-Done-clause-ok c =
    let was : IsReserved c.args.asker.conn c.args.asker.spec c.args.tree.now c.args.peers.now c.reserve.new.self = record { whole = c.requires.whole; there = c.requires.there; few = c.requires.few; specs = c.reserve.ensures.specs; watched = c.reserve.ensures.watched; bytes = c.reserve.ensures.bytes; rests = c.reserve.ensures.rests; txns = c.reserve.ensures.txns; sound = c.reserve.ensures.sound } in
    done_submits c.args.asker.conn c.args.asker.spec c.args.tree.now c.args.peers.now c.reserve.new.self was c.head_of-head.result c.payload_of.result.now c.args.message.now c.head_of-head.ensures c.payload_of.ensures
    c.answer.new.tree c.answer.new.peers c.in_ok-conn.field-0 c.in_ok-conn.ensures.ok c.in-Done.answer c.in-Done.is
    c.first.result.now (c.first.ensures ∙ c.put_reply-len.ensures.bytes) c.send.new.self c.send.ensures.specs c.send.ensures.watched c.send.ensures.txns c.send.ensures.bytes c.send.ensures.rests

pub returns-in-Done-clause-whole : goal.returns-in-Done-clause-whole
returns-in-Done-clause-whole c =
    let was : IsReserved c.args.asker.conn c.args.asker.spec c.args.tree.now c.args.peers.now c.reserve.new.self = record { whole = c.requires.whole; there = c.requires.there; few = c.requires.few; specs = c.reserve.ensures.specs; watched = c.reserve.ensures.watched; bytes = c.reserve.ensures.bytes; rests = c.reserve.ensures.rests; txns = c.reserve.ensures.txns; sound = c.reserve.ensures.sound } in
    done_whole c.args.asker.conn c.args.asker.spec c.args.tree.now c.args.peers.now c.reserve.new.self was c.head_of-head.result c.payload_of.result.now c.args.message.now c.head_of-head.ensures c.payload_of.ensures
    c.answer.new.tree c.answer.new.peers c.in_ok-conn.field-0 c.in_ok-conn.ensures.ok c.in-Done.answer c.in-Done.is
    c.first.result.now (c.first.ensures ∙ c.put_reply-len.ensures.bytes) c.send.new.self c.send.ensures.specs c.send.ensures.watched c.send.ensures.txns c.send.ensures.bytes c.requires.short

pub returns-in_err-conn-clause-whole : goal.returns-in_err-conn-clause-whole
returns-in_err-conn-clause-whole c =
    let was : IsReserved c.args.asker.conn c.args.asker.spec c.args.tree.now c.args.peers.now c.reserve.new.self = record { whole = c.requires.whole; there = c.requires.there; few = c.requires.few; specs = c.reserve.ensures.specs; watched = c.reserve.ensures.watched; bytes = c.reserve.ensures.bytes; rests = c.reserve.ensures.rests; txns = c.reserve.ensures.txns; sound = c.reserve.ensures.sound } in
    refused_whole c.args.asker.conn c.args.asker.spec c.args.tree.now c.args.peers.now c.reserve.new.self was c.answer.new.tree c.answer.new.peers c.in_err-conn.ensures.err

pub returns-in_err-conn-clause-err : goal.returns-in_err-conn-clause-err
returns-in_err-conn-clause-err c =
    let was : IsReserved c.args.asker.conn c.args.asker.spec c.args.tree.now c.args.peers.now c.reserve.new.self = record { whole = c.requires.whole; there = c.requires.there; few = c.requires.few; specs = c.reserve.ensures.specs; watched = c.reserve.ensures.watched; bytes = c.reserve.ensures.bytes; rests = c.reserve.ensures.rests; txns = c.reserve.ensures.txns; sound = c.reserve.ensures.sound } in
    on_err (IsAsBefore c.args.tree.now c.args.peers.now c.answer.new.tree c.answer.new.peers) c.from_residual-in_err-conn.result
    (refused_before c.args.asker.conn c.args.asker.spec c.args.tree.now c.args.peers.now c.reserve.new.self was c.answer.new.tree c.answer.new.peers c.in_err-conn.ensures.err)
