use Rattle.std.proofs.Common.{◌+◌, ◌≤◌, ◌==◌, ◌++◌, [], List, ℕ, Bool, true, false, cond, length, refl, sym, ap, ap₂, subst, ◌∙◌, ◌≡◌}
use Rattle.conn_rows.proofs.SendLemmas.{room_here, room_left, room_over, awaited_first, awaited_sent, awaited_past, awaited_last}
use Rattle.conn_rows.proofs.sending.send.Goals as goal

pub walk-init : goal.walk-init
walk-init c = record {
  awaited = awaited_first c.args.conn c.args.reply.now c.args.owed.now c.args.rows.now.entries c.requires.positive;
  room = λ k queue _ found. c.requires.room k queue found;
}

-- the length of a part
part_length : (reply : List ℕ) (b : Bool) → cond b (length reply) 0 ≡ length (cond b reply [])
part_length reply true = refl
part_length reply false = refl

pub send-requires-clause-room : goal.send-requires-clause-room
send-requires-clause-room c =
    let row = c.in-Some-get_mut.row.now in
    let here = room_here c.args.conn (length c.args.reply.now) c.args.owed.now c.walk.at c.in-Some.receiver row c.walk.rows.entries c.walk.invariant.room c.in-Some.ensures.some.above c.in-Some-get_mut.ensures.value in
    subst (λ n. n ≤ row.queue.spare) (ap₂ ◌+◌ (part_length c.args.reply.now (c.in-Some.receiver == c.args.conn) ∙ ap length (sym c.part_of.ensures)) (ap length (sym c.bytes.ensures.bytes))) here

pub walk-preserved-in-Some-get_mut : goal.walk-preserved-in-Some-get_mut
walk-preserved-in-Some-get_mut c =
    let rows = c.walk.rows.entries in
    let old = c.in-Some-get_mut.row.now in
    let new = c.send.new.self in
    record {
      awaited = awaited_sent c.args.conn c.args.reply.now c.args.owed.now c.walk.at c.in-Some.receiver c.in-Some.ensures.some rows old new c.get_mut.ensures.rising c.in-Some-get_mut.ensures.value
          (c.send.ensures.bytes ∙ ap (λ b. old.queue.bytes ++ b) (ap₂ ◌++◌ c.part_of.ensures c.bytes.ensures.bytes)) c.send.ensures.rest c.send.ensures.txns
          ∙ c.walk.invariant.awaited;
      room = room_left c.args.conn (length c.args.reply.now) c.args.owed.now c.walk.at c.in-Some.receiver c.in-Some.ensures.some rows new c.walk.invariant.room;
    }

pub walk-preserved : goal.walk-preserved
walk-preserved c = record {
  awaited = awaited_past c.args.conn c.args.reply.now c.args.owed.now c.walk.at c.in-Some.receiver c.in-Some.ensures.some c.walk.rows.entries c.in_default-get_mut.ensures.value
      ∙ c.walk.invariant.awaited;
  room = room_over c.args.conn (length c.args.reply.now) c.args.owed.now c.walk.at c.in-Some.receiver c.in-Some.ensures.some c.walk.rows.entries c.walk.invariant.room;
}

pub returns : goal.returns
returns c = record {
  seen = sym (awaited_last c.args.conn c.args.reply.now c.args.owed.now c.walk.at c.walk.rows.entries (c.next_receiver.ensures.none c.in_default.is)) ∙ c.walk.invariant.awaited;
}
