use Rattle.std.proofs.Common.{refl, ◌∙◌, ◌≤◌, subst}
use Rattle.conn_rows.proofs.SendLemmas.{room_first, room_taken, room_past, room_done, seen_kept}
use Rattle.conn_rows.proofs.sending.reserve_all.Goals as goal

pub walk-init : goal.walk-init
walk-init c = record {
  room = room_first c.args.conn c.args.reply c.args.owed.now c.args.rows.now.entries c.requires.positive;
  seen = refl;
}

pub returns-in_err-reserve-clause-seen : goal.returns-in_err-reserve-clause-seen
returns-in_err-reserve-clause-seen c =
    seen_kept c.in-Some.receiver c.in-Some-get_mut.row.now c.reserve.new.self c.walk.rows.entries c.get_mut.ensures.rising c.in-Some-get_mut.ensures.value c.reserve.ensures.bytes c.reserve.ensures.rest c.reserve.ensures.txns
    ∙ c.walk.invariant.seen

pub walk-preserved-in_ok-reserve : goal.walk-preserved-in_ok-reserve
walk-preserved-in_ok-reserve c =
    let rows = c.walk.rows.entries in
    let new = c.reserve.new.self in
    record {
      room = room_taken c.args.conn c.args.reply c.args.owed.now c.walk.at c.in-Some.receiver c.in-Some.ensures.some rows new
          (subst (λ n. n ≤ new.queue.spare) c.in_ok-count.ensures c.in_ok-reserve.ensures.ok) c.walk.invariant.room;
      seen = seen_kept c.in-Some.receiver c.in-Some-get_mut.row.now new rows c.get_mut.ensures.rising c.in-Some-get_mut.ensures.value c.reserve.ensures.bytes c.reserve.ensures.rest c.reserve.ensures.txns
          ∙ c.walk.invariant.seen;
    }

pub walk-preserved : goal.walk-preserved
walk-preserved c = record {
  room = room_past c.args.conn c.args.reply c.args.owed.now c.walk.at c.in-Some.receiver c.in-Some.ensures.some c.walk.rows.entries c.in_default-get_mut.ensures.value c.walk.invariant.room;
  seen = c.walk.invariant.seen;
}

pub returns-clause-ok : goal.returns-clause-ok
returns-clause-ok c =
    room_done c.args.conn c.args.reply c.args.owed.now c.walk.at c.walk.rows.entries (c.next_receiver.ensures.none c.in_default.is) c.walk.invariant.room
