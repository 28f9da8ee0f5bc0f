use Rattle.std.proofs.Common.{◌≤◌, ◌<◌, sym, ap, subst, ◌∙◌, arith}
use Rattle.std.specs.Ordering.{nat_cmp}
use Rattle.xs_model.proofs.Maps.{keys_put}
use Rattle.conn_rows.specs.Rows.{Row, applied_in, EachIn, HasRoomToNote}
use Rattle.conn_rows.proofs.WalkLemmas.{all_at}
use Rattle.conn_rows.proofs.NoteLemmas.{finished_first, finished_more, finished_last, room_first, room_more}
use Rattle.conn_rows.proofs.row.Row.apply_notes.Goals as goal

pub txns-init : goal.txns-init
txns-init c =
    let txns = c.self.inside.txns.entries in
    record {
      finished = finished_first txns c.self.invariant ∙ ap (λ (row : Row). applied_in row.txns) c.self.view_is;
      room = room_first txns (subst (λ (row : Row). EachIn HasRoomToNote row.txns) (sym c.self.view_is) c.requires);
      positive = c.self.invariant;
      queue = ap (λ (row : Row). row.queue) c.self.view_is;
    }

pub apply_notes-requires : goal.apply_notes-requires
apply_notes-requires c =
    all_at c.in-Some.tx c.in-Some-get_mut.txn.now (λ e. c.txns.at < e.0 → HasRoomToNote e.1) c.txns.self-inside.txns.entries c.txns.invariant.room (sym c.in-Some-get_mut.ensures.value) c.in-Some.ensures.least.above

pub txns-preserved-in-Some-get_mut : goal.txns-preserved-in-Some-get_mut
txns-preserved-in-Some-get_mut c =
    let at = c.txns.at in
    let tx = c.in-Some.tx in
    let txns = c.txns.self-inside.txns.entries in
    let old = c.in-Some-get_mut.txn.now in
    let new = c.apply_notes.new.self in
    let there = sym c.in-Some-get_mut.ensures.value in
    let above : c.txns.at < c.in-Some.tx = c.in-Some.ensures.least.above in
    record {
      finished = finished_more at tx old new txns c.get_mut.ensures.rising there c.in-Some.ensures.least c.apply_notes.ensures.marks c.apply_notes.ensures.count ∙ c.txns.invariant.finished;
      room = room_more at tx old new txns c.get_mut.ensures.rising there above c.txns.invariant.room;
      positive = keys_put nat_cmp (λ i. 1 ≤ i) tx new txns (omega arith) c.txns.invariant.positive;
      queue = c.txns.invariant.queue;
    }

pub returns-clause-noted : goal.returns-clause-noted
returns-clause-noted c =
    sym (finished_last c.txns.at c.txns.self-inside.txns.entries (sym c.next_after.ensures.next ∙ c.in_default.is)) ∙ c.txns.invariant.finished
