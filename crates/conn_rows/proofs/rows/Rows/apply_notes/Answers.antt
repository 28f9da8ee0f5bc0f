use Rattle.std.proofs.Common.{◌≤◌, inr, sym, ap, subst, ◌∙◌}
use Rattle.conn_rows.specs.Rows.{Rows, from_id, EachIn, HasRoomToNote, HaveRoom}
use Rattle.conn_rows.proofs.WalkLemmas.{all_at}
use Rattle.conn_rows.proofs.RowLemmas.{IsQuietOrBusy, same_queues, all_entry}
use Rattle.conn_rows.proofs.NotedRows.{applied_all, finished_none, finished_next, finished_absent, finished_all, room_all, room_next, room_absent, noted_as_planned}
use Rattle.conn_rows.proofs.rows.Rows.apply_notes.Goals as goal

pub conns-init : goal.conns-init
conns-init c =
    let rows = c.self.inside.rows.entries in
    record {
      finished = finished_none rows ∙ ap (λ (r : Rows). applied_all r.txns) c.self.view_is;
      room = room_all rows (subst (λ (r : Rows). HaveRoom r.txns) (sym c.self.view_is) c.requires);
      quiet = c.self.invariant;
      queues = ap (λ (r : Rows). r.queues) c.self.view_is;
    }

pub apply_notes-requires : goal.apply_notes-requires
apply_notes-requires c =
    all_at c.in-Some.conn c.in-Some-get_mut.row.now (λ e. from_id c.conns.at ≤ e.0 → EachIn HasRoomToNote e.1.txns) c.conns.self-inside.rows.entries c.conns.invariant.room (sym c.in-Some-get_mut.ensures.value) c.in-Some.ensures.some.above

pub conns-preserved-in-Some-get_mut : goal.conns-preserved-in-Some-get_mut
conns-preserved-in-Some-get_mut c =
    let busy = c.conns.self-inside.busy.entries in
    let rows = c.conns.self-inside.rows.entries in
    let conn = c.in-Some.conn in
    let old = c.in-Some-get_mut.row.now in
    let new = c.apply_notes.new.self in
    let there = c.in-Some-get_mut.ensures.value in
    let low = from_id c.conns.at in
    record {
      finished = finished_next busy low conn c.in-Some.ensures.some rows c.conns.invariant.quiet old new c.get_mut.ensures.rising (sym there) c.apply_notes.ensures.noted ∙ c.conns.invariant.finished;
      room = room_next low conn c.in-Some.ensures.some.above new rows c.get_mut.ensures.rising c.conns.invariant.room;
      quiet = all_entry (IsQuietOrBusy busy) conn new (inr c.in-Some.ensures.some.there) rows c.conns.invariant.quiet;
      queues = same_queues conn old new rows c.get_mut.ensures.rising there c.apply_notes.ensures.queue ∙ c.conns.invariant.queues;
    }

pub conns-preserved : goal.conns-preserved
conns-preserved c =
    let rows = c.conns.self-inside.rows.entries in
    let low = from_id c.conns.at in
    record {
      finished = finished_absent c.conns.self-inside.busy.entries low c.in-Some.conn c.in-Some.ensures.some rows c.conns.invariant.quiet (sym c.in_default-get_mut.ensures.value) ∙ c.conns.invariant.finished;
      room = room_absent low c.in-Some.conn c.in-Some.ensures.some.above rows c.conns.invariant.room;
      quiet = c.conns.invariant.quiet;
      queues = c.conns.invariant.queues;
    }

pub returns-clause-noted : goal.returns-clause-noted
returns-clause-noted c = λ tree changed plans.
    sym (finished_all c.conns.self-inside.busy.entries (from_id c.conns.at) (c.next_of.ensures.none c.in_default.is) c.conns.self-inside.rows.entries c.conns.invariant.quiet)
    ∙ c.conns.invariant.finished ∙ noted_as_planned tree changed c.args.self.now.txns plans
