use Rattle.std.proofs.Common.{inr, sym, ◌∙◌}
use Rattle.conn_rows.specs.Rows.{from_id}
use Rattle.conn_rows.proofs.RowLemmas.{IsQuietOrBusy, same_opens, same_queues, all_entry}
use Rattle.conn_rows.proofs.NotedRows.{planned_row, planned_no_row, planned_all}
use Rattle.conn_rows.proofs.rows.Rows.plan_notes.Goals as goal

pub invariant_of-self : goal.invariant_of-self
invariant_of-self c =
    all_entry (IsQuietOrBusy c.conns.self-inside.busy.entries) c.in-Some.conn c.plan_notes.new.self (inr c.in-Some.ensures.some.there) c.conns.self-inside.rows.entries c.conns.invariant.quiet

pub returns-in_err-plan_notes-clause-same : goal.returns-in_err-plan_notes-clause-same
returns-in_err-plan_notes-clause-same c =
    same_opens c.in-Some.conn c.in-Some-get_mut.row.now c.plan_notes.new.self c.conns.self-inside.rows.entries c.get_mut.ensures.rising c.in-Some-get_mut.ensures.value c.plan_notes.ensures.same ∙ c.conns.invariant.same

pub returns-in_err-plan_notes-clause-queues : goal.returns-in_err-plan_notes-clause-queues
returns-in_err-plan_notes-clause-queues c =
    same_queues c.in-Some.conn c.in-Some-get_mut.row.now c.plan_notes.new.self c.conns.self-inside.rows.entries c.get_mut.ensures.rising c.in-Some-get_mut.ensures.value c.plan_notes.ensures.queue ∙ c.conns.invariant.queues

pub conns-preserved-in_ok-plan_notes : goal.conns-preserved-in_ok-plan_notes
conns-preserved-in_ok-plan_notes c =
    let busy = c.conns.self-inside.busy.entries in
    let rows = c.conns.self-inside.rows.entries in
    let conn = c.in-Some.conn in
    let old = c.in-Some-get_mut.row.now in
    let new = c.plan_notes.new.self in
    let there = c.in-Some-get_mut.ensures.value in
    record {
      planned = planned_row c.args.tree.now.nodes c.args.changed.now busy (from_id c.conns.at) conn c.in-Some.ensures.some rows c.conns.invariant.quiet c.conns.invariant.planned new c.get_mut.ensures.rising c.in_ok-plan_notes.ensures.ok;
      quiet = all_entry (IsQuietOrBusy busy) conn new (inr c.in-Some.ensures.some.there) rows c.conns.invariant.quiet;
      same = same_opens conn old new rows c.get_mut.ensures.rising there c.plan_notes.ensures.same ∙ c.conns.invariant.same;
      queues = same_queues conn old new rows c.get_mut.ensures.rising there c.plan_notes.ensures.queue ∙ c.conns.invariant.queues;
    }

pub conns-preserved : goal.conns-preserved
conns-preserved c = record {
  planned = planned_no_row c.args.tree.now.nodes c.args.changed.now c.conns.self-inside.busy.entries (from_id c.conns.at) c.in-Some.conn c.in-Some.ensures.some c.conns.self-inside.rows.entries c.conns.invariant.quiet c.conns.invariant.planned (sym c.in_default-get_mut.ensures.value);
  quiet = c.conns.invariant.quiet;
  same = c.conns.invariant.same;
  queues = c.conns.invariant.queues;
}

pub returns-clause-ok : goal.returns-clause-ok
returns-clause-ok c =
    planned_all c.args.tree.now.nodes c.args.changed.now c.conns.self-inside.busy.entries (from_id c.conns.at) (c.next_of.ensures.none c.in_default.is) c.conns.self-inside.rows.entries c.conns.invariant.quiet c.conns.invariant.planned
