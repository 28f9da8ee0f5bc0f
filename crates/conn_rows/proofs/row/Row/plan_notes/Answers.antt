use Rattle.std.proofs.Common.{◌≤◌, ◌<◌, sym, ◌∙◌, arith}
use Rattle.std.specs.Ordering.{nat_cmp}
use Rattle.xs_model.proofs.Maps.{keys_put}
use Rattle.conn_rows.proofs.NoteLemmas.{planned_more, planned_last, kept_more}
use Rattle.conn_rows.proofs.row.Row.plan_notes.Goals as goal

pub invariant_of-self : goal.invariant_of-self
invariant_of-self c =
    let above : c.txns.at < c.in-Some.tx = c.in-Some.ensures.least.above in
    keys_put nat_cmp (λ i. 1 ≤ i) c.in-Some.tx c.plan_notes.new.self c.txns.self-inside.txns.entries (omega arith) c.txns.invariant.positive

pub returns-in_err-plan_notes-clause-same : goal.returns-in_err-plan_notes-clause-same
returns-in_err-plan_notes-clause-same c =
    kept_more c.txns.at c.in-Some.tx c.in-Some-get_mut.txn.now c.plan_notes.new.self c.txns.self-inside.txns.entries c.get_mut.ensures.rising (sym c.in-Some-get_mut.ensures.value)
    c.plan_notes.ensures.marks c.plan_notes.ensures.count ∙ c.txns.invariant.same

pub txns-preserved-in_ok-plan_notes : goal.txns-preserved-in_ok-plan_notes
txns-preserved-in_ok-plan_notes c =
    let at = c.txns.at in
    let tx = c.in-Some.tx in
    let txns = c.txns.self-inside.txns.entries in
    let old = c.in-Some-get_mut.txn.now in
    let new = c.plan_notes.new.self in
    let there = sym c.in-Some-get_mut.ensures.value in
    let above : c.txns.at < c.in-Some.tx = c.in-Some.ensures.least.above in
    record {
      planned = planned_more c.args.tree.now.nodes c.args.changed.now at tx old new txns c.get_mut.ensures.rising there c.in-Some.ensures.least c.in_ok-plan_notes.ensures.ok c.txns.invariant.planned;
      positive = keys_put nat_cmp (λ i. 1 ≤ i) tx new txns (omega arith) c.txns.invariant.positive;
      same = kept_more at tx old new txns c.get_mut.ensures.rising there c.plan_notes.ensures.marks c.plan_notes.ensures.count ∙ c.txns.invariant.same;
      queue = c.txns.invariant.queue;
    }

pub returns-clause-ok : goal.returns-clause-ok
returns-clause-ok c =
    planned_last c.args.tree.now.nodes c.args.changed.now c.txns.at c.txns.self-inside.txns.entries (sym c.next_after.ensures.next ∙ c.in_default.is) c.txns.invariant.planned
