use Rattle.std.proofs.Common.{◌≡◌, Option, None, IfSome, refl, sym, ap, subst, ◌∙◌}
use Rattle.xs_model.specs.Generations.{greatest}
use Rattle.xs_model.specs.Trees.{IsTree}
use Rattle.mark_model.specs.Marks.{committed}
use Rattle.mark_model.specs.Stores.{KeptTransaction}
use Rattle.txn_access.specs.Plans.{IsPlan}
use Rattle.txn_access.specs.Txns.{Txn, Plans}
use Rattle.daemon.specs.Changes.{IsMade, IsWeighed, without_txn}
use Rattle.daemon.specs.Peers.{message_limit}
use Rattle.conn_rows.specs.Queued.{unsent_of, rests_of}
use Rattle.conn_rows.specs.Sending.{HasRoomFor}
use Rattle.conn_rows.specs.Rows.{ArePlanned, opens_of}
use Rattle.daemon.proofs.OpenTxns.{same_open, still_open, same_closed, each_closed, planned_room}
use Rattle.daemon.proofs.DoneLemmas.{is_changed, owed_on}
use Rattle.daemon.proofs.change.make_open.Goals as goal

pub unreachable-requires-in_default-take : goal.unreachable-requires-in_default-take
unreachable-requires-in_default-take c =
    still_open c.args.asked.conn c.args.tx c.args.rows.now.txns c.reserve.new.rows.txns c.reserve.ensures.opens c.in-Some.txn.now (sym c.in-Some.ensures) (sym c.in_default-take.ensures.found)

pub commit_planned-written-requires-clause-plan : goal.commit_planned-written-requires-clause-plan
commit_planned-written-requires-clause-plan c =
    let same = same_open c.args.asked.conn c.args.tx c.args.rows.now.txns c.reserve.new.rows.txns c.reserve.ensures.opens c.in-Some.txn.now c.in-Some-take.txn (sym c.in-Some.ensures) (sym c.in-Some-take.ensures.found) in
    subst (λ (t : KeptTransaction). IsPlan t.marks c.prepare.new.tree c.in_ok-plan.plan) (sym same) c.in_ok-plan.ensures.ok

pub commit_planned-written-requires-clause-tree : goal.commit_planned-written-requires-clause-tree
commit_planned-written-requires-clause-tree c =
    let same = same_open c.args.asked.conn c.args.tx c.args.rows.now.txns c.reserve.new.rows.txns c.reserve.ensures.opens c.in-Some.txn.now c.in-Some-take.txn (sym c.in-Some.ensures) (sym c.in-Some-take.ensures.found) in
    let nodes = c.prepare.ensures.nodes in
    let alike : committed c.prepare.new.tree.nodes c.in-Some-take.txn.marks ≡ committed c.args.tree.now.nodes c.in-Some.txn.now.marks = λ i. committed (nodes i) (same i).marks in
    subst IsTree (sym alike) (subst (λ (o : Option Txn). IfSome o (λ txn. IsTree (committed c.args.tree.now.nodes txn.marks))) (sym c.in-Some.ensures) c.requires.tree)

pub apply_notes-requires : goal.apply_notes-requires
apply_notes-requires c =
    let tree = c.prepare.new.tree.nodes in
    let changed = c.in_ok-plan.plan.changed in
    planned_room tree changed c.take.new.self.txns
    (subst (ArePlanned tree changed) (sym (c.in-Some-take.ensures.closed refl)) (each_closed (Plans tree changed) c.args.asked.conn c.args.tx c.reserve.new.rows.txns c.in_ok-reserve.ensures.planned))

pub returns-clause-ok : goal.returns-clause-ok
returns-clause-ok c =
    let conn = c.args.asked.conn in
    let n = c.args.asked.reply in
    let tx = c.args.tx in
    let specs = c.args.hearers.now.conns.now in
    let watched = c.args.hearers.now.watchers.now in
    let rows = c.args.rows.now in
    let old = c.args.tree.now in
    let ready = c.prepare.new.tree in
    let new = c.commit_planned-written.new.tree in
    let left = c.apply_notes.new.self in
    let txn = c.in-Some.txn.now in
    let taken = c.in-Some-take.txn in
    let changed = c.in_ok-plan.plan.changed in
    let kept = c.reserve.ensures.opens in
    let closed = c.in-Some-take.ensures.closed refl in
    let same = ap (λ (t : KeptTransaction). t.marks) (same_open conn tx rows.txns c.reserve.new.rows.txns kept txn taken (sym c.in-Some.ensures) (sym c.in-Some-take.ensures.found)) in
    let counted = c.prepare.ensures.counter ∙ c.requires.counter ∙ ap greatest (sym c.prepare.ensures.gens) in
    let planned = subst (ArePlanned ready.nodes changed) (sym closed) (each_closed (Plans ready.nodes changed) conn tx c.reserve.new.rows.txns c.in_ok-reserve.ensures.planned) in
    let queues = c.apply_notes.ensures.queues ∙ c.take.ensures.queues in
    subst (λ (o : Option Txn). IfSome o (λ txn. IsMade conn n txn.marks specs watched old rows (without_txn conn tx rows) c.in-Done.owed new left)) c.in-Some.ensures (record {
      changed = is_changed txn.marks taken.marks same old ready new c.prepare.ensures.nodes c.prepare.ensures.gens
          c.commit_planned-written.ensures.nodes (c.commit_planned-written.ensures.numbers counted) (c.commit_planned-written.ensures.greatest counted)
          changed c.in_ok-plan.ensures.ok.changed (without_txn conn tx rows) left (opens_of c.take.new.self.txns)
          (c.apply_notes.ensures.noted ready.nodes changed planned)
          (ap opens_of closed ∙ same_closed conn tx rows.txns c.reserve.new.rows.txns kept)
          (ap unsent_of queues ∙ c.reserve.ensures.unsent)
          (ap rests_of queues ∙ c.reserve.ensures.rests);
      owed = owed_on conn n txn.marks specs watched ready old c.prepare.ensures.nodes rows c.in-Done.owed None (subst (IsWeighed conn n txn.marks specs watched ready rows) c.in-Done.is c.in_ok-conn.ensures);
      room = subst (HasRoomFor conn message_limit c.in-Done.owed) (sym queues) c.in_ok-reserve.ensures.room;
    })
