use Rattle.std.proofs.Common.{◌≡◌, ℕ, [], Ok, is_some, List, refl, ap, subst}
use Rattle.std.proofs.lemmas.Result.{IfOk-weaker}
use Rattle.xs_model.specs.Messages.{string}
use Rattle.xs_model.specs.Paths.{text, home}
use Rattle.machine_model.specs.Connections.{has_ring}
use Rattle.machine_model.specs.Machine.{introduced_payload, add_watch, remove_watch}
use Rattle.conn_table.specs.Tables.{ring_id}
use Rattle.daemon.specs.declared.answer.Door.TheVariants.{Same}
use Rattle.daemon.specs.Keeps.{machine_of}
use Rattle.daemon.specs.Acts.{DidBeside}
use Rattle.daemon.specs.Peers.{conns_in, conn_in}
use Rattle.daemon.proofs.KeepsLemmas.{conns_ring}
use Rattle.daemon.proofs.ActLemmas.{answering, answered_beside, did_same, did_beside, done_answered, all_three, home_is_short, introduced_short}
use Rattle.daemon.proofs.act.act.Goals as goal

pub returns-in-Watch-clause-ok : goal.returns-in-Watch-clause-ok
returns-in-Watch-clause-ok c =
    let tree = c.args.tree.now in
    let peers = c.args.peers.now in
    let conn = c.args.asker.conn in
    let new = c.watch.new.peers in
    rw c.in-Watch.is
    (done_answered _ _ c.watch.result c.done.result c.done.ensures.ok c.done.ensures.err c.watch.ensures.ok (λ answer did. did_beside conn tree peers _ answer new c.requires.whole.counter
    (subst (λ (parts : List ℕ × List ℕ). DidBeside conn peers (add_watch (machine_of tree.nodes tree.gens peers.specs peers.watched) conn (conn_in peers conn c.args.asker.spec) (record { wpath = parts.0; token = parts.1 })) tree.nodes tree.gens answer new)
    (λ i. (c.as_slice.ensures i, c.as_slice-in-Watch.ensures i)) (did tree.nodes tree.gens c.args.tx_id))))

pub returns-in-Unwatch-clause-ok : goal.returns-in-Unwatch-clause-ok
returns-in-Unwatch-clause-ok c =
    let tree = c.args.tree.now in
    let peers = c.args.peers.now in
    let conn = c.args.asker.conn in
    let new = c.unwatch.new.peers in
    rw c.in-Unwatch.is
    (done_answered _ _ c.unwatch.result c.done-in-Unwatch.result c.done-in-Unwatch.ensures.ok c.done-in-Unwatch.ensures.err c.unwatch.ensures.ok (λ answer did. did_beside conn tree peers _ answer new c.requires.whole.counter
    (subst (λ (parts : List ℕ × List ℕ). DidBeside conn peers (remove_watch (machine_of tree.nodes tree.gens peers.specs peers.watched) conn (conn_in peers conn c.args.asker.spec) (record { wpath = parts.0; token = parts.1 })) tree.nodes tree.gens answer new)
    (λ i. (c.as_slice-in-Unwatch.ensures i, c.as_slice-in-Unwatch-2.ensures i)) (did tree.nodes tree.gens c.args.tx_id))))

pub returns-in-Introduce-clause-ok : goal.returns-in-Introduce-clause-ok
returns-in-Introduce-clause-ok c =
    let tree = c.args.tree.now in
    rw c.in-Introduce.is
    (IfOk-weaker c.introduce.result _ _ (λ what did. answered_beside c.args.asker.conn tree c.args.peers.now _ what c.introduce.new.peers c.requires.whole.counter (did tree.nodes tree.gens c.args.tx_id)) c.introduce.ensures.ok)

pub returns-in-Release-clause-ok : goal.returns-in-Release-clause-ok
returns-in-Release-clause-ok c =
    let tree = c.args.tree.now in
    rw c.in-Release.is
    (IfOk-weaker c.release.result _ _ (λ what did. answered_beside c.args.asker.conn tree c.args.peers.now _ what c.release.new.peers c.requires.whole.counter (did tree.nodes tree.gens c.args.tx_id)) c.release.ensures.ok)

pub returns-in-SetTarget-clause-ok : goal.returns-in-SetTarget-clause-ok
returns-in-SetTarget-clause-ok c =
    let tree = c.args.tree.now in
    rw c.in-SetTarget.is
    (done_answered _ _ c.set_target.result c.done-in-SetTarget.result c.done-in-SetTarget.ensures.ok c.done-in-SetTarget.ensures.err c.set_target.ensures.ok (λ answer did. did_beside c.args.asker.conn tree c.args.peers.now _ answer c.set_target.new.peers c.requires.whole.counter (did tree.nodes tree.gens c.args.tx_id)))

pub returns-in-ResetWatches-clause-ok : goal.returns-in-ResetWatches-clause-ok
returns-in-ResetWatches-clause-ok c =
    rw c.in-ResetWatches.is
    (done_answered _ _ c.reset.result c.done-in-ResetWatches.result c.done-in-ResetWatches.ensures.ok c.done-in-ResetWatches.ensures.err c.reset.ensures.ok (λ answer did. did c.args.tree.now c.args.tx_id c.requires.whole.counter))

pub returns-in-DomainPath-clause-ok : goal.returns-in-DomainPath-clause-ok
returns-in-DomainPath-clause-ok c =
    let tree = c.args.tree.now in
    let peers = c.args.peers.now in
    let path : List ℕ = string (text (home c.in-DomainPath.domid)) in
    rw c.in-DomainPath.is
    (done_answered _ _ c.domain_path.result c.done-in-DomainPath.result c.done-in-DomainPath.ensures.ok c.done-in-DomainPath.ensures.err
    (all_three (λ answer. answer.reply ≡ Ok path) (λ answer. answer.door ≡ Same) (λ answer. answer.owed ≡ []) c.domain_path.result c.domain_path.ensures.reply c.domain_path.ensures.door c.domain_path.ensures.owed)
    (λ answer said. did_beside c.args.asker.conn tree peers _ answer peers c.requires.whole.counter
    (did_same c.args.asker.conn peers c.requires.whole.sound c.requires.may _ (Ok path) (home_is_short c.in-DomainPath.domid) answer said.first said.third tree.nodes tree.gens refl said.second)))

pub returns-in-IsIntroduced-clause-ok : goal.returns-in-IsIntroduced-clause-ok
returns-in-IsIntroduced-clause-ok c =
    let tree = c.args.tree.now in
    let peers = c.args.peers.now in
    let domid = c.in-IsIntroduced.domid in
    let there = is_some (ring_id domid peers.specs) in
    let same : has_ring domid (conns_in peers) ≡ there = ap is_some (conns_ring peers.watched domid peers.specs) in
    rw c.in-IsIntroduced.is
    (done_answered _ _ c.is_introduced.result c.done-in-IsIntroduced.result c.done-in-IsIntroduced.ensures.ok c.done-in-IsIntroduced.ensures.err
    (all_three (λ answer. answer.reply ≡ Ok (introduced_payload there)) (λ answer. answer.door ≡ Same) (λ answer. answer.owed ≡ []) c.is_introduced.result c.is_introduced.ensures.reply c.is_introduced.ensures.door c.is_introduced.ensures.owed)
    (λ answer said. did_beside c.args.asker.conn tree peers _ answer peers c.requires.whole.counter
    (did_same c.args.asker.conn peers c.requires.whole.sound c.requires.may _ (Ok (introduced_payload there)) (introduced_short there) answer said.first said.third tree.nodes tree.gens
    (ap (λ b. answering (Ok (introduced_payload b)) (machine_of tree.nodes tree.gens peers.specs peers.watched)) same) said.second)))
