use Rattle.std.proofs.Common.{◌≡◌, IfOk, length, refl, sym, ap, ◌∙◌, subst, arith}
use Rattle.std.specs.Ordering.{nat_cmp}
use Rattle.std.specs.FinMap.{find}
use Rattle.xs_model.proofs.Maps.{from_Some}
use Rattle.store_parts.specs.Kept.{Kept}
use Rattle.conn_rows.specs.Queued.{unsent_of}
use Rattle.daemon.specs.Acts.{kept_by}
use Rattle.daemon.specs.Submits.{StepsIfDone, Submits, IsHeld}
use Rattle.daemon.specs.declared.answer.Submit.TheVariants.{Gone}
use Rattle.daemon.proofs.SubmitLemmas.{absent_unsent, unsent_count, uncounted, count_there}
use Rattle.daemon.proofs.service.Daemon.submit.Goals as goal

pub returns-in_default-clause-ok : goal.returns-in_default-clause-ok
returns-in_default-clause-ok c =
    let peers = c.self.inside.peers in
    subst (λ (k : Kept). Submits k c.args.conn c.args.message.now k Gone) c.self.view_is
    (absent_unsent peers c.self.invariant.sound c.args.conn (c.in_default.ensures.found ∙ ap (find nat_cmp c.args.conn) c.conns.ensures), refl)

pub returns-in_default-unsent-clause-ok : goal.returns-in_default-unsent-clause-ok
returns-in_default-unsent-clause-ok c =
    let queues = c.self.inside.peers.queues in
    subst (λ (k : Kept). Submits k c.args.conn c.args.message.now k Gone) c.self.view_is
    (uncounted c.args.conn (unsent_of queues) (c.in_default-unsent.ensures ∙ unsent_count c.args.conn queues), refl)

pub returns-then-unsent-ge-HELD_LIMIT-clause-ok : goal.returns-then-unsent-ge-HELD_LIMIT-clause-ok
returns-then-unsent-ge-HELD_LIMIT-clause-ok c =
    let queues = c.self.inside.peers.queues in
    let there = count_there c.in-Some-unsent.unsent c.args.conn (unsent_of queues) (c.in-Some-unsent.ensures ∙ unsent_count c.args.conn queues) in
    subst (λ (k : Kept). IsHeld k c.args.conn c.in-Some-unsent.unsent k) c.self.view_is
    (record { bytes = there.0; there = there.1; number = there.2; many = c.if-unsent-ge-HELD_LIMIT.true; same = refl })

pub submit_to-requires-clause-few : goal.submit_to-requires-clause-few
submit_to-requires-clause-few c = λ bytes found.
    let queues = c.self.inside.peers.queues in
    let there = count_there c.in-Some-unsent.unsent c.args.conn (unsent_of queues) (c.in-Some-unsent.ensures ∙ unsent_count c.args.conn queues) in
    let same : length there.0 ≡ length bytes = ap length (from_Some (sym there.1 ∙ found)) in
    omega (arith, same, there.2, c.if-unsent-ge-HELD_LIMIT.false)

pub returns-clause-step : goal.returns-clause-step
returns-clause-step c =
    subst (λ (k : Kept). IfOk c.submit_to.result (StepsIfDone k c.args.conn c.args.message.now (kept_by c.submit_to.new.tree c.submit_to.new.peers c.self.inside.globals))) c.self.view_is
    (c.submit_to.ensures.step c.self.inside.globals)

pub returns-clause-ok : goal.returns-clause-ok
returns-clause-ok c =
    subst (λ (k : Kept). IfOk c.submit_to.result (Submits k c.args.conn c.args.message.now (kept_by c.submit_to.new.tree c.submit_to.new.peers c.self.inside.globals))) c.self.view_is
    (c.submit_to.ensures.ok c.self.inside.globals)
