use Rattle.std.proofs.Common.{map, sym, subst}
use Rattle.guest_script.specs.declared.event.Event.{Event}
use Rattle.guest_script.specs.Views.{event_view}
use Rattle.world_core.specs.Stands.{Moves}
use Rattle.xs_drive.specs.Counts.{StopsFrom}
use Rattle.xs_drive.proofs.PlayLemmas.{moves_at, always_err}
use Rattle.xs_drive.proofs.CountLemmas.{begins, one_more, stops, all_counted}
use Rattle.xs_drive.proofs.StepLemmas.{told_by}
use Rattle.xs_drive.proofs.counting.count_all.Goals as goal

pub count_step-requires : goal.count_step-requires
count_step-requires g c =
    let is = rw c.as_slice-event-items.ensures at c.event-item.is in
    let lt = rw c.as_slice-event-items.ensures at c.loop-event-test.true in
    subst (λ (e : Event). Moves (event_view e)) (sym is) (moves_at c.args.events.now c.loop-event.event-index c.event-item.result c.requires lt)

pub loop-event-init : goal.loop-event-init
loop-event-init g c =
    let v = g.V.Vault in
    let told = told_by v.puts v.gets v.faults v.honest in
    λ w stands. begins w (map event_view c.args.events.now) (told c.args.vault.now) c.args.world c.new-counts.result c.new-counts.ensures stands

pub loop-event-preserved : goal.loop-event-preserved
loop-event-preserved g c =
    let v = g.V.Vault in
    let told = told_by v.puts v.gets v.faults v.honest in
    let is = rw c.as_slice-event-items.ensures at c.event-item.is in
    let lt = rw c.as_slice-event-items.ensures at c.loop-event-test.true in
    λ w stands. one_more w (map event_view c.args.events.now) (told c.args.vault.now) c.loop-event.world c.count_step.new.world c.args.events.now c.loop-event.event-index c.event-item.result
    (told c.loop-event.vault) (told c.count_step.new.vault) c.loop-event.counts c.count_step.new.counts lt is (c.loop-event.invariant w stands) c.in_ok-count_step.ensures.ok

pub returns-in_err-count_step-clause-err : goal.returns-in_err-count_step-clause-err
returns-in_err-count_step-clause-err g c =
    let v = g.V.Vault in
    let told = told_by v.puts v.gets v.faults v.honest in
    let is = rw c.as_slice-event-items.ensures at c.event-item.is in
    let lt = rw c.as_slice-event-items.ensures at c.loop-event-test.true in
    always_err c.from_residual.result (StopsFrom c.args.world (map event_view c.args.events.now) (told c.args.vault.now) (told c.count_step.new.vault))
    (λ w stands. stops w (map event_view c.args.events.now) (told c.args.vault.now) c.loop-event.world c.args.events.now c.loop-event.event-index c.event-item.result
    (told c.loop-event.vault) (told c.count_step.new.vault) c.loop-event.counts lt is (c.loop-event.invariant w stands) c.in_err-count_step.ensures.nothing)

pub returns-clause-ok : goal.returns-clause-ok
returns-clause-ok g c =
    let v = g.V.Vault in
    let told = told_by v.puts v.gets v.faults v.honest in
    let le = rw c.as_slice-event-items.ensures at c.loop-event-test.false in
    λ w stands. all_counted w (map event_view c.args.events.now) (told c.args.vault.now) c.loop-event.world c.args.events.now c.loop-event.event-index (told c.loop-event.vault) c.loop-event.counts le (c.loop-event.invariant w stands)
