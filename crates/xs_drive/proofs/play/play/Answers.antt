use Rattle.std.proofs.Common.{◌≡◌, ◌+◌, map, drop, sym, subst, arith}
use Rattle.guest_script.specs.declared.event.Event.{Event}
use Rattle.guest_script.specs.Views.{event_view}
use Rattle.world_core.specs.Stands.{Moves}
use Rattle.xs_drive.specs.Play.{Prints, PrintsNothing, RunsFrontFrom}
use Rattle.xs_drive.proofs.PlayLemmas.{moves_at, begins, one_more, some_written, stopped, starved, all_done, of_is_err, of_is_ok, always_err}
use Rattle.xs_drive.proofs.StepLemmas.{told_by}
use Rattle.xs_drive.proofs.play.play.Goals as goal

pub print_step-requires : goal.print_step-requires
print_step-requires g c =
    let is = rw c.as_slice-event-items.ensures at c.event-item.is in
    let lt = rw c.as_slice-event-items.ensures at c.loop-event-test.true in
    subst (λ (e : Event). Moves (event_view e)) (sym is) (moves_at c.args.events.now c.loop-event.event-index c.event-item.result c.requires lt)

pub loop-event-init : goal.loop-event-init
loop-event-init g c =
    let v = g.V.Vault in
    let told = told_by v.puts v.gets v.faults v.honest in
    let written = g.K.Sink.written in
    let events = map event_view c.args.events.now in
    record {
      going = λ w stands. begins w events (told c.args.vault.now) (written c.args.out.now) c.args.world c.new-lines.result c.new-lines.ensures stands;
      counts = omega arith;
    }

pub returns-then-is_err-clause-err : goal.returns-then-is_err-clause-err
returns-then-is_err-clause-err g c =
    let v = g.V.Vault in
    let told = told_by v.puts v.gets v.faults v.honest in
    let written = g.K.Sink.written in
    let events = map event_view c.args.events.now in
    let is = rw c.as_slice-event-items.ensures at c.event-item.is in
    let lt = rw c.as_slice-event-items.ensures at c.loop-event-test.true in
    let same = of_is_err c.print_step.result c.is_err.result (c.print_step.new.lines ≡ c.loop-event.lines) c.is_err.ensures.value c.if-is_err.true c.print_step.ensures.err in
    let nothing = of_is_err c.print_step.result c.is_err.result (PrintsNothing c.loop-event.world (event_view c.event-item.result) (told c.loop-event.vault) (told c.print_step.new.vault)) c.is_err.ensures.value c.if-is_err.true c.print_step.ensures.nothing in
    λ w stands. starved w events (told c.args.vault.now) (written c.args.out.now) c.loop-event.world c.args.events.now c.loop-event.event-index c.event-item.result
    (told c.loop-event.vault) (told c.print_step.new.vault) (written c.loop-event.out) (written c.write_all-written.new.out) c.loop-event.lines lt is
    (c.loop-event.invariant.going w stands) nothing (rw (c.as_slice.ensures, same) at c.write_all-written.ensures.front)

pub returns-in_err-write_if_many-clause-err : goal.returns-in_err-write_if_many-clause-err
returns-in_err-write_if_many-clause-err g c =
    let v = g.V.Vault in
    let told = told_by v.puts v.gets v.faults v.honest in
    let written = g.K.Sink.written in
    let events = map event_view c.args.events.now in
    let is = rw c.as_slice-event-items.ensures at c.event-item.is in
    let lt = rw c.as_slice-event-items.ensures at c.loop-event-test.true in
    let prints = of_is_ok c.print_step.result c.is_err.result (Prints c.loop-event.world (event_view c.event-item.result) c.loop-event.lines (told c.loop-event.vault) c.print_step.new.world c.print_step.new.lines (told c.print_step.new.vault)) c.is_err.ensures.value c.if-is_err.false c.print_step.ensures.ok in
    always_err c.from_residual.result (RunsFrontFrom c.args.world events (written c.args.out.now) (written c.write_if_many.new.out) (told c.args.vault.now) (told c.print_step.new.vault))
    (λ w stands. stopped w events (told c.args.vault.now) (written c.args.out.now) c.print_step.new.world (drop (c.loop-event.event-index + 1) events) (told c.print_step.new.vault) (written c.loop-event.out) (written c.write_if_many.new.out) c.print_step.new.lines
    (one_more w events (told c.args.vault.now) (written c.args.out.now) c.loop-event.world c.print_step.new.world c.args.events.now c.loop-event.event-index c.event-item.result (told c.loop-event.vault) (told c.print_step.new.vault) (written c.loop-event.out) c.loop-event.lines c.print_step.new.lines lt is (c.loop-event.invariant.going w stands) prints)
    c.in_err-write_if_many.ensures.front)

pub loop-event-preserved : goal.loop-event-preserved
loop-event-preserved g c =
    let v = g.V.Vault in
    let told = told_by v.puts v.gets v.faults v.honest in
    let written = g.K.Sink.written in
    let events = map event_view c.args.events.now in
    let is = rw c.as_slice-event-items.ensures at c.event-item.is in
    let lt = rw c.as_slice-event-items.ensures at c.loop-event-test.true in
    let prints = of_is_ok c.print_step.result c.is_err.result (Prints c.loop-event.world (event_view c.event-item.result) c.loop-event.lines (told c.loop-event.vault) c.print_step.new.world c.print_step.new.lines (told c.print_step.new.vault)) c.is_err.ensures.value c.if-is_err.false c.print_step.ensures.ok in
    record {
      going = λ w stands. some_written w events (told c.args.vault.now) (written c.args.out.now) c.print_step.new.world (drop (c.loop-event.event-index + 1) events) (told c.print_step.new.vault) (written c.loop-event.out) (written c.write_if_many.new.out) c.print_step.new.lines c.write_if_many.new.lines
          (one_more w events (told c.args.vault.now) (written c.args.out.now) c.loop-event.world c.print_step.new.world c.args.events.now c.loop-event.event-index c.event-item.result (told c.loop-event.vault) (told c.print_step.new.vault) (written c.loop-event.out) c.loop-event.lines c.print_step.new.lines lt is (c.loop-event.invariant.going w stands) prints)
          c.in_ok-write_if_many.ensures.ok;
      counts = omega (arith, c.in_ok-write_if_many.ensures.counts, c.loop-event.invariant.counts);
    }

pub returns-in_err-write_all-clause-err : goal.returns-in_err-write_all-clause-err
returns-in_err-write_all-clause-err g c =
    let v = g.V.Vault in
    let told = told_by v.puts v.gets v.faults v.honest in
    let written = g.K.Sink.written in
    let events = map event_view c.args.events.now in
    always_err c.from_residual-in_err-write_all.result (RunsFrontFrom c.args.world events (written c.args.out.now) (written c.write_all.new.out) (told c.args.vault.now) (told c.loop-event.vault))
    (λ w stands. stopped w events (told c.args.vault.now) (written c.args.out.now) c.loop-event.world (drop c.loop-event.event-index events) (told c.loop-event.vault) (written c.loop-event.out) (written c.write_all.new.out) c.loop-event.lines (c.loop-event.invariant.going w stands)
    (rw c.as_slice-2.ensures at c.write_all.ensures.front))

pub returns-clause-ok : goal.returns-clause-ok
returns-clause-ok g c =
    let v = g.V.Vault in
    let told = told_by v.puts v.gets v.faults v.honest in
    let written = g.K.Sink.written in
    let events = map event_view c.args.events.now in
    let le = rw c.as_slice-event-items.ensures at c.loop-event-test.false in
    let all = rw c.as_slice-2.ensures at c.in_ok-write_all.ensures.ok in
    λ w stands. all_done w events (told c.args.vault.now) (written c.args.out.now) c.loop-event.world c.args.events.now c.loop-event.event-index (told c.loop-event.vault) (written c.loop-event.out) (written c.write_all.new.out) c.loop-event.lines le (c.loop-event.invariant.going w stands) all
