use Rattle.std.proofs.Common.{◌≤◌, ◌-◌, length, take}
use Rattle.std.specs.Io.KnownBytes.{Appends}
use Rattle.xs_base.specs.Faults.{NeverFalls}
use Rattle.program_io.proofs.output.write_all.Given as goal

-- the sink took the bytes so far, and the count of its faults is no lower
abbrev pub invariant-loop-done : goal.invariant-loop-done
invariant-loop-done g l =
    let sink = g.K.Sink in
    record {
      inside : l.done ≤ length l.text;
      taken : Appends (sink.written l.fn.out) (sink.written l.out) (take l.done l.text);
      counts : NeverFalls (sink.faults l.fn.out) (sink.faults l.out);
    }

abbrev pub decreases-loop-done : goal.decreases-loop-done
decreases-loop-done g l = length l.text - l.done
