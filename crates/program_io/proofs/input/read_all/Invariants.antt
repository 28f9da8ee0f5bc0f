use Rattle.std.proofs.Common.{◌≤◌, ◌-◌, ◌+◌, vec_len}
use Rattle.std.specs.Io.KnownBytes.{Consumes}
use Rattle.xs_base.specs.Faults.{NeverFalls}
use Rattle.program_io.specs.Ends.{input_limit}
use Rattle.program_io.proofs.input.read_all.Given as goal

-- the source gave what was read, and the count of its faults is no lower
abbrev pub invariant-loop-count : goal.invariant-loop-count
invariant-loop-count g l =
    let source = g.S.Source in
    record {
      given : Consumes (source.left l.fn.src) (source.left l.src) l.text.items;
      short : vec_len l.text ≤ input_limit;
      counts : NeverFalls (source.faults l.fn.src) (source.faults l.src);
    }

abbrev pub decreases-loop-count : goal.decreases-loop-count
decreases-loop-count g l = input_limit + 1 - vec_len l.text
