use Rattle.std.proofs.Common.{◌≡◌, ◌+◌, ◌^◌, ◌<◌, ◌++◌, drop}
use Rattle.std.specs.Fmt.{decimal}
use Rattle.xs_perms.proofs.spelling.write_digits.Given as goal

-- the digits of what is left stand before those that are written, and there is room for them
abbrev pub invariant-loop-rest : goal.invariant-loop-rest
invariant-loop-rest l = record {
  digits : decimal l.rest ++ drop (l.start + 1) l.into ≡ decimal l.value;
  room : l.rest < 10 ^ (l.start + 1);
  within : l.start < 5;
}

abbrev pub decreases-loop-rest : goal.decreases-loop-rest
decreases-loop-rest l = l.rest
