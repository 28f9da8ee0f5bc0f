use Rattle.std.proofs.Common.{◌≡◌, drop}
use Rattle.xs_model.specs.Paths.{fault_from}
use Rattle.xs_path.proofs.fault.first_bad_place.Given as goal

-- the first fault is that of the bytes that are left
abbrev pub invariant-loop-at : goal.invariant-loop-at
invariant-loop-at l = fault_from l.at l.before (drop l.at l.bytes) ≡ fault_from 0 0 l.bytes
