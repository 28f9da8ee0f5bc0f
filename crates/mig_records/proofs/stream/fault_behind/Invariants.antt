use Rattle.std.proofs.Common.{◌≡◌, ◌-◌, ◌≤◌, length, drop}
use Rattle.std.specs.Result.{result_err}
use Rattle.stream_model.specs.Reading.{records_from}
use Rattle.mig_records.proofs.stream.fault_behind.Given as goal

-- the first fault from here on is that of all
abbrev pub invariant-loop-kind : goal.invariant-loop-kind
invariant-loop-kind l = record {
  within : l.at ≤ length l.bytes;
  same : result_err (records_from l.at 0 (drop l.at l.bytes)) ≡ result_err (records_from 16 0 (drop 16 l.bytes));
}

abbrev pub decreases-loop-kind : goal.decreases-loop-kind
decreases-loop-kind l = length l.bytes - l.at
