use Rattle.std.proofs.Common.{◌≡◌, ◌-◌, ◌*◌, ◌++◌, drop}
use Rattle.stream_model.specs.Reading.{entries_in}
use Rattle.mig_records.proofs.reading.entries_in.Given as goal

abbrev pub invariant-loop-number : goal.invariant-loop-number
invariant-loop-number l = l.perms ++ entries_in (l.count - l.number) (drop (4 * l.number) l.bytes) ≡ entries_in l.count l.bytes
