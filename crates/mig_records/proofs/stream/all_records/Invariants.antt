use Rattle.std.proofs.Common.{◌≡◌, ◌++◌, length, Ok}
use Rattle.stream_model.specs.Reading.{stream_of}
use Rattle.mig_records.specs.RecordView.{records_of}
use Rattle.mig_records.proofs.stream.all_records.Given as goal

-- what was read and what the reader has left are all records
abbrev pub invariant-loop-records : goal.invariant-loop-records
invariant-loop-records l = stream_of l.bytes ≡ Ok (records_of l.records ++ l.reader.records)

abbrev pub decreases-loop-records : goal.decreases-loop-records
decreases-loop-records l = length l.reader.records
