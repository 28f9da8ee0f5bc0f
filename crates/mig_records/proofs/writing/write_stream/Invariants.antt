use Rattle.std.proofs.Common.{◌≡◌, ◌++◌, take}
use Rattle.std.specs.List.{flat_map, AllByRecursion}
use Rattle.stream_model.specs.Spelling.{header, canonical_record, NumbersFit}
use Rattle.mig_records.specs.RecordView.{records_of}
use Rattle.mig_records.proofs.writing.write_stream.Given as goal

abbrev pub invariant-loop-item : goal.invariant-loop-item
invariant-loop-item l = record {
  text : l.out ≡ header ++ flat_map canonical_record (records_of (take l.item-index l.records));
  fit : AllByRecursion NumbersFit (records_of (take l.item-index l.records));
}
