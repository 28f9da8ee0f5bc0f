use Rattle.stream_model.proofs.CanonicalIsStream.{stream_is_writable}
use Rattle.mig_records.specs.RecordView.{records_of}
use Rattle.stream_tests.proofs.mig_records_calls.rewritten.Goals as goal

pub write_stream-requires-clause-ends : goal.write_stream-requires-clause-ends
write_stream-requires-clause-ends c =
    (stream_is_writable c.args.bytes.now (records_of c.in_ok-records.records) c.in_ok-records.ensures.found).ends

pub write_stream-requires-clause-lengths : goal.write_stream-requires-clause-lengths
write_stream-requires-clause-lengths c =
    (stream_is_writable c.args.bytes.now (records_of c.in_ok-records.records) c.in_ok-records.ensures.found).lengths
