use Rattle.std.proofs.Common.{sym, subst}
use Rattle.stream_model.specs.Spelling.{LengthsFit}
use Rattle.mig_records.specs.RecordView.{record_of}
use Rattle.mig_records.proofs.Written.{all_at, is_written}
use Rattle.mig_records.proofs.writing.write_stream.Goals as goal

pub write_record-requires : goal.write_record-requires
write_record-requires c =
    let is = rw c.as_slice-item-items.ensures at c.item-item.is in
    let lt = rw c.as_slice-item-items.ensures at c.loop-item-test.true in
    subst (λ r. LengthsFit (record_of r)) (sym is) (all_at LengthsFit c.args.records.now c.loop-item.item-index c.item-item.result lt c.requires.lengths)

pub returns-clause-stream : goal.returns-clause-stream
returns-clause-stream c =
    let le = rw c.as_slice-item-items.ensures at c.loop-item-test.false in
    is_written c.loop-item.out c.args.records.now c.loop-item.item-index le c.requires.ends c.requires.lengths c.loop-item.invariant.text c.loop-item.invariant.fit
