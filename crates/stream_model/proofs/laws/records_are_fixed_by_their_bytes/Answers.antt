use Rattle.stream_model.proofs.SpelledIsRead.{same_records}
use Rattle.stream_model.proofs.laws.records_are_fixed_by_their_bytes.Goals as goal

pub returns : goal.returns
returns c = same_records
