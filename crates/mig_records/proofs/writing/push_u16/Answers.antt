use Rattle.std.proofs.Common.{rules}
use Rattle.stream_model.specs.Fields.{u16_bytes}
use Rattle.mig_records.proofs.writing.push_u16.Goals as goal

pub returns : goal.returns
unfolding u16_bytes
returns c = search rules
