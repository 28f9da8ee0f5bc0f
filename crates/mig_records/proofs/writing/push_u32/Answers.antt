use Rattle.std.proofs.Common.{rules}
use Rattle.stream_model.specs.Fields.{u32_bytes}
use Rattle.mig_records.proofs.writing.push_u32.Goals as goal

pub returns : goal.returns
unfolding u32_bytes
returns c = search rules
