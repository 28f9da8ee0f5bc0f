use Rattle.std.proofs.Common.{rules}
use Rattle.stream_model.specs.Fields.{u32_at}
use Rattle.mig_records.proofs.fields.u32_at.Goals as goal

pub returns : goal.returns
unfolding u32_at
returns c = search rules
