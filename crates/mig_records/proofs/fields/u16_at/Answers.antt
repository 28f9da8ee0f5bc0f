use Rattle.std.proofs.Common.{rules}
use Rattle.stream_model.specs.Fields.{u16_at}
use Rattle.mig_records.proofs.fields.u16_at.Goals as goal

pub returns : goal.returns
unfolding u16_at
returns c = search rules
