use Rattle.std.proofs.Common.{refl}
use Rattle.std.specs.Fmt.{digits}
use Rattle.stream_model.specs.Fields.{u16_bytes, u32_bytes, u16_at, u32_at}
use Rattle.stream_model.specs.Spelling.{header}
use Rattle.stream_model.proofs.laws.the_empty_store.Goals as goal

pub returns-clause-bytes : goal.returns-clause-bytes
unfolding header u16_bytes u32_bytes
returns-clause-bytes c = refl

pub returns-clause-read : goal.returns-clause-read
unfolding header u16_bytes u32_bytes u16_at u32_at
returns-clause-read c = refl

pub returns-clause-lines : goal.returns-clause-lines
unfolding header u16_bytes u32_bytes u16_at u32_at digits
returns-clause-lines c = refl
