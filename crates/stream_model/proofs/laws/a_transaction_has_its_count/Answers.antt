use Rattle.std.proofs.Common.{refl}
use Rattle.stream_model.specs.Fields.{u32_bytes, u16_bytes, u32_at}
use Rattle.stream_model.proofs.laws.a_transaction_has_its_count.Goals as goal

pub returns-clause-bytes : goal.returns-clause-bytes
unfolding u16_bytes u32_bytes
returns-clause-bytes c = refl

pub returns-clause-read : goal.returns-clause-read
unfolding u32_at
returns-clause-read c = refl

pub returns-clause-eight : goal.returns-clause-eight
unfolding u32_at
returns-clause-eight c = refl

pub returns-clause-eleven : goal.returns-clause-eleven
unfolding u32_at
returns-clause-eleven c = refl

pub returns-clause-fifteen : goal.returns-clause-fifteen
unfolding u32_at
returns-clause-fifteen c = refl
