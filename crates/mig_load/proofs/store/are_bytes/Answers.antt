use Rattle.std.proofs.Common.{◌<◌}
use Rattle.mig_records.proofs.Written.{all_more}
use Rattle.mig_load.proofs.store.are_bytes.Goals as goal

pub loop-byte-preserved : goal.loop-byte-preserved
loop-byte-preserved c = all_more (λ b. b < 256) c.args.bytes.now c.loop-byte.byte-index 0 c.loop-byte-test.true c.loop-byte.invariant c.is_byte.ensures
