use Rattle.std.proofs.Common.{rules}
use Rattle.stream_model.specs.Fields.{u16_bytes, u32_bytes}
use Rattle.mig_save.proofs.connections.socket_bytes.Goals as goal

pub returns : goal.returns
unfolding u16_bytes u32_bytes
returns c = search rules
