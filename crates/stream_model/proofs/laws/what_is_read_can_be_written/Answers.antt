use Rattle.stream_model.proofs.CanonicalIsStream.{stream_is_writable}
use Rattle.stream_model.proofs.laws.what_is_read_can_be_written.Goals as goal

pub returns : goal.returns
returns c = stream_is_writable
