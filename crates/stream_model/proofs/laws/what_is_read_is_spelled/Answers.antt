use Rattle.stream_model.proofs.ReadIsSpelled.{is_stream}
use Rattle.stream_model.proofs.laws.what_is_read_is_spelled.Goals as goal

pub returns : goal.returns
returns c = is_stream
