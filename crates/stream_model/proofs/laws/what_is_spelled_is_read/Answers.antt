use Rattle.stream_model.proofs.SpelledIsRead.{stream_of-spelled}
use Rattle.stream_model.proofs.laws.what_is_spelled_is_read.Goals as goal

pub returns : goal.returns
returns c = stream_of-spelled
