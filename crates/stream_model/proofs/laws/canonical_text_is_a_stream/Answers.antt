use Rattle.stream_model.proofs.CanonicalIsStream.{canonical_is_stream}
use Rattle.stream_model.proofs.laws.canonical_text_is_a_stream.Goals as goal

pub returns : goal.returns
returns c = canonical_is_stream
