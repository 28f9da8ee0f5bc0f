use Rattle.stream_model.proofs.PlaceLemmas.{stands}
use Rattle.stream_model.proofs.laws.records_stand_at_their_places.Goals as goal

pub returns : goal.returns
returns c = λ bytes records number stream lt. (stands bytes records number stream lt).spelled
