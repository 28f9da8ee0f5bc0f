use Rattle.machine_model.proofs.ReplyLemmas.{is_answered, not_answered}
use Rattle.machine_model.proofs.laws.each_request_has_one_reply.Goals as goal

pub returns : goal.returns
returns c = record { there = is_answered; gone = not_answered }
