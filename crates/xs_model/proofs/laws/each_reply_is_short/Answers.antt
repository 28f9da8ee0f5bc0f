use Rattle.xs_model.proofs.ShortLemmas.{reply_short}
use Rattle.xs_model.proofs.laws.each_reply_is_short.Goals as goal

pub returns : goal.returns
returns c = reply_short
