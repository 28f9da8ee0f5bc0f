use Rattle.msg_reassembly.proofs.CutLemmas.{splits_one_way}
use Rattle.msg_reassembly.proofs.laws.splits_one_way.Goals as goal

pub returns : goal.returns
returns c = splits_one_way
