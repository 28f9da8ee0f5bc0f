use Rattle.msg_reassembly.proofs.CutLemmas.{cuts_do_not_matter}
use Rattle.msg_reassembly.proofs.laws.cuts_do_not_matter.Goals as goal

pub returns : goal.returns
returns c = cuts_do_not_matter
