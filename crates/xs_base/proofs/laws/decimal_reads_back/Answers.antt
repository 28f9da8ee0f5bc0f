use Rattle.xs_base.proofs.DecimalLemmas.{number_of-decimal}
use Rattle.xs_base.proofs.laws.decimal_reads_back.Goals as goal

pub returns : goal.returns
returns c = number_of-decimal
