use Rattle.guest_script.proofs.ReadLemmas.{made_scripts_read}
use Rattle.guest_script.proofs.laws.made_scripts_read.Goals as goal

pub returns : goal.returns
returns c = made_scripts_read c.hex_reads_back.ensures c.decimal_reads_back.ensures
