use Rattle.xs_base.proofs.HexLemmas.{bytes_of_hex-hex}
use Rattle.xs_base.proofs.laws.hex_reads_back.Goals as goal

pub returns : goal.returns
returns c = bytes_of_hex-hex
