use Rattle.xs_base.proofs.PairLemmas.{ReadsPairs}
use Rattle.xs_base.proofs.hexadecimal.read_pairs.Given as goal

-- the pairs so far were read
abbrev pub invariant-loop-i : goal.invariant-loop-i
invariant-loop-i l = ReadsPairs l.text l.i l.into l.most
