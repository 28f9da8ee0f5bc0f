use Rattle.std.proofs.Common.{arith}
use Rattle.std.proofs.lemmas.Bool.{ltb-true}
use Rattle.xs_base.proofs.PairLemmas.{pair_read, pairs_read}
use Rattle.xs_base.proofs.hexadecimal.read_pairs.Goals as goal

pub loop-i-preserved : goal.loop-i-preserved
loop-i-preserved c =
    pair_read c.args.text.now c.loop-i.into c.loop-i.i c.value_of-high.result c.value_of-low.result c.loop-i.most c.max-most.result
    (omega arith) (omega arith) c.value_of-high.ensures.value c.value_of-low.ensures.value (omega arith) (omega arith) (omega arith) c.loop-i.invariant

pub returns : goal.returns
returns c = λ is. pairs_read c.args.text.now c.loop-i.into c.loop-i.i c.loop-i.most (omega arith) (omega arith) (ltb-true c.loop-i.most 16 is) c.loop-i.invariant
