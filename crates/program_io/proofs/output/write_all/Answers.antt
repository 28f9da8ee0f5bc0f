use Rattle.std.proofs.Common.{arith}
use Rattle.program_io.proofs.EndLemmas.{appends_rest}
use Rattle.program_io.proofs.output.write_all.Goals as goal

pub loop-done-preserved : goal.loop-done-preserved
loop-done-preserved g c = record {
  inside = omega (arith, c.in_ok-done.ensures.bound);
  taken = appends_rest _ _ _ c.args.text.now c.loop-done.done c.in_ok-done.field-0 c.loop-done.invariant.taken c.in_ok-done.ensures.bytes;
  counts = omega (arith, c.in_ok-done.ensures.counts);
}
