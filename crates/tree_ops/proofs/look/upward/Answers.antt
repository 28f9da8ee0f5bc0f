use Rattle.std.proofs.Common.{◌-◌, arith}
use Rattle.tree_ops.proofs.SightLemmas.{up_step}
use Rattle.tree_ops.proofs.look.upward.Goals as goal

pub ups-preserved : goal.ups-preserved
ups-preserved c =
    let step = up_step c.args.path.now c.ups.at (c.ups.at - 1) c.ups.up c.pop.new.self c.ups.ups.items c.pop.result
    (omega (arith, c.ups-test.true)) (omega (arith, c.ups-test.true, c.ups.invariant.to)) c.ups.invariant.here c.ups.invariant.way c.pop.ensures.parent in
    record {
      from = omega (arith, c.ups-test.true);
      to = omega (arith, c.ups.invariant.to);
      here = step.0;
      way = rw (c.in_ok-push.ensures.items, c.in_ok-copy.ensures) step.1;
    }
