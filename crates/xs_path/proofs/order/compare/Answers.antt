use Rattle.std.proofs.Common.{◌≡◌, ◌∙◌, length, min, arith}
use Rattle.xs_path.proofs.Ordered.{text_cmp-ended}
use Rattle.xs_path.proofs.order.compare.Goals as goal

pub returns : goal.returns
returns c =
    let ended : c.loop-at.at ≡ min (length c.args.a.now) (length c.args.b.now) = omega (arith, c.min-shared.ensures, c.loop-at.auto.at-end, c.loop-at-test.false) in
    c.cmp-2.ensures ∙ text_cmp-ended c.args.a.now c.args.b.now c.loop-at.at ended ∙ c.loop-at.invariant
