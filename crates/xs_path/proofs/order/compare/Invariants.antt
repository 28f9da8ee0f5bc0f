use Rattle.std.proofs.Common.{◌≡◌, drop}
use Rattle.xs_model.specs.Laws.{text_cmp}
use Rattle.xs_path.proofs.order.compare.Given as goal

-- what is left of the texts stands as the texts do
abbrev pub invariant-loop-at : goal.invariant-loop-at
invariant-loop-at l = text_cmp (drop l.at l.a) (drop l.at l.b) ≡ text_cmp l.a l.b
