use Rattle.std.proofs.Common.{rules, ap, ◌∙◌}
use Rattle.store_turn.proofs.Moves.{looks}
use Rattle.store_turn.proofs.steps.wait.Goals as goal

pub load-requires : goal.load-requires
load-requires g c = let same = c.loop.invariant.2 in let w = c.requires.waits in (
  search rules,
  search rules,
  looks _ _ _ _ _ _ _ w.0 (ap (λ m. m.0.stage) same ∙ w.2) (ap (λ m. Rattle.std.proofs.Common.length m.0.known) same ∙ w.3),
)
