-- What came of a command. This project's own.
use Rattle.std.specs.Prelude.{◌≡◌}
use Rattle.tree_ops.specs.declared.did.Did.{Did}
use Rattle.xs_model.specs.Trees.{Tree}
use Rattle.xs_model.specs.Commands.{Outcome}

-- it was answered so, looked at these paths and wrote those, and left this tree
pub record IsOutcome (outcome : Outcome) (did : Did) (new : Tree) : Type 0 where
  pub reply : did.reply ≡ outcome.reply
  pub tree : new ≡ outcome.tree
  pub touched : did.touched ≡ outcome.touched
  pub written : did.written ≡ outcome.written
