use Rattle.std.proofs.Common.{◌≡◌, ◌++◌, drop}
use Rattle.xs_model.specs.Trees.{edit_paths}
use Rattle.xs_model.specs.Commands.{removals}
use Rattle.tree_ops.proofs.edits.copies.Given as goal

-- so far, and what is left
abbrev pub invariant-loop-path : goal.invariant-loop-path
invariant-loop-path l = l.paths ++ edit_paths (removals (drop l.path-index l.from)) ≡ edit_paths (removals l.from)
