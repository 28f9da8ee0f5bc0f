use Rattle.std.proofs.Common.{◌≡◌, ◌++◌, drop}
use Rattle.xs_model.specs.Trees.{edit_paths}
use Rattle.tree_ops.specs.Answers.{sets}
use Rattle.tree_ops.proofs.edits.set_paths.Given as goal

-- so far, and what is left
abbrev pub invariant-loop-entry : goal.invariant-loop-entry
invariant-loop-entry l = l.paths ++ edit_paths (sets (drop l.entry-index l.entries)) ≡ edit_paths (sets l.entries)
