use Rattle.std.proofs.Common.{◌≡◌, ◌++◌, drop}
use Rattle.mark_model.specs.Marks.{written_paths}
use Rattle.path_map.specs.Chunks.{joined}
use Rattle.txn_access.proofs.plan.written.Given as goal

-- so far, and what is left
abbrev pub invariant-loop-part : goal.invariant-loop-part
invariant-loop-part l = l.paths ++ written_paths (joined (drop l.part-index l.parts)) ≡ written_paths (joined l.parts)
