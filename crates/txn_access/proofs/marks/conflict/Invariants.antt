use Rattle.std.proofs.Common.{◌≡◌, drop}
use Rattle.mark_model.specs.Marks.{first_conflict}
use Rattle.path_map.specs.Chunks.{joined}
use Rattle.txn_access.proofs.marks.conflict.Given as goal

-- none of those before has one
abbrev pub invariant-loop-part : goal.invariant-loop-part
invariant-loop-part l = first_conflict (joined (drop l.part-index l.parts)) ≡ first_conflict (joined l.parts)
