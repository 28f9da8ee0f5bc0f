use Rattle.std.proofs.Common.{◌≡◌, ◌≤◌, vec_len, reverse}
use Rattle.mark_model.specs.Marks.{access_all}
use Rattle.txn_access.proofs.txn.Txn.look.Given as goal

-- what is left to look at completes the whole
abbrev pub invariant-left : goal.invariant-left
invariant-left l = record {
  rest : access_all (reverse l.left.items) l.self-inside.map.entries ≡ access_all l.fn.paths l.fn.self.marks;
  room : vec_len l.left ≤ l.self-inside.map.spare;
  count : l.self-inside.count ≡ l.fn.self.count;
  kept : l.self-inside.map.kept ≤ l.fn.self.kept;
}

abbrev pub decreases-left : goal.decreases-left
decreases-left l = vec_len l.left
