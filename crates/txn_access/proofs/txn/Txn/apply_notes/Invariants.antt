use Rattle.std.proofs.Common.{◌≡◌, ◌≤◌, [], vec_len, reverse}
use Rattle.txn_access.specs.Txns.{note_each}
use Rattle.txn_access.proofs.txn.Txn.apply_notes.Given as goal

-- what is left to note completes the whole
abbrev pub invariant-left : goal.invariant-left
invariant-left l = record {
  rest : note_each (reverse l.left.items) l.self-inside.map.entries ≡ note_each l.fn.self.pending l.fn.self.marks;
  room : vec_len l.left ≤ l.self-inside.map.spare;
  count : l.self-inside.count ≡ l.fn.self.count;
  pending : l.self-inside.pending.items ≡ [];
}

abbrev pub decreases-left : goal.decreases-left
decreases-left l = vec_len l.left
