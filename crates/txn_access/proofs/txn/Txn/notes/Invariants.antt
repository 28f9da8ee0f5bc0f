use Rattle.std.proofs.Common.{◌≡◌, drop}
use Rattle.mark_model.specs.Marks.{note_all}
use Rattle.txn_access.specs.Txns.{note_each}
use Rattle.txn_access.proofs.NoteLemmas.{StaysUnwanted}
use Rattle.txn_access.proofs.txn.Txn.notes.Given as goal

-- so far, and what is left
abbrev pub invariant-loop-path : goal.invariant-loop-path
invariant-loop-path l = record {
  rest : note_all l.fn.tree.nodes (drop l.path-index l.changed) (note_each l.notes.items l.fn.self.marks) ≡ note_all l.fn.tree.nodes l.changed l.fn.self.marks;
  stays : StaysUnwanted l.fn.self.marks l.notes.items;
}
