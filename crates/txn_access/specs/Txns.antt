-- What contracts see of an open transaction. This project's own.
use Rattle.std.specs.Prelude.{◌≡◌, ◌≤◌, ℕ, Bool, true, false, List, [], ◌∷◌, length, Option, Some, None}
use Rattle.std.specs.FinMap.{is_sorted}
use Rattle.machine_model.specs.Transactions.{count_max}
use Rattle.mark_model.specs.Marks.{Mark, Seen, Changed, Wrote, Gone, Kept, Marks, note, note_all}
use Rattle.xs_model.specs.Paths.{Path, path_cmp}
use Rattle.xs_model.specs.Trees.{Node, Tree}

-- Its marks, and how many of its commands wrote something; for how many further marks it has memory, and how many chunks
-- without entries it keeps for them
pub record Txn : Type 0 where
  pub marks : Marks
  pub count : ℕ
  pub spare : ℕ
  pub kept : ℕ
  -- what it is to note once a change is made: paths, each with what stood there
  pub pending : List (Path × Option Node)

-- what holds of every transaction in memory
pub record IsTxn (txn : Txn) : Type 0 where
  pub rising : is_sorted path_cmp txn.marks ≡ true
  pub count : txn.count ≤ count_max

-- whether a change by others at a path with this mark, or with none, needs the node that stood there
abbrev pub wants_old : Option Mark → Bool
wants_old None = true
wants_old (Some Seen) = true
wants_old (Some (Changed old)) = false
wants_old (Some (Wrote others node)) = false
wants_old (Some (Gone others)) = false
wants_old (Some (Kept old)) = false

-- NOTES of paths that change, each with what stood there
abbrev pub note_each : List (Path × Option Node) → Marks → Marks
note_each [] marks = marks
note_each (e ∷ es) marks = note_each es (note e.0 e.1 marks)

-- it has planned what it notes once these paths of the tree change, and has memory for it
pub record Plans (tree : Tree) (changed : List Path) (txn : Txn) : Type 0 where
  pub noted : note_each txn.pending txn.marks ≡ note_all tree changed txn.marks
  pub room : length txn.pending ≤ txn.spare
