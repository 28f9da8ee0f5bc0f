-- The laws that join marks to the sequential store, as statements. Each is proved of a function in `src/laws.rt`.
use Rattle.std.specs.Prelude.{◌≡◌, ◌≤◌, ℕ, true, false, List, []}
use Rattle.std.specs.FinMap.{is_sorted}
use Rattle.xs_model.specs.Paths.{Path, path_cmp, has_path}
use Rattle.xs_model.specs.Trees.{Tree, Edit, IsTree, edited, edit_paths}
use Rattle.machine_model.specs.Transactions.{Transaction, Ran, started, with_command, with_others, outcome_on, run_on, after, wrote, count, count_max, is_in_conflict}
use Rattle.machine_model.specs.Connections.{Connections}
use Rattle.machine_model.specs.Machine.{Machine, Item, step_with, change_sends}
use Rattle.machine_model.specs.Serial.{IsOpenOver, IsFollowed}
use Rattle.machine_model.specs.Limits.{HasIds}
use Rattle.mark_model.specs.Marks.{Marks, overlay, committed, written_paths, access_all, write_all, note_all, has_conflict, AreOver}
use Rattle.mark_model.specs.Open.{marks_of, begun}
use Rattle.mark_model.specs.Stores.{KeptStore, IsKeptStore, kept_of, begun_machine, kept_step, edits_of, changed_store}

-- TRANSACTIONS. One that was just started keeps nothing
abbrev pub StartKeepsNothing : Type 0
StartKeepsNothing = (tree : Tree) → marks_of (started tree) ≡ []

-- a command writes its edits, and looks at its paths
abbrev pub CommandsMark : Type 0
CommandsMark =
    (t : Transaction) (ran : Ran)
    → marks_of (with_command ran t) ≡ access_all (outcome_on (after t) ran).touched (write_all (edits_of (after t) ran) (marks_of t))

-- others' changes are noted, with what stood in the tree before them
abbrev pub OthersAreNoted : Type 0
OthersAreNoted =
    (tree : Tree) (t : Transaction) (paths : List Path) → IsOpenOver tree t → marks_of (with_others paths t) ≡ note_all tree paths (marks_of t)

-- the transaction sees the tree with its marks
abbrev pub MarksShowWhatIsSeen : Type 0
MarksShowWhatIsSeen = (tree : Tree) (t : Transaction) → IsTree tree → IsOpenOver tree t → overlay tree (marks_of t) ≡ after t

abbrev pub ConflictsAgree : Type 0
ConflictsAgree = (t : Transaction) → has_conflict (marks_of t) ≡ is_in_conflict t

-- without a conflict, what the marks make of the tree is what the commands make of it
abbrev pub CommitsAgree : Type 0
CommitsAgree =
    (tree : Tree) (t : Transaction) → IsTree tree → IsOpenOver tree t → is_in_conflict t ≡ false
    → committed tree (marks_of t) ≡ (run_on tree t).tree

-- two lists with the same paths
abbrev pub HaveSame : List Path → List Path → Type 0
HaveSame ps qs = (p : Path) → has_path p ps ≡ has_path p qs

abbrev pub MarksKnowWhatWasWritten : Type 0
MarksKnowWhatWasWritten = (t : Transaction) → HaveSame (written_paths (marks_of t)) (wrote t)

-- what an open transaction keeps is over the tree
abbrev pub OpenIsOver : Type 0
OpenIsOver = (tree : Tree) (t : Transaction) → IsTree tree → IsOpenOver tree t → AreOver tree (marks_of t)

-- THE OTHER WAY. What goes on with marks keeps these marks and this count
abbrev pub BegunKeepsMarks : Type 0
BegunKeepsMarks = (tree : Tree) (marks : Marks) (n : ℕ) → is_sorted path_cmp marks ≡ true → marks_of (begun tree marks n) ≡ marks

abbrev pub BegunKeepsCount : Type 0
BegunKeepsCount = (tree : Tree) (marks : Marks) (n : ℕ) → n ≤ count_max → count (begun tree marks n) ≡ n

-- and is open over the tree
abbrev pub BegunIsOpen : Type 0
BegunIsOpen = (tree : Tree) (marks : Marks) (n : ℕ) → AreOver tree marks → IsOpenOver tree (begun tree marks n)

-- STEPS. What is kept after a step follows from what was kept before it, and so does what is sent: two stores of which
-- the same is kept send the same for ever
pub record IsKeptStep (served : List ℕ) (m : Machine) (item : Item) : Type 0 where
  pub store : kept_of (step_with served m item).0 ≡ (kept_step served (kept_of m) item).0
  pub sends : (step_with served m item).1 ≡ (kept_step served (kept_of m) item).1

abbrev pub StepsAreKept : Type 0
StepsAreKept = (served : List ℕ) (m : Machine) (item : Item) → IsFollowed m → HasIds m.conns → IsKeptStep served m item

-- what is kept of a store of a run is of the kind that steps keep
abbrev pub FollowedIsKept : Type 0
FollowedIsKept = (m : Machine) → IsFollowed m → HasIds m.conns → IsKeptStore (kept_of m)

-- what is kept of a begun store is what it began from
abbrev pub BegunKeepsStore : Type 0
BegunKeepsStore = (k : KeptStore) → IsKeptStore k → kept_of (begun_machine k) ≡ k

pub record IsBegun (m : Machine) : Type 0 where
  pub followed : IsFollowed m
  pub ids : HasIds m.conns

abbrev pub BegunIsFollowed : Type 0
BegunIsFollowed = (k : KeptStore) → IsKeptStore k → IsBegun (begun_machine k)

abbrev pub StepsKeepStores : Type 0
StepsKeepStores = (served : List ℕ) (k : KeptStore) (item : Item) → IsKeptStore k → IsKeptStore (kept_step served k item).0

-- ONE WAY FOR A CHANGE. Edits that are made through marks of their own are made at the commit, and conflict with nothing
pub record IsMadeByMarks (tree : Tree) (es : List Edit) (touched : List Path) : Type 0 where
  pub seen : overlay tree (access_all touched (write_all es [])) ≡ edited tree es
  pub made : committed tree (access_all touched (write_all es [])) ≡ edited tree es
  pub paths : HaveSame (written_paths (access_all touched (write_all es []))) (edit_paths es)
  pub free : has_conflict (access_all touched (write_all es [])) ≡ false

abbrev pub EditsGoThroughMarks : Type 0
EditsGoThroughMarks = (tree : Tree) (es : List Edit) (touched : List Path) → is_sorted path_cmp tree ≡ true → IsMadeByMarks tree es touched

-- and the order and the doubles of the written paths change nothing
pub record IsSameChange (tree : Tree) (ps qs : List Path) (k : KeptStore) (conns : Connections) : Type 0 where
  pub store : changed_store tree ps k ≡ changed_store tree qs k
  pub sends : change_sends k.machine.tree ps tree conns ≡ change_sends k.machine.tree qs tree conns

abbrev pub SamePathsAreSameChange : Type 0
SamePathsAreSameChange =
    (tree : Tree) (ps qs : List Path) (k : KeptStore) (conns : Connections) → IsKeptStore k → HaveSame ps qs → IsSameChange tree ps qs k conns
