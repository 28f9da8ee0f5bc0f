-- Transactions (xenstore.txt, "Transactions"). A transaction works on the tree as it stood at its start. At its end
-- its commands are run again on the current tree, unless somebody else changed a path that it accessed. Which paths it
-- accessed and which were changed is this project's own rule:
--
--   accessed   every path that its commands looked at, and every path that they wrote
--   others     the changed paths of every change since its start that it did not make itself
--
-- Four conflicts, of transaction 1 with a writer outside it. The answer is that of its END:
--
--   1. 1 reads /a = x. The other writes /a = x again. /a is in others and was accessed, though no value differs: EAGAIN.
--   2. /d is there. 1 creates /d/x, the other creates /d/y. 1 looked at /d, whose list of children changed: EAGAIN.
--   3. 1 reads /q/r: neither is there. It looked at /, /q and /q/r. The other creates /q, so / and /q changed: EAGAIN.
--   4. 1 did nothing. The other writes /a. Nothing that 1 accessed changed: OK, and its number is free again.
use Rattle.std.specs.Prelude.{ℕ, ◌+◌, Bool, List, [], ◌∷◌, ◌++◌, nat_lt, if◌then◌else◌}
use Rattle.std.specs.List.{list_any}
use Rattle.std.specs.Prelude.{Result}
use Rattle.xs_model.specs.declared.message.WireErr.{WireErr}
use Rattle.xs_model.specs.Paths.{Path, has_path}
use Rattle.xs_model.specs.Perms.{Caller}
use Rattle.xs_model.specs.Trees.{Tree, Edit, edited, edit_paths}
use Rattle.xs_model.specs.Requests.{Operation}
use Rattle.xs_model.specs.Commands.{Outcome, command}

-- a command that a transaction ran, as whom
pub record Ran : Type 0 where
  pub operation : Operation
  pub path : Path
  pub caller : Caller
  -- the number that DIRECTORY_PART shows: the transaction's count when the command came
  pub number : ℕ

-- What a transaction brought along from a migration stream: the edits that it had made, the paths that it had looked
-- at, and its count. A transaction that was started here brought nothing.
pub record Prior : Type 0 where
  pub edits : List Edit
  pub seen : List Path
  pub count : ℕ

abbrev pub no_prior : Prior
no_prior = record { edits = []; seen = []; count = 0 }

pub record Transaction : Type 0 where
  -- the tree at its start
  pub copy : Tree
  pub prior : Prior
  -- its commands, in order
  pub list : List Ran
  -- the paths that others changed since its start
  pub others : List Path

abbrev pub started : Tree → Transaction
started tree = record { copy = tree; prior = no_prior; list = []; others = [] }

-- RUNNING. What a list of commands makes of a tree: the replies in order, the tree after them, all paths that they
-- looked at and wrote, and how many of them wrote any
pub record Ending : Type 0 where
  pub replies : List (Result (List ℕ) WireErr)
  pub tree : Tree
  pub touched : List Path
  pub written : List Path
  pub changes : ℕ

abbrev pub if_any : List Path → ℕ → ℕ
if_any [] n = n
if_any (p ∷ ps) n = n + 1

abbrev pub onto_ending : Outcome → Ending → Ending
onto_ending first later = record {
  replies = first.reply ∷ later.replies;
  tree = later.tree;
  touched = first.touched ++ later.touched;
  written = first.written ++ later.written;
  changes = if_any first.written later.changes;
}

abbrev pub outcome_on : Tree → Ran → Outcome
outcome_on tree ran = command ran.operation ran.path ran.caller ran.number tree

abbrev pub run_list : Tree → List Ran → Ending
run_list tree [] = record { replies = []; tree = tree; touched = []; written = []; changes = 0 }
run_list tree (ran ∷ list) = onto_ending (outcome_on tree ran) (run_list (outcome_on tree ran).tree list)

-- what a transaction makes of a tree: first the edits that it brought along, then its commands
abbrev pub run_on : Tree → Transaction → Ending
run_on tree t = run_list (edited tree t.prior.edits) t.list

-- the tree that the transaction sees
abbrev pub after : Transaction → Tree
after t = (run_on t.copy t).tree

-- the paths that it wrote
abbrev pub wrote : Transaction → List Path
wrote t = edit_paths t.prior.edits ++ (run_on t.copy t).written

-- the paths that it looked at or wrote
abbrev pub accessed : Transaction → List Path
accessed t = t.prior.seen ++ (edit_paths t.prior.edits ++ ((run_on t.copy t).touched ++ (run_on t.copy t).written))

-- COUNT. How many of its commands wrote something, and those before it came with a stream. It has 32 bits, and stands
-- still at the last of them. DIRECTORY_PART shows it inside the transaction.
abbrev pub count_max : ℕ
count_max = 4294967295

abbrev pub within_count : ℕ → ℕ
within_count n = if nat_lt n count_max then n else count_max

abbrev pub count : Transaction → ℕ
count t = within_count (t.prior.count + (run_on t.copy t).changes)

-- whether somebody else changed a path that it accessed
abbrev pub is_in_conflict : Transaction → Bool
is_in_conflict t = list_any (λ p. has_path p t.others) (accessed t)

-- one more command, and more paths that others changed
abbrev pub with_command : Ran → Transaction → Transaction
with_command ran t = record { copy = t.copy; prior = t.prior; list = t.list ++ ran ∷ []; others = t.others }

abbrev pub with_others : List Path → Transaction → Transaction
with_others paths t = record { copy = t.copy; prior = t.prior; list = t.list; others = t.others ++ paths }
