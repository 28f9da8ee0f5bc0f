-- What a command does to the marks of a transaction. This project's own.
use Rattle.std.specs.Prelude.{◌≡◌, ℕ, ◌≤◌, List, Result}
use Rattle.xs_model.specs.declared.message.WireErr.{WireErr}
use Rattle.xs_model.specs.Paths.{Path}
use Rattle.xs_model.specs.Trees.{Tree}
use Rattle.xs_model.specs.Requests.{Operation}
use Rattle.xs_model.specs.Commands.{command, command_edits}
use Rattle.machine_model.specs.declared.ConnSpec.{ConnSpec}
use Rattle.machine_model.specs.Connections.{caller_of}
use Rattle.machine_model.specs.Transactions.{Ran, outcome_on}
use Rattle.mark_model.specs.Marks.{overlay, write_all}
use Rattle.mark_model.specs.Stores.{KeptTransaction, ran_over}
use Rattle.tree_ops.specs.declared.did.Did.{Did}
use Rattle.tree_ops.specs.Outcomes.{IsOutcome}
use Rattle.txn_access.specs.Txns.{Txn}

-- it ran on what the transaction sees, its edits are marks, and room for so many paths stays aside
pub record IsRun (spec : ConnSpec) (operation : Operation) (path : Path) (number looks : ℕ) (tree : Tree) (old : Txn) (did : Did) (new : Txn) : Type 0 where
  pub outcome : IsOutcome (command operation path (caller_of spec) number (overlay tree old.marks)) did (overlay tree new.marks)
  pub marks : new.marks ≡ write_all (command_edits operation path (caller_of spec) number (overlay tree old.marks)) old.marks
  pub count : new.count ≡ old.count
  pub room : looks ≤ old.spare → looks ≤ new.spare

-- a command as a connection with this other end asks for it
abbrev pub ran_for : ConnSpec → Operation → Path → ℕ → Ran
ran_for spec operation path number = record { operation = operation; path = path; caller = caller_of spec; number = number }

-- it ran inside: what it looked at is marked too, and it counts where it wrote
pub record IsInside (spec : ConnSpec) (operation : Operation) (path : Path) (tree : Tree) (old : KeptTransaction) (answered : Result (List ℕ) WireErr) (new : KeptTransaction) : Type 0 where
  pub reply : answered ≡ (outcome_on (overlay tree old.marks) (ran_for spec operation path old.count)).reply
  pub kept : new ≡ ran_over tree (ran_for spec operation path old.count) old
