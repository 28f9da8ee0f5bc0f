-- Lists of commands: on trees that are alike outside a set of paths they run alike, where they accessed none of it.
use Rattle.std.specs.Prelude.{◌≡◌, false, List, [], ◌∷◌, ◌++◌}
use Rattle.std.proofs.Common.{refl, ◌∙◌}
use Rattle.xs_model.specs.Paths.{Path, has_path}
use Rattle.xs_model.specs.Trees.{Tree, node_at, IsTree}
use Rattle.xs_model.specs.Commands.{Outcome}
use Rattle.xs_model.proofs.CommandLemmas.{command_keeps, command-elsewhere}
use Rattle.xs_model.proofs.AlikeLemmas.{Misses, AlikeOutside, misses-left, misses-right}
use Rattle.xs_model.proofs.AnswerLemmas.{SameOutcome, same_outcome}
use Rattle.xs_model.proofs.ChangeLemmas.{outside-both}
use Rattle.machine_model.specs.Transactions.{Ran, Ending, onto_ending, outcome_on, run_list}

pub run_list-tree : (tree : Tree) (list : List Ran) → IsTree tree → IsTree (run_list tree list).tree
run_list-tree tree [] is = is
run_list-tree tree (ran ∷ list) is = run_list-tree (outcome_on tree ran).tree list (command_keeps tree is ran.operation ran.path ran.caller ran.number)

pub run_list-elsewhere : (tree : Tree) (list : List Ran) (q : Path) → has_path q (run_list tree list).written ≡ false → node_at (run_list tree list).tree q ≡ node_at tree q
run_list-elsewhere tree [] q h = refl
run_list-elsewhere tree (ran ∷ list) q h =
    let next = (outcome_on tree ran).tree in
    let parts = outside-both q (outcome_on tree ran).written (run_list next list).written h in
    run_list-elsewhere next list q parts.1 ∙ command-elsewhere ran.operation ran.path ran.caller ran.number tree q parts.0

pub record SameEnding (others : List Path) (a b : Ending) : Type 0 where
  pub replies : a.replies ≡ b.replies
  pub touched : a.touched ≡ b.touched
  pub written : a.written ≡ b.written
  pub alike : AlikeOutside others a.tree b.tree

onto_same : (others : List Path) (a b : Outcome) (x y : Ending) → SameOutcome others a b → SameEnding others x y → SameEnding others (onto_ending a x) (onto_ending b y)
onto_same others a b x y one rest = record {
  replies = λ i. one.reply i ∷ rest.replies i;
  touched = λ i. one.touched i ++ rest.touched i;
  written = λ i. one.written i ++ rest.written i;
  alike = rest.alike;
}

pub same_ending : (others : List Path) (copy tree : Tree) (list : List Ran) → AlikeOutside others copy tree → IsTree copy → IsTree tree
    → Misses others (run_list copy list).touched → Misses others (run_list copy list).written → SameEnding others (run_list copy list) (run_list tree list)
same_ending others copy tree [] alike is_copy is touched written = record { replies = refl; touched = refl; written = refl; alike = alike }
same_ending others copy tree (ran ∷ list) alike is_copy is touched written =
    let first = outcome_on copy ran in
    let later = run_list first.tree list in
    let one : SameOutcome others first (outcome_on tree ran) =
    same_outcome others copy tree alike is_copy is ran.operation ran.path ran.caller ran.number
    (misses-left others first.touched later.touched touched) (misses-left others first.written later.written written)
    in
    onto_same others first (outcome_on tree ran) later (run_list (outcome_on tree ran).tree list) one
    (same_ending others first.tree (outcome_on tree ran).tree list one.alike
    (command_keeps copy is_copy ran.operation ran.path ran.caller ran.number) (command_keeps tree is ran.operation ran.path ran.caller ran.number)
    (misses-right others first.touched later.touched touched) (misses-right others first.written later.written written))
