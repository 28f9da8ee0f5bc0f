-- A number that is shown twice inside a transaction.
use Rattle.std.specs.Prelude.{◌≡◌, ℕ, ◌+◌, ◌≤◌, ◌<◌, Bool, true, false, cond, List, [], ◌∷◌, ◌++◌, nat_lt, is_some, Ok, decimal}
use Rattle.std.proofs.Common.{sym, refl, ap, subst, ◌∙◌, arith, zero-add, le_refl}
use Rattle.std.proofs.lemmas.Bool.{ltb-true}
use Rattle.std.proofs.lemmas.Fmt.{decimal_injective}
use Rattle.xs_model.specs.Paths.{Path}
use Rattle.xs_model.specs.Trees.{Tree, Edit, edited, edit_paths, is_present, node_at, children}
use Rattle.xs_model.specs.Messages.{string}
use Rattle.xs_model.specs.Requests.{DirectoryPart}
use Rattle.xs_model.specs.Commands.{command_edits}
use Rattle.xs_model.specs.Laws.{IsGiven}
use Rattle.xs_model.proofs.RightLemmas.{given}
use Rattle.machine_model.specs.Connections.{caller_of}
use Rattle.machine_model.specs.Transactions.{Transaction, Ran, Ending, if_any, outcome_on, run_list, run_on, after, count, count_max, within_count}
use Rattle.store_laws.specs.Numbers.{ShowsInside, IsSame, with_more}
use Rattle.store_laws.proofs.SeenLemmas.{decimal-digits, first_string}

-- A LIST in two parts
tree_joined : (tree : Tree) (list more : List Ran) → (run_list tree (list ++ more)).tree ≡ (run_list (run_list tree list).tree more).tree
tree_joined tree [] more = refl
tree_joined tree (ran ∷ list) more = tree_joined (outcome_on tree ran).tree list more

if_any-added : (ps : List Path) (a b : ℕ) → if_any ps (a + b) ≡ if_any ps a + b
if_any-added [] a b = refl
if_any-added (p ∷ ps) a b = omega arith

changes_joined : (tree : Tree) (list more : List Ran) → (run_list tree (list ++ more)).changes ≡ (run_list tree list).changes + (run_list (run_list tree list).tree more).changes
changes_joined tree [] more = sym (zero-add (run_list tree more).changes)
changes_joined tree (ran ∷ list) more =
    let first = outcome_on tree ran in
    ap (if_any first.written) (changes_joined first.tree list more)
    ∙ if_any-added first.written (run_list first.tree list).changes (run_list (run_list first.tree list).tree more).changes

-- COMMANDS OF WHICH NONE WROTE leave the tree
no_edits : (tree : Tree) (es : List Edit) (n : ℕ) → if_any (edit_paths es) n ≡ 0 → (edited tree es ≡ tree) × (n ≡ 0)
no_edits tree [] n h = (refl, h)
no_edits tree (e ∷ es) n h = absurd (omega (arith, h))

pub nothing_changed : (tree : Tree) (list : List Ran) → (run_list tree list).changes ≡ 0 → (run_list tree list).tree ≡ tree
nothing_changed tree [] h = refl
nothing_changed tree (ran ∷ list) h =
    let first = outcome_on tree ran in
    let none = no_edits tree (command_edits ran.operation ran.path ran.caller ran.number tree) (run_list first.tree list).changes h in
    nothing_changed first.tree list none.1 ∙ none.0

-- COUNTS
same_within : (a b : ℕ) → within_count (a + b) ≡ within_count a → within_count a < count_max → b ≡ 0
same_within a b e low =
    elim (nat_lt a count_max) as (λ c. nat_lt a count_max ≡ c → within_count (a + b) ≡ cond c a count_max → cond c a count_max < count_max → b ≡ 0) [
      | true ↦ λ t f l. sum_within (nat_lt (a + b) count_max) refl f l
      | false ↦ λ t f l. absurd (omega (arith, l))
    ] refl e low
  where
    sum_within : (c : Bool) → nat_lt (a + b) count_max ≡ c → cond c (a + b) count_max ≡ a → a < count_max → b ≡ 0
    sum_within true t f l = omega (arith, f)
    sum_within false t f l = absurd (omega (arith, f, l))

within_bounded : (n : ℕ) → within_count n ≤ count_max
within_bounded n = elim (nat_lt n count_max) as (λ b. nat_lt n count_max ≡ b → cond b n count_max ≤ count_max) [ true ↦ λ t. omega (arith, ltb-true n count_max t) | false ↦ λ t. le_refl count_max ] refl

-- WHAT IS SHOWN is the count
module _ (t : Transaction) (p : Path) (number : ℕ) (low : number < count_max) (s : ShowsInside t p number) where
  shown_given : IsGiven (DirectoryPart s.offset) (count t) (after t) p (caller_of s.asker.spec) (string (decimal number) ++ s.part)
  shown_given = given (count t) (after t) p (caller_of s.asker.spec) _ (DirectoryPart s.offset) refl s.reply

  there_inside : is_present (after t) p ≡ true
  there_inside = ap is_some shown_given.there

  count_is : count t ≡ number
  count_is =
      let high = within_bounded (t.prior.count + (run_on t.copy t).changes) in
      let texts : decimal number ≡ decimal (count t) =
      first_string (decimal number) (decimal (count t)) s.part _ (decimal-digits number (omega arith)) (decimal-digits (count t) (omega arith)) shown_given.whole
      in
      sym (decimal_injective number (count t) (omega arith) (omega arith) texts)

-- THE TRANSACTION between the two replies
module _ (t : Transaction) where
  abbrev base : Tree
  base = edited t.copy t.prior.edits

  more_changes : (list : List Ran) → (run_list base (t.list ++ list)).changes ≡ (run_list base t.list).changes + (run_list (after t) list).changes
  more_changes list = changes_joined base t.list list

  after_more : (list : List Ran) → after (with_more list t) ≡ (run_list (after t) list).tree
  after_more list = tree_joined base t.list list

  count_more : (list : List Ran) → count (with_more list t) ≡ count t → count t < count_max → (run_list (after t) list).changes ≡ 0
  count_more list e low =
      let old = (run_list base t.list).changes in
      let new = (run_list (after t) list).changes in
      let sum : t.prior.count + old + new ≡ t.prior.count + (run_list base (t.list ++ list)).changes = omega (arith, more_changes list) in
      same_within (t.prior.count + old) new (ap within_count sum ∙ e) low

  first_part_none : (list more : List Ran) → (run_list (after t) (list ++ more)).changes ≡ 0 → (run_list (after t) list).changes ≡ 0
  first_part_none list more h = let parts = changes_joined (after t) list more in omega (arith, parts, h)

pub seen_twice_inside : (t : Transaction) (list more : List Ran) (p : Path) (number : ℕ) → number < count_max → ShowsInside t p number → ShowsInside (with_more (list ++ more) t) p number → IsSame p (after t) (after (with_more list t))
seen_twice_inside t list more p number low s u =
    let first = count_is t p number low s in
    let last = count_is (with_more (list ++ more) t) p number low u in
    let none = first_part_none t list more (count_more t (list ++ more) (last ∙ sym first) (subst (λ n. n < count_max) (sym first) low)) in
    let same : after (with_more list t) ≡ after t = after_more t list ∙ nothing_changed (after t) list none in
    record { there = there_inside t p number low s; node = ap (λ tree. node_at tree p) same; names = ap (λ tree. children tree p) same }
