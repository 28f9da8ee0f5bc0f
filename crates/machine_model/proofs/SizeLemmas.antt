-- Each step keeps all paths and tokens within their limits, and sends messages that are within theirs.
use Rattle.std.specs.Prelude.{◌≡◌, ℕ, ◌≤◌, ◌==◌, Bool, true, false, cond, not, List, [], ◌∷◌, ◌++◌, length, filter, Option, Some, None}
use Rattle.std.specs.List.{AllByRecursion}
use Rattle.std.specs.Ordering.{nat_cmp}
use Rattle.std.specs.FinMap.{find}
use Rattle.std.proofs.Common.{refl, arith}
use Rattle.xs_model.specs.Paths.{Path}
use Rattle.xs_model.specs.Trees.{Node, Tree, is_present, Edit, edited, edit_paths, new_tree}
use Rattle.xs_model.specs.Watches.{Watch, same_watch}
use Rattle.xs_model.proofs.Maps.{not_both, all_found, all_put, all_where, all_map}
use Rattle.xs_model.specs.Laws.{IsShort, HasShortPaths}
use Rattle.xs_model.proofs.FormLemmas.{InForm, request_of-form}
use Rattle.xs_model.proofs.ShortLemmas.{ShortEdit, ShortEdits, edits_short, command_short}
use Rattle.machine_model.specs.declared.ConnSpec.{ConnSpec}
use Rattle.machine_model.specs.Connections.{Connection, fresh, caller_of, least_free}
use Rattle.machine_model.specs.Transactions.{Transaction, Ran, started, outcome_on, run_list, run_on, with_command, with_others}
use Rattle.machine_model.specs.Machine.{Machine, Item, new_machine, told, with_transaction, without_transaction, with_watches, with_spec, step_with}
use Rattle.machine_model.specs.Sizes.{IsSizedConn, IsSized}
use Rattle.machine_model.proofs.Lists.{all_append}
use Rattle.machine_model.proofs.ClosedLemmas.{IsClosed, step_has}

-- A TRANSACTION AT ITS COMMIT
edit_by : (p : Path) (new : Option Node) → IsShort p → ShortEdit p new
edit_by p None h = tt
edit_by p (Some node) h = h

edits_by : (es : List Edit) → AllByRecursion IsShort (edit_paths es) → ShortEdits es
edits_by [] h = tt
edits_by (e ∷ es) h = (edit_by e.0 e.1 h.0, edits_by es h.1)

run_list-short : (tree : Tree) (list : List Ran) → HasShortPaths tree → AllByRecursion (λ ran. IsShort ran.path) list → HasShortPaths (run_list tree list).tree
run_list-short tree [] short h = short
run_list-short tree (ran ∷ list) short h = run_list-short (outcome_on tree ran).tree list (command_short ran.operation ran.path ran.caller ran.number tree h.0 short) h.1

abbrev EditsOf : Transaction → Type 0
EditsOf t = AllByRecursion IsShort (edit_paths t.prior.edits)

abbrev CommandsOf : Transaction → Type 0
CommandsOf t = AllByRecursion (λ ran. IsShort ran.path) t.list

commit_short : (conn : Connection) → IsSizedConn conn → (id : ℕ) (t : Transaction) (tree : Tree) → find nat_cmp id conn.transactions ≡ Some t → HasShortPaths tree → HasShortPaths (run_on tree t).tree
commit_short conn h id t tree e short =
    run_list-short (edited tree t.prior.edits) t.list
    (edits_short tree t.prior.edits short (edits_by t.prior.edits (all_found nat_cmp EditsOf id conn.transactions t h.edits e)))
    (all_found nat_cmp CommandsOf id conn.transactions t h.commands e)

-- THE PARTS OF A STEP
all_kept : {A : Type 0} (P : A → Type 0) (t : A → Bool) (xs : List A) → AllByRecursion P xs → AllByRecursion P (filter t xs)
all_kept P t [] h = tt
all_kept P t (x ∷ xs) h =
    let rest = all_kept P t xs h.1 in
    elim (t x) as (λ b. AllByRecursion P (cond b (x ∷ filter t xs) (filter t xs))) [ true ↦ (h.0, rest) | false ↦ rest ]

module _ (conn : Connection) (h : IsSizedConn conn) where
  told_sized : (paths : List Path) → IsSizedConn (told paths conn)
  told_sized paths = record {
    watches = h.watches;
    edits = all_map EditsOf EditsOf (with_others paths) (λ t k. k) conn.transactions h.edits;
    commands = all_map CommandsOf CommandsOf (with_others paths) (λ t k. k) conn.transactions h.commands;
  }

  put_sized : (id : ℕ) (t : Transaction) → EditsOf t → CommandsOf t → IsSizedConn (with_transaction id t conn)
  put_sized id t edits commands = record {
    watches = h.watches;
    edits = all_put nat_cmp EditsOf id t conn.transactions edits h.edits;
    commands = all_put nat_cmp CommandsOf id t conn.transactions commands h.commands;
  }

  inside_sized : (id : ℕ) (ran : Ran) (t : Transaction) → IsShort ran.path → find nat_cmp id conn.transactions ≡ Some t → IsSizedConn (with_transaction id (with_command ran t) conn)
  inside_sized id ran t short e =
      put_sized id (with_command ran t) (all_found nat_cmp EditsOf id conn.transactions t h.edits e)
      (all_append (λ (r : Ran). IsShort r.path) t.list (ran ∷ []) (all_found nat_cmp CommandsOf id conn.transactions t h.commands e) (short, tt))

  closed_sized : (id : ℕ) → IsSizedConn (without_transaction id conn)
  closed_sized id = record {
    watches = h.watches;
    edits = all_where nat_cmp EditsOf (λ i. not (id == i)) conn.transactions h.edits;
    commands = all_where nat_cmp CommandsOf (λ i. not (id == i)) conn.transactions h.commands;
  }

  watched_sized : (w : Watch) → (length w.wpath ≤ 3072) × (length w.token ≤ 1022) → IsSizedConn (with_watches (conn.watches ++ w ∷ []) conn)
  watched_sized w k = record {
    watches = all_append (λ (w : Watch). (length w.wpath ≤ 3072) × (length w.token ≤ 1022)) conn.watches (w ∷ []) h.watches (k, tt);
    edits = h.edits;
    commands = h.commands;
  }

  unwatched_sized : (w : Watch) → IsSizedConn (with_watches (filter (λ v. not (same_watch w v)) conn.watches) conn)
  unwatched_sized w = record {
    watches = all_kept (λ (w : Watch). (length w.wpath ≤ 3072) × (length w.token ≤ 1022)) (λ v. not (same_watch w v)) conn.watches h.watches;
    edits = h.edits;
    commands = h.commands;
  }

  spec_sized : (spec : ConnSpec) → IsSizedConn (with_spec spec conn)
  spec_sized spec = record { watches = h.watches; edits = h.edits; commands = h.commands }

pub fresh_sized : (spec : ConnSpec) → IsSizedConn (fresh spec)
fresh_sized spec = record { watches = tt; edits = tt; commands = tt }

sizes_closed : IsClosed HasShortPaths IsSizedConn InForm
sizes_closed = record {
  of_told = λ paths conn h. told_sized conn h paths;
  of_command = λ operation path conn number tree asks short. command_short operation path (caller_of conn.spec) number tree asks short;
  of_commit = λ conn id t tree h e short. commit_short conn h id t tree e short;
  inside = λ operation path conn number id t asks h e. inside_sized conn h id _ t asks e;
  opened = λ conn tree h full. put_sized conn h (least_free conn.transactions) (started tree) tt tt;
  closed = λ conn id h. closed_sized conn h id;
  watched = λ conn wpath token h asks may. watched_sized conn h (record { wpath = wpath; token = token }) asks;
  unwatched = λ conn w h. unwatched_sized conn h w;
  with_event_channel = λ conn evtchn h. spec_sized conn h _;
  with_other = λ conn target h. spec_sized conn h _;
  anew = λ conn h. fresh_sized conn.spec;
  introduced = λ domid evtchn asks. fresh_sized _;
}

pub step_sized : (m : Machine) → IsSized m → (served : List ℕ) (item : Item) → IsSized (step_with served m item).0
step_sized m is served item =
    let after = step_has HasShortPaths IsSizedConn InForm sizes_closed (λ conn h served kind payload. request_of-form served kind payload (caller_of conn.spec).domid) m (record { tree = is.tree; conns = is.conns }) served item in
    record { tree = after.tree; conns = after.conns }

new_short : (p : Path) → is_present new_tree p ≡ true → IsShort p
new_short [] h = omega arith
new_short (n ∷ p) h = not_both h refl

pub new_machine_sized : IsSized new_machine
new_machine_sized = record { tree = new_short; conns = (fresh_sized _, tt) }
