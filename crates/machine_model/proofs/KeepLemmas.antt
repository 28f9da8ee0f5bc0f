-- Each step keeps the tree a tree, and each open transaction in its state over it.
use Rattle.std.specs.Prelude.{◌≡◌, ℕ, ◌==◌, Bool, true, false, cond, not, List, [], ◌∷◌, ◌++◌, map, length, filter, nat_le, decimal, Option, Some, None, Result, Ok, Err}
use Rattle.std.specs.List.{AllByRecursion, list_any}
use Rattle.std.specs.Ordering.{nat_cmp}
use Rattle.std.specs.FinMap.{find, put}
use Rattle.std.proofs.Common.{refl, subst, append-nil}
use Rattle.xs_model.specs.declared.message.WireErr.{WireErr}
use Rattle.xs_model.specs.declared.message.WireErr.TheVariants.{Eacces, Eexist, Enoent, Enospc, Ebusy, Eagain, E2big}
use Rattle.xs_model.specs.Paths.{Path, has_path}
use Rattle.xs_model.specs.Trees.{Tree, node_at, IsTree}
use Rattle.xs_model.specs.Requests.{Operation, Request, Command, Watch as WatchRequest, Unwatch, Start, End, Introduce, Release, DomainPath, IsIntroduced, SetTarget, ResetWatches, request_of}
use Rattle.xs_model.specs.Messages.{string, ok_payload, header_of, payload_of}
use Rattle.xs_model.specs.Watches.{Watch, same_watch, first_event}
use Rattle.xs_model.specs.Changes.{changed_paths}
use Rattle.xs_model.specs.Generations.{generation_of}
use Rattle.xs_model.specs.Perms.{Caller}
use Rattle.xs_model.proofs.Maps.{not_both, all_found, all_put, all_where}
use Rattle.xs_model.proofs.CommandLemmas.{command_keeps, command-elsewhere}
use Rattle.xs_model.proofs.TreeLemmas.{new_tree-is}
use Rattle.machine_model.specs.declared.ConnSpec.{ConnSpec}
use Rattle.machine_model.specs.declared.ConnSpec.TheVariants.{Ring}
use Rattle.machine_model.specs.Connections.{Connection, Connections, fresh, caller_of, ring_of, has_ring, with_evtchn, with_target, least_free}
use Rattle.machine_model.specs.Transactions.{Transaction, Ran, started, outcome_on, count, run_on, wrote, is_in_conflict, with_command, with_others}
use Rattle.machine_model.specs.Machine.{Machine, new_machine, Item, Asked, Lost, Done, refused, with_conn, without_conn, told_all, tell, changed_machine, ran_by, done_command, command_inside, run_command, replied, granted, committed, with_transaction, without_transaction, with_watches, with_spec, if_control, transaction_limit, may_watch, start, finish, close, add_watch, remove_watch, set_spec, introduce, release, set_target, act, act_or_refuse, step_of_conn, step_with}
use Rattle.machine_model.specs.Serial.{EachOpen, IsOpenOver, IsFollowed}
use Rattle.machine_model.proofs.OpenLemmas.{told_open, commit_tree, commit-elsewhere}

-- each transaction of one connection
abbrev pub EachOf : (Transaction → Type 0) → Connection → Type 0
EachOf P conn = AllByRecursion (λ f. P f.1) conn.transactions

-- WHAT OTHERS ARE TOLD
told_each : (P Q : Transaction → Type 0) (paths : List Path) → ((t : Transaction) → P t → Q (with_others paths t)) → (ts : List (ℕ × Transaction)) → AllByRecursion (λ (f : ℕ × Transaction). P f.1) ts → AllByRecursion (λ (f : ℕ × Transaction). Q f.1) (map (λ e. (e.0, with_others paths e.1)) ts)
told_each P Q paths to [] h = tt
told_each P Q paths to (t ∷ ts) h = (to t.1 h.0, told_each P Q paths to ts h.1)

told_all_each : (P Q : Transaction → Type 0) (paths : List Path) → ((t : Transaction) → P t → Q (with_others paths t)) → (conns : Connections) → EachOpen P conns → EachOpen Q (told_all paths conns)
told_all_each P Q paths to [] h = tt
told_all_each P Q paths to (e ∷ conns) h = (told_each P Q paths to e.1.transactions h.0, told_all_each P Q paths to conns h.1)

same_each : (P Q : Transaction → Type 0) → ((t : Transaction) → P t → Q t) → (ts : List (ℕ × Transaction)) → AllByRecursion (λ (f : ℕ × Transaction). P f.1) ts → AllByRecursion (λ (f : ℕ × Transaction). Q f.1) ts
same_each P Q to [] h = tt
same_each P Q to (t ∷ ts) h = (to t.1 h.0, same_each P Q to ts h.1)

pub each_open : (P Q : Transaction → Type 0) → ((t : Transaction) → P t → Q t) → (conns : Connections) → EachOpen P conns → EachOpen Q conns
each_open P Q to [] h = tt
each_open P Q to (e ∷ conns) h = (same_each P Q to e.1.transactions h.0, each_open P Q to conns h.1)

told_nothing : (t : Transaction) → with_others [] t ≡ t
told_nothing t = λ i. record { copy = t.copy; prior = t.prior; list = t.list; others = append-nil t.others i }

pub tell_each : (P Q : Transaction → Type 0) (paths : List Path) → ((t : Transaction) → P t → Q (with_others paths t)) → (conns : Connections) → EachOpen P conns → EachOpen Q (tell paths conns)
tell_each P Q [] to conns h = each_open P Q (λ t p. subst Q (told_nothing t) (to t p)) conns h
tell_each P Q (p ∷ ps) to conns h = told_all_each P Q (p ∷ ps) to conns h

-- PARTS OF A MACHINE
pub open_conn : (P : Transaction → Type 0) (c : ℕ) (conn : Connection) (conns : Connections) → EachOpen P conns → EachOf P conn → EachOpen P (put nat_cmp c conn conns)
open_conn P c conn conns h e = all_put nat_cmp (EachOf P) c conn conns e h

module _ (m : Machine) (is : IsFollowed m) where
  pub with_conn_keeps : (c : ℕ) (conn : Connection) → EachOf (IsOpenOver m.tree) conn → IsFollowed (with_conn c conn m)
  with_conn_keeps c conn h = record { tree = is.tree; transactions = open_conn (IsOpenOver m.tree) c conn m.conns is.transactions h }

  without_conn_keeps : (c : ℕ) → IsFollowed (without_conn c m)
  without_conn_keeps c = record { tree = is.tree; transactions = all_where nat_cmp (EachOf (IsOpenOver m.tree)) (λ d. not (c == d)) m.conns is.transactions }

  change_keeps : (tree : Tree) (written : List Path) → IsTree tree → ((q : Path) → has_path q written ≡ false → node_at tree q ≡ node_at m.tree q) → IsFollowed (changed_machine tree written m)
  change_keeps tree written h frame = record {
    tree = h;
    transactions = tell_each (IsOpenOver m.tree) (IsOpenOver tree) (changed_paths m.tree written tree) (λ t o. told_open m.tree tree written t frame o) m.conns is.transactions;
  }

  pub conn_there : (c : ℕ) (conn : Connection) → find nat_cmp c m.conns ≡ Some conn → EachOf (IsOpenOver m.tree) conn
  conn_there c conn e = all_found nat_cmp (EachOf (IsOpenOver m.tree)) c m.conns conn is.transactions e

  -- a machine is chosen by a test
  if_keeps : (b : Bool) (x y : Done) → IsFollowed x.machine → IsFollowed y.machine → IsFollowed (cond b x y).machine
  if_keeps true x y p q = p
  if_keeps false x y p q = q

started_open : (tree : Tree) → IsTree tree → IsOpenOver tree (started tree)
started_open tree is = record {
  copy = is;
  began = is;
  nodes = λ p h. refl;
  children = λ p n h x. refl;
  parents = λ p n h. not_both h refl;
}

one_more_open : (tree : Tree) (ran : Ran) (t : Transaction) → IsOpenOver tree t → IsOpenOver tree (with_command ran t)
one_more_open tree ran t o = record { copy = o.copy; began = o.began; nodes = o.nodes; children = o.children; parents = o.parents }

module _ (m : Machine) (is : IsFollowed m) (c : ℕ) (conn : Connection) (of_conn : EachOf (IsOpenOver m.tree) conn) where
  command_inside_keeps : (id : ℕ) (operation : Operation) (path : Path) (found : Option Transaction) → find nat_cmp id conn.transactions ≡ found → IsFollowed (command_inside m c conn id operation path found).machine
  command_inside_keeps id operation path None e = is
  command_inside_keeps id operation path (Some t) e =
      let ran : Ran = ran_by conn operation path (count t) in
      with_conn_keeps m is c _ (all_put nat_cmp (IsOpenOver m.tree) id (with_command ran t) conn.transactions (one_more_open m.tree ran t (all_found nat_cmp (IsOpenOver m.tree) id conn.transactions t of_conn e)) of_conn)

  run_command_keeps : (tx : ℕ) (operation : Operation) (path : Path) → IsFollowed (run_command m c conn tx operation path).machine
  run_command_keeps tx operation path =
      let number = generation_of m.gens path in
      let caller : Caller = caller_of conn.spec in
      if_keeps m is (tx == 0) (done_command m (outcome_on m.tree (ran_by conn operation path number))) (command_inside m c conn tx operation path (find nat_cmp tx conn.transactions))
      (change_keeps m is _ _ (command_keeps m.tree is.tree operation path caller number) (command-elsewhere operation path caller number m.tree))
      (command_inside_keeps tx operation path (find nat_cmp tx conn.transactions) refl)

  start_keeps : (tx : ℕ) → IsFollowed (start m c conn tx).machine
  start_keeps tx =
      let id = least_free conn.transactions in
      let done = replied (string (decimal id)) (with_conn c (with_transaction id (started m.tree) conn) m) in
      let full = nat_le (transaction_limit conn.spec) (length conn.transactions) in
      if_keeps m is (not (tx == 0)) (refused Ebusy m) (cond full (refused Enospc m) done) is
      (if_keeps m is full (refused Enospc m) done is
      (with_conn_keeps m is c _ (all_put nat_cmp (IsOpenOver m.tree) id (started m.tree) conn.transactions (started_open m.tree is.tree) of_conn)))

  -- END: the machine without the transaction, then the commit
  finish_keeps : (commit : Bool) (closed : Machine) (t : Transaction) → IsFollowed closed → IsOpenOver closed.tree t → IsFollowed (finish commit closed t).machine
  finish_keeps false closed t follows o = follows
  finish_keeps true closed t follows o = commit_keeps (is_in_conflict t) refl
    where
      commit_keeps : (b : Bool) → is_in_conflict t ≡ b → IsFollowed (cond b (refused Eagain closed) (committed closed t (run_on closed.tree t))).machine
      commit_keeps true e = follows
      commit_keeps false e = change_keeps closed follows (run_on closed.tree t).tree (wrote t) (commit_tree closed.tree t follows.tree o e) (commit-elsewhere closed.tree t follows.tree o e)

  close_keeps : (commit : Bool) (id : ℕ) (found : Option Transaction) → find nat_cmp id conn.transactions ≡ found → IsFollowed (close commit m c conn id found).machine
  close_keeps commit id None e = is
  close_keeps commit id (Some t) e =
      finish_keeps commit (with_conn c (without_transaction id conn) m) t
      (with_conn_keeps m is c (without_transaction id conn) (all_where nat_cmp (IsOpenOver m.tree) (λ i. not (id == i)) conn.transactions of_conn))
      (all_found nat_cmp (IsOpenOver m.tree) id conn.transactions t of_conn e)

  -- WATCHES
  add_watch_keeps : (w : Watch) → IsFollowed (add_watch m c conn w).machine
  add_watch_keeps w =
      let made : Done = record { reply = Ok ok_payload; machine = with_conn c (with_watches (conn.watches ++ w ∷ []) conn) m; sends = (c, first_event w) ∷ [] } in
      let full = not (may_watch conn) in
      if_keeps m is (list_any (same_watch w) conn.watches) (refused Eexist m) (cond full (refused E2big m) made) is
      (if_keeps m is full (refused E2big m) made is (with_conn_keeps m is c _ of_conn))

  remove_watch_keeps : (w : Watch) → IsFollowed (remove_watch m c conn w).machine
  remove_watch_keeps w =
      if_keeps m is (list_any (same_watch w) conn.watches) (granted (with_conn c (with_watches (filter (λ v. not (same_watch w v)) conn.watches) conn) m)) (refused Enoent m)
      (with_conn_keeps m is c _ of_conn) is

-- DOMAINS
module _ (m : Machine) (is : IsFollowed m) where
  set_spec_keeps : (change : ConnSpec → ConnSpec) (c : ℕ) (found : Option Connection) → find nat_cmp c m.conns ≡ found → IsFollowed (set_spec change c found m)
  set_spec_keeps change c None e = is
  set_spec_keeps change c (Some conn) e = with_conn_keeps m is c (with_spec (change conn.spec) conn) (conn_there m is c conn e)

  introduce_keeps : (domid evtchn : ℕ) (found : Option ℕ) → IsFollowed (introduce m domid evtchn found).machine
  introduce_keeps domid evtchn None = with_conn_keeps m is (least_free m.conns) (fresh (Ring domid None evtchn)) tt
  introduce_keeps domid evtchn (Some id) = set_spec_keeps (with_evtchn evtchn) id (find nat_cmp id m.conns) refl

  release_keeps : (found : Option ℕ) → IsFollowed (release m found).machine
  release_keeps None = is
  release_keeps (Some id) = without_conn_keeps m is id

  set_target_keeps : (target : ℕ) (found : Option ℕ) (there : Bool) → IsFollowed (set_target m target found there).machine
  set_target_keeps target None there = is
  set_target_keeps target (Some id) false = is
  set_target_keeps target (Some id) true = set_spec_keeps (with_target target) id (find nat_cmp id m.conns) refl

  control_keeps : (conn : Connection) (done : Done) → IsFollowed done.machine → IsFollowed (if_control conn m done).machine
  control_keeps conn done h = if_keeps m is ((caller_of conn.spec).domid == 0) done (refused Eacces m) h is

  -- EVERY REQUEST
  act_keeps : (c : ℕ) (conn : Connection) → EachOf (IsOpenOver m.tree) conn → (tx : ℕ) (request : Request) → IsFollowed (act m c conn tx request).machine
  act_keeps c conn h tx (Command operation path) = run_command_keeps m is c conn h tx operation path
  act_keeps c conn h tx (WatchRequest wpath token) = add_watch_keeps m is c conn h (record { wpath = wpath; token = token })
  act_keeps c conn h tx (Unwatch wpath token) = remove_watch_keeps m is c conn h (record { wpath = wpath; token = token })
  act_keeps c conn h tx Start = start_keeps m is c conn h tx
  act_keeps c conn h tx (End commit) = close_keeps m is c conn h commit tx (find nat_cmp tx conn.transactions) refl
  act_keeps c conn h tx (Introduce domid evtchn) = control_keeps conn (introduce m domid evtchn (ring_of domid m.conns)) (introduce_keeps domid evtchn (ring_of domid m.conns))
  act_keeps c conn h tx (Release domid) = control_keeps conn (release m (ring_of domid m.conns)) (release_keeps (ring_of domid m.conns))
  act_keeps c conn h tx (DomainPath domid) = is
  act_keeps c conn h tx (IsIntroduced domid) = is
  act_keeps c conn h tx (SetTarget domid target) =
      control_keeps conn (set_target m target (ring_of domid m.conns) (has_ring target m.conns)) (set_target_keeps target (ring_of domid m.conns) (has_ring target m.conns))
  act_keeps c conn h tx ResetWatches = with_conn_keeps m is c (fresh conn.spec) tt

  asked_keeps : (c : ℕ) (conn : Connection) → EachOf (IsOpenOver m.tree) conn → (tx : ℕ) (request : Result Request WireErr) → IsFollowed (act_or_refuse m c conn tx request).machine
  asked_keeps c conn h tx (Err error) = is
  asked_keeps c conn h tx (Ok request) = act_keeps c conn h tx request

  step_of_conn_keeps : (served : List ℕ) (c : ℕ) (bytes : List ℕ) (found : Option Connection) → find nat_cmp c m.conns ≡ found → IsFollowed (step_of_conn served m c bytes found).0
  step_of_conn_keeps served c bytes None e = is
  step_of_conn_keeps served c bytes (Some conn) e =
      let head = header_of bytes in
      asked_keeps c conn (conn_there m is c conn e) head.tx_id (request_of served head.kind (payload_of bytes) (caller_of conn.spec).domid)

  pub step_keeps : (served : List ℕ) (item : Item) → IsFollowed (step_with served m item).0
  step_keeps served (Asked c bytes) = step_of_conn_keeps served c bytes (find nat_cmp c m.conns) refl
  step_keeps served (Lost c) = without_conn_keeps m is c

pub new_machine_follows : IsFollowed new_machine
new_machine_follows = record { tree = new_tree-is; transactions = (tt, tt) }
