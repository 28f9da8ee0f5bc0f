-- What a step changes of the tree and its numbers: the paths that it wrote, and nothing where it wrote none.
use Rattle.std.specs.Prelude.{◌≡◌, ℕ, ◌==◌, Bool, true, false, cond, not, List, [], ◌∷◌, ◌++◌, length, filter, nat_le, decimal, Option, Some, None, Result, Ok, Err}
use Rattle.std.specs.List.{AllByRecursion, list_any}
use Rattle.std.specs.Ordering.{nat_cmp}
use Rattle.std.specs.FinMap.{find}
use Rattle.std.proofs.Common.{refl}
use Rattle.xs_model.specs.declared.message.WireErr.{WireErr}
use Rattle.xs_model.specs.declared.message.WireErr.TheVariants.{Eacces, Eexist, Enoent, Enospc, Ebusy, Eagain, E2big}
use Rattle.xs_model.specs.Paths.{Path, has_path}
use Rattle.xs_model.specs.Trees.{Tree, node_at}
use Rattle.xs_model.specs.Messages.{string, ok_payload, header_of, payload_of}
use Rattle.xs_model.specs.Requests.{Operation, Request, Command, Watch as WatchRequest, Unwatch, Start, End, Introduce, Release, DomainPath, IsIntroduced, SetTarget, ResetWatches, request_of}
use Rattle.xs_model.specs.Commands.{Outcome}
use Rattle.xs_model.specs.Generations.{generation_of, stamped}
use Rattle.xs_model.specs.Watches.{Watch, same_watch, first_event}
use Rattle.xs_model.proofs.CommandLemmas.{command-elsewhere}
use Rattle.xs_model.proofs.Maps.{all_found}
use Rattle.machine_model.specs.declared.ConnSpec.{ConnSpec}
use Rattle.machine_model.specs.Connections.{Connection, Connections, caller_of, ring_of, has_ring, with_evtchn, with_target, least_free}
use Rattle.machine_model.specs.Transactions.{Transaction, started, outcome_on, run_on, wrote, is_in_conflict}
use Rattle.machine_model.specs.Machine.{Machine, Item, Asked, Lost, Done, refused, replied, granted, with_conn, with_watches, with_transaction, without_transaction, ran_by, done_command, command_inside, run_command, transaction_limit, start, committed, finish, close, may_watch, add_watch, remove_watch, if_control, set_spec, introduce, release, set_target, act, act_or_refuse, step_of_conn, step_with}
use Rattle.machine_model.specs.Serial.{IsOpenOver, IsFollowed}
use Rattle.machine_model.proofs.OpenLemmas.{commit-elsewhere}
use Rattle.machine_model.proofs.KeepLemmas.{EachOf, conn_there}
use Rattle.store_laws.specs.Lawful.{Move, Happened, Added, moved}

pub record IsChange (m n : Machine) : Type 0 where
  pub written : List Path
  pub frame : (q : Path) → has_path q written ≡ false → node_at n.tree q ≡ node_at m.tree q
  pub gens : n.gens ≡ stamped m.gens m.tree written n.tree

nothing : (m : Machine) → IsChange m m
nothing m = record { written = []; frame = λ q h. refl; gens = refl }

module _ (m : Machine) where
  abbrev Changes : Done → Type 0
  Changes done = IsChange m done.machine

  if_change : (b : Bool) (x y : Done) → Changes x → Changes y → Changes (cond b x y)
  if_change true x y p q = p
  if_change false x y p q = q

  -- another connection, and the tree as it was
  same : (n : Machine) → n.tree ≡ m.tree → n.gens ≡ m.gens → IsChange m n
  same n t g = record { written = []; frame = λ q h i. node_at (t i) q; gens = g }

  module _ (is : IsFollowed m) (c : ℕ) (conn : Connection) (of_conn : EachOf (IsOpenOver m.tree) conn) where
    inside_change : (id : ℕ) (operation : Operation) (path : Path) (found : Option Transaction) → Changes (command_inside m c conn id operation path found)
    inside_change id operation path None = nothing m
    inside_change id operation path (Some t) = same _ refl refl

    command_change : (tx : ℕ) (operation : Operation) (path : Path) → Changes (run_command m c conn tx operation path)
    command_change tx operation path =
        let number = generation_of m.gens path in
        let outcome : Outcome = outcome_on m.tree (ran_by conn operation path number) in
        if_change (tx == 0) (done_command m outcome) (command_inside m c conn tx operation path (find nat_cmp tx conn.transactions))
        (record { written = outcome.written; frame = command-elsewhere operation path (caller_of conn.spec) number m.tree; gens = refl })
        (inside_change tx operation path (find nat_cmp tx conn.transactions))

    start_change : (tx : ℕ) → Changes (start m c conn tx)
    start_change tx =
        let id = least_free conn.transactions in
        let done = replied (string (decimal id)) (with_conn c (with_transaction id (started m.tree) conn) m) in
        let full = nat_le (transaction_limit conn.spec) (length conn.transactions) in
        if_change (not (tx == 0)) (refused Ebusy m) (cond full (refused Enospc m) done) (nothing m) (if_change full (refused Enospc m) done (nothing m) (same _ refl refl))

    commit_change : (id : ℕ) (t : Transaction) → IsOpenOver m.tree t → (b : Bool) → is_in_conflict t ≡ b →
        let closed = with_conn c (without_transaction id conn) m in Changes (cond b (refused Eagain closed) (committed closed t (run_on closed.tree t)))
    commit_change id t o true e = same _ refl refl
    commit_change id t o false e = record { written = wrote t; frame = commit-elsewhere m.tree t is.tree o e; gens = refl }

    finish_change : (commit : Bool) (id : ℕ) (t : Transaction) → IsOpenOver m.tree t → Changes (finish commit (with_conn c (without_transaction id conn) m) t)
    finish_change false id t o = same _ refl refl
    finish_change true id t o = commit_change id t o (is_in_conflict t) refl

    close_change : (commit : Bool) (id : ℕ) (found : Option Transaction) → find nat_cmp id conn.transactions ≡ found → Changes (close commit m c conn id found)
    close_change commit id None e = nothing m
    close_change commit id (Some t) e = finish_change commit id t (all_found nat_cmp (IsOpenOver m.tree) id conn.transactions t of_conn e)

    add_watch_change : (w : Watch) → Changes (add_watch m c conn w)
    add_watch_change w =
        let made : Done = record { reply = Ok ok_payload; machine = with_conn c (with_watches (conn.watches ++ w ∷ []) conn) m; sends = (c, first_event w) ∷ [] } in
        let full = not (may_watch conn) in
        if_change (list_any (same_watch w) conn.watches) (refused Eexist m) (cond full (refused E2big m) made) (nothing m) (if_change full (refused E2big m) made (nothing m) (same _ refl refl))

    remove_watch_change : (w : Watch) → Changes (remove_watch m c conn w)
    remove_watch_change w =
        if_change (list_any (same_watch w) conn.watches) (granted (with_conn c (with_watches (filter (λ v. not (same_watch w v)) conn.watches) conn) m)) (refused Enoent m) (same _ refl refl) (nothing m)

  set_spec_change : (change : ConnSpec → ConnSpec) (c : ℕ) (found : Option Connection) → IsChange m (set_spec change c found m)
  set_spec_change change c None = nothing m
  set_spec_change change c (Some conn) = same _ refl refl

  introduce_change : (domid evtchn : ℕ) (found : Option ℕ) → Changes (introduce m domid evtchn found)
  introduce_change domid evtchn None = same _ refl refl
  introduce_change domid evtchn (Some id) = set_spec_change (with_evtchn evtchn) id (find nat_cmp id m.conns)

  release_change : (found : Option ℕ) → Changes (release m found)
  release_change None = nothing m
  release_change (Some id) = same _ refl refl

  set_target_change : (target : ℕ) (found : Option ℕ) (there : Bool) → Changes (set_target m target found there)
  set_target_change target None there = nothing m
  set_target_change target (Some id) false = nothing m
  set_target_change target (Some id) true = set_spec_change (with_target target) id (find nat_cmp id m.conns)

  control_change : (conn : Connection) (done : Done) → Changes done → Changes (if_control conn m done)
  control_change conn done h = if_change ((caller_of conn.spec).domid == 0) done (refused Eacces m) h (nothing m)

  act_change : IsFollowed m → (c : ℕ) (conn : Connection) → EachOf (IsOpenOver m.tree) conn → (tx : ℕ) (request : Request) → Changes (act m c conn tx request)
  act_change is c conn h tx (Command operation path) = command_change is c conn h tx operation path
  act_change is c conn h tx (WatchRequest wpath token) = add_watch_change is c conn h (record { wpath = wpath; token = token })
  act_change is c conn h tx (Unwatch wpath token) = remove_watch_change is c conn h (record { wpath = wpath; token = token })
  act_change is c conn h tx Start = start_change is c conn h tx
  act_change is c conn h tx (End commit) = close_change is c conn h commit tx (find nat_cmp tx conn.transactions) refl
  act_change is c conn h tx (Introduce domid evtchn) = control_change conn (introduce m domid evtchn (ring_of domid m.conns)) (introduce_change domid evtchn (ring_of domid m.conns))
  act_change is c conn h tx (Release domid) = control_change conn (release m (ring_of domid m.conns)) (release_change (ring_of domid m.conns))
  act_change is c conn h tx (DomainPath domid) = nothing m
  act_change is c conn h tx (IsIntroduced domid) = nothing m
  act_change is c conn h tx (SetTarget domid target) =
      control_change conn (set_target m target (ring_of domid m.conns) (has_ring target m.conns)) (set_target_change target (ring_of domid m.conns) (has_ring target m.conns))
  act_change is c conn h tx ResetWatches = same _ refl refl

  asked_change : IsFollowed m → (c : ℕ) (conn : Connection) → EachOf (IsOpenOver m.tree) conn → (tx : ℕ) (request : Result Request WireErr) → Changes (act_or_refuse m c conn tx request)
  asked_change is c conn h tx (Err error) = nothing m
  asked_change is c conn h tx (Ok request) = act_change is c conn h tx request

  conn_change : IsFollowed m → (served : List ℕ) (c : ℕ) (bytes : List ℕ) (found : Option Connection) → find nat_cmp c m.conns ≡ found → IsChange m (step_of_conn served m c bytes found).0
  conn_change is served c bytes None e = nothing m
  conn_change is served c bytes (Some conn) e =
      let head = header_of bytes in
      asked_change is c conn (conn_there m is c conn e) head.tx_id (request_of served head.kind (payload_of bytes) (caller_of conn.spec).domid)

  pub step_change : IsFollowed m → (served : List ℕ) (item : Item) → IsChange m (step_with served m item).0
  step_change is served (Asked c bytes) = conn_change is served c bytes (find nat_cmp c m.conns) refl
  step_change is served (Lost c) = same _ refl refl

pub move_change : (m : Machine) → IsFollowed m → (served : List ℕ) (move : Move) → IsChange m (moved served m move)
move_change m is served (Happened item) = step_change m is served item
move_change m is served (Added id spec) = same m _ refl refl
