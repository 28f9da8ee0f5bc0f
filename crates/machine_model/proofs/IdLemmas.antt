-- Each step keeps the ids of connections positive, and each once.
use Rattle.std.specs.Prelude.{◌≡◌, ℕ, ◌≤◌, ◌==◌, Bool, true, false, cond, not, List, [], ◌∷◌, ◌++◌, filter, length, nat_le, decimal, Option, Some, None, Result, Ok, Err}
use Rattle.std.specs.List.{list_any}
use Rattle.std.specs.Ordering.{nat_cmp}
use Rattle.std.specs.Cmp.{nat_cmp_total}
use Rattle.std.specs.FinMap.{find, nat_cmp-IsAntisymmetric}
use Rattle.std.proofs.Common.{refl, ◌∙◌, le_refl}
use Rattle.xs_model.specs.declared.message.WireErr.{WireErr}
use Rattle.xs_model.specs.declared.message.WireErr.TheVariants.{Eacces, Eexist, Enoent, Enospc, Ebusy, Eagain, E2big}
use Rattle.xs_model.specs.Paths.{Path}
use Rattle.xs_model.specs.Trees.{Tree}
use Rattle.xs_model.specs.Messages.{string, ok_payload, header_of, payload_of}
use Rattle.xs_model.specs.Requests.{Operation, Request, Command, Watch as WatchRequest, Unwatch, Start, End, Introduce, Release, DomainPath, IsIntroduced, SetTarget, ResetWatches, request_of}
use Rattle.xs_model.specs.Commands.{Outcome}
use Rattle.xs_model.specs.Changes.{changed_paths}
use Rattle.xs_model.specs.Generations.{generation_of}
use Rattle.xs_model.specs.Watches.{Watch, same_watch, first_event}
use Rattle.xs_model.proofs.Maps.{sorted_put, sorted_where, sorted_map, keys_put, keys_where, keys_map, keys_found}
use Rattle.machine_model.specs.declared.ConnSpec.{ConnSpec}
use Rattle.machine_model.specs.declared.ConnSpec.TheVariants.{Ring}
use Rattle.machine_model.specs.Connections.{Connection, Connections, fresh, caller_of, ring_of, has_ring, with_evtchn, with_target, least_free}
use Rattle.machine_model.specs.Transactions.{Transaction, started, outcome_on, run_on, wrote, is_in_conflict}
use Rattle.machine_model.specs.Machine.{Machine, new_machine, Item, Asked, Lost, Done, refused, replied, granted, with_conn, without_conn, with_watches, with_transaction, without_transaction, with_spec, told, tell, changed_machine, ran_by, done_command, command_inside, run_command, transaction_limit, start, committed, finish, close, may_watch, add_watch, remove_watch, if_control, set_spec, introduce, release, set_target, act, act_or_refuse, step_of_conn, step_with}
use Rattle.machine_model.specs.History.{past_at_start, run_with}
use Rattle.machine_model.specs.Limits.{HasIds}
use Rattle.machine_model.proofs.HistoryLemmas.{run_keeps}
use Rattle.machine_model.proofs.LimitLemmas.{least_free-is}

abbrev IdsOf : Machine → Type 0
IdsOf m = HasIds m.conns

tell_ids : (paths : List Path) (conns : Connections) → HasIds conns → HasIds (tell paths conns)
tell_ids [] conns ids = ids
tell_ids (p ∷ ps) conns ids = record {
  rising = sorted_map nat_cmp (told (p ∷ ps)) conns ∙ ids.rising;
  positive = keys_map (λ i. 1 ≤ i) (told (p ∷ ps)) conns ids.positive;
}

if_ids : (b : Bool) (x y : Done) → IdsOf x.machine → IdsOf y.machine → IdsOf (cond b x y).machine
if_ids true x y p q = p
if_ids false x y p q = q

module _ (m : Machine) (ids : IdsOf m) where
  pub put_ids : (c : ℕ) (conn : Connection) → 1 ≤ c → IdsOf (with_conn c conn m)
  put_ids c conn h = record {
    rising = sorted_put nat_cmp nat_cmp_total c conn m.conns ids.rising;
    positive = keys_put nat_cmp (λ i. 1 ≤ i) c conn m.conns h ids.positive;
  }

  drop_ids : (c : ℕ) → IdsOf (without_conn c m)
  drop_ids c = record {
    rising = sorted_where nat_cmp (λ d. not (c == d)) m.conns ids.rising;
    positive = keys_where nat_cmp (λ i. 1 ≤ i) (λ d. not (c == d)) m.conns ids.positive;
  }

  there : (c : ℕ) (conn : Connection) → find nat_cmp c m.conns ≡ Some conn → 1 ≤ c
  there c conn e = keys_found nat_cmp (λ i. 1 ≤ i) nat_cmp-IsAntisymmetric c m.conns conn ids.positive e

change_ids : (m : Machine) → IdsOf m → (tree : Tree) (written : List Path) → IdsOf (changed_machine tree written m)
change_ids m ids tree written = tell_ids (changed_paths m.tree written tree) m.conns ids

module _ (m : Machine) (ids : IdsOf m) (c : ℕ) (conn : Connection) (h : 1 ≤ c) where
  inside_ids : (id : ℕ) (operation : Operation) (path : Path) (found : Option Transaction) → IdsOf (command_inside m c conn id operation path found).machine
  inside_ids id operation path None = ids
  inside_ids id operation path (Some t) = put_ids m ids c _ h

  run_command_ids : (tx : ℕ) (operation : Operation) (path : Path) → IdsOf (run_command m c conn tx operation path).machine
  run_command_ids tx operation path =
      let outcome : Outcome = outcome_on m.tree (ran_by conn operation path (generation_of m.gens path)) in
      if_ids (tx == 0) (done_command m outcome) (command_inside m c conn tx operation path (find nat_cmp tx conn.transactions))
      (change_ids m ids outcome.tree outcome.written) (inside_ids tx operation path (find nat_cmp tx conn.transactions))

  start_ids : (tx : ℕ) → IdsOf (start m c conn tx).machine
  start_ids tx =
      let id = least_free conn.transactions in
      let done = replied (string (decimal id)) (with_conn c (with_transaction id (started m.tree) conn) m) in
      let full = nat_le (transaction_limit conn.spec) (length conn.transactions) in
      if_ids (not (tx == 0)) (refused Ebusy m) (cond full (refused Enospc m) done) ids (if_ids full (refused Enospc m) done ids (put_ids m ids c _ h))

  finish_ids : (commit : Bool) (closed : Machine) (t : Transaction) → IdsOf closed → IdsOf (finish commit closed t).machine
  finish_ids false closed t k = k
  finish_ids true closed t k =
      if_ids (is_in_conflict t) (refused Eagain closed) (committed closed t (run_on closed.tree t)) k (change_ids closed k (run_on closed.tree t).tree (wrote t))

  close_ids : (commit : Bool) (id : ℕ) (found : Option Transaction) → IdsOf (close commit m c conn id found).machine
  close_ids commit id None = ids
  close_ids commit id (Some t) = finish_ids commit (with_conn c (without_transaction id conn) m) t (put_ids m ids c (without_transaction id conn) h)

  add_watch_ids : (w : Watch) → IdsOf (add_watch m c conn w).machine
  add_watch_ids w =
      let made : Done = record { reply = Ok ok_payload; machine = with_conn c (with_watches (conn.watches ++ w ∷ []) conn) m; sends = (c, first_event w) ∷ [] } in
      let full = not (may_watch conn) in
      if_ids (list_any (same_watch w) conn.watches) (refused Eexist m) (cond full (refused E2big m) made) ids (if_ids full (refused E2big m) made ids (put_ids m ids c _ h))

  remove_watch_ids : (w : Watch) → IdsOf (remove_watch m c conn w).machine
  remove_watch_ids w =
      if_ids (list_any (same_watch w) conn.watches) (granted (with_conn c (with_watches (filter (λ v. not (same_watch w v)) conn.watches) conn) m)) (refused Enoent m) (put_ids m ids c _ h) ids

module _ (m : Machine) (ids : IdsOf m) where
  set_spec_ids : (change : ConnSpec → ConnSpec) (c : ℕ) (found : Option Connection) → find nat_cmp c m.conns ≡ found → IdsOf (set_spec change c found m)
  set_spec_ids change c None e = ids
  set_spec_ids change c (Some conn) e = put_ids m ids c (with_spec (change conn.spec) conn) (there m ids c conn e)

  introduce_ids : (domid evtchn : ℕ) (found : Option ℕ) → IdsOf (introduce m domid evtchn found).machine
  introduce_ids domid evtchn None = put_ids m ids (least_free m.conns) (fresh (Ring domid None evtchn)) (least_free-is m.conns ids.rising ids.positive).positive
  introduce_ids domid evtchn (Some id) = set_spec_ids (with_evtchn evtchn) id (find nat_cmp id m.conns) refl

  release_ids : (found : Option ℕ) → IdsOf (release m found).machine
  release_ids None = ids
  release_ids (Some id) = drop_ids m ids id

  set_target_ids : (target : ℕ) (found : Option ℕ) (target_there : Bool) → IdsOf (set_target m target found target_there).machine
  set_target_ids target None target_there = ids
  set_target_ids target (Some id) false = ids
  set_target_ids target (Some id) true = set_spec_ids (with_target target) id (find nat_cmp id m.conns) refl

  control_ids : (conn : Connection) (done : Done) → IdsOf done.machine → IdsOf (if_control conn m done).machine
  control_ids conn done k = if_ids ((caller_of conn.spec).domid == 0) done (refused Eacces m) k ids

  act_ids : (c : ℕ) (conn : Connection) → 1 ≤ c → (tx : ℕ) (request : Request) → IdsOf (act m c conn tx request).machine
  act_ids c conn h tx (Command operation path) = run_command_ids m ids c conn h tx operation path
  act_ids c conn h tx (WatchRequest wpath token) = add_watch_ids m ids c conn h (record { wpath = wpath; token = token })
  act_ids c conn h tx (Unwatch wpath token) = remove_watch_ids m ids c conn h (record { wpath = wpath; token = token })
  act_ids c conn h tx Start = start_ids m ids c conn h tx
  act_ids c conn h tx (End commit) = close_ids m ids c conn h commit tx (find nat_cmp tx conn.transactions)
  act_ids c conn h tx (Introduce domid evtchn) = control_ids conn (introduce m domid evtchn (ring_of domid m.conns)) (introduce_ids domid evtchn (ring_of domid m.conns))
  act_ids c conn h tx (Release domid) = control_ids conn (release m (ring_of domid m.conns)) (release_ids (ring_of domid m.conns))
  act_ids c conn h tx (DomainPath domid) = ids
  act_ids c conn h tx (IsIntroduced domid) = ids
  act_ids c conn h tx (SetTarget domid target) =
      control_ids conn (set_target m target (ring_of domid m.conns) (has_ring target m.conns)) (set_target_ids target (ring_of domid m.conns) (has_ring target m.conns))
  act_ids c conn h tx ResetWatches = put_ids m ids c (fresh conn.spec) h

  asked_ids : (c : ℕ) (conn : Connection) → 1 ≤ c → (tx : ℕ) (request : Result Request WireErr) → IdsOf (act_or_refuse m c conn tx request).machine
  asked_ids c conn h tx (Err error) = ids
  asked_ids c conn h tx (Ok request) = act_ids c conn h tx request

  step_of_conn_ids : (served : List ℕ) (c : ℕ) (bytes : List ℕ) (found : Option Connection) → find nat_cmp c m.conns ≡ found → IdsOf (step_of_conn served m c bytes found).0
  step_of_conn_ids served c bytes None e = ids
  step_of_conn_ids served c bytes (Some conn) e =
      let head = header_of bytes in
      asked_ids c conn (there m ids c conn e) head.tx_id (request_of served head.kind (payload_of bytes) (caller_of conn.spec).domid)

  pub step_ids : (served : List ℕ) (item : Item) → IdsOf (step_with served m item).0
  step_ids served (Asked c bytes) = step_of_conn_ids served c bytes (find nat_cmp c m.conns) refl
  step_ids served (Lost c) = drop_ids m ids c

pub run_ids : (served : List ℕ) (items : List Item) → IdsOf (run_with served (past_at_start [] new_machine) items).machine
run_ids served items = run_keeps IdsOf step_ids served (past_at_start [] new_machine) items (record { rising = refl; positive = (le_refl 1, tt) })
