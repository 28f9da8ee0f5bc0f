-- What a request does to the connections of the sequential store: the same ids stay, one connection comes or one goes.
use Rattle.std.proofs.Common.{◌≡◌, ℕ, ◌==◌, Bool, true, false, cond, not, List, [], ◌∷◌, ◌++◌, length, map, filter, nat_le, decimal, Option, Some, None, Result, Ok, Err, refl, ap, ◌∙◌}
use Rattle.std.specs.List.{list_any}
use Rattle.std.specs.Ordering.{nat_cmp}
use Rattle.std.specs.FinMap.{find, put}
use Rattle.std.specs.FinMap.Entries.{where_key}
use Rattle.xs_model.specs.declared.message.WireErr.{WireErr}
use Rattle.xs_model.specs.declared.message.WireErr.TheVariants.{Eacces, Eexist, Enoent, Enospc, Ebusy, Eagain, E2big}
use Rattle.xs_model.specs.Paths.{Path}
use Rattle.xs_model.specs.Trees.{Tree}
use Rattle.xs_model.specs.Messages.{string, ok_payload, header_of, payload_of}
use Rattle.xs_model.specs.Requests.{Operation, Request, Command, Watch as WatchRequest, Unwatch, Start, End, Introduce, Release, DomainPath, IsIntroduced, SetTarget, ResetWatches, request_of}
use Rattle.xs_model.specs.Commands.{Outcome}
use Rattle.xs_model.specs.Changes.{changed_paths}
use Rattle.xs_model.specs.Generations.{generation_of}
use Rattle.xs_model.specs.Watches.{Watch, same_watch, first_event}
use Rattle.machine_model.specs.declared.ConnSpec.{ConnSpec}
use Rattle.machine_model.specs.declared.ConnSpec.TheVariants.{Ring}
use Rattle.machine_model.specs.Connections.{Connection, Connections, fresh, caller_of, ring_of, has_ring, with_evtchn, with_target, least_free}
use Rattle.machine_model.specs.Transactions.{Transaction, started, outcome_on, run_on, wrote, is_in_conflict}
use Rattle.machine_model.specs.Machine.{Machine, Asked, Done, refused, replied, granted, with_conn, with_watches, with_transaction, without_transaction, with_spec, told, tell, changed_machine, ran_by, done_command, command_inside, run_command, transaction_limit, start, committed, finish, close, may_watch, add_watch, remove_watch, if_control, set_spec, introduce, release, set_target, act, act_or_refuse, step_of_conn, step_with}
use Rattle.machine_model.specs.Limits.{HasIds}
use Rattle.machine_model.proofs.LimitLemmas.{least_free-is}
use Rattle.conn_rows.proofs.IdEntries.{keys_map, same_put, put_again}

pub data Shape (before after : Connections) : Type 0 where
  Stays : map (λ e. e.0) after ≡ map (λ e. e.0) before → Shape before after
  Comes : (id : ℕ) (spec : ConnSpec) → find nat_cmp id before ≡ None → after ≡ put nat_cmp id (fresh spec) before → Shape before after
  Goes : (id : ℕ) → after ≡ where_key nat_cmp (λ d. not (id == d)) before → Shape before after

if_shape : (conns : Connections) (b : Bool) (x y : Done) → Shape conns x.machine.conns → Shape conns y.machine.conns → Shape conns (cond b x y).machine.conns
if_shape conns true x y p q = p
if_shape conns false x y p q = q

told_keys : (paths : List Path) (conns : Connections) → map (λ e. e.0) (tell paths conns) ≡ map (λ e. e.0) conns
told_keys [] conns = refl
told_keys (p ∷ ps) conns = keys_map (told (p ∷ ps)) conns

changed_keys : (m : Machine) (tree : Tree) (written : List Path) → map (λ e. e.0) (changed_machine tree written m).conns ≡ map (λ e. e.0) m.conns
changed_keys m tree written = told_keys (changed_paths m.tree written tree) m.conns

module _ (m : Machine) (ids : HasIds m.conns) where
  abbrev ShapeOf : Machine → Type 0
  ShapeOf n = Shape m.conns n.conns

  same : ShapeOf m
  same = Stays refl

  put_keys : (c : ℕ) (conn new : Connection) → find nat_cmp c m.conns ≡ Some conn → map (λ e. e.0) (put nat_cmp c new m.conns) ≡ map (λ e. e.0) m.conns
  put_keys c conn new found = same_put m.conns m.conns refl c new conn ∙ ap (map (λ e. e.0)) (put_again c conn m.conns ids.rising found)

  module _ (c : ℕ) (conn : Connection) (found : find nat_cmp c m.conns ≡ Some conn) where
    instead : (new : Connection) → ShapeOf (with_conn c new m)
    instead new = Stays (put_keys c conn new found)

    inside_shape : (id : ℕ) (operation : Operation) (path : Path) (t : Option Transaction) → ShapeOf (command_inside m c conn id operation path t).machine
    inside_shape id operation path None = same
    inside_shape id operation path (Some t) = instead _

    command_shape : (tx : ℕ) (operation : Operation) (path : Path) → ShapeOf (run_command m c conn tx operation path).machine
    command_shape tx operation path =
        let outcome : Outcome = outcome_on m.tree (ran_by conn operation path (generation_of m.gens path)) in
        if_shape m.conns (tx == 0) (done_command m outcome) (command_inside m c conn tx operation path (find nat_cmp tx conn.transactions))
        (Stays (changed_keys m outcome.tree outcome.written)) (inside_shape tx operation path (find nat_cmp tx conn.transactions))

    start_shape : (tx : ℕ) → ShapeOf (start m c conn tx).machine
    start_shape tx =
        let id : ℕ = least_free conn.transactions in
        let done : Done = replied (string (decimal id)) (with_conn c (with_transaction id (started m.tree) conn) m) in
        let full : Bool = nat_le (transaction_limit conn.spec) (length conn.transactions) in
        if_shape m.conns (not (tx == 0)) (refused Ebusy m) (cond full (refused Enospc m) done) same (if_shape m.conns full (refused Enospc m) done same (instead _))

    finish_shape : (commit : Bool) (new : Connection) (t : Transaction) → ShapeOf (finish commit (with_conn c new m) t).machine
    finish_shape false new t = instead new
    finish_shape true new t =
        let closed : Machine = with_conn c new m in
        if_shape m.conns (is_in_conflict t) (refused Eagain closed) (committed closed t (run_on closed.tree t)) (instead new)
        (Stays (changed_keys closed (run_on closed.tree t).tree (wrote t) ∙ put_keys c conn new found))

    close_shape : (commit : Bool) (id : ℕ) (t : Option Transaction) → ShapeOf (close commit m c conn id t).machine
    close_shape commit id None = same
    close_shape commit id (Some t) = finish_shape commit (without_transaction id conn) t

    add_watch_shape : (w : Watch) → ShapeOf (add_watch m c conn w).machine
    add_watch_shape w =
        let made : Done = record { reply = Ok ok_payload; machine = with_conn c (with_watches (conn.watches ++ w ∷ []) conn) m; sends = (c, first_event w) ∷ [] } in
        let full : Bool = not (may_watch conn) in
        if_shape m.conns (list_any (same_watch w) conn.watches) (refused Eexist m) (cond full (refused E2big m) made) same (if_shape m.conns full (refused E2big m) made same (instead _))

    remove_watch_shape : (w : Watch) → ShapeOf (remove_watch m c conn w).machine
    remove_watch_shape w =
        if_shape m.conns (list_any (same_watch w) conn.watches) (granted (with_conn c (with_watches (filter (λ v. not (same_watch w v)) conn.watches) conn) m)) (refused Enoent m) (instead _) same

  -- DOMAINS
  set_shape : (change : ConnSpec → ConnSpec) (c : ℕ) (found : Option Connection) → find nat_cmp c m.conns ≡ found → ShapeOf (set_spec change c found m)
  set_shape change c None e = same
  set_shape change c (Some conn) e = instead c conn e (with_spec (change conn.spec) conn)

  introduce_shape : (domid evtchn : ℕ) (found : Option ℕ) → ShapeOf (introduce m domid evtchn found).machine
  introduce_shape domid evtchn None = Comes (least_free m.conns) (Ring domid None evtchn) (least_free-is m.conns ids.rising ids.positive).free refl
  introduce_shape domid evtchn (Some id) = set_shape (with_evtchn evtchn) id (find nat_cmp id m.conns) refl

  release_shape : (found : Option ℕ) → ShapeOf (release m found).machine
  release_shape None = same
  release_shape (Some id) = Goes id refl

  target_shape : (target : ℕ) (found : Option ℕ) (target_there : Bool) → ShapeOf (set_target m target found target_there).machine
  target_shape target None target_there = same
  target_shape target (Some id) false = same
  target_shape target (Some id) true = set_shape (with_target target) id (find nat_cmp id m.conns) refl

  control_shape : (conn : Connection) (done : Done) → ShapeOf done.machine → ShapeOf (if_control conn m done).machine
  control_shape conn done k = if_shape m.conns ((caller_of conn.spec).domid == 0) done (refused Eacces m) k same

  act_shape : (c : ℕ) (conn : Connection) → find nat_cmp c m.conns ≡ Some conn → (tx : ℕ) (request : Request) → ShapeOf (act m c conn tx request).machine
  act_shape c conn e tx (Command operation path) = command_shape c conn e tx operation path
  act_shape c conn e tx (WatchRequest wpath token) = add_watch_shape c conn e (record { wpath = wpath; token = token })
  act_shape c conn e tx (Unwatch wpath token) = remove_watch_shape c conn e (record { wpath = wpath; token = token })
  act_shape c conn e tx Start = start_shape c conn e tx
  act_shape c conn e tx (End commit) = close_shape c conn e commit tx (find nat_cmp tx conn.transactions)
  act_shape c conn e tx (Introduce domid evtchn) = control_shape conn (introduce m domid evtchn (ring_of domid m.conns)) (introduce_shape domid evtchn (ring_of domid m.conns))
  act_shape c conn e tx (Release domid) = control_shape conn (release m (ring_of domid m.conns)) (release_shape (ring_of domid m.conns))
  act_shape c conn e tx (DomainPath domid) = same
  act_shape c conn e tx (IsIntroduced domid) = same
  act_shape c conn e tx (SetTarget domid target) =
      control_shape conn (set_target m target (ring_of domid m.conns) (has_ring target m.conns)) (target_shape target (ring_of domid m.conns) (has_ring target m.conns))
  act_shape c conn e tx ResetWatches = instead c conn e (fresh conn.spec)

  asked_shape : (c : ℕ) (conn : Connection) → find nat_cmp c m.conns ≡ Some conn → (tx : ℕ) (request : Result Request WireErr) → ShapeOf (act_or_refuse m c conn tx request).machine
  asked_shape c conn e tx (Err error) = same
  asked_shape c conn e tx (Ok request) = act_shape c conn e tx request

  by_conn : (served : List ℕ) (c : ℕ) (bytes : List ℕ) (found : Option Connection) → find nat_cmp c m.conns ≡ found → ShapeOf (step_of_conn served m c bytes found).0
  by_conn served c bytes None e = same
  by_conn served c bytes (Some conn) e =
      let head = header_of bytes in
      asked_shape c conn e head.tx_id (request_of served head.kind (payload_of bytes) (caller_of conn.spec).domid)

  pub step_shape : (served : List ℕ) (c : ℕ) (bytes : List ℕ) → ShapeOf (step_with served m (Asked c bytes)).0
  step_shape served c bytes = by_conn served c bytes (find nat_cmp c m.conns) refl
