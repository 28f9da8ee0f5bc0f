-- A property of the tree and of each connection, which the parts of a step keep, is kept by each step.
use Rattle.std.specs.Prelude.{◌≡◌, ℕ, ◌==◌, Bool, true, false, cond, not, List, [], ◌∷◌, ◌++◌, length, filter, nat_le, decimal, Option, Some, None, Result, Ok, Err}
use Rattle.std.specs.List.{AllByRecursion, list_any}
use Rattle.std.specs.Ordering.{nat_cmp}
use Rattle.std.specs.FinMap.{find}
use Rattle.std.proofs.Common.{refl}
use Rattle.std.proofs.lemmas.Bool.{not-false}
use Rattle.xs_model.specs.declared.message.WireErr.{WireErr}
use Rattle.xs_model.specs.declared.message.WireErr.TheVariants.{Eacces, Eexist, Enoent, Enospc, Ebusy, Eagain, E2big}
use Rattle.xs_model.specs.Paths.{Path}
use Rattle.xs_model.specs.Trees.{Tree}
use Rattle.xs_model.specs.Messages.{string, ok_payload, header_of, payload_of}
use Rattle.xs_model.specs.Requests.{Operation, Request, Command, Watch as WatchRequest, Unwatch, Start, End, Introduce, Release, DomainPath, IsIntroduced, SetTarget, ResetWatches, request_of}
use Rattle.xs_model.specs.Commands.{Outcome, command}
use Rattle.xs_model.specs.Changes.{changed_paths}
use Rattle.xs_model.specs.Generations.{generation_of}
use Rattle.xs_model.specs.Watches.{Watch, same_watch, first_event}
use Rattle.xs_model.proofs.FormLemmas.{IfAsked}
use Rattle.xs_model.proofs.Maps.{all_found, all_put, all_where, all_map}
use Rattle.machine_model.specs.declared.ConnSpec.{ConnSpec}
use Rattle.machine_model.specs.declared.ConnSpec.TheVariants.{Ring}
use Rattle.machine_model.specs.Connections.{Connection, Connections, fresh, caller_of, ring_of, has_ring, with_evtchn, with_target, least_free}
use Rattle.machine_model.specs.Transactions.{Transaction, Ran, started, outcome_on, count, run_on, wrote, is_in_conflict, with_command}
use Rattle.machine_model.specs.Machine.{Machine, Item, Asked, Lost, Done, refused, replied, granted, with_conn, without_conn, with_watches, with_transaction, without_transaction, with_spec, told, tell, changed_machine, ran_by, done_command, command_inside, run_command, transaction_limit, start, committed, finish, close, may_watch, add_watch, remove_watch, if_control, set_spec, introduce, release, set_target, act, act_or_refuse, step_of_conn, step_with}

-- of the tree, of a connection, and of a request
module _ (OfTree : Tree → Type 0) (OfConn : Connection → Type 0) (OfRequest : Request → Type 0) where
  pub record Has (m : Machine) : Type 0 where
    pub tree : OfTree m.tree
    pub conns : AllByRecursion (λ e. OfConn e.1) m.conns

  -- what the parts of a step keep
  pub record IsClosed : Type 0 where
    pub of_told : (paths : List Path) (conn : Connection) → OfConn conn → OfConn (told paths conn)
    pub of_command : (operation : Operation) (path : Path) (conn : Connection) (number : ℕ) (tree : Tree) → OfRequest (Command operation path) → OfTree tree → OfTree (command operation path (caller_of conn.spec) number tree).tree
    pub of_commit : (conn : Connection) (id : ℕ) (t : Transaction) (tree : Tree) → OfConn conn → find nat_cmp id conn.transactions ≡ Some t → OfTree tree → OfTree (run_on tree t).tree
    pub inside : (operation : Operation) (path : Path) (conn : Connection) (number id : ℕ) (t : Transaction) → OfRequest (Command operation path) → OfConn conn → find nat_cmp id conn.transactions ≡ Some t
        → OfConn (with_transaction id (with_command (ran_by conn operation path number) t) conn)
    pub opened : (conn : Connection) (tree : Tree) → OfConn conn → nat_le (transaction_limit conn.spec) (length conn.transactions) ≡ false → OfConn (with_transaction (least_free conn.transactions) (started tree) conn)
    pub closed : (conn : Connection) (id : ℕ) → OfConn conn → OfConn (without_transaction id conn)
    pub watched : (conn : Connection) (wpath token : List ℕ) → OfConn conn → OfRequest (WatchRequest wpath token) → may_watch conn ≡ true → OfConn (with_watches (conn.watches ++ record { wpath = wpath; token = token } ∷ []) conn)
    pub unwatched : (conn : Connection) (w : Watch) → OfConn conn → OfConn (with_watches (filter (λ v. not (same_watch w v)) conn.watches) conn)
    pub with_event_channel : (conn : Connection) (evtchn : ℕ) → OfConn conn → OfConn (with_spec (with_evtchn evtchn conn.spec) conn)
    pub with_other : (conn : Connection) (target : ℕ) → OfConn conn → OfConn (with_spec (with_target target conn.spec) conn)
    pub anew : (conn : Connection) → OfConn conn → OfConn (fresh conn.spec)
    pub introduced : (domid evtchn : ℕ) → OfRequest (Introduce domid evtchn) → OfConn (fresh (Ring domid None evtchn))

  module _ (keeps : IsClosed) where
    tell_has : (paths : List Path) (conns : Connections) → AllByRecursion (λ (e : ℕ × Connection). OfConn e.1) conns → AllByRecursion (λ (e : ℕ × Connection). OfConn e.1) (tell paths conns)
    tell_has [] conns h = h
    tell_has (p ∷ ps) conns h = all_map OfConn OfConn (told (p ∷ ps)) (keeps.of_told (p ∷ ps)) conns h

    with_conn_has : (m : Machine) → Has m → (c : ℕ) (conn : Connection) → OfConn conn → Has (with_conn c conn m)
    with_conn_has m has c conn h = record { tree = has.tree; conns = all_put nat_cmp OfConn c conn m.conns h has.conns }

    without_conn_has : (m : Machine) → Has m → (c : ℕ) → Has (without_conn c m)
    without_conn_has m has c = record { tree = has.tree; conns = all_where nat_cmp OfConn (λ d. not (c == d)) m.conns has.conns }

    change_has : (m : Machine) → Has m → (tree : Tree) (written : List Path) → OfTree tree → Has (changed_machine tree written m)
    change_has m has tree written h = record { tree = h; conns = tell_has (changed_paths m.tree written tree) m.conns has.conns }

    if_has : (b : Bool) (x y : Done) → (b ≡ true → Has x.machine) → (b ≡ false → Has y.machine) → Has (cond b x y).machine
    if_has true x y p q = p refl
    if_has false x y p q = q refl

    module _ (m : Machine) (has : Has m) (c : ℕ) (conn : Connection) (h : OfConn conn) where
      inside_has : (operation : Operation) (path : Path) (id : ℕ) (found : Option Transaction) → OfRequest (Command operation path) → find nat_cmp id conn.transactions ≡ found
          → Has (command_inside m c conn id operation path found).machine
      inside_has operation path id None asks e = has
      inside_has operation path id (Some t) asks e = with_conn_has m has c _ (keeps.inside operation path conn (count t) id t asks h e)

      command_has : (operation : Operation) (path : Path) (tx : ℕ) → OfRequest (Command operation path) → Has (run_command m c conn tx operation path).machine
      command_has operation path tx asks =
          let number = generation_of m.gens path in
          let outcome : Outcome = outcome_on m.tree (ran_by conn operation path number) in
          if_has (tx == 0) (done_command m outcome) (command_inside m c conn tx operation path (find nat_cmp tx conn.transactions))
          (λ e. change_has m has outcome.tree outcome.written (keeps.of_command operation path conn number m.tree asks has.tree))
          (λ e. inside_has operation path tx (find nat_cmp tx conn.transactions) asks refl)

      start_has : (tx : ℕ) → Has (start m c conn tx).machine
      start_has tx =
          let id = least_free conn.transactions in
          let done = replied (string (decimal id)) (with_conn c (with_transaction id (started m.tree) conn) m) in
          let full = nat_le (transaction_limit conn.spec) (length conn.transactions) in
          if_has (not (tx == 0)) (refused Ebusy m) (cond full (refused Enospc m) done) (λ e. has)
          (λ e. if_has full (refused Enospc m) done (λ f. has) (λ f. with_conn_has m has c _ (keeps.opened conn m.tree h f)))

      finish_has : (commit : Bool) (now : Machine) (id : ℕ) (t : Transaction) → Has now → find nat_cmp id conn.transactions ≡ Some t → Has (finish commit now t).machine
      finish_has false now id t has_now e = has_now
      finish_has true now id t has_now e =
          if_has (is_in_conflict t) (refused Eagain now) (committed now t (run_on now.tree t)) (λ f. has_now)
          (λ f. change_has now has_now (run_on now.tree t).tree (wrote t) (keeps.of_commit conn id t now.tree h e has_now.tree))

      close_has : (commit : Bool) (id : ℕ) (found : Option Transaction) → find nat_cmp id conn.transactions ≡ found → Has (close commit m c conn id found).machine
      close_has commit id None e = has
      close_has commit id (Some t) e = finish_has commit (with_conn c (without_transaction id conn) m) id t (with_conn_has m has c (without_transaction id conn) (keeps.closed conn id h)) e

      add_watch_has : (wpath token : List ℕ) → OfRequest (WatchRequest wpath token) → Has (add_watch m c conn (record { wpath = wpath; token = token })).machine
      add_watch_has wpath token asks =
          let w : Watch = record { wpath = wpath; token = token } in
          let made : Done = record { reply = Ok ok_payload; machine = with_conn c (with_watches (conn.watches ++ w ∷ []) conn) m; sends = (c, first_event w) ∷ [] } in
          let full = not (may_watch conn) in
          if_has (list_any (same_watch w) conn.watches) (refused Eexist m) (cond full (refused E2big m) made) (λ e. has)
          (λ e. if_has full (refused E2big m) made (λ f. has) (λ f. with_conn_has m has c _ (keeps.watched conn wpath token h asks (not-false (may_watch conn) f))))

      remove_watch_has : (w : Watch) → Has (remove_watch m c conn w).machine
      remove_watch_has w =
          if_has (list_any (same_watch w) conn.watches) (granted (with_conn c (with_watches (filter (λ v. not (same_watch w v)) conn.watches) conn) m)) (refused Enoent m)
          (λ e. with_conn_has m has c _ (keeps.unwatched conn w h)) (λ e. has)

    module _ (m : Machine) (has : Has m) where
      set_spec_has : (change : ConnSpec → ConnSpec) → ((conn : Connection) → OfConn conn → OfConn (with_spec (change conn.spec) conn)) → (c : ℕ) (found : Option Connection) → find nat_cmp c m.conns ≡ found → Has (set_spec change c found m)
      set_spec_has change to c None e = has
      set_spec_has change to c (Some conn) e = with_conn_has m has c (with_spec (change conn.spec) conn) (to conn (all_found nat_cmp OfConn c m.conns conn has.conns e))

      introduce_has : (domid evtchn : ℕ) (found : Option ℕ) → OfRequest (Introduce domid evtchn) → Has (introduce m domid evtchn found).machine
      introduce_has domid evtchn None asks = with_conn_has m has (least_free m.conns) (fresh (Ring domid None evtchn)) (keeps.introduced domid evtchn asks)
      introduce_has domid evtchn (Some id) asks = set_spec_has (with_evtchn evtchn) (λ conn. keeps.with_event_channel conn evtchn) id (find nat_cmp id m.conns) refl

      release_has : (found : Option ℕ) → Has (release m found).machine
      release_has None = has
      release_has (Some id) = without_conn_has m has id

      set_target_has : (target : ℕ) (found : Option ℕ) (there : Bool) → Has (set_target m target found there).machine
      set_target_has target None there = has
      set_target_has target (Some id) false = has
      set_target_has target (Some id) true = set_spec_has (with_target target) (λ conn. keeps.with_other conn target) id (find nat_cmp id m.conns) refl

      control_has : (conn : Connection) (done : Done) → Has done.machine → Has (if_control conn m done).machine
      control_has conn done h = if_has ((caller_of conn.spec).domid == 0) done (refused Eacces m) (λ e. h) (λ e. has)

      pub act_has : (c : ℕ) (conn : Connection) → OfConn conn → (tx : ℕ) (request : Request) → OfRequest request → Has (act m c conn tx request).machine
      act_has c conn h tx (Command operation path) asks = command_has m has c conn h operation path tx asks
      act_has c conn h tx (WatchRequest wpath token) asks = add_watch_has m has c conn h wpath token asks
      act_has c conn h tx (Unwatch wpath token) asks = remove_watch_has m has c conn h (record { wpath = wpath; token = token })
      act_has c conn h tx Start asks = start_has m has c conn h tx
      act_has c conn h tx (End commit) asks = close_has m has c conn h commit tx (find nat_cmp tx conn.transactions) refl
      act_has c conn h tx (Introduce domid evtchn) asks = control_has conn (introduce m domid evtchn (ring_of domid m.conns)) (introduce_has domid evtchn (ring_of domid m.conns) asks)
      act_has c conn h tx (Release domid) asks = control_has conn (release m (ring_of domid m.conns)) (release_has (ring_of domid m.conns))
      act_has c conn h tx (DomainPath domid) asks = has
      act_has c conn h tx (IsIntroduced domid) asks = has
      act_has c conn h tx (SetTarget domid target) asks =
          control_has conn (set_target m target (ring_of domid m.conns) (has_ring target m.conns)) (set_target_has target (ring_of domid m.conns) (has_ring target m.conns))
      act_has c conn h tx ResetWatches asks = with_conn_has m has c (fresh conn.spec) (keeps.anew conn h)

    -- where each request that is asked for is of the kind
    module _ (asks : (conn : Connection) → OfConn conn → (served : List ℕ) (kind : ℕ) (payload : List ℕ) → IfAsked OfRequest (request_of served kind payload (caller_of conn.spec).domid)) where
      asked_has : (m : Machine) → Has m → (c : ℕ) (conn : Connection) → OfConn conn → (tx : ℕ) (request : Result Request WireErr) → IfAsked OfRequest request → Has (act_or_refuse m c conn tx request).machine
      asked_has m has c conn h tx (Err error) ok = has
      asked_has m has c conn h tx (Ok request) ok = act_has m has c conn h tx request ok

      step_of_conn_has : (m : Machine) → Has m → (served : List ℕ) (c : ℕ) (bytes : List ℕ) (found : Option Connection) → find nat_cmp c m.conns ≡ found → Has (step_of_conn served m c bytes found).0
      step_of_conn_has m has served c bytes None e = has
      step_of_conn_has m has served c bytes (Some conn) e =
          let head = header_of bytes in
          let h : OfConn conn = all_found nat_cmp OfConn c m.conns conn has.conns e in
          asked_has m has c conn h head.tx_id (request_of served head.kind (payload_of bytes) (caller_of conn.spec).domid) (asks conn h served head.kind (payload_of bytes))

      pub step_has : (m : Machine) → Has m → (served : List ℕ) (item : Item) → Has (step_with served m item).0
      step_has m has served (Asked c bytes) = step_of_conn_has m has served c bytes (find nat_cmp c m.conns) refl
      step_has m has served (Lost c) = without_conn_has m has c
