-- Each message that a request sends besides its reply is due.
use Rattle.std.specs.Prelude.{◌≡◌, ℕ, ◌==◌, Bool, true, false, cond, not, List, [], ◌∷◌, ◌++◌, Option, Some, None, Result, Ok, Err, length, filter, nat_le, decimal, ◌⊎◌}
use Rattle.std.specs.List.{AllByRecursion, Contains, list_any}
use Rattle.std.specs.Ordering.{nat_cmp}
use Rattle.std.specs.FinMap.{find, put, nat_cmp-IsAntisymmetric}
use Rattle.std.specs.FinMap.Entries.{by_order}
use Rattle.std.specs.declared.cmp.Ordering.TheVariants.{Less, Equal, Greater}
use Rattle.std.proofs.Common.{sym, refl, subst, inl, inr}
use Rattle.xs_model.specs.declared.message.WireErr.{WireErr}
use Rattle.xs_model.specs.declared.message.WireErr.TheVariants.{Eacces, Eexist, Enoent, Enospc, Ebusy, Eagain, E2big}
use Rattle.xs_model.specs.Paths.{Path}
use Rattle.xs_model.specs.Trees.{Tree}
use Rattle.xs_model.specs.Messages.{string, ok_payload}
use Rattle.xs_model.specs.Requests.{Operation, Request, Command, Watch as WatchRequest, Unwatch, Start, End, Introduce, Release, DomainPath, IsIntroduced, SetTarget, ResetWatches, introduce_domain, release_domain}
use Rattle.xs_model.specs.Commands.{Outcome}
use Rattle.xs_model.specs.Changes.{changed_paths}
use Rattle.xs_model.specs.Watches.{Watch, same_watch, first_event}
use Rattle.machine_model.specs.declared.ConnSpec.TheVariants.{Ring}
use Rattle.machine_model.specs.Connections.{Connection, fresh, caller_of, ring_of, has_ring, least_free}
use Rattle.xs_model.specs.Generations.{generation_of}
use Rattle.machine_model.specs.Transactions.{Transaction, started, outcome_on, run_on, wrote, is_in_conflict}
use Rattle.machine_model.specs.Machine.{Machine, Done, Send, refused, replied, granted, with_conn, without_conn, with_watches, with_transaction, without_transaction, tell, changed_machine, change_sends, special_sends, ran_by, done_command, command_inside, run_command, transaction_limit, start, committed, finish, close, may_watch, add_watch, remove_watch, if_control, introduce, release, set_target, act, act_or_refuse}
use Rattle.machine_model.specs.Sends.{IsDueToChange, IsDueToSpecial, IsDue}
use Rattle.machine_model.proofs.Lists.{contains_here, contains_later, all_weaker}
use Rattle.machine_model.proofs.EventLemmas.{change_due_told, special_due}

pub contains_put : {X : Type 0} (k : ℕ) (v : X) (es : List (ℕ × X)) → Contains (put nat_cmp k v es) (k, v)
contains_put k v [] = contains_here (k, v) []
contains_put k v (e ∷ es) =
    elim (nat_cmp k e.0) as (λ o. nat_cmp k e.0 ≡ o → Contains (by_order o ((k, v) ∷ e ∷ es) ((e.0, v) ∷ es) (e ∷ put nat_cmp k v es)) (k, v)) [
      | Less ↦ λ t. contains_here (k, v) (e ∷ es)
      | Equal ↦ λ t. subst (λ j. Contains ((j, v) ∷ es) (k, v)) (nat_cmp-IsAntisymmetric k e.0 t) (contains_here (k, v) es)
      | Greater ↦ λ t. contains_later (k, v) e (put nat_cmp k v es) (contains_put k v es)
    ] refl

module _ (m : Machine) where
  abbrev pub AreDue : Done → Type 0
  AreDue done = AllByRecursion (IsDue m done.machine) done.sends

  if_due : (b : Bool) (x y : Done) → AreDue x → AreDue y → AreDue (cond b x y)
  if_due true x y p q = p
  if_due false x y p q = q

  -- by the connections of a machine that has the same tree as m
  change_due_in : (now : Machine) → m.tree ≡ now.tree → (tree : Tree) (written : List Path) → AllByRecursion (IsDue m (changed_machine tree written now)) (change_sends now.tree written tree now.conns)
  change_due_in now same tree written =
      let after = changed_machine tree written now in
      all_weaker (λ (s : Send). IsDueToChange now.tree tree (tell (changed_paths now.tree written tree) now.conns) s.0 s.1) (IsDue m after)
      (λ s d. inl (subst (λ before. IsDueToChange before tree after.conns s.0 s.1) (sym same) d))
      (change_sends now.tree written tree now.conns) (change_due_told now.tree tree written (changed_paths now.tree written tree) now.conns)

  special_due_in : (new : Machine) (special : List ℕ) → (special ≡ introduce_domain) ⊎ (special ≡ release_domain) → AllByRecursion (IsDue m new) (special_sends special new.conns)
  special_due_in new special is =
      all_weaker (λ (s : Send). IsDueToSpecial new.conns s.0 s.1) (IsDue m new) (λ s d. inr (inl d)) (special_sends special new.conns) (special_due new.conns special is)

  module _ (c : ℕ) (conn : Connection) where
    inside_due : (id : ℕ) (operation : Operation) (path : Path) (found : Option Transaction) → AreDue (command_inside m c conn id operation path found)
    inside_due id operation path None = tt
    inside_due id operation path (Some t) = tt

    run_command_due : (tx : ℕ) (operation : Operation) (path : Path) → AreDue (run_command m c conn tx operation path)
    run_command_due tx operation path =
        let outcome : Outcome = outcome_on m.tree (ran_by conn operation path (generation_of m.gens path)) in
        if_due (tx == 0) (done_command m outcome) (command_inside m c conn tx operation path (find nat_cmp tx conn.transactions))
        (change_due_in m refl outcome.tree outcome.written) (inside_due tx operation path (find nat_cmp tx conn.transactions))

    start_due : (tx : ℕ) → AreDue (start m c conn tx)
    start_due tx =
        let id = least_free conn.transactions in
        let done = replied (string (decimal id)) (with_conn c (with_transaction id (started m.tree) conn) m) in
        let full = nat_le (transaction_limit conn.spec) (length conn.transactions) in
        if_due (not (tx == 0)) (refused Ebusy m) (cond full (refused Enospc m) done) tt (if_due full (refused Enospc m) done tt tt)

    finish_due : (commit : Bool) (closed : Machine) (t : Transaction) → m.tree ≡ closed.tree → AreDue (finish commit closed t)
    finish_due false closed t same = tt
    finish_due true closed t same =
        if_due (is_in_conflict t) (refused Eagain closed) (committed closed t (run_on closed.tree t)) tt
        (change_due_in closed same (run_on closed.tree t).tree (wrote t))

    close_due : (commit : Bool) (id : ℕ) (found : Option Transaction) → AreDue (close commit m c conn id found)
    close_due commit id None = tt
    close_due commit id (Some t) = finish_due commit (with_conn c (without_transaction id conn) m) t refl

    add_watch_due : find nat_cmp c m.conns ≡ Some conn → (w : Watch) → AreDue (add_watch m c conn w)
    add_watch_due stood w =
        let more : Connection = with_watches (conn.watches ++ w ∷ []) conn in
        let made : Done = record { reply = Ok ok_payload; machine = with_conn c more m; sends = (c, first_event w) ∷ [] } in
        let full = not (may_watch conn) in
        if_due (list_any (same_watch w) conn.watches) (refused Eexist m) (cond full (refused E2big m) made) tt
        (if_due full (refused E2big m) made tt
        (inr (inr (record { conn = more; there = contains_put c more m.conns; old = conn; stood = stood; watch = w; made = refl; sent = refl })), tt))

    remove_watch_due : (w : Watch) → AreDue (remove_watch m c conn w)
    remove_watch_due w =
        if_due (list_any (same_watch w) conn.watches) (granted (with_conn c (with_watches (filter (λ v. not (same_watch w v)) conn.watches) conn) m)) (refused Enoent m) tt tt

  introduce_due : (domid evtchn : ℕ) (found : Option ℕ) → AreDue (introduce m domid evtchn found)
  introduce_due domid evtchn None = special_due_in (with_conn (least_free m.conns) (fresh (Ring domid None evtchn)) m) introduce_domain (inl refl)
  introduce_due domid evtchn (Some id) = tt

  release_due : (found : Option ℕ) → AreDue (release m found)
  release_due None = tt
  release_due (Some id) = special_due_in (without_conn id m) release_domain (inr refl)

  set_target_due : (target : ℕ) (found : Option ℕ) (there : Bool) → AreDue (set_target m target found there)
  set_target_due target None there = tt
  set_target_due target (Some id) false = tt
  set_target_due target (Some id) true = tt

  control_due : (conn : Connection) (done : Done) → AreDue done → AreDue (if_control conn m done)
  control_due conn done h = if_due ((caller_of conn.spec).domid == 0) done (refused Eacces m) h tt

  pub act_due : (c : ℕ) (conn : Connection) → find nat_cmp c m.conns ≡ Some conn → (tx : ℕ) (request : Request) → AreDue (act m c conn tx request)
  act_due c conn stood tx (Command operation path) = run_command_due c conn tx operation path
  act_due c conn stood tx (WatchRequest wpath token) = add_watch_due c conn stood (record { wpath = wpath; token = token })
  act_due c conn stood tx (Unwatch wpath token) = remove_watch_due c conn (record { wpath = wpath; token = token })
  act_due c conn stood tx Start = start_due c conn tx
  act_due c conn stood tx (End commit) = close_due c conn commit tx (find nat_cmp tx conn.transactions)
  act_due c conn stood tx (Introduce domid evtchn) = control_due conn (introduce m domid evtchn (ring_of domid m.conns)) (introduce_due domid evtchn (ring_of domid m.conns))
  act_due c conn stood tx (Release domid) = control_due conn (release m (ring_of domid m.conns)) (release_due (ring_of domid m.conns))
  act_due c conn stood tx (DomainPath domid) = tt
  act_due c conn stood tx (IsIntroduced domid) = tt
  act_due c conn stood tx (SetTarget domid target) =
      control_due conn (set_target m target (ring_of domid m.conns) (has_ring target m.conns)) (set_target_due target (ring_of domid m.conns) (has_ring target m.conns))
  act_due c conn stood tx ResetWatches = tt

  pub asked_due : (c : ℕ) (conn : Connection) → find nat_cmp c m.conns ≡ Some conn → (tx : ℕ) (request : Result Request WireErr) → AreDue (act_or_refuse m c conn tx request)
  asked_due c conn stood tx (Err error) = tt
  asked_due c conn stood tx (Ok request) = act_due c conn stood tx request
