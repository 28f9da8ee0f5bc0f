-- A refused request leaves the store as it was.
use Rattle.std.specs.Prelude.{◌≡◌, ℕ, ◌==◌, Bool, true, false, cond, not, List, [], ◌∷◌, ◌++◌, length, filter, flat_map, nat_le, decimal, Option, Some, None, Result, Ok, Err, is_ok}
use Rattle.std.specs.List.{list_any}
use Rattle.std.specs.Ordering.{nat_cmp}
use Rattle.std.specs.FinMap.{find}
use Rattle.std.proofs.Common.{sym, refl, ap, subst, ◌∙◌}
use Rattle.xs_model.specs.declared.message.WireErr.{WireErr}
use Rattle.xs_model.specs.declared.message.WireErr.TheVariants.{Eacces, Eexist, Enoent, Enospc, Ebusy, E2big}
use Rattle.xs_model.specs.Paths.{Path}
use Rattle.xs_model.specs.Trees.{Tree}
use Rattle.xs_model.specs.Messages.{string, ok_payload}
use Rattle.xs_model.specs.Requests.{Operation, Request, Command, Watch as WatchRequest, Unwatch, Start, End, Introduce, Release, DomainPath, IsIntroduced, SetTarget, ResetWatches}
use Rattle.xs_model.specs.Commands.{Outcome}
use Rattle.xs_model.specs.Generations.{generation_of}
use Rattle.xs_model.specs.Watches.{Watch, same_watch, first_event}
use Rattle.xs_model.proofs.Maps.{not_both}
use Rattle.xs_model.proofs.RightLemmas.{unchanged_by_refusal}
use Rattle.machine_model.specs.declared.ConnSpec.{ConnSpec}
use Rattle.machine_model.specs.Connections.{Connection, Connections, caller_of, ring_of, has_ring, least_free}
use Rattle.machine_model.specs.Transactions.{started, outcome_on}
use Rattle.machine_model.specs.Machine.{Machine, Done, refused, replied, granted, with_conn, with_watches, with_transaction, changed_machine, change_sends, ran_by, done_command, command_inside, run_command, transaction_limit, start, may_watch, add_watch, remove_watch, if_control, introduce, release, set_target, act}
use Rattle.store_laws.specs.Refusals.{leaves_all}

-- a refusal is not granted
no_refusal : {A : Type 0} {payload : List ℕ} {error : WireErr} → ◌≡◌ {A = Result (List ℕ) WireErr} (Ok payload) (Err error) → A
no_refusal e = not_both refl (ap is_ok e)

-- nothing was written, so nobody is owed anything
nothing_owed : (before after : Tree) (conns : Connections) → change_sends before [] after conns ≡ []
nothing_owed before after [] = refl
nothing_owed before after (e ∷ conns) = nothing_owed before after conns

module _ (m : Machine) where
  abbrev Leaves : Done → Type 0
  Leaves done = (error : WireErr) → done.reply ≡ Err error → (done.machine ≡ m) × (done.sends ≡ [])

  refuses : (error : WireErr) → Leaves (refused error m)
  refuses error other e = (refl, refl)

  either : (b : Bool) (x y : Done) → Leaves x → Leaves y → Leaves (cond b x y)
  either true x y p q = p
  either false x y p q = q

  module _ (c : ℕ) (conn : Connection) where
    command_leaves : (operation : Operation) (path : Path) → Leaves (done_command m (outcome_on m.tree (ran_by conn operation path (generation_of m.gens path))))
    command_leaves operation path error e =
        let outcome : Outcome = outcome_on m.tree (ran_by conn operation path (generation_of m.gens path)) in
        let same = unchanged_by_refusal operation path (caller_of conn.spec) (generation_of m.gens path) m.tree error e in (
          (λ i. changed_machine (same.0 i) (same.1 i) m),
          (λ i. change_sends m.tree (same.1 i) (same.0 i) m.conns) ∙ nothing_owed m.tree m.tree m.conns,
        )

    run_leaves : (tx : ℕ) (operation : Operation) (path : Path) → (tx == 0) ≡ true → Leaves (run_command m c conn tx operation path)
    run_leaves tx operation path outside =
        subst (λ b. Leaves (cond b (done_command m (outcome_on m.tree (ran_by conn operation path (generation_of m.gens path)))) (command_inside m c conn tx operation path (find nat_cmp tx conn.transactions))))
        (sym outside) (command_leaves operation path)

    start_leaves : (tx : ℕ) → Leaves (start m c conn tx)
    start_leaves tx =
        let id = least_free conn.transactions in
        let done = replied (string (decimal id)) (with_conn c (with_transaction id (started m.tree) conn) m) in
        let full = nat_le (transaction_limit conn.spec) (length conn.transactions) in
        either (not (tx == 0)) (refused Ebusy m) (cond full (refused Enospc m) done) (refuses Ebusy) (either full (refused Enospc m) done (refuses Enospc) (λ error e. no_refusal e))

    add_watch_leaves : (w : Watch) → Leaves (add_watch m c conn w)
    add_watch_leaves w =
        let made : Done = record { reply = Ok ok_payload; machine = with_conn c (with_watches (conn.watches ++ w ∷ []) conn) m; sends = (c, first_event w) ∷ [] } in
        let full = not (may_watch conn) in
        either (list_any (same_watch w) conn.watches) (refused Eexist m) (cond full (refused E2big m) made) (refuses Eexist) (either full (refused E2big m) made (refuses E2big) (λ error e. no_refusal e))

    remove_watch_leaves : (w : Watch) → Leaves (remove_watch m c conn w)
    remove_watch_leaves w =
        either (list_any (same_watch w) conn.watches) (granted (with_conn c (with_watches (filter (λ v. not (same_watch w v)) conn.watches) conn) m)) (refused Enoent m) (λ error e. no_refusal e) (refuses Enoent)

  introduce_leaves : (domid evtchn : ℕ) (found : Option ℕ) → Leaves (introduce m domid evtchn found)
  introduce_leaves domid evtchn None = λ error e. no_refusal e
  introduce_leaves domid evtchn (Some id) = λ error e. no_refusal e

  release_leaves : (found : Option ℕ) → Leaves (release m found)
  release_leaves None = refuses Enoent
  release_leaves (Some id) = λ error e. no_refusal e

  set_target_leaves : (target : ℕ) (found : Option ℕ) (there : Bool) → Leaves (set_target m target found there)
  set_target_leaves target None there = refuses Enoent
  set_target_leaves target (Some id) false = refuses Enoent
  set_target_leaves target (Some id) true = λ error e. no_refusal e

  control_leaves : (conn : Connection) (done : Done) → Leaves done → Leaves (if_control conn m done)
  control_leaves conn done h = either ((caller_of conn.spec).domid == 0) done (refused Eacces m) h (refuses Eacces)

  act_leaves : (c : ℕ) (conn : Connection) (tx : ℕ) (request : Request) → leaves_all tx request ≡ true → Leaves (act m c conn tx request)
  act_leaves c conn tx (Command operation path) h = run_leaves c conn tx operation path h
  act_leaves c conn tx (WatchRequest wpath token) h = add_watch_leaves c conn (record { wpath = wpath; token = token })
  act_leaves c conn tx (Unwatch wpath token) h = remove_watch_leaves c conn (record { wpath = wpath; token = token })
  act_leaves c conn tx Start h = start_leaves c conn tx
  act_leaves c conn tx (End commit) h = not_both h refl
  act_leaves c conn tx (Introduce domid evtchn) h = control_leaves conn (introduce m domid evtchn (ring_of domid m.conns)) (introduce_leaves domid evtchn (ring_of domid m.conns))
  act_leaves c conn tx (Release domid) h = control_leaves conn (release m (ring_of domid m.conns)) (release_leaves (ring_of domid m.conns))
  act_leaves c conn tx (DomainPath domid) h = λ error e. no_refusal e
  act_leaves c conn tx (IsIntroduced domid) h = λ error e. no_refusal e
  act_leaves c conn tx (SetTarget domid target) h =
      control_leaves conn (set_target m target (ring_of domid m.conns) (has_ring target m.conns)) (set_target_leaves target (ring_of domid m.conns) (has_ring target m.conns))
  act_leaves c conn tx ResetWatches h = λ error e. no_refusal e

pub refusals_leave : (m : Machine) (c : ℕ) (conn : Connection) (tx : ℕ) (request : Request) (error : WireErr) → leaves_all tx request ≡ true → (act m c conn tx request).reply ≡ Err error
    → ((act m c conn tx request).machine ≡ m) × ((act m c conn tx request).sends ≡ [])
refusals_leave m c conn tx request error h e = act_leaves m c conn tx request h error e
