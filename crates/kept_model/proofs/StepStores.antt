-- Each step of the store that is kept leaves a sound store sound.
use Rattle.std.specs.Prelude.{◌≡◌, ℕ, ◌+◌, ◌<◌, ◌≤◌, ◌^◌, ◌==◌, Bool, true, false, cond, not, List, [], ◌∷◌, ◌++◌, length, filter, nat_le, decimal, Option, Some, None, Result, Ok, Err}
use Rattle.std.specs.List.{AllByRecursion, list_any}
use Rattle.std.specs.Ordering.{nat_cmp}
use Rattle.std.specs.Cmp.{nat_cmp_total}
use Rattle.std.specs.FinMap.{find, put, nat_cmp-IsAntisymmetric}
use Rattle.std.specs.FinMap.Entries.{where_key}
use Rattle.std.proofs.Common.{sym, refl, subst, ◌∙◌, arith, leb-false}
use Rattle.std.proofs.lemmas.List.{length-drop}
use Rattle.xs_model.specs.declared.message.WireErr.{WireErr}
use Rattle.xs_model.specs.declared.message.WireErr.TheVariants.{Eacces, Eexist, Enoent, Enospc, Ebusy, Eagain, E2big}
use Rattle.xs_model.specs.Paths.{Path}
use Rattle.xs_model.specs.Trees.{Tree, Edit, edited, edit_paths}
use Rattle.xs_model.specs.Changes.{changed_paths}
use Rattle.xs_model.specs.Generations.{generation_of}
use Rattle.xs_model.specs.Messages.{header_of, payload_of, string, ok_payload}
use Rattle.xs_model.specs.Requests.{Operation, Request, Command, Watch as WatchRequest, Unwatch, Start, End, Introduce, Release, DomainPath, IsIntroduced, SetTarget, ResetWatches, is_watch_path, is_token, request_of}
use Rattle.xs_model.specs.Watches.{Watch, same_watch, first_event}
use Rattle.xs_model.proofs.FormLemmas.{IfAsked}
use Rattle.xs_model.proofs.Maps.{all_found, all_put, all_where, all_map, sorted_put, sorted_where, sorted_map, keys_put, keys_where, keys_map, keys_found}
use Rattle.machine_model.specs.declared.ConnSpec.{ConnSpec}
use Rattle.machine_model.specs.Connections.{Connection, Connections, fresh, caller_of, ring_of, has_ring, with_evtchn, with_target, least_free}
use Rattle.machine_model.specs.Transactions.{Ran, outcome_on}
use Rattle.machine_model.specs.Machine.{Machine, Item, Asked, Lost, Done, refused, granted, with_conn, without_conn, with_watches, with_spec, ran_by, transaction_limit, may_watch, add_watch, remove_watch, if_control, set_spec, introduce, release, set_target, act}
use Rattle.machine_model.specs.Limits.{HasIds}
use Rattle.machine_model.proofs.LimitLemmas.{least_free-is}
use Rattle.machine_model.proofs.Lists.{all_map_of, all_weaker}
use Rattle.mark_model.specs.Marks.{overlay, committed, written, edits_by, written_paths, write_all, note_all, has_conflict}
use Rattle.mark_model.specs.Stores.{KeptTransaction, Opens, KeptStore, KeptDone, opens_of, or_no_opens, kept_refused, kept_replied, with_opens, without_open, noted, noted_all, changed_store, kept_change, kept_outside, edits_of, ran_over, kept_inside, kept_command, no_marks, kept_start, kept_finish, kept_close, beside, kept_act, kept_act_or_refuse, kept_step_of, kept_step}
use Rattle.mark_model.proofs.MarkLaws.{laws}
use Rattle.mark_model.proofs.StoreMaps.{all_of_any}
use Rattle.mark_model.proofs.StoreSteps.{steps_keep_stores}
use Rattle.kept_model.specs.Sound.{IsSpelled, NodesFit, MarksFit, AreNumbers, SpecFits, has_nul, AreWatches, OpensFit}
use Rattle.kept_model.specs.Laws.{ItemFits, StepsKeepStoresSound}
use Rattle.kept_model.proofs.StepNodes.{EditsFit, edits_fit, edit_paths_spelled, changed_spelled, OperationFits, command_edits_fit, command_touched_spelled}
use Rattle.kept_model.proofs.StepMarks.{overlay_fits, written_edits_fit, access_all_fits, write_all_fits, note_all_fits, stamped_fits}
use Rattle.kept_model.proofs.StepRequests.{RequestFits, request_of_fits}
use Rattle.kept_model.proofs.StepConns.{ConnsFit, ConnFits, IsSameEnd, end_itself, evtchn_end, target_end, evtchn_fits, target_fits, caller_low, free_within, watches_more, watches_left, put_fits, new_fits, where_fits}

record MachineFits (m : Machine) : Type 0 where
  nodes : NodesFit m.tree
  numbers : AreNumbers m.tree m.gens
  conns : ConnsFit m.conns

abbrev EachFits : List (ℕ × Opens) → Type 0
EachFits opens = AllByRecursion (λ e. OpensFit e.1) opens

-- all of a sound store but that it is kept
record Fits (k : KeptStore) : Type 0 where
  machine : MachineFits k.machine
  opens : EachFits k.opens

-- OPEN TRANSACTIONS
abbrev IsNumber : ℕ → Type 0
IsNumber i = (1 ≤ i) × (i < 2 ^ 32)

abbrev OpenFits : KeptTransaction → Type 0
OpenFits t = MarksFit t.marks

nothing_open : OpensFit []
nothing_open = record { rising = refl; numbers = tt; marks = tt }

opens_there : (opens : List (ℕ × Opens)) → EachFits opens → (c : ℕ) → OpensFit (opens_of c opens)
opens_there opens h c = by (find nat_cmp c opens) refl
  where
    by : (o : Option Opens) → find nat_cmp c opens ≡ o → OpensFit (or_no_opens o)
    by None e = nothing_open
    by (Some ts) e = all_found nat_cmp OpensFit c opens ts h e

module _ (ts : Opens) (fit : OpensFit ts) where
  open_put : (id : ℕ) (t : KeptTransaction) → IsNumber id → OpenFits t → OpensFit (put nat_cmp id t ts)
  open_put id t n m = record {
    rising = sorted_put nat_cmp nat_cmp_total id t ts fit.rising;
    numbers = keys_put nat_cmp IsNumber id t ts n fit.numbers;
    marks = all_put nat_cmp OpenFits id t ts m fit.marks;
  }

  open_without : (id : ℕ) → OpensFit (without_open id ts)
  open_without id = record {
    rising = sorted_where nat_cmp (λ i. not (id == i)) ts fit.rising;
    numbers = keys_where nat_cmp IsNumber (λ i. not (id == i)) ts fit.numbers;
    marks = all_where nat_cmp OpenFits (λ i. not (id == i)) ts fit.marks;
  }

  open_noted : (tree : Tree) (ps : List Path) → NodesFit tree → AllByRecursion IsSpelled ps → OpensFit (noted tree ps ts)
  open_noted tree ps n s =
      let note_in : KeptTransaction → KeptTransaction = λ t. record { marks = note_all tree ps t.marks; count = t.count } in
      record {
        rising = sorted_map nat_cmp note_in ts ∙ fit.rising;
        numbers = keys_map IsNumber note_in ts fit.numbers;
        marks = all_map OpenFits OpenFits note_in (λ t h. note_all_fits tree ps t.marks n s h) ts fit.marks;
      }

  found_number : (id : ℕ) (t : KeptTransaction) → find nat_cmp id ts ≡ Some t → IsNumber id
  found_number id t e = keys_found nat_cmp IsNumber nat_cmp-IsAntisymmetric id ts t fit.numbers e

  found_fits : (id : ℕ) (t : KeptTransaction) → find nat_cmp id ts ≡ Some t → OpenFits t
  found_fits id t e = all_found nat_cmp OpenFits id ts t fit.marks e

  -- the number that START gives
  free_number : (limit : ℕ) → limit ≤ 65535 → nat_le limit (length ts) ≡ false → IsNumber (least_free ts)
  free_number limit most room =
      let fewer : length ts < limit = leb-false limit (length ts) room in
      let rest : least_free ts ≤ 1 + length ts = free_within 1 ts in
      ((least_free-is ts fit.rising (all_weaker (λ (e : ℕ × KeptTransaction). IsNumber e.0) (λ e. 1 ≤ e.0) (λ e n. n.0) ts fit.numbers)).positive, omega arith)

each_noted : (tree : Tree) (ps : List Path) (opens : List (ℕ × Opens)) → NodesFit tree → AllByRecursion IsSpelled ps → EachFits opens → EachFits (noted_all tree ps opens)
each_noted tree [] opens n s h = h
each_noted tree (p ∷ ps) opens n s h = all_map OpensFit OpensFit (noted tree (p ∷ ps)) (λ ts fit. open_noted ts fit tree (p ∷ ps) n s) opens h

limit_most : (spec : ConnSpec) → transaction_limit spec ≤ 65535
limit_most spec = by ((caller_of spec).domid == 0)
  where
    by : (b : Bool) → cond b 65535 10 ≤ 65535
    by true = omega arith
    by false = omega arith

-- A STORE
abbrev Leaves : KeptDone → Type 0
Leaves done = Fits done.store

if_leaves : (b : Bool) (x y : KeptDone) → (b ≡ true → Leaves x) → (b ≡ false → Leaves y) → Leaves (cond b x y)
if_leaves true x y p q = p refl
if_leaves false x y p q = q refl

module _ (k : KeptStore) (fit : Fits k) where
  opens_fit : (c : ℕ) (ts : Opens) → OpensFit ts → Fits (with_opens c ts k)
  opens_fit c ts f = record { machine = fit.machine; opens = all_put nat_cmp OpensFit c ts k.opens f fit.opens }

  -- a change by edits
  change_fits : (es : List Edit) → EditsFit es → Fits (changed_store (edited k.machine.tree es) (edit_paths es) k)
  change_fits es f =
      let before : Tree = k.machine.tree in
      let now : Tree = edited before es in
      record {
        machine = record {
          nodes = edits_fit before es fit.machine.nodes f;
          numbers = stamped_fits k.machine.gens before es fit.machine.numbers;
          conns = fit.machine.conns;
        };
        opens =
            each_noted before (changed_paths before (edit_paths es) now) k.opens fit.machine.nodes
            (changed_spelled before (edit_paths es) now (edit_paths_spelled es f)) fit.opens;
      }

  finish_fits : (commit : Bool) (t : KeptTransaction) → OpenFits t → Leaves (kept_finish commit k t)
  finish_fits false t h = fit
  finish_fits true t h =
      if_leaves (has_conflict t.marks) (kept_refused Eagain k) (kept_change (Ok ok_payload) (committed k.machine.tree t.marks) (written_paths t.marks) k) (λ e. fit)
      (λ e. change_fits (edits_by written t.marks) (written_edits_fit t.marks h))

  -- what the machine alone does
  beside_fits : (done : Done) → MachineFits done.machine → Leaves (beside k done)
  beside_fits done m = record {
    machine = m;
    opens =
        all_map_of (λ (e : ℕ × Opens). OpensFit e.1) (λ (e : ℕ × Connection). (e.0, opens_of e.0 k.opens)) done.machine.conns
        (all_of_any (λ (e : ℕ × Connection). OpensFit (opens_of e.0 k.opens)) (λ e. opens_there k.opens fit.opens e.0) done.machine.conns);
  }

  module _ (c : ℕ) (conn : Connection) (conn_fits : ConnFits conn) where
    abbrev here : Opens
    here = opens_of c k.opens

    here_fits : OpensFit here
    here_fits = opens_there k.opens fit.opens c

    -- COMMANDS
    inside_fits : (id : ℕ) (operation : Operation) (path : Path) → OperationFits operation → IsSpelled path → (found : Option KeptTransaction) → find nat_cmp id here ≡ found
        → Leaves (kept_inside k c conn id operation path found)
    inside_fits id operation path o s None e = fit
    inside_fits id operation path o s (Some t) e =
        let ran : Ran = ran_by conn operation path t.count in
        let seen : Tree = overlay k.machine.tree t.marks in
        let marks : MarksFit t.marks = found_fits here here_fits id t e in
        let nodes : NodesFit seen = overlay_fits k.machine.tree t.marks fit.machine.nodes marks in
        let low : (caller_of conn.spec).domid < 2 ^ 16 = caller_low conn.spec conn_fits.0 in
        let made : MarksFit (write_all (edits_of seen ran) t.marks) = write_all_fits (edits_of seen ran) t.marks (command_edits_fit operation path (caller_of conn.spec) t.count seen o s low nodes) marks in
        opens_fit c (put nat_cmp id (ran_over k.machine.tree ran t) here)
        (open_put here here_fits id (ran_over k.machine.tree ran t) (found_number here here_fits id t e)
        (access_all_fits (outcome_on seen ran).touched (write_all (edits_of seen ran) t.marks) (command_touched_spelled operation path (caller_of conn.spec) t.count seen o s low nodes) made))

    command_fits : (tx : ℕ) (operation : Operation) (path : Path) → OperationFits operation → IsSpelled path → Leaves (kept_command k c conn tx operation path)
    command_fits tx operation path o s =
        let ran : Ran = ran_by conn operation path (generation_of k.machine.gens path) in
        if_leaves (tx == 0) (kept_outside k (outcome_on k.machine.tree ran)) (kept_inside k c conn tx operation path (find nat_cmp tx here))
        (λ e. change_fits (edits_of k.machine.tree ran) (command_edits_fit operation path (caller_of conn.spec) ran.number k.machine.tree o s (caller_low conn.spec conn_fits.0) fit.machine.nodes))
        (λ e. inside_fits tx operation path o s (find nat_cmp tx here) refl)

    -- TRANSACTIONS
    start_fits : (tx : ℕ) → Leaves (kept_start k c conn tx here)
    start_fits tx =
        let full : Bool = nat_le (transaction_limit conn.spec) (length here) in
        let made : KeptDone = kept_replied (string (decimal (least_free here))) (with_opens c (put nat_cmp (least_free here) no_marks here) k) in
        if_leaves (not (tx == 0)) (kept_refused Ebusy k) (cond full (kept_refused Enospc k) made) (λ e. fit)
        (λ e. if_leaves full (kept_refused Enospc k) made (λ f. fit)
        (λ f. opens_fit c (put nat_cmp (least_free here) no_marks here) (open_put here here_fits (least_free here) no_marks (free_number here here_fits (transaction_limit conn.spec) (limit_most conn.spec) f) tt)))

-- END: the store without the transaction, then the commit
close_fits : (k : KeptStore) (fit : Fits k) (commit : Bool) (c id : ℕ) (ts : Opens) → OpensFit ts → (found : Option KeptTransaction) → find nat_cmp id ts ≡ found → Leaves (kept_close commit k c id ts found)
close_fits k fit commit c id ts f None e = fit
close_fits k fit commit c id ts f (Some t) e =
    finish_fits (with_opens c (without_open id ts) k) (opens_fit k fit c (without_open id ts) (open_without ts f id)) commit t (found_fits ts f id t e)

-- WATCHES AND DOMAINS
if_machine : (b : Bool) (x y : Done) → (b ≡ true → MachineFits x.machine) → (b ≡ false → MachineFits y.machine) → MachineFits (cond b x y).machine
if_machine true x y p q = p refl
if_machine false x y p q = q refl

module _ (m : Machine) (ids : HasIds m.conns) (fit : MachineFits m) where
  with_conns : (conns : Connections) → ConnsFit conns → MachineFits (record { tree = m.tree; gens = m.gens; conns = conns })
  with_conns conns h = record { nodes = fit.nodes; numbers = fit.numbers; conns = h }

  found_conn : (c : ℕ) (conn : Connection) → find nat_cmp c m.conns ≡ Some conn → ConnFits conn
  found_conn c conn e = (
    all_found nat_cmp (λ (conn : Connection). SpecFits conn.spec) c m.conns conn fit.conns.ends e,
    all_found nat_cmp (λ (conn : Connection). AreWatches (caller_of conn.spec).domid conn.watches) c m.conns conn fit.conns.watches e,
  )

  put_machine : (c : ℕ) (conn new : Connection) → find nat_cmp c m.conns ≡ Some conn → IsSameEnd new.spec conn.spec → ConnFits new → MachineFits (with_conn c new m)
  put_machine c conn new e same h = with_conns (put nat_cmp c new m.conns) (put_fits m.conns ids fit.conns c conn new e same h)

  without_machine : (c : ℕ) → MachineFits (without_conn c m)
  without_machine c = with_conns (where_key nat_cmp (λ d. not (c == d)) m.conns) (where_fits m.conns ids fit.conns (λ d. not (c == d)))

  module _ (c : ℕ) (conn : Connection) (found : find nat_cmp c m.conns ≡ Some conn) where
    watched_fits : (watches : List Watch) → AreWatches (caller_of conn.spec).domid watches → MachineFits (with_conn c (with_watches watches conn) m)
    watched_fits watches h = put_machine c conn (with_watches watches conn) found (end_itself conn.spec) ((found_conn c conn found).0, h)

    add_watch_fits : (w : Watch) → is_watch_path w.wpath (caller_of conn.spec).domid ≡ true → is_token w.token ≡ true → has_nul w.token ≡ false → MachineFits (add_watch m c conn w).machine
    add_watch_fits w p t is =
        let made : Done = record { reply = Ok ok_payload; machine = with_conn c (with_watches (conn.watches ++ w ∷ []) conn) m; sends = (c, first_event w) ∷ [] } in
        let full : Bool = not (may_watch conn) in
        if_machine (list_any (same_watch w) conn.watches) (refused Eexist m) (cond full (refused E2big m) made) (λ e. fit)
        (λ e. if_machine full (refused E2big m) made (λ f. fit)
        (λ f. watched_fits (conn.watches ++ w ∷ []) (watches_more (caller_of conn.spec).domid conn.watches w p t is e (found_conn c conn found).1)))

    remove_watch_fits : (w : Watch) → MachineFits (remove_watch m c conn w).machine
    remove_watch_fits w =
        let left : List Watch = filter (λ v. not (same_watch w v)) conn.watches in
        if_machine (list_any (same_watch w) conn.watches) (granted (with_conn c (with_watches left conn) m)) (refused Enoent m)
        (λ e. watched_fits left (watches_left (caller_of conn.spec).domid (λ v. not (same_watch w v)) conn.watches (found_conn c conn found).1)) (λ e. fit)

    reset_fits : MachineFits (with_conn c (fresh conn.spec) m)
    reset_fits = put_machine c conn (fresh conn.spec) found (end_itself conn.spec) ((found_conn c conn found).0, tt)

  set_spec_fits : (change : ConnSpec → ConnSpec) → ((spec : ConnSpec) → IsSameEnd (change spec) spec) → ((spec : ConnSpec) → SpecFits spec → SpecFits (change spec))
      → (c : ℕ) (o : Option Connection) → find nat_cmp c m.conns ≡ o → MachineFits (set_spec change c o m)
  set_spec_fits change same keeps c None e = fit
  set_spec_fits change same keeps c (Some conn) e =
      let old : ConnFits conn = found_conn c conn e in
      put_machine c conn (with_spec (change conn.spec) conn) e (same conn.spec) (keeps conn.spec old.0, subst (λ d. AreWatches d conn.watches) (sym (same conn.spec).domid) old.1)

  introduce_fits : (domid evtchn : ℕ) → domid ≤ 32751 → evtchn < 2 ^ 32 → (o : Option ℕ) → ring_of domid m.conns ≡ o → MachineFits (introduce m domid evtchn o).machine
  introduce_fits domid evtchn d l None e = with_conns _ (new_fits m.conns ids fit.conns domid evtchn e d l)
  introduce_fits domid evtchn d l (Some id) e = set_spec_fits (with_evtchn evtchn) (evtchn_end evtchn) (λ spec. evtchn_fits evtchn spec l) id (find nat_cmp id m.conns) refl

  release_fits : (o : Option ℕ) → MachineFits (release m o).machine
  release_fits None = fit
  release_fits (Some id) = without_machine id

  set_target_fits : (target : ℕ) → target ≤ 32751 → (o : Option ℕ) (there : Bool) → MachineFits (set_target m target o there).machine
  set_target_fits target l None there = fit
  set_target_fits target l (Some id) false = fit
  set_target_fits target l (Some id) true = set_spec_fits (with_target target) (target_end target) (λ spec. target_fits target spec l) id (find nat_cmp id m.conns) refl

  control_fits : (conn : Connection) (done : Done) → MachineFits done.machine → MachineFits (if_control conn m done).machine
  control_fits conn done h = if_machine ((caller_of conn.spec).domid == 0) done (refused Eacces m) (λ e. h) (λ e. fit)

-- ONE REQUEST
module _ (k : KeptStore) (ids : HasIds k.machine.conns) (fit : Fits k) where
  module _ (c : ℕ) (conn : Connection) (found : find nat_cmp c k.machine.conns ≡ Some conn) where
    of_conn : ConnFits conn
    of_conn = found_conn k.machine ids fit.machine c conn found

    act_fits : (tx : ℕ) (request : Request) → RequestFits (caller_of conn.spec).domid request → Leaves (kept_act k c conn tx request)
    act_fits tx (Command operation path) asks = command_fits k fit c conn of_conn tx operation path asks.0 asks.1
    act_fits tx (WatchRequest wpath token) asks =
        beside_fits k fit (act k.machine c conn tx (WatchRequest wpath token)) (add_watch_fits k.machine ids fit.machine c conn found (record { wpath = wpath; token = token }) asks.0 asks.1 asks.2)
    act_fits tx (Unwatch wpath token) asks =
        beside_fits k fit (act k.machine c conn tx (Unwatch wpath token)) (remove_watch_fits k.machine ids fit.machine c conn found (record { wpath = wpath; token = token }))
    act_fits tx Start asks = start_fits k fit c conn of_conn tx
    act_fits tx (End commit) asks = close_fits k fit commit c tx (opens_of c k.opens) (opens_there k.opens fit.opens c) (find nat_cmp tx (opens_of c k.opens)) refl
    act_fits tx (Introduce domid evtchn) asks =
        beside_fits k fit (act k.machine c conn tx (Introduce domid evtchn))
        (control_fits k.machine ids fit.machine conn (introduce k.machine domid evtchn (ring_of domid k.machine.conns)) (introduce_fits k.machine ids fit.machine domid evtchn asks.0 asks.1 (ring_of domid k.machine.conns) refl))
    act_fits tx (Release domid) asks =
        beside_fits k fit (act k.machine c conn tx (Release domid))
        (control_fits k.machine ids fit.machine conn (release k.machine (ring_of domid k.machine.conns)) (release_fits k.machine ids fit.machine (ring_of domid k.machine.conns)))
    act_fits tx (DomainPath domid) asks = beside_fits k fit (act k.machine c conn tx (DomainPath domid)) fit.machine
    act_fits tx (IsIntroduced domid) asks = beside_fits k fit (act k.machine c conn tx (IsIntroduced domid)) fit.machine
    act_fits tx (SetTarget domid target) asks =
        beside_fits k fit (act k.machine c conn tx (SetTarget domid target))
        (control_fits k.machine ids fit.machine conn (set_target k.machine target (ring_of domid k.machine.conns) (has_ring target k.machine.conns))
        (set_target_fits k.machine ids fit.machine target asks (ring_of domid k.machine.conns) (has_ring target k.machine.conns)))
    act_fits tx ResetWatches asks =
        beside_fits (with_opens c [] k) (opens_fit k fit c [] nothing_open) (act k.machine c conn tx ResetWatches) (reset_fits k.machine ids fit.machine c conn found)

    asked_fits : (tx : ℕ) (request : Result Request WireErr) → IfAsked (RequestFits (caller_of conn.spec).domid) request → Leaves (kept_act_or_refuse k c conn tx request)
    asked_fits tx (Err error) asks = fit
    asked_fits tx (Ok request) asks = act_fits tx request asks

  conn_fits : (served : List ℕ) (c : ℕ) (bytes : List ℕ) → length bytes ≤ 4112 → (o : Option Connection) → find nat_cmp c k.machine.conns ≡ o → Fits (kept_step_of served k c bytes o).0
  conn_fits served c bytes few None e = fit
  conn_fits served c bytes few (Some conn) e =
      let head = header_of bytes in
      let domid : ℕ = (caller_of conn.spec).domid in
      let payload : length (payload_of bytes) ≤ 4096 = omega (arith, length-drop 16 bytes, few) in
      asked_fits c conn e head.tx_id (request_of served head.kind (payload_of bytes) domid) (request_of_fits domid (payload_of bytes) served head.kind payload)

  step_fits : (served : List ℕ) (item : Item) → ItemFits item → Fits (kept_step served k item).0
  step_fits served (Asked c bytes) few = conn_fits served c bytes few (find nat_cmp c k.machine.conns) refl
  step_fits served (Lost c) few = record { machine = without_machine k.machine ids fit.machine c; opens = all_where nat_cmp OpensFit (λ d. not (c == d)) k.opens fit.opens }

-- THE STEP
pub steps_keep_sound : StepsKeepStoresSound
steps_keep_sound served k item few is =
    let fit : Fits k = record {
      machine = record {
        nodes = is.nodes;
        numbers = is.numbers;
        conns = record { ids = is.ids; ends = is.ends; rings = is.rings; sockets = is.sockets; watches = is.watches };
      };
      opens = is.opens;
    } in
    let now : Fits (kept_step served k item).0 = step_fits k is.kept.ids fit served item few in
    record {
      kept = steps_keep_stores laws served k item is.kept;
      nodes = now.machine.nodes;
      numbers = now.machine.numbers;
      ids = now.machine.conns.ids;
      ends = now.machine.conns.ends;
      rings = now.machine.conns.rings;
      sockets = now.machine.conns.sockets;
      watches = now.machine.conns.watches;
      opens = now.opens;
    }
