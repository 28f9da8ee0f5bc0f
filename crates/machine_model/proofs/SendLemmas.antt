-- Each message that a step sends is within the limits of a payload, and whole.
use Rattle.std.specs.Prelude.{◌≡◌, ℕ, ◌+◌, ◌≤◌, ◌==◌, Bool, true, false, cond, not, ◌||◌, List, [], ◌∷◌, ◌++◌, length, drop, filter, nat_le, decimal, Option, Some, None, Result, Ok, Err}
use Rattle.std.specs.List.{AllByRecursion, Contains, list_any}
use Rattle.std.specs.Ordering.{nat_cmp}
use Rattle.std.specs.FinMap.{find}
use Rattle.std.proofs.Common.{sym, refl, subst, arith, length-append, length-drop, ⊎_elim}
use Rattle.std.proofs.lemmas.Bool.{or_cases}
use Rattle.xs_model.specs.declared.message.Header.{Header}
use Rattle.xs_model.specs.declared.message.WireErr.{WireErr}
use Rattle.xs_model.specs.declared.message.WireErr.TheVariants.{Einval, Eacces, Eexist, Enoent, Enospc, Ebusy, Eagain, E2big, Enosys}
use Rattle.xs_model.specs.Paths.{Path, text, home, is_absolute}
use Rattle.xs_model.specs.Trees.{Tree, is_present}
use Rattle.xs_model.specs.Messages.{Message, string, ok_payload, error_name, header_of, payload_of}
use Rattle.xs_model.specs.Requests.{Operation, Request, Command, Watch as WatchRequest, Unwatch, Start, End, Introduce, Release, DomainPath, IsIntroduced, SetTarget, ResetWatches, request_of}
use Rattle.xs_model.specs.Watches.{Watch, Event, event_at, named_path, event_message, same_watch, first_event, is_gone_with_parent}
use Rattle.xs_model.specs.Laws.{IsShort, HasShortPaths}
use Rattle.xs_model.proofs.Maps.{not_Some}
use Rattle.xs_model.proofs.LengthLemmas.{decimal-length, home-length}
use Rattle.xs_model.proofs.ShortLemmas.{IsShortReply, command_reply}
use Rattle.machine_model.specs.Connections.{Connection, caller_of, ring_of, has_ring, least_free}
use Rattle.xs_model.specs.Generations.{generation_of}
use Rattle.machine_model.specs.Transactions.{Transaction, started, outcome_on, count, after, run_on, is_in_conflict}
use Rattle.machine_model.specs.Machine.{Machine, Item, Asked, Lost, Send, Done, refused, replied, granted, with_conn, with_watches, with_transaction, without_transaction, ran_by, done_command, command_inside, run_command, transaction_limit, start, committed, finish, close, may_watch, add_watch, remove_watch, if_control, introduce, release, set_target, introduced_payload, act, act_or_refuse, reply_message, step_of_conn, step_with}
use Rattle.machine_model.specs.History.{past_at_start, run_with}
use Rattle.machine_model.proofs.HistoryLemmas.{run_keeps}
use Rattle.machine_model.specs.Sends.{IsDueToChange, IsDueToSpecial, IsDueToWatch, IsDue}
use Rattle.machine_model.specs.Sizes.{IsOneMessage, IsSizedConn, IsSized}
use Rattle.machine_model.proofs.Lists.{contains_last, contained, all_weaker}
use Rattle.machine_model.proofs.DueLemmas.{asked_due}
use Rattle.machine_model.proofs.SizeLemmas.{step_sized}
use Rattle.machine_model.proofs.WholeLemmas.{whole_of}

-- EVENTS
event-length : (path token : List ℕ) → length path ≤ 3072 → length token ≤ 1022 → length (event_message path token).payload ≤ 4096
event-length path token h k = omega (arith, length-append (string path) (string token), length-append path (0 ∷ []), length-append token (0 ∷ []))

named-length : (domid : ℕ) (w : Watch) (p : Path) → IsShort p → length (named_path domid w p) ≤ 3072
named-length domid w p h = by (is_absolute w.wpath)
  where
    by : (b : Bool) → length (cond b (text p) (drop (length (text (home domid)) + 1) (text p))) ≤ 3072
    by true = h
    by false = omega (arith, length-drop (length (text (home domid)) + 1) (text p))

happened_by : (before after : Tree) (event : Event) (b : Bool) → (is_present before event.path || is_present after event.path) ≡ b
    → cond b (Some (record { path = event.path; exact = is_gone_with_parent after event.path })) None ≡ Some event → (is_present before event.path || is_present after event.path) ≡ true
happened_by before after event true p e = p
happened_by before after event false p e = not_Some e

event_short : (before after : Tree) (event : Event) → HasShortPaths before → HasShortPaths after → event_at before after event.path ≡ Some event → IsShort event.path
event_short before after event old new e =
    ⊎_elim (old event.path) (new event.path) (or_cases (is_present before event.path) (is_present after event.path) (happened_by before after event (is_present before event.path || is_present after event.path) refl e))

abbrev WatchIsSized : Watch → Type 0
WatchIsSized w = (length w.wpath ≤ 3072) × (length w.token ≤ 1022)

module _ (before after : Machine) (old : IsSized before) (new : IsSized after) where
  watch_sized : (c : ℕ) (conn : Connection) (w : Watch) → Contains after.conns (c, conn) → Contains conn.watches w → WatchIsSized w
  watch_sized c conn w there among =
      let conn_sized : IsSizedConn conn = contained (λ (e : ℕ × Connection). IsSizedConn e.1) after.conns (c, conn) new.conns there in
      contained WatchIsSized conn.watches w conn_sized.watches among

  change-short : (c : ℕ) (message : Message) → IsDueToChange before.tree after.tree after.conns c message → length message.payload ≤ 4096
  change-short c message d =
      let sized = watch_sized c d.conn d.watch d.there d.watches in
      subst (λ (m : Message). length m.payload ≤ 4096) (sym d.sent)
      (event-length (named_path (caller_of d.conn.spec).domid d.watch d.event.path) d.watch.token
      (named-length (caller_of d.conn.spec).domid d.watch d.event.path (event_short before.tree after.tree d.event old.tree new.tree d.happened)) sized.1)

  special-short : (c : ℕ) (message : Message) → IsDueToSpecial after.conns c message → length message.payload ≤ 4096
  special-short c message d =
      let sized = watch_sized c d.conn d.watch d.there d.watches in
      subst (λ (m : Message). length m.payload ≤ 4096) (sym d.sent) (event-length d.watch.wpath d.watch.token sized.0 sized.1)

  first-short : (c : ℕ) (message : Message) → IsDueToWatch before.conns after.conns c message → length message.payload ≤ 4096
  first-short c message d =
      let sized = watch_sized c d.conn d.watch d.there (subst (λ ws. Contains ws d.watch) (sym d.made) (contains_last d.old.watches d.watch)) in
      subst (λ (m : Message). length m.payload ≤ 4096) (sym d.sent) (event-length d.watch.wpath d.watch.token sized.0 sized.1)

  due-short : (s : Send) → IsDue before after s → length s.1.payload ≤ 4096
  due-short s h = ⊎_elim (change-short s.0 s.1) (⊎_elim (special-short s.0 s.1) (first-short s.0 s.1)) h

-- REPLIES
if_reply : (b : Bool) (x y : Done) → IsShortReply x.reply → IsShortReply y.reply → IsShortReply (cond b x y).reply
if_reply true x y p q = p
if_reply false x y p q = q

ok-short : IsShortReply (Ok ok_payload)
ok-short = omega arith

id-short : (n : ℕ) → length (string (decimal n)) ≤ 4096
id-short n = omega (arith, length-append (decimal n) (0 ∷ []), decimal-length n)

home-short : (domid : ℕ) → length (string (text (home domid))) ≤ 4096
home-short domid = omega (arith, length-append (text (home domid)) (0 ∷ []), home-length domid)

module _ (m : Machine) where
  inside_reply : (c : ℕ) (conn : Connection) (id : ℕ) (operation : Operation) (path : Path) (found : Option Transaction) → IsShortReply (command_inside m c conn id operation path found).reply
  inside_reply c conn id operation path None = tt
  inside_reply c conn id operation path (Some t) = command_reply operation path (caller_of conn.spec) (count t) (after t)

  run_command_reply : (c : ℕ) (conn : Connection) (tx : ℕ) (operation : Operation) (path : Path) → IsShortReply (run_command m c conn tx operation path).reply
  run_command_reply c conn tx operation path =
      let number = generation_of m.gens path in
      if_reply (tx == 0) (done_command m (outcome_on m.tree (ran_by conn operation path number))) (command_inside m c conn tx operation path (find nat_cmp tx conn.transactions))
      (command_reply operation path (caller_of conn.spec) number m.tree) (inside_reply c conn tx operation path (find nat_cmp tx conn.transactions))

  start_reply : (c : ℕ) (conn : Connection) (tx : ℕ) → IsShortReply (start m c conn tx).reply
  start_reply c conn tx =
      let id = least_free conn.transactions in
      let done = replied (string (decimal id)) (with_conn c (with_transaction id (started m.tree) conn) m) in
      let full = nat_le (transaction_limit conn.spec) (length conn.transactions) in
      if_reply (not (tx == 0)) (refused Ebusy m) (cond full (refused Enospc m) done) tt (if_reply full (refused Enospc m) done tt (id-short id))

  finish_reply : (commit : Bool) (closed : Machine) (t : Transaction) → IsShortReply (finish commit closed t).reply
  finish_reply false closed t = ok-short
  finish_reply true closed t = if_reply (is_in_conflict t) (refused Eagain closed) (committed closed t (run_on closed.tree t)) tt ok-short

  close_reply : (commit : Bool) (c : ℕ) (conn : Connection) (id : ℕ) (found : Option Transaction) → IsShortReply (close commit m c conn id found).reply
  close_reply commit c conn id None = tt
  close_reply commit c conn id (Some t) = finish_reply commit (with_conn c (without_transaction id conn) m) t

  add_watch_reply : (c : ℕ) (conn : Connection) (w : Watch) → IsShortReply (add_watch m c conn w).reply
  add_watch_reply c conn w =
      let made : Done = record { reply = Ok ok_payload; machine = with_conn c (with_watches (conn.watches ++ w ∷ []) conn) m; sends = (c, first_event w) ∷ [] } in
      let full = not (may_watch conn) in
      if_reply (list_any (same_watch w) conn.watches) (refused Eexist m) (cond full (refused E2big m) made) tt (if_reply full (refused E2big m) made tt ok-short)

  remove_watch_reply : (c : ℕ) (conn : Connection) (w : Watch) → IsShortReply (remove_watch m c conn w).reply
  remove_watch_reply c conn w =
      if_reply (list_any (same_watch w) conn.watches) (granted (with_conn c (with_watches (filter (λ v. not (same_watch w v)) conn.watches) conn) m)) (refused Enoent m) ok-short tt

  introduce_reply : (domid evtchn : ℕ) (found : Option ℕ) → IsShortReply (introduce m domid evtchn found).reply
  introduce_reply domid evtchn None = ok-short
  introduce_reply domid evtchn (Some id) = ok-short

  release_reply : (found : Option ℕ) → IsShortReply (release m found).reply
  release_reply None = tt
  release_reply (Some id) = ok-short

  set_target_reply : (target : ℕ) (found : Option ℕ) (there : Bool) → IsShortReply (set_target m target found there).reply
  set_target_reply target None there = tt
  set_target_reply target (Some id) false = tt
  set_target_reply target (Some id) true = ok-short

  control_reply : (conn : Connection) (done : Done) → IsShortReply done.reply → IsShortReply (if_control conn m done).reply
  control_reply conn done h = if_reply ((caller_of conn.spec).domid == 0) done (refused Eacces m) h tt

  introduced-short : (b : Bool) → length (introduced_payload b) ≤ 4096
  introduced-short true = omega arith
  introduced-short false = omega arith

  act_reply : (c : ℕ) (conn : Connection) (tx : ℕ) (request : Request) → IsShortReply (act m c conn tx request).reply
  act_reply c conn tx (Command operation path) = run_command_reply c conn tx operation path
  act_reply c conn tx (WatchRequest wpath token) = add_watch_reply c conn (record { wpath = wpath; token = token })
  act_reply c conn tx (Unwatch wpath token) = remove_watch_reply c conn (record { wpath = wpath; token = token })
  act_reply c conn tx Start = start_reply c conn tx
  act_reply c conn tx (End commit) = close_reply commit c conn tx (find nat_cmp tx conn.transactions)
  act_reply c conn tx (Introduce domid evtchn) = control_reply conn (introduce m domid evtchn (ring_of domid m.conns)) (introduce_reply domid evtchn (ring_of domid m.conns))
  act_reply c conn tx (Release domid) = control_reply conn (release m (ring_of domid m.conns)) (release_reply (ring_of domid m.conns))
  act_reply c conn tx (DomainPath domid) = home-short domid
  act_reply c conn tx (IsIntroduced domid) = introduced-short (has_ring domid m.conns)
  act_reply c conn tx (SetTarget domid target) =
      control_reply conn (set_target m target (ring_of domid m.conns) (has_ring target m.conns)) (set_target_reply target (ring_of domid m.conns) (has_ring target m.conns))
  act_reply c conn tx ResetWatches = ok-short

  asked_reply : (c : ℕ) (conn : Connection) (tx : ℕ) (request : Result Request WireErr) → IsShortReply (act_or_refuse m c conn tx request).reply
  asked_reply c conn tx (Err error) = tt
  asked_reply c conn tx (Ok request) = act_reply c conn tx request

error-short : (error : WireErr) → length (string (error_name error)) ≤ 4096
error-short Einval = omega arith
error-short Eacces = omega arith
error-short Eexist = omega arith
error-short Enoent = omega arith
error-short Enospc = omega arith
error-short Ebusy = omega arith
error-short Eagain = omega arith
error-short E2big = omega arith
error-short Enosys = omega arith

reply-short : (head : Header) (reply : Result (List ℕ) WireErr) → IsShortReply reply → length (reply_message head reply).payload ≤ 4096
reply-short head (Ok payload) h = h
reply-short head (Err error) h = error-short error

-- ALL THAT A STEP SENDS
sends_of : (served : List ℕ) (m : Machine) → IsSized m → (c : ℕ) (bytes : List ℕ) (found : Option Connection) → find nat_cmp c m.conns ≡ found → IsSized (step_of_conn served m c bytes found).0 → AllByRecursion (λ (s : Send). IsOneMessage s.1) (step_of_conn served m c bytes found).1
sends_of served m is c bytes None e next = tt
sends_of served m is c bytes (Some conn) e next =
    let head = header_of bytes in
    let request = request_of served head.kind (payload_of bytes) (caller_of conn.spec).domid in
    let done = act_or_refuse m c conn head.tx_id request in (
      whole_of (reply_message head done.reply) (reply-short head done.reply (asked_reply m c conn head.tx_id request)),
      all_weaker (IsDue m done.machine) (λ (s : Send). IsOneMessage s.1) (λ s d. whole_of s.1 (due-short m done.machine is next s d)) done.sends (asked_due m c conn e head.tx_id request),
    )

pub each_whole : (m : Machine) → IsSized m → (served : List ℕ) (item : Item) → AllByRecursion (λ (s : Send). IsOneMessage s.1) (step_with served m item).1
each_whole m is served (Asked c bytes) = sends_of served m is c bytes (find nat_cmp c m.conns) refl (step_sized m is served (Asked c bytes))
each_whole m is served (Lost c) = tt

pub run_sized : (served : List ℕ) (start : Machine) (items : List Item) → IsSized start → IsSized (run_with served (past_at_start [] start) items).machine
run_sized served start items h = run_keeps IsSized step_sized served (past_at_start [] start) items h
