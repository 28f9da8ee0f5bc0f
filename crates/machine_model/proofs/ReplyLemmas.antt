-- What a step sends: one reply, and then events that are due.
use Rattle.std.specs.Prelude.{◌≡◌, ℕ, ◌==◌, Bool, true, false, cond, List, [], Option, Some, None, Result, Ok, Err, is_ok, ◌⊎◌, ◌≢◌, not}
use Rattle.std.specs.List.{AllByRecursion, list_any}
use Rattle.std.specs.Ordering.{nat_cmp}
use Rattle.std.specs.FinMap.{find, nat_cmp-IsAntisymmetric}
use Rattle.std.specs.FinMap.Entries.{where_key, find-where_key}
use Rattle.std.specs.declared.cmp.Ordering.TheVariants.{Equal}
use Rattle.std.proofs.Common.{sym, refl, ap, subst, ◌∙◌, inl, inr, arith, ⊎_elim, eq-eqb, ne_eqb}
use Rattle.xs_model.specs.declared.message.Header.{Header}
use Rattle.xs_model.specs.declared.message.WireErr.{WireErr}
use Rattle.xs_model.specs.declared.message.WireErr.TheVariants.{Einval, Enosys}
use Rattle.xs_model.specs.declared.message.kind.TheConstants.{WATCH_EVENT, ERROR}
use Rattle.xs_model.specs.Messages.{Message, header_of, payload_of}
use Rattle.xs_model.specs.Requests.{request_of}
use Rattle.xs_model.proofs.Maps.{not_both}
use Rattle.machine_model.specs.Connections.{Connection, Connections, caller_of}
use Rattle.machine_model.specs.Machine.{Machine, Item, Asked, Lost, Done, Send, act_or_refuse, reply_message, step_of_conn, step_with}
use Rattle.machine_model.specs.Sends.{IsAnswered, IsDue, IsDrop}
use Rattle.machine_model.proofs.Lists.{all_weaker}
use Rattle.machine_model.proofs.DueLemmas.{asked_due}

-- a message that is due is an event
due_kind : (before after : Machine) (s : Send) → IsDue before after s → s.1.kind ≡ WATCH_EVENT
due_kind before after s h = ⊎_elim (λ d. ap (λ (m : Message). m.kind) d.sent) (⊎_elim (λ d. ap (λ (m : Message). m.kind) d.sent) (λ d. ap (λ (m : Message). m.kind) d.sent)) h

-- REPLIES
reply-req_id : (head : Header) (reply : Result (List ℕ) WireErr) → (reply_message head reply).req_id ≡ head.req_id
reply-req_id head (Ok payload) = refl
reply-req_id head (Err error) = refl

reply-tx_id : (head : Header) (reply : Result (List ℕ) WireErr) → (reply_message head reply).tx_id ≡ head.tx_id
reply-tx_id head (Ok payload) = refl
reply-tx_id head (Err error) = refl

reply-kind : (head : Header) (reply : Result (List ℕ) WireErr) → ((reply_message head reply).kind ≡ head.kind) ⊎ ((reply_message head reply).kind ≡ ERROR)
reply-kind head (Ok payload) = inl refl
reply-kind head (Err error) = inr refl

reply-no_event : (head : Header) (reply : Result (List ℕ) WireErr) → (head.kind ≡ WATCH_EVENT → is_ok reply ≡ false) → (reply_message head reply).kind ≢ WATCH_EVENT
reply-no_event head (Ok payload) when_event e = not_both refl (when_event e)
reply-no_event head (Err error) when_event e = absurd (omega arith)

-- a request of the type of events is refused
refused_by : (m : Machine) (c : ℕ) (conn : Connection) (tx : ℕ) (b : Bool) → is_ok (act_or_refuse m c conn tx (cond b (Err Einval) (Err Enosys))).reply ≡ false
refused_by m c conn tx true = refl
refused_by m c conn tx false = refl

event_refused : (served : List ℕ) (m : Machine) (c : ℕ) (conn : Connection) (tx : ℕ) (payload : List ℕ) (domid kind : ℕ) → kind ≡ WATCH_EVENT → is_ok (act_or_refuse m c conn tx (request_of served kind payload domid)).reply ≡ false
event_refused served m c conn tx payload domid kind e =
    subst (λ k. is_ok (act_or_refuse m c conn tx (request_of served k payload domid)).reply ≡ false) (sym e) (refused_by m c conn tx (list_any (λ t. t == WATCH_EVENT) served))

abbrev done_of : List ℕ → Machine → ℕ → List ℕ → Connection → Done
done_of served m c bytes conn =
    let head = header_of bytes in act_or_refuse m c conn head.tx_id (request_of served head.kind (payload_of bytes) (caller_of conn.spec).domid)

no_event_of : (served : List ℕ) (m : Machine) (c : ℕ) (bytes : List ℕ) (conn : Connection) → (reply_message (header_of bytes) (done_of served m c bytes conn).reply).kind ≢ WATCH_EVENT
no_event_of served m c bytes conn =
    let head = header_of bytes in
    reply-no_event head (done_of served m c bytes conn).reply (event_refused served m c conn head.tx_id (payload_of bytes) (caller_of conn.spec).domid head.kind)

answered_of : (served : List ℕ) (m : Machine) (c : ℕ) (bytes : List ℕ) (conn : Connection) → find nat_cmp c m.conns ≡ Some conn → IsAnswered c (header_of bytes) (step_of_conn served m c bytes (Some conn)).1
answered_of served m c bytes conn stood =
    let head = header_of bytes in
    let done = done_of served m c bytes conn in
    record {
      reply = reply_message head done.reply;
      events = done.sends;
      first = refl;
      req_id = reply-req_id head done.reply;
      tx_id = reply-tx_id head done.reply;
      kind = reply-kind head done.reply;
      no_event = no_event_of served m c bytes conn;
      then_events = all_weaker (IsDue m done.machine) (λ (s : Send). s.1.kind ≡ WATCH_EVENT) (due_kind m done.machine) done.sends (asked_due m c conn stood head.tx_id (request_of served head.kind (payload_of bytes) (caller_of conn.spec).domid));
    }

pub is_answered : (served : List ℕ) (m : Machine) (c : ℕ) (conn : Connection) (bytes : List ℕ) → find nat_cmp c m.conns ≡ Some conn → IsAnswered c (header_of bytes) (step_with served m (Asked c bytes)).1
is_answered served m c conn bytes e = subst (λ found. IsAnswered c (header_of bytes) (step_of_conn served m c bytes found).1) (sym e) (answered_of served m c bytes conn e)

pub not_answered : (served : List ℕ) (m : Machine) (c : ℕ) (bytes : List ℕ) → find nat_cmp c m.conns ≡ None → step_with served m (Asked c bytes) ≡ (m, [])
not_answered served m c bytes e = ap (step_of_conn served m c bytes) e

-- EVENTS
events_due_of : (served : List ℕ) (m : Machine) (c : ℕ) (bytes : List ℕ) (found : Option Connection) → find nat_cmp c m.conns ≡ found → AllByRecursion (λ (s : Send). s.1.kind ≡ WATCH_EVENT → IsDue m (step_of_conn served m c bytes found).0 s) (step_of_conn served m c bytes found).1
events_due_of served m c bytes None stood = tt
events_due_of served m c bytes (Some conn) stood =
    let head = header_of bytes in
    let done = done_of served m c bytes conn in (
      λ e. absurd (no_event_of served m c bytes conn e),
      all_weaker (IsDue m done.machine) (λ (s : Send). s.1.kind ≡ WATCH_EVENT → IsDue m done.machine s) (λ s d _. d) done.sends (asked_due m c conn stood head.tx_id (request_of served head.kind (payload_of bytes) (caller_of conn.spec).domid)),
    )

pub events_due : (served : List ℕ) (m : Machine) (item : Item) → AllByRecursion (λ (s : Send). s.1.kind ≡ WATCH_EVENT → IsDue m (step_with served m item).0 s) (step_with served m item).1
events_due served m (Asked c bytes) = events_due_of served m c bytes (find nat_cmp c m.conns) refl
events_due served m (Lost c) = tt

-- DROPS
alike_key : (c q x : ℕ) → nat_cmp q x ≡ Equal → not (c == x) ≡ not (c == q)
alike_key c q x t = ap (λ y. not (c == y)) (sym (nat_cmp-IsAntisymmetric q x t))

pub found_without_conn : (c d : ℕ) (conns : Connections) → find nat_cmp d (where_key nat_cmp (λ x. not (c == x)) conns) ≡ cond (not (c == d)) (find nat_cmp d conns) None
found_without_conn c d conns = find-where_key nat_cmp (λ x. not (c == x)) d (λ x t. alike_key c d x t) conns

pub dropped : (served : List ℕ) (m : Machine) (c : ℕ) → IsDrop c m (step_with served m (Lost c))
dropped served m c = record {
  sends = refl;
  tree = refl;
  gens = refl;
  gone = found_without_conn c c m.conns ∙ ap (λ b. cond (not b) (find nat_cmp c m.conns) None) (eq-eqb c c refl);
  others = λ d apart. found_without_conn c d m.conns ∙ ap (λ b. cond (not b) (find nat_cmp d m.conns) None) (ne_eqb c d (λ e. apart (sym e)));
}
