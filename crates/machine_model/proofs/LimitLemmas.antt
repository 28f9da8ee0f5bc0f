-- Each step keeps each connection within its limits, and START gives the least id that is free.
use Rattle.std.specs.Prelude.{◌≡◌, ℕ, suc, ◌+◌, ◌<◌, ◌≤◌, ◌==◌, Bool, true, false, cond, not, ◌||◌, List, [], ◌∷◌, ◌++◌, length, filter, nat_le, nat_lt, Some, None, is_some, ◌≢◌, Result, Ok, Err, is_ok, decimal}
use Rattle.std.specs.List.{AllByRecursion}
use Rattle.std.specs.Ordering.{nat_cmp, is_lt, eq_by_cmp}
use Rattle.std.specs.Cmp.{nat_cmp_total, unsigned_tied}
use Rattle.std.specs.FinMap.{find, put, is_sorted, nat_cmp-IsAntisymmetric}
use Rattle.std.specs.FinMap.Entries.{below_all}
use Rattle.std.proofs.Common.{sym, refl, ap, ◌∙◌, arith, eqb-true, ne_eqb, eq-eqb, leb-false, ltb-true, length-append, Less, Equal, Greater, le_of_eq, le_refl}
use Rattle.std.proofs.lemmas.Bool.{and_parts, eqb-false}
use Rattle.xs_model.specs.Paths.{Path}
use Rattle.xs_model.specs.Watches.{Watch, same_watch}
use Rattle.xs_model.proofs.Maps.{not_both, all_found, found_put, sorted_put, sorted_where, sorted_map, keys_put, keys_where, keys_map, keys_found, length_put, length_where, length_map}
use Rattle.machine_model.proofs.Lists.{all_weaker}
use Rattle.machine_model.specs.declared.ConnSpec.{ConnSpec}
use Rattle.machine_model.specs.declared.ConnSpec.TheVariants.{Ring, Socket}
use Rattle.machine_model.specs.Connections.{Connection, fresh, caller_of, with_evtchn, with_target, least_free_from, least_free}
use Rattle.machine_model.specs.Transactions.{Transaction, started, with_others}
use Rattle.machine_model.specs.Machine.{Machine, new_machine, refused, replied, with_conn, start, Item, transaction_limit, told, with_transaction, without_transaction, with_watches, with_spec, may_watch, step_with}
use Rattle.machine_model.proofs.ClosedLemmas.{Has, IsClosed, step_has}
use Rattle.xs_model.proofs.FormLemmas.{IfAsked}
use Rattle.xs_model.specs.Requests.{Request}
use Rattle.xs_model.specs.declared.message.WireErr.{WireErr}
use Rattle.machine_model.specs.Limits.{IsWithinLimits, IsLeastFree, IsStarted}
use Rattle.machine_model.specs.History.{past_at_start, run_with}
use Rattle.machine_model.proofs.HistoryLemmas.{run_keeps}
use Rattle.xs_model.specs.declared.message.WireErr.TheVariants.{Ebusy, Enospc}
use Rattle.xs_model.specs.Messages.{string}

-- THE LEAST FREE ID
less_nat : (x y : ℕ) → is_lt (nat_cmp x y) ≡ true → x < y
less_nat x y h = by (nat_lt x y) (x == y) refl h
  where
    by : (a b : Bool) → nat_lt x y ≡ a → is_lt (cond a Less (cond b Equal Greater)) ≡ true → x < y
    by true b l h = ltb-true x y l
    by false true l h = not_both h refl
    by false false l h = not_both h refl

above_all : {A : Type 0} (k : ℕ) (es : List (ℕ × A)) → below_all nat_cmp k es ≡ true → AllByRecursion (λ (e : ℕ × A). k + 1 ≤ e.0) es
above_all k [] h = tt
above_all k (e ∷ es) h =
    let parts = and_parts (is_lt (nat_cmp k e.0)) (below_all nat_cmp k es) h in
    let l : k < e.0 = less_nat k e.0 parts.0 in
    (omega arith, above_all k es parts.1)

-- an id below all others is not found
missing : {A : Type 0} (id k : ℕ) (es : List (ℕ × A)) → id < k → AllByRecursion (λ (e : ℕ × A). k ≤ e.0) es → find nat_cmp id es ≡ None
missing id k [] l h = refl
missing id k (e ∷ es) l h =
    let apart : (id == e.0) ≡ false = ne_eqb id e.0 (λ same. omega (arith, h.0)) in
    ap (λ b. cond b (Some e.1) (find nat_cmp id es)) (unsigned_tied id e.0 ∙ apart) ∙ missing id k es l h.1

record IsLeastFrom {A : Type 0} (n id : ℕ) (es : List (ℕ × A)) : Type 0 where
  from : n ≤ id
  free : find nat_cmp id es ≡ None
  least : (i : ℕ) → n ≤ i → i < id → is_some (find nat_cmp i es) ≡ true

module _ {A : Type 0} (n : ℕ) (e : ℕ × A) (es : List (ℕ × A)) where
  -- n is taken by the first entry, and the rest tells
  taken : (id : ℕ) → e.0 ≡ n → IsLeastFrom (n + 1) id es → IsLeastFrom n id (e ∷ es)
  taken id same l = record {
    from = omega (arith, l.from);
    free = ap (λ b. cond b (Some e.1) (find nat_cmp id es)) (unsigned_tied id e.0 ∙ ne_eqb id e.0 (λ i. omega (arith, l.from))) ∙ l.free;
    least = λ i h below. taken_at i h below (i == e.0) refl;
  }
    where
      taken_at : (i : ℕ) → n ≤ i → i < id → (b : Bool) → (i == e.0) ≡ b → is_some (cond (eq_by_cmp nat_cmp i e.0) (Some e.1) (find nat_cmp i es)) ≡ true
      taken_at i h below true t = ap (λ b. is_some (cond b (Some e.1) (find nat_cmp i es))) (unsigned_tied i e.0 ∙ t)
      taken_at i h below false t =
          ap (λ b. is_some (cond b (Some e.1) (find nat_cmp i es))) (unsigned_tied i e.0 ∙ t)
          ∙ l.least i (let apart : i ≡ e.0 → ⊥ = eqb-false i e.0 t in omega arith) below

  untaken : n ≤ e.0 → (e.0 == n) ≡ false → below_all nat_cmp e.0 es ≡ true → IsLeastFrom n n (e ∷ es)
  untaken low apart above =
      let differs : e.0 ≡ n → ⊥ = eqb-false e.0 n apart in
      let next : n + 1 ≤ e.0 = omega arith in
      record {
        from = omega arith;
        free = missing n (n + 1) (e ∷ es) (omega arith) (next, all_weaker (λ (f : ℕ × A). e.0 + 1 ≤ f.0) (λ (f : ℕ × A). n + 1 ≤ f.0) (λ f h. omega arith) es (above_all e.0 es above));
        least = λ i h below. absurd (omega arith);
      }

least_from : {A : Type 0} (n : ℕ) (es : List (ℕ × A)) → is_sorted nat_cmp es ≡ true → AllByRecursion (λ (e : ℕ × A). n ≤ e.0) es → IsLeastFrom n (least_free_from n es) es
least_from n [] s h = record { from = omega arith; free = refl; least = λ i low below. absurd (omega arith) }
least_from {A} n (e ∷ es) s h =
    let parts = and_parts (below_all nat_cmp e.0 es) (is_sorted nat_cmp es) s in
    let above = above_all e.0 es parts.0 in
    elim (e.0 == n) as (λ b. (e.0 == n) ≡ b → IsLeastFrom n (cond b (least_free_from (n + 1) es) n) (e ∷ es)) [
      | true ↦ λ t.
          let same : e.0 ≡ n = eqb-true e.0 n t in
          taken n e es (least_free_from (n + 1) es) same (least_from (n + 1) es parts.1 (all_weaker (λ (f : ℕ × A). e.0 + 1 ≤ f.0) (λ (f : ℕ × A). n + 1 ≤ f.0) (λ f k. omega arith) es above))
      | false ↦ λ t. untaken n e es h.0 t parts.0
    ] refl

pub least_free-is : {A : Type 0} (es : List (ℕ × A)) → is_sorted nat_cmp es ≡ true → AllByRecursion (λ (e : ℕ × A). 1 ≤ e.0) es → IsLeastFree (least_free es) es
least_free-is es s h = let l = least_from 1 es s h in record { positive = l.from; free = l.free; least = l.least }

-- THE LIMITS
limit_control : (domid : ℕ) → domid ≡ 0 → ◌≡◌ {A = ℕ} (cond (domid == 0) 65535 10) 65535
limit_control domid e = ap {B = ℕ} (λ b. cond b 65535 10) (eq-eqb domid 0 e)

limit_guest : (domid : ℕ) → (domid ≢ 0) → ◌≡◌ {A = ℕ} (cond (domid == 0) 65535 10) 10
limit_guest domid e = ap {B = ℕ} (λ b. cond b 65535 10) (ne_eqb domid 0 e)

-- a connection with as many transactions and watches as another within its limits, or fewer
fewer : (old new : Connection) → IsWithinLimits old → is_sorted nat_cmp new.transactions ≡ true → AllByRecursion (λ (e : ℕ × Transaction). 1 ≤ e.0) new.transactions
    → (caller_of new.spec).domid ≡ (caller_of old.spec).domid → length new.transactions ≤ length old.transactions → length new.watches ≤ length old.watches → IsWithinLimits new
fewer old new h rising positive same few watches = record {
  rising = rising;
  positive = positive;
  control_transactions = λ e. let bound : length old.transactions ≤ 65535 = h.control_transactions (sym same ∙ e) in omega arith;
  guest_transactions = λ e. let bound : length old.transactions ≤ 10 = h.guest_transactions (λ f. e (same ∙ f)) in omega arith;
  guest_watches = λ e. let bound : length old.watches ≤ 128 = h.guest_watches (λ f. e (same ∙ f)) in omega arith;
}

fresh_within : (spec : ConnSpec) → IsWithinLimits (fresh spec)
fresh_within spec = record { rising = refl; positive = tt; control_transactions = λ e. omega arith; guest_transactions = λ e. omega arith; guest_watches = λ e. omega arith }

evtchn-domid : (evtchn : ℕ) (spec : ConnSpec) → (caller_of (with_evtchn evtchn spec)).domid ≡ (caller_of spec).domid
evtchn-domid evtchn (Ring domid target old) = refl
evtchn-domid evtchn (Socket fd) = refl

target-domid : (target : ℕ) (spec : ConnSpec) → (caller_of (with_target target spec)).domid ≡ (caller_of spec).domid
target-domid target (Ring domid old evtchn) = refl
target-domid target (Socket fd) = refl

length_filter : {A : Type 0} (t : A → Bool) (xs : List A) → length (filter t xs) ≤ length xs
length_filter t [] = omega arith
length_filter t (x ∷ xs) =
    let rest = length_filter t xs in
    elim (t x) as (λ b. length (cond b (x ∷ filter t xs) (filter t xs)) ≤ suc (length xs)) [ true ↦ omega arith | false ↦ omega arith ]

module _ (conn : Connection) (h : IsWithinLimits conn) where
  told_within : (paths : List Path) → IsWithinLimits (told paths conn)
  told_within paths =
      fewer conn (told paths conn) h (sorted_map nat_cmp (with_others paths) conn.transactions ∙ h.rising) (keys_map (λ i. 1 ≤ i) (with_others paths) conn.transactions h.positive) refl
      (le_of_eq (length_map (λ (e : ℕ × Transaction). (e.0, with_others paths e.1)) conn.transactions)) (le_refl (length conn.watches))

  -- a transaction that is there takes another's place
  inside_within : (id : ℕ) (old new : Transaction) → find nat_cmp id conn.transactions ≡ Some old → IsWithinLimits (with_transaction id new conn)
  inside_within id old new e =
      fewer conn (with_transaction id new conn) h (sorted_put nat_cmp nat_cmp_total id new conn.transactions h.rising) (keys_put nat_cmp (λ i. 1 ≤ i) id new conn.transactions (keys_found nat_cmp (λ i. 1 ≤ i) nat_cmp-IsAntisymmetric id conn.transactions old h.positive e) h.positive) refl
      (le_of_eq (length_put nat_cmp nat_cmp_total id new conn.transactions h.rising ∙ ap (λ o. cond (is_some o) (length conn.transactions) (length conn.transactions + 1)) e)) (le_refl (length conn.watches))

  opened_within : (new : Transaction) → nat_le (transaction_limit conn.spec) (length conn.transactions) ≡ false → IsWithinLimits (with_transaction (least_free conn.transactions) new conn)
  opened_within new full =
      let id = least_free conn.transactions in
      let l : IsLeastFree id conn.transactions = least_free-is conn.transactions h.rising h.positive in
      let more : length (put nat_cmp id new conn.transactions) ≡ length conn.transactions + 1 =
      length_put nat_cmp nat_cmp_total id new conn.transactions h.rising ∙ ap (λ o. cond (is_some o) (length conn.transactions) (length conn.transactions + 1)) l.free
      in
      let room : length conn.transactions < transaction_limit conn.spec = leb-false (transaction_limit conn.spec) (length conn.transactions) full in
      record {
        rising = sorted_put nat_cmp nat_cmp_total id new conn.transactions h.rising;
        positive = keys_put nat_cmp (λ i. 1 ≤ i) id new conn.transactions l.positive h.positive;
        control_transactions = λ e. let limit : transaction_limit conn.spec ≡ 65535 = limit_control (caller_of conn.spec).domid e in omega arith;
        guest_transactions = λ e. let limit : transaction_limit conn.spec ≡ 10 = limit_guest (caller_of conn.spec).domid e in omega arith;
        guest_watches = h.guest_watches;
      }

  closed_within : (id : ℕ) → IsWithinLimits (without_transaction id conn)
  closed_within id =
      fewer conn (without_transaction id conn) h (sorted_where nat_cmp (λ i. not (id == i)) conn.transactions h.rising) (keys_where nat_cmp (λ i. 1 ≤ i) (λ i. not (id == i)) conn.transactions h.positive) refl
      (length_where nat_cmp (λ i. not (id == i)) conn.transactions) (le_refl (length conn.watches))

  may_by : (a b : Bool) → (caller_of conn.spec).domid == 0 ≡ a → nat_lt (length conn.watches) 128 ≡ b → (a || b) ≡ true → (caller_of conn.spec).domid ≢ 0 → length conn.watches < 128
  may_by true b d l may guest = absurd (guest (eqb-true (caller_of conn.spec).domid 0 d))
  may_by false true d l may guest = ltb-true (length conn.watches) 128 l
  may_by false false d l may guest = not_both may refl

  watched_within : (w : Watch) → may_watch conn ≡ true → IsWithinLimits (with_watches (conn.watches ++ w ∷ []) conn)
  watched_within w may = record {
    rising = h.rising;
    positive = h.positive;
    control_transactions = h.control_transactions;
    guest_transactions = h.guest_transactions;
    guest_watches = λ e.
        let room : length conn.watches < 128 = may_by ((caller_of conn.spec).domid == 0) (nat_lt (length conn.watches) 128) refl refl may e in
        omega (arith, length-append conn.watches (w ∷ []));
  }

  unwatched_within : (w : Watch) → IsWithinLimits (with_watches (filter (λ v. not (same_watch w v)) conn.watches) conn)
  unwatched_within w = fewer conn _ h h.rising h.positive refl (le_refl (length conn.transactions)) (length_filter (λ v. not (same_watch w v)) conn.watches)

  spec_within : (spec : ConnSpec) → (caller_of spec).domid ≡ (caller_of conn.spec).domid → IsWithinLimits (with_spec spec conn)
  spec_within spec same = fewer conn (with_spec spec conn) h h.rising h.positive same (le_refl (length conn.transactions)) (le_refl (length conn.watches))

abbrev Any : {A : Type 0} → A → Type 0
Any x = Unit {0}

limits_closed : IsClosed Any IsWithinLimits Any
limits_closed = record {
  of_told = λ paths conn h. told_within conn h paths;
  of_command = λ operation path conn number tree asks h. tt;
  of_commit = λ conn id t tree h e is. tt;
  inside = λ operation path conn number id t asks h e. inside_within conn h id t _ e;
  opened = λ conn tree h full. opened_within conn h (started tree) full;
  closed = λ conn id h. closed_within conn h id;
  watched = λ conn wpath token h asks may. watched_within conn h (record { wpath = wpath; token = token }) may;
  unwatched = λ conn w h. unwatched_within conn h w;
  with_event_channel = λ conn evtchn h. spec_within conn h (with_evtchn evtchn conn.spec) (evtchn-domid evtchn conn.spec);
  with_other = λ conn target h. spec_within conn h (with_target target conn.spec) (target-domid target conn.spec);
  anew = λ conn h. fresh_within conn.spec;
  introduced = λ domid evtchn asks. fresh_within (Ring domid None evtchn);
}

any_asked : (r : Result Request WireErr) → IfAsked Any r
any_asked (Ok request) = tt
any_asked (Err error) = tt

abbrev pub HasLimits : Machine → Type 0
HasLimits m = Has Any IsWithinLimits Any m

pub step_within : (m : Machine) → HasLimits m → (served : List ℕ) (item : Item) → HasLimits (step_with served m item).0
step_within m has served item = step_has Any IsWithinLimits Any limits_closed (λ conn h served kind payload. any_asked _) m has served item

pub new_machine_within : HasLimits new_machine
new_machine_within = record { tree = tt; conns = (fresh_within (Ring 0 None 0), tt) }

pub run_within : (served : List ℕ) (items : List Item) → HasLimits (run_with served (past_at_start [] new_machine) items).machine
run_within served items = run_keeps HasLimits step_within served (past_at_start [] new_machine) items new_machine_within

-- START
abbrev payload_or : List ℕ → Result (List ℕ) WireErr → List ℕ
payload_or default (Ok payload) = payload
payload_or default (Err error) = default

module _ (m : Machine) (c : ℕ) (conn : Connection) (payload : List ℕ) (h : IsWithinLimits conn) where
  opened_now : (new : Connection) → find nat_cmp c (put nat_cmp c new m.conns) ≡ Some new
  opened_now new = found_put nat_cmp nat_cmp_total c c new m.conns ∙ ap (λ b. cond b (Some new) (find nat_cmp c m.conns)) (unsigned_tied c c ∙ eq-eqb c c refl)

  started_by : (a b : Bool) →
      let id = least_free conn.transactions in
      let done = cond a (refused Ebusy m) (cond b (refused Enospc m) (replied (string (decimal id)) (with_conn c (with_transaction id (started m.tree) conn) m))) in
      done.reply ≡ Ok payload → IsStarted m c conn payload done.machine
  started_by true b e = not_both refl (sym (ap is_ok e))
  started_by false true e = not_both refl (sym (ap is_ok e))
  started_by false false e = record {
    id = least_free conn.transactions;
    given = sym (ap (payload_or payload) e);
    least = least_free-is conn.transactions h.rising h.positive;
    opened = opened_now (with_transaction (least_free conn.transactions) (started m.tree) conn);
  }

  pub is_started : (tx : ℕ) → (start m c conn tx).reply ≡ Ok payload → IsStarted m c conn payload (start m c conn tx).machine
  is_started tx e = started_by (not (tx == 0)) (nat_le (transaction_limit conn.spec) (length conn.transactions)) e

pub start_in : (m : Machine) → HasLimits m → (c : ℕ) (conn : Connection) (tx : ℕ) (payload : List ℕ) → find nat_cmp c m.conns ≡ Some conn → (start m c conn tx).reply ≡ Ok payload → IsStarted m c conn payload (start m c conn tx).machine
start_in m has c conn tx payload e = is_started m c conn payload (all_found nat_cmp IsWithinLimits c m.conns conn has.conns e) tx
