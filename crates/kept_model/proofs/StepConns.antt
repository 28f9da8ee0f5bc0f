-- Connections within their bounds: how many ends there are of a kind, which ids are free, and different watches.
use Rattle.std.specs.Prelude.{◌≡◌, ℕ, zero, suc, ◌+◌, ◌<◌, ◌≤◌, ◌^◌, ◌==◌, Bool, true, false, cond, ◌||◌, List, [], ◌∷◌, ◌++◌, length, filter, nat_lt, Some, None}
use Rattle.std.specs.Option.{option_map}
use Rattle.std.specs.List.{AllByRecursion, list_any}
use Rattle.std.specs.Str.{bytes_eq}
use Rattle.std.specs.Ordering.{nat_cmp, is_eq}
use Rattle.std.specs.declared.cmp.Ordering.TheVariants.{Less, Equal, Greater}
use Rattle.std.specs.Cmp.Lexicographic.{bytes_decides}
use Rattle.std.specs.FinMap.{find, put, is_sorted, nat_cmp-IsAntisymmetric}
use Rattle.std.specs.FinMap.Entries.{where_key, by_order}
use Rattle.std.proofs.Common.{sym, refl, ap, subst, ◌∙◌, arith, zero-le, le-ltb, lt-ltb, ltb-true, ltb-false, eqb-true}
use Rattle.std.proofs.lemmas.Bool.{and_parts, and_from, or_parts, or_from, false_from_ne_true, eqb-false}
use Rattle.std.proofs.lemmas.List.Folds.{list_any-append}
use Rattle.xs_model.specs.Requests.{is_watch_path, is_token}
use Rattle.xs_model.specs.Watches.{Watch, same_watch}
use Rattle.xs_model.proofs.Maps.{not_both, not_Some, all_put, all_where, keys_put, keys_where, keys_found, found_map, sorted_map}
use Rattle.machine_model.specs.declared.ConnSpec.{ConnSpec}
use Rattle.machine_model.specs.declared.ConnSpec.TheVariants.{Ring, Socket}
use Rattle.machine_model.specs.Connections.{Connection, Connections, fresh, caller_of, is_ring_of, ring_of, with_evtchn, with_target, least_free_from, least_free}
use Rattle.machine_model.specs.Limits.{HasIds}
use Rattle.machine_model.proofs.LimitLemmas.{least_free-is}
use Rattle.mark_model.proofs.StoreMaps.{with_values, put_values, put_found}
use Rattle.kept_model.specs.Sound.{is_socket, SpecFits, count_ends, has_nul, AreWatches}

-- HOW MANY ENDS pass a test
abbrev trues : List (ℕ × Bool) → ℕ
trues [] = 0
trues (e ∷ es) = cond e.1 1 0 + trues es

module _ (test : ConnSpec → Bool) where
  count_first : (e : ℕ × Connection) (conns : Connections) → count_ends test (e ∷ conns) ≡ cond (test e.1.spec) 1 0 + count_ends test conns
  count_first e conns =
      let rest : Connections = filter (λ (f : ℕ × Connection). test f.1.spec) conns in
      elim (test e.1.spec) as (λ b. length (cond b (e ∷ rest) rest) ≡ cond b 1 0 + length rest) [ true ↦ omega arith | false ↦ omega arith ]

  count_is : (conns : Connections) → count_ends test conns ≡ trues (with_values (λ (conn : Connection). test conn.spec) conns)
  count_is [] = refl
  count_is (e ∷ conns) = count_first e conns ∙ ap (λ n. cond (test e.1.spec) 1 0 + n) (count_is conns)

  -- a connection takes the place of one that is alike
  count_same : (conns : Connections) → is_sorted nat_cmp conns ≡ true → (c : ℕ) (conn new : Connection) → find nat_cmp c conns ≡ Some conn → test new.spec ≡ test conn.spec
      → count_ends test (put nat_cmp c new conns) ≡ count_ends test conns
  count_same conns sorted c conn new found same =
      let f : Connection → Bool = λ conn. test conn.spec in
      count_is (put nat_cmp c new conns)
      ∙ ap trues (
      sym (put_values nat_cmp f c new conns)
      ∙ ap (λ b. put nat_cmp c b (with_values f conns)) same
      ∙ put_found c (f conn) (with_values f conns) (sorted_map nat_cmp f conns ∙ sorted) (found_map nat_cmp f c conns ∙ ap (option_map f) found))
      ∙ sym (count_is conns)

  -- a connection is made
  count_new : (c : ℕ) (new : Connection) (conns : Connections) → find nat_cmp c conns ≡ None → count_ends test (put nat_cmp c new conns) ≡ cond (test new.spec) 1 0 + count_ends test conns
  count_new c new [] free = count_first (c, new) []
  count_new c new (e ∷ conns) free =
      elim (nat_cmp c e.0) as (λ o. cond (is_eq o) (Some e.1) (find nat_cmp c conns) ≡ None
      → count_ends test (by_order o ((c, new) ∷ e ∷ conns) ((e.0, new) ∷ conns) (e ∷ put nat_cmp c new conns)) ≡ cond (test new.spec) 1 0 + count_ends test (e ∷ conns)) [
        | Less ↦ λ f. count_first (c, new) (e ∷ conns)
        | Equal ↦ λ f. not_Some (sym f)
        | Greater ↦ λ f. omega (arith, count_first e (put nat_cmp c new conns), count_new c new conns f, count_first e conns)
      ] free

  -- some connections go
  count_where : (t : ℕ → Bool) (conns : Connections) → count_ends test (where_key nat_cmp t conns) ≤ count_ends test conns
  count_where t [] = zero-le
  count_where t (e ∷ conns) =
      let rest = count_where t conns in
      elim (t e.0) as (λ b. count_ends test (cond b (e ∷ where_key nat_cmp t conns) (where_key nat_cmp t conns)) ≤ count_ends test (e ∷ conns)) [
        | true ↦ omega (arith, count_first e (where_key nat_cmp t conns), count_first e conns, rest)
        | false ↦ omega (arith, count_first e conns, rest)
      ]

  none_counted : ((spec : ConnSpec) → test spec ≡ false) → (conns : Connections) → count_ends test conns ≤ 0
  none_counted to [] = zero-le
  none_counted to (e ∷ conns) =
      let here : cond (test e.1.spec) 1 0 ≤ 0 = subst (λ b. cond b 1 0 ≤ 0) (sym (to e.1.spec)) zero-le in
      omega (arith, count_first e conns, here, none_counted to conns)

counted_apart : (p q r : ConnSpec → Bool) → ((spec : ConnSpec) → cond (p spec) 1 0 ≤ cond (q spec) 1 0 + cond (r spec) 1 0) → (conns : Connections) → count_ends p conns ≤ count_ends q conns + count_ends r conns
counted_apart p q r to [] = zero-le
counted_apart p q r to (e ∷ conns) = omega (arith, count_first p e conns, count_first q e conns, count_first r e conns, to e.1.spec, counted_apart p q r to conns)

no_ring : (d : ℕ) (conns : Connections) → ring_of d conns ≡ None → count_ends (is_ring_of d) conns ≤ 0
no_ring d [] e = zero-le
no_ring d (f ∷ conns) e =
    let first = count_first (is_ring_of d) f conns in
    let later : ring_of d conns ≡ None → count_ends (is_ring_of d) conns ≤ 0 = no_ring d conns in
    let both : cond (is_ring_of d f.1.spec) 1 0 + count_ends (is_ring_of d) conns ≤ 0 =
    elim (is_ring_of d f.1.spec) as (λ b. cond b (Some f.0) (ring_of d conns) ≡ None → cond b 1 0 + count_ends (is_ring_of d) conns ≤ 0) [
      | true ↦ λ g. not_Some (sym g)
      | false ↦ λ g. omega (arith, later g)
    ] e
    in
    omega (arith, first, both)

-- HOW MANY CONNECTIONS there are: a domain has one ring at the most
abbrev is_ring_below : ℕ → ConnSpec → Bool
is_ring_below n (Ring domid target evtchn) = nat_lt domid n
is_ring_below n (Socket fd) = false

never_below : (spec : ConnSpec) → is_ring_below 0 spec ≡ false
never_below (Ring domid target evtchn) = le-ltb domid 0 zero-le
never_below (Socket fd) = refl

next_ring : (n : ℕ) (spec : ConnSpec) → cond (is_ring_below (suc n) spec) 1 0 ≤ cond (is_ring_below n spec) 1 0 + cond (is_ring_of n spec) 1 0
next_ring n (Socket fd) = zero-le
next_ring n (Ring domid target evtchn) = by (nat_lt domid (suc n)) (nat_lt domid n) (n == domid) refl refl refl
  where
    by : (a b c : Bool) → nat_lt domid (suc n) ≡ a → nat_lt domid n ≡ b → (n == domid) ≡ c → cond a 1 0 ≤ cond b 1 0 + cond c 1 0
    by false b c e f g = zero-le
    by true true c e f g = omega arith
    by true false true e f g = omega arith
    by true false false e f g =
        let low : domid < suc n = ltb-true domid (suc n) e in
        let high : n ≤ domid = ltb-false domid n f in
        let apart : n ≡ domid → ⊥ = eqb-false n domid g in
        absurd (apart (omega arith))

rings_few : (conns : Connections) → ((d : ℕ) → count_ends (is_ring_of d) conns ≤ 1) → (n : ℕ) → count_ends (is_ring_below n) conns ≤ n
rings_few conns one zero = none_counted (is_ring_below 0) never_below conns
rings_few conns one (suc n) = omega (arith, counted_apart (is_ring_below (suc n)) (is_ring_below n) (is_ring_of n) (next_ring n) conns, rings_few conns one n, one n)

-- n stands for one more than the greatest domid: so large a number is kept out of what computes
module _ (n : ℕ) (above : 32751 < n) where
  each_end : (spec : ConnSpec) → SpecFits spec → 1 ≤ cond (is_ring_below n spec) 1 0 + cond (is_socket spec) 1 0
  each_end (Ring domid target evtchn) h =
      let low : domid ≤ 32751 = h.0 in
      let less : domid < n = omega arith in
      subst (λ b. 1 ≤ cond b 1 0 + 0) (sym (lt-ltb domid n less)) (omega arith)
  each_end (Socket fd) h = omega arith

  all_counted : (conns : Connections) → AllByRecursion (λ (e : ℕ × Connection). SpecFits e.1.spec) conns → length conns ≤ count_ends (is_ring_below n) conns + count_ends is_socket conns
  all_counted [] h = zero-le
  all_counted (e ∷ conns) h = omega (arith, count_first (is_ring_below n) e conns, count_first is_socket e conns, each_end e.1.spec h.0, all_counted conns h.1)

  few_besides : (conns : Connections) → ((d : ℕ) → count_ends (is_ring_of d) conns ≤ 1) → AllByRecursion (λ (e : ℕ × Connection). SpecFits e.1.spec) conns → length conns ≤ n + count_ends is_socket conns
  few_besides conns one h = omega (arith, all_counted conns h, rings_few conns one n)

-- a ring for a domain that has none
new_ring : (conns : Connections) (domid : ℕ) → ring_of domid conns ≡ None → (d : ℕ) → count_ends (is_ring_of d) conns ≤ 1 → (b : Bool) → (d == domid) ≡ b → cond b 1 0 + count_ends (is_ring_of d) conns ≤ 1
new_ring conns domid ringless d one true e =
    let none : count_ends (is_ring_of d) conns ≤ 0 = subst (λ n. count_ends (is_ring_of n) conns ≤ 0) (sym (eqb-true d domid e)) (no_ring domid conns ringless) in
    omega (arith, none)
new_ring conns domid ringless d one false e = omega (arith, one)

-- the least free id is at most one more than there are entries (this would stand in `LimitLemmas` of machine_model)
pub free_within : {A : Type 0} (n : ℕ) (es : List (ℕ × A)) → least_free_from n es ≤ n + length es
free_within n [] = omega arith
free_within n (e ∷ es) =
    let rest = free_within (n + 1) es in
    elim (e.0 == n) as (λ b. cond b (least_free_from (n + 1) es) n ≤ n + suc (length es)) [ true ↦ omega (arith, rest) | false ↦ omega arith ]

-- WATCHES
bytes_turned : (xs ys : List ℕ) → bytes_eq xs ys ≡ true → bytes_eq ys xs ≡ true
bytes_turned xs ys e = (bytes_decides ys xs).1 (sym ((bytes_decides xs ys).0 e))

same_turned : (v w : Watch) → same_watch w v ≡ false → same_watch v w ≡ false
same_turned v w h = false_from_ne_true (same_watch v w) (λ e.
    let parts = and_parts (bytes_eq v.wpath w.wpath) (bytes_eq v.token w.token) e in
    not_both (and_from (bytes_eq w.wpath v.wpath) (bytes_eq w.token v.token) (bytes_turned v.wpath w.wpath parts.0) (bytes_turned v.token w.token parts.1)) h)

pub watches_more : (domid : ℕ) (ws : List Watch) (w : Watch) → is_watch_path w.wpath domid ≡ true → is_token w.token ≡ true → has_nul w.token ≡ false → list_any (same_watch w) ws ≡ false → AreWatches domid ws
    → AreWatches domid (ws ++ w ∷ [])
watches_more domid [] w p t is new h = (p, t, is, refl, tt)
watches_more domid (v ∷ ws) w p t is new h =
    let parts = or_parts (same_watch w v) (list_any (same_watch w) ws) new in (
      h.0,
      h.1,
      h.2,
      list_any-append (same_watch v) ws (w ∷ []) ∙ or_from (list_any (same_watch v) ws) (same_watch v w || false) h.3 (or_from (same_watch v w) false (same_turned v w parts.0) refl),
      watches_more domid ws w p t is parts.1 h.4,
    )

none_left : (p t : Watch → Bool) (ws : List Watch) → list_any p ws ≡ false → list_any p (filter t ws) ≡ false
none_left p t [] h = h
none_left p t (w ∷ ws) h =
    let parts = or_parts (p w) (list_any p ws) h in
    let rest = none_left p t ws parts.1 in
    elim (t w) as (λ b. list_any p (cond b (w ∷ filter t ws) (filter t ws)) ≡ false) [ true ↦ or_from (p w) (list_any p (filter t ws)) parts.0 rest | false ↦ rest ]

pub watches_left : (domid : ℕ) (t : Watch → Bool) (ws : List Watch) → AreWatches domid ws → AreWatches domid (filter t ws)
watches_left domid t [] h = h
watches_left domid t (w ∷ ws) h =
    let rest = watches_left domid t ws h.4 in
    elim (t w) as (λ b. AreWatches domid (cond b (w ∷ filter t ws) (filter t ws))) [ true ↦ (h.0, h.1, h.2, none_left (same_watch w) t ws h.3, rest) | false ↦ rest ]

-- THE SAME END, with another event channel or target
pub record IsSameEnd (new old : ConnSpec) : Type 0 where
  pub domid : (caller_of new).domid ≡ (caller_of old).domid
  pub rings : (d : ℕ) → is_ring_of d new ≡ is_ring_of d old
  pub sockets : is_socket new ≡ is_socket old

pub end_itself : (spec : ConnSpec) → IsSameEnd spec spec
end_itself spec = record { domid = refl; rings = λ d. refl; sockets = refl }

pub evtchn_end : (evtchn : ℕ) (spec : ConnSpec) → IsSameEnd (with_evtchn evtchn spec) spec
evtchn_end evtchn (Ring domid target old) = record { domid = refl; rings = λ d. refl; sockets = refl }
evtchn_end evtchn (Socket fd) = record { domid = refl; rings = λ d. refl; sockets = refl }

pub target_end : (target : ℕ) (spec : ConnSpec) → IsSameEnd (with_target target spec) spec
target_end target (Ring domid old evtchn) = record { domid = refl; rings = λ d. refl; sockets = refl }
target_end target (Socket fd) = record { domid = refl; rings = λ d. refl; sockets = refl }

pub evtchn_fits : (evtchn : ℕ) (spec : ConnSpec) → evtchn < 2 ^ 32 → SpecFits spec → SpecFits (with_evtchn evtchn spec)
evtchn_fits evtchn (Ring domid target old) l h = (h.0, h.1, l)
evtchn_fits evtchn (Socket fd) l h = h

pub target_fits : (target : ℕ) (spec : ConnSpec) → target ≤ 32751 → SpecFits spec → SpecFits (with_target target spec)
target_fits target (Ring domid old evtchn) l h = (h.0, l, h.2)
target_fits target (Socket fd) l h = h

-- a caller's domid has 16 bits
pub caller_low : (spec : ConnSpec) → SpecFits spec → (caller_of spec).domid < 2 ^ 16
caller_low (Ring domid target evtchn) h = let low : domid ≤ 32751 = h.0 in omega arith
caller_low (Socket fd) h = omega arith

-- CONNECTIONS WITHIN THEIR BOUNDS
pub record ConnsFit (conns : Connections) : Type 0 where
  pub ids : AllByRecursion (λ e. e.0 < 2 ^ 32) conns
  pub ends : AllByRecursion (λ e. SpecFits e.1.spec) conns
  pub rings : (domid : ℕ) → count_ends (is_ring_of domid) conns ≤ 1
  pub sockets : count_ends is_socket conns ≤ 65536
  pub watches : AllByRecursion (λ e. AreWatches (caller_of e.1.spec).domid e.1.watches) conns

abbrev pub ConnFits : Connection → Type 0
ConnFits conn = SpecFits conn.spec × AreWatches (caller_of conn.spec).domid conn.watches

module _ (conns : Connections) (has : HasIds conns) (fit : ConnsFit conns) where
  -- one takes the place of another with the same end
  pub put_fits : (c : ℕ) (conn new : Connection) → find nat_cmp c conns ≡ Some conn → IsSameEnd new.spec conn.spec → ConnFits new → ConnsFit (put nat_cmp c new conns)
  put_fits c conn new found same h = record {
    ids = keys_put nat_cmp (λ i. i < 2 ^ 32) c new conns (keys_found nat_cmp (λ i. i < 2 ^ 32) nat_cmp-IsAntisymmetric c conns conn fit.ids found) fit.ids;
    ends = all_put nat_cmp (λ (conn : Connection). SpecFits conn.spec) c new conns h.0 fit.ends;
    rings = λ d. subst (λ n. n ≤ 1) (sym (count_same (is_ring_of d) conns has.rising c conn new found (same.rings d))) (fit.rings d);
    sockets = subst (λ n. n ≤ 65536) (sym (count_same is_socket conns has.rising c conn new found same.sockets)) fit.sockets;
    watches = all_put nat_cmp (λ (conn : Connection). AreWatches (caller_of conn.spec).domid conn.watches) c new conns h.1 fit.watches;
  }

  free_fits : least_free conns < 2 ^ 32
  free_fits = omega (arith, free_within 1 conns, few_besides 32752 (omega arith) conns fit.rings fit.ends, fit.sockets)

  -- a ring is made for a domain that has none
  pub new_fits : (domid evtchn : ℕ) → ring_of domid conns ≡ None → domid ≤ 32751 → evtchn < 2 ^ 32 → ConnsFit (put nat_cmp (least_free conns) (fresh (Ring domid None evtchn)) conns)
  new_fits domid evtchn ringless low l = record {
    ids = keys_put nat_cmp (λ i. i < 2 ^ 32) c new conns free_fits fit.ids;
    ends = all_put nat_cmp (λ (conn : Connection). SpecFits conn.spec) c new conns (low, tt, l) fit.ends;
    rings = λ d. subst (λ n. n ≤ 1) (sym (count_new (is_ring_of d) c new conns free)) (new_ring conns domid ringless d (fit.rings d) (d == domid) refl);
    sockets = omega (arith, count_new is_socket c new conns free, fit.sockets);
    watches = all_put nat_cmp (λ (conn : Connection). AreWatches (caller_of conn.spec).domid conn.watches) c new conns tt fit.watches;
  }
    where
      c : ℕ
      c = least_free conns

      new : Connection
      new = fresh (Ring domid None evtchn)

      free : find nat_cmp c conns ≡ None
      free = (least_free-is conns has.rising has.positive).free

  -- a connection is made under an id that is free
  pub added_fits : (c : ℕ) (spec : ConnSpec) → find nat_cmp c conns ≡ None → c < 2 ^ 32 → SpecFits spec → ((d : ℕ) → is_ring_of d spec ≡ true → ring_of d conns ≡ None) → (is_socket spec ≡ true → count_ends is_socket conns < 65536)
      → ConnsFit (put nat_cmp c (fresh spec) conns)
  added_fits c spec free small fits ringless few = record {
    ids = keys_put nat_cmp (λ i. i < 2 ^ 32) c (fresh spec) conns small fit.ids;
    ends = all_put nat_cmp (λ (conn : Connection). SpecFits conn.spec) c (fresh spec) conns fits fit.ends;
    rings = λ d. subst (λ n. n ≤ 1) (sym (count_new (is_ring_of d) c (fresh spec) conns free)) (one_ring d (is_ring_of d spec) refl);
    sockets = subst (λ n. n ≤ 65536) (sym (count_new is_socket c (fresh spec) conns free)) (one_socket (is_socket spec) few);
    watches = all_put nat_cmp (λ (conn : Connection). AreWatches (caller_of conn.spec).domid conn.watches) c (fresh spec) conns tt fit.watches;
  }
    where
      one_ring : (d : ℕ) (b : Bool) → is_ring_of d spec ≡ b → cond b 1 0 + count_ends (is_ring_of d) conns ≤ 1
      one_ring d true e = let none : count_ends (is_ring_of d) conns ≤ 0 = no_ring d conns (ringless d e) in omega (arith, none)
      one_ring d false e = omega (arith, fit.rings d)

      one_socket : (b : Bool) → (b ≡ true → count_ends is_socket conns < 65536) → cond b 1 0 + count_ends is_socket conns ≤ 65536
      one_socket true h = let less : count_ends is_socket conns < 65536 = h refl in omega (arith, less)
      one_socket false h = omega (arith, fit.sockets)

  -- some go
  pub where_fits : (t : ℕ → Bool) → ConnsFit (where_key nat_cmp t conns)
  where_fits t = record {
    ids = keys_where nat_cmp (λ i. i < 2 ^ 32) t conns fit.ids;
    ends = all_where nat_cmp (λ (conn : Connection). SpecFits conn.spec) t conns fit.ends;
    rings = λ d. omega (arith, count_where (is_ring_of d) t conns, fit.rings d);
    sockets = omega (arith, count_where is_socket t conns, fit.sockets);
    watches = all_where nat_cmp (λ (conn : Connection). AreWatches (caller_of conn.spec).domid conn.watches) t conns fit.watches;
  }
