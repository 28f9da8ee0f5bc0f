-- Lives after a step: each stays at its place, an open one is of a connection that is there, and a new connection's is new.
use Rattle.std.specs.Prelude.{◌≡◌, ℕ, zero, suc, ◌+◌, ◌==◌, Bool, true, false, cond, ◌&&◌, ◌||◌, List, [], ◌∷◌, map, filter_map, Some, None, is_some, option_map, slice_get}
use Rattle.std.specs.List.{AllByRecursion, list_any}
use Rattle.std.specs.Ordering.{nat_cmp}
use Rattle.std.specs.FinMap.{find}
use Rattle.std.proofs.Common.{sym, refl, ap, subst, ◌∙◌, inl, inr, arith, eqb-true, eq-eqb}
use Rattle.std.proofs.lemmas.Bool.{cases_Bool, and_parts, cond-true, cond-false}
use Rattle.xs_model.proofs.Maps.{not_both, not_Some, from_Some}
use Rattle.machine_model.specs.Connections.{Connection, Connections, ring_of}
use Rattle.machine_model.specs.Machine.{Item, Send}
use Rattle.machine_model.specs.History.{Life, new_life, grown, life_after, life_if_new, with_new_lives}
use Rattle.machine_model.proofs.Lists.{all_append, all_map_of, all_weaker}
use Rattle.world_model.specs.Served.{PageLog, new_log, life_of_ring, open_life_from, log_for}
use Rattle.world_laws.specs.Laws.{is_log_of}
use Rattle.world_laws.proofs.EntryLemmas.{value_of, each_is_found, at_mapped, each_of, each_any, any_left, any_right, any_of, any_found}
use Rattle.world_laws.proofs.SoundLemmas.{IsOfConn}

-- a new life
pub new_is : (lives : List Life) (e : ℕ × Connection) (life : Life) → life_if_new lives e ≡ Some life → life ≡ new_life e.0
new_is lives e life =
    elim (list_any (λ (l : Life). l.is_open && l.conn == e.0) lives) as (λ b. cond b None (Some (new_life e.0)) ≡ Some life → life ≡ new_life e.0) [
      | true ↦ λ r. not_Some r
      | false ↦ λ r. sym (from_Some r)
    ]

module _ (item : Item) (sends : List Send) (before after : Connections) where
  abbrev next : Life → Life
  next = life_after item sends after

  abbrev pub lives_after : List Life → List Life
  lives_after lives = with_new_lives after (map next lives)

  pub next_closed : (life : Life) → life.is_open ≡ false → next life ≡ life
  next_closed life e = cond-false life.is_open (grown item sends after life) life e

  pub next_open : (life : Life) → life.is_open ≡ true → next life ≡ grown item sends after life
  next_open life e = cond-true life.is_open (grown item sends after life) life e

  next_conn : (life : Life) → IsOfConn after (next life)
  next_conn life = elim (cases_Bool life.is_open) [
    | inl t ↦ subst (IsOfConn after) (sym (next_open life t)) (λ h. h)
    | inr f ↦ subst (IsOfConn after) (sym (next_closed life f)) (λ h. not_both h f)
  ]

  pub lives_of_conns : (lives : List Life) → AllByRecursion (IsOfConn after) (lives_after lives)
  lives_of_conns lives =
      all_append (IsOfConn after) (map next lives) (filter_map (life_if_new (map next lives)) after)
      (all_map_of (IsOfConn after) next lives (each_any (λ life. IsOfConn after (next life)) next_conn lives))
      (each_of (IsOfConn after) (λ (e : ℕ × Connection). is_some (find nat_cmp e.0 after) ≡ true) (life_if_new (map next lives))
      (λ e life found r. subst (IsOfConn after) (sym (new_is (map next lives) e life r)) (λ h. found)) after (each_is_found after))

  pub life_stays : (lives : List Life) (i : ℕ) (life : Life) → slice_get lives i ≡ Some life → slice_get (lives_after lives) i ≡ Some (next life)
  life_stays lives i life e = at_mapped next lives (filter_map (life_if_new (map next lives)) after) i life e

  -- the open life of a connection that was not there
  abbrev IsNewOf : ℕ → Life → Type 0
  IsNewOf c life = life.is_open ≡ true → life.conn ≡ c → life ≡ new_life c

  module _ (c : ℕ) (none : find nat_cmp c before ≡ None) where
    old_is_not : (life : Life) → IsOfConn before life → IsNewOf c (next life)
    old_is_not life h = elim (cases_Bool life.is_open) [
      | inl t ↦ subst (IsNewOf c) (sym (next_open life t)) (λ o same. not_both (h t) (ap (λ k. is_some (find nat_cmp k before)) same ∙ ap is_some none))
      | inr f ↦ subst (IsNewOf c) (sym (next_closed life f)) (λ o same. not_both o f)
    ]

    pub each_is_new : (lives : List Life) → AllByRecursion (IsOfConn before) lives → AllByRecursion (IsNewOf c) (lives_after lives)
    each_is_new lives h =
        all_append (IsNewOf c) (map next lives) (filter_map (life_if_new (map next lives)) after)
        (all_map_of (IsNewOf c) next lives (all_weaker (IsOfConn before) (λ life. IsNewOf c (next life)) old_is_not lives h))
        (each_of (IsNewOf c) (λ (e : ℕ × Connection). is_some (find nat_cmp e.0 after) ≡ true) (life_if_new (map next lives))
        (λ e life found r o same.
        let is = new_is (map next lives) e life r in
        is ∙ ap new_life (sym (ap (λ (l : Life). l.conn) is) ∙ same)) after (each_is_found after))

-- THE PLACE of an open life
pub record IsOpenAt (c n : ℕ) (lives : List Life) (p : ℕ) : Type 0 where
  pub i : ℕ
  pub place : p ≡ n + i
  pub life : Life
  pub stands : slice_get lives i ≡ Some life
  pub opened : life.is_open ≡ true
  pub conn : life.conn ≡ c

pub open_at : (c n : ℕ) (lives : List Life) (p : ℕ) → open_life_from n c lives ≡ Some p → IsOpenAt c n lives p
open_at c n [] p = λ e. not_Some e
open_at c n (life ∷ lives) p =
    elim (life.is_open && life.conn == c) as (λ b. (life.is_open && life.conn == c) ≡ b → cond b (Some n) (open_life_from (n + 1) c lives) ≡ Some p → IsOpenAt c n (life ∷ lives) p) [
      | true ↦ λ t e.
          let parts = and_parts life.is_open (life.conn == c) t in
          let here : n ≡ p = from_Some e in
          record { i = zero; place = omega arith; life = life; stands = refl; opened = parts.0; conn = eqb-true life.conn c parts.1 }
      | false ↦ λ t e.
          let later = open_at c (n + 1) lives p e in
          let at : p ≡ n + 1 + later.i = later.place in
          record { i = suc later.i; place = omega arith; life = later.life; stands = later.stands; opened = later.opened; conn = later.conn }
    ] refl

-- EACH CONNECTION HAS ONE
abbrev pub is_open_of : ℕ → Life → Bool
is_open_of c life = life.is_open && life.conn == c

pub open_found : (c n : ℕ) (lives : List Life) → list_any (is_open_of c) lives ≡ true → is_some (open_life_from n c lives) ≡ true
open_found c n [] h = not_both h refl
open_found c n (life ∷ lives) h =
    elim (is_open_of c life) as (λ b. (b || list_any (is_open_of c) lives) ≡ true → is_some (cond b (Some n) (open_life_from (n + 1) c lives)) ≡ true) [
      | true ↦ λ t. refl
      | false ↦ open_found c (n + 1) lives
    ] h

pub has_open_life : (conns : Connections) (lives : List Life) (c : ℕ) → is_some (find nat_cmp c conns) ≡ true → is_some (open_life_from 0 c (with_new_lives conns lives)) ≡ true
has_open_life conns lives c there =
    open_found c 0 (with_new_lives conns lives) (elim (cases_Bool (list_any (is_open_of c) lives)) [
      | inl t ↦ any_left (is_open_of c) lives (filter_map (life_if_new lives) conns) t
      | inr f ↦ any_right (is_open_of c) lives (filter_map (life_if_new lives) conns)
          (any_of (is_open_of c) (λ (e : ℕ × Connection). c == e.0) (life_if_new lives) (λ e t.
          let same = eqb-true c e.0 t in
          (new_life e.0, ap (λ b. cond b None (Some (new_life e.0))) (ap (λ k. list_any (is_open_of k) lives) (sym same) ∙ f), eq-eqb e.0 c (sym same)))
          conns (any_found c conns there))
    ])

-- so a domain that is connected gets a log
pub log_found : (conns : Connections) (lives : List Life) (d c e : ℕ) → ring_of d conns ≡ Some c → is_some (find nat_cmp c conns) ≡ true → (d == e) ≡ true
    → (log : PageLog) × (log_for conns (with_new_lives conns lives) e ≡ Some log) × (is_log_of d log ≡ true)
log_found conns lives d c e ring there t =
    let same = eqb-true d e t in
    let all = with_new_lives conns lives in
    let p = value_of (open_life_from 0 c all) (has_open_life conns lives c there) in
    (new_log e p.0, ap (λ o. option_map (new_log e) (life_of_ring all o)) (ap (λ k. ring_of k conns) (sym same) ∙ ring) ∙ ap (option_map (new_log e)) p.1, eq-eqb e d (sym same))
