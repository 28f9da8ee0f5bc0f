-- Domains that get a connection: which they are, and what becomes of their pages and logs.
use Rattle.std.specs.Prelude.{◌≡◌, ℕ, ◌==◌, Bool, true, false, cond, ◌&&◌, ◌||◌, List, [], ◌∷◌, filter_map, Option, Some, None, is_some, option_map, ◌⊎◌}
use Rattle.std.specs.List.{AllByRecursion, list_any, cons_option}
use Rattle.std.specs.Ordering.{nat_cmp, eq_by_cmp}
use Rattle.std.specs.Cmp.{unsigned_tied}
use Rattle.std.specs.FinMap.{find, put, is_sorted}
use Rattle.std.proofs.Common.{sym, refl, ap, subst, ◌∙◌, inl, inr, eqb-true, eq-eqb}
use Rattle.std.proofs.lemmas.Bool.{cases_Bool, and_from, and_left, and_right, or_parts, or_right, cond-true, cond-false}
use Rattle.xs_model.proofs.Maps.{not_both, not_Some, from_Some}
use Rattle.machine_model.specs.Connections.{Connection, Connections}
use Rattle.world_model.specs.Worlds.{Guest, fresh_guest, ring_domid, domid_if_new, with_fresh_guests}
use Rattle.world_model.specs.Served.{PageLog, on_page, replaced, replaced_for}
use Rattle.world_laws.proofs.EntryLemmas.{none_of, found_same, found_other, mapped_some, mapped_none, each_is_itself, each_of}
use Rattle.world_laws.proofs.ConnLemmas.{ends}

-- a domain whose connection is new
pub record IsMade (before after : Connections) (d : ℕ) : Type 0 where
  pub conn : ℕ
  pub new : ends before conn ≡ None
  pub ring : ends after conn ≡ Some (Some d)

abbrev pub made : Connections → Connections → List ℕ
made before after = filter_map (domid_if_new before) after

abbrev pub among : ℕ → List ℕ → Bool
among d ds = list_any (λ x. d == x) ds

-- WHICH THEY ARE
new_by : (before : Connections) (e : ℕ × Connection) (d : ℕ) (b : Bool) → is_some (find nat_cmp e.0 before) ≡ b → cond b None (ring_domid e.1.spec) ≡ Some d → (is_some (find nat_cmp e.0 before) ≡ false) × (ring_domid e.1.spec ≡ Some d)
new_by before e d true t r = not_Some r
new_by before e d false t r = (t, r)

pub each_made : (before after : Connections) → is_sorted nat_cmp after ≡ true → AllByRecursion (IsMade before after) (made before after)
each_made before after rising =
    each_of (IsMade before after) (λ (e : ℕ × Connection). find nat_cmp e.0 after ≡ Some e.1) (domid_if_new before)
    (λ e d found r. let new = new_by before e d (is_some (find nat_cmp e.0 before)) refl r in
    record {
      conn = e.0;
      new = ap (option_map (λ (conn : Connection). ring_domid conn.spec)) (none_of (find nat_cmp e.0 before) new.0);
      ring = ap (option_map (λ (conn : Connection). ring_domid conn.spec)) found ∙ ap Some new.1;
    }) after (each_is_itself after rising)

pub each_among : (P : ℕ → Type 0) (d : ℕ) (ds : List ℕ) → AllByRecursion P ds → among d ds ≡ true → P d
each_among P d [] h t = not_both t refl
each_among P d (x ∷ ds) h t =
    elim (d == x) as (λ b. (d == x) ≡ b → (b || among d ds) ≡ true → P d) [
      | true ↦ λ e _. subst P (sym (eqb-true d x e)) h.0
      | false ↦ λ e more. each_among P d ds h.1 more
    ] refl t

among_cons : (o : Option ℕ) (d : ℕ) (ds : List ℕ) → (o ≡ Some d) ⊎ (among d ds ≡ true) → among d (cons_option o ds) ≡ true
among_cons None d ds h = elim h [ inl e ↦ not_Some e | inr t ↦ t ]
among_cons (Some x) d ds h = elim h [
  | inl e ↦ ap (λ b. b || among d ds) (eq-eqb d x (sym (from_Some e)))
  | inr t ↦ or_right (d == x) (among d ds) t
]

is_among : (before es : Connections) (c d : ℕ) (conn : Connection) → find nat_cmp c before ≡ None → find nat_cmp c es ≡ Some conn → ring_domid conn.spec ≡ Some d → among d (filter_map (domid_if_new before) es) ≡ true
is_among before [] c d conn n = λ e r. not_Some e
is_among before (f ∷ es) c d conn n =
    elim (eq_by_cmp nat_cmp c f.0) as (λ b. eq_by_cmp nat_cmp c f.0 ≡ b → cond b (Some f.1) (find nat_cmp c es) ≡ Some conn → ring_domid conn.spec ≡ Some d → among d (cons_option (domid_if_new before f) (filter_map (domid_if_new before) es)) ≡ true) [
      | true ↦ λ t e r.
          let key : c ≡ f.0 = eqb-true c f.0 (sym (unsigned_tied c f.0) ∙ t) in
          among_cons (domid_if_new before f) d (filter_map (domid_if_new before) es)
          (inl (ap (λ o. cond (is_some o) None (ring_domid f.1.spec)) (subst (λ k. find nat_cmp k before ≡ None) key n) ∙ ap (λ (x : Connection). ring_domid x.spec) (from_Some e) ∙ r))
      | false ↦ λ t e r. among_cons (domid_if_new before f) d (filter_map (domid_if_new before) es) (inr (is_among before es c d conn n e r))
    ] refl

pub made_among : (before after : Connections) (c d : ℕ) → ends before c ≡ None → ends after c ≡ Some (Some d) → among d (made before after) ≡ true
made_among before after c d n e =
    let x = mapped_some (λ (conn : Connection). ring_domid conn.spec) (find nat_cmp c after) (Some d) e in
    is_among before after c d x.0 (mapped_none (λ (conn : Connection). ring_domid conn.spec) (find nat_cmp c before) n) x.1 (from_Some x.2)

-- THEIR PAGES
pub fresh_elsewhere : (d : ℕ) (ds : List ℕ) (guests : List (ℕ × Guest)) → among d ds ≡ false → find nat_cmp d (with_fresh_guests ds guests) ≡ find nat_cmp d guests
fresh_elsewhere d [] guests t = refl
fresh_elsewhere d (x ∷ ds) guests t =
    let parts = or_parts (d == x) (among d ds) t in
    fresh_elsewhere d ds (put nat_cmp x (fresh_guest 0) guests) parts.1 ∙ found_other d x (fresh_guest 0) guests parts.0

pub fresh_among : (d : ℕ) (ds : List ℕ) (guests : List (ℕ × Guest)) → among d ds ≡ true → find nat_cmp d (with_fresh_guests ds guests) ≡ Some (fresh_guest 0)
fresh_among d [] guests t = not_both t refl
fresh_among d (x ∷ ds) guests t = elim (cases_Bool (among d ds)) [
  | inl more ↦ fresh_among d ds (put nat_cmp x (fresh_guest 0) guests) more
  | inr none ↦ fresh_elsewhere d ds (put nat_cmp x (fresh_guest 0) guests) none ∙ elim (d == x) as (λ b. (d == x) ≡ b → (b || among d ds) ≡ true → find nat_cmp d (put nat_cmp x (fresh_guest 0) guests) ≡ Some (fresh_guest 0)) [
    | true ↦ λ e _. subst (λ k. find nat_cmp k (put nat_cmp x (fresh_guest 0) guests) ≡ Some (fresh_guest 0)) (sym (eqb-true d x e)) (found_same x (fresh_guest 0) guests)
    | false ↦ λ e more. not_both more none
  ] refl t
]

-- THEIR LOGS
pub gone_stays : (ds : List ℕ) (log : PageLog) → log.is_there ≡ false → replaced_for ds log ≡ log
gone_stays [] log g = refl
gone_stays (d ∷ ds) log g = ap (replaced_for ds) (cond-false (log.is_there && log.domid == d) (replaced log) log (and_left log.is_there (log.domid == d) g)) ∙ gone_stays ds log g

pub replaced_elsewhere : (ds : List ℕ) (log : PageLog) → among log.domid ds ≡ false → replaced_for ds log ≡ log
replaced_elsewhere [] log t = refl
replaced_elsewhere (d ∷ ds) log t =
    let parts = or_parts (log.domid == d) (among log.domid ds) t in
    ap (replaced_for ds) (cond-false (log.is_there && log.domid == d) (replaced log) log (and_right log.is_there (log.domid == d) parts.0)) ∙ replaced_elsewhere ds log parts.1

pub replaced_among : (ds : List ℕ) (log : PageLog) → log.is_there ≡ true → among log.domid ds ≡ true → replaced_for ds log ≡ replaced log
replaced_among [] log there t = not_both t refl
replaced_among (d ∷ ds) log there t =
    elim (log.domid == d) as (λ b. (log.domid == d) ≡ b → (b || among log.domid ds) ≡ true → replaced_for ds (on_page d replaced log) ≡ replaced log) [
      | true ↦ λ e _. ap (replaced_for ds) (cond-true (log.is_there && log.domid == d) (replaced log) log (and_from log.is_there (log.domid == d) there e)) ∙ gone_stays ds (replaced log) refl
      | false ↦ λ e more. ap (replaced_for ds) (cond-false (log.is_there && log.domid == d) (replaced log) log (and_right log.is_there (log.domid == d) e)) ∙ replaced_among ds log there more
    ] refl t

pub replaced_life : (ds : List ℕ) (log : PageLog) → (replaced_for ds log).life ≡ log.life
replaced_life [] log = refl
replaced_life (d ∷ ds) log = replaced_life ds (on_page d replaced log) ∙ elim (log.is_there && log.domid == d) as (λ b. (cond b (replaced log) log).life ≡ log.life) [ true ↦ refl | false ↦ refl ]
