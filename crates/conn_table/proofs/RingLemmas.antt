-- Ring connections in a table: what is found of a domain, and after an edit.
use Rattle.std.proofs.Common.{◌≡◌, ℕ, ◌<◌, ◌==◌, ◌↔◌, Bool, true, false, cond, not, ◌&&◌, List, [], ◌∷◌, Option, Some, None, is_some, refl, sym, ap, ap₂, ◌∙◌, arith, eqb-true, eq-eqb, ne_eqb}
use Rattle.std.specs.declared.cmp.Ordering.TheVariants.{Less, Equal, Greater}
use Rattle.std.specs.Ordering.{nat_cmp, is_lt, is_eq}
use Rattle.std.specs.Cmp.{unsigned_tied}
use Rattle.std.specs.FinMap.{find, put, is_sorted}
use Rattle.std.specs.FinMap.Entries.{by_order, below_all, where_key}
use Rattle.std.proofs.lemmas.Bool.Decides.{nat_tests}
use Rattle.machine_model.specs.declared.ConnSpec.{ConnSpec}
use Rattle.machine_model.specs.declared.ConnSpec.TheVariants.{Ring, Socket}
use Rattle.machine_model.specs.Connections.{is_ring_of}
use Rattle.conn_table.specs.Tables.{Specs, ring_id, ring_domid, has_its_ring, has_distinct_rings, IsTable, is_found_ring, is_ring_at, unless}

pub both : (a b : Bool) → (a && b) ≡ true → (a ≡ true) × (b ≡ true)
both true b h = (refl, h)
both false b h = cc

pub is_not : (b : Bool) → not b ≡ true → b ≡ false
is_not true h = cc
is_not false h = refl

in_order : (x y : ℕ) → is_lt (nat_cmp x y) ≡ true → x < y
in_order x y h = grind (arith, nat_tests)

-- a lower id than all others is not found
none_below : {X : Type 0} (k x : ℕ) (es : List (ℕ × X)) → k < x → below_all nat_cmp x es ≡ true → find nat_cmp k es ≡ None
none_below k x [] lt h = refl
none_below k x (e ∷ es) lt h =
    let parts = both (is_lt (nat_cmp x e.0)) (below_all nat_cmp x es) h in
    let lower : x < e.0 = in_order x e.0 parts.0 in
    ap (λ b. cond b (Some e.1) (find nat_cmp k es)) (unsigned_tied k e.0 ∙ ne_eqb k e.0 (λ same. omega arith)) ∙ none_below k x es lt parts.1

-- THE RING OF A DOMAIN
pub none_like : (d : ℕ) (spec : ConnSpec) (es : Specs) → is_ring_of d spec ≡ true → has_its_ring spec es ≡ false → ring_id d es ≡ None
none_like d (Ring domid target evtchn) es is h = ap (λ d. ring_id d es) (eqb-true d domid is) ∙ none (ring_id domid es) h
  where
    none : (o : Option ℕ) → is_some o ≡ false → o ≡ None
    none None h = refl
    none (Some x) h = cc
none_like d (Socket fd) es is h = cc

-- a ring of no domain that has one
pub like_none : (spec : ConnSpec) (es : Specs) → ((d : ℕ) → is_ring_of d spec ≡ true → ring_id d es ≡ None) → has_its_ring spec es ≡ false
like_none (Ring domid target evtchn) es free = ap is_some (free domid (eq-eqb domid domid refl))
like_none (Socket fd) es free = refl

pub same_ring : (d : ℕ) (a b : ConnSpec) → ring_domid a ≡ ring_domid b → is_ring_of d a ≡ is_ring_of d b
same_ring d (Ring x ta ea) (Ring y tb eb) h = let same : x ≡ y = cc in ap (λ z. d == z) same
same_ring d (Ring x ta ea) (Socket fb) h = cc
same_ring d (Socket fa) (Ring y tb eb) h = cc
same_ring d (Socket fa) (Socket fb) h = refl

past : (r : Bool) (x : ℕ) (o : Option ℕ) → cond r (Some x) o ≡ None → o ≡ None
past true x o h = cc
past false x o h = h

-- A NEW CONNECTION
module _ (id : ℕ) (spec : ConnSpec) where
  abbrev pub IsFree : Specs → Type 0
  IsFree es = (d : ℕ) → is_ring_of d spec ≡ true → ring_id d es ≡ None

  stepped : (r s : Bool) (x : ℕ) (b o n : Option ℕ) → (s ≡ true → cond r (Some x) o ≡ None) → ((s ≡ true → o ≡ None) → n ≡ cond s b o) → cond r (Some x) n ≡ cond s b (cond r (Some x) o)
  stepped true true x b o n free rest = let bad : Some x ≡ None = free refl in cc
  stepped true false x b o n free rest = refl
  stepped false s x b o n free rest = rest free

  pub ring_added : (d : ℕ) (es : Specs) → find nat_cmp id es ≡ None → (is_ring_of d spec ≡ true → ring_id d es ≡ None) → ring_id d (put nat_cmp id spec es) ≡ cond (is_ring_of d spec) (Some id) (ring_id d es)
  ring_added d [] absent free = refl
  ring_added d (e ∷ es) absent free =
      let rest : find nat_cmp id es ≡ None → (is_ring_of d spec ≡ true → ring_id d es ≡ None) → ring_id d (put nat_cmp id spec es) ≡ cond (is_ring_of d spec) (Some id) (ring_id d es) = ring_added d es in
      elim (nat_cmp id e.0) as (λ o. cond (is_eq o) (Some e.1) (find nat_cmp id es) ≡ None → ring_id d (by_order o ((id, spec) ∷ e ∷ es) ((e.0, spec) ∷ es) (e ∷ put nat_cmp id spec es)) ≡ cond (is_ring_of d spec) (Some id) (ring_id d (e ∷ es))) [
        | Less ↦ λ none. refl
        | Equal ↦ λ none. cc
        | Greater ↦ λ none. stepped (is_ring_of d e.1) (is_ring_of d spec) e.0 (Some id) (ring_id d es) (ring_id d (put nat_cmp id spec es)) free (rest none)
      ] absent

  free_behind : (e : ℕ × ConnSpec) (es : Specs) → IsFree (e ∷ es) → IsFree es
  free_behind e es free = λ d is. past (is_ring_of d e.1) e.0 (ring_id d es) (free d is)

  -- the first entry is still the only ring of its domain
  alone_added : (e : ℕ × ConnSpec) (es : Specs) → find nat_cmp id es ≡ None → IsFree (e ∷ es) → has_its_ring e.1 es ≡ false → has_its_ring e.1 (put nat_cmp id spec es) ≡ false
  alone_added e es absent free alone = like_none e.1 (put nat_cmp id spec es) (λ d is.
      ring_added d es absent (free_behind e es free d)
      ∙ by d is (is_ring_of d spec) refl)
    where
      by : (d : ℕ) → is_ring_of d e.1 ≡ true → (s : Bool) → is_ring_of d spec ≡ s → cond s (Some id) (ring_id d es) ≡ None
      by d is true t =
          let bad : Some e.0 ≡ None = sym (ap (λ b. cond b (Some e.0) (ring_id d es)) is) ∙ free d t in cc
      by d is false t = none_like d e.1 es is alone

  pub distinct_added : (es : Specs) → find nat_cmp id es ≡ None → IsFree es → has_distinct_rings es ≡ true → has_distinct_rings (put nat_cmp id spec es) ≡ true
  distinct_added [] absent free h = ap (λ b. not b && true) (like_none spec [] free)
  distinct_added (e ∷ es) absent free h =
      let parts = both (not (has_its_ring e.1 es)) (has_distinct_rings es) h in
      let rest : find nat_cmp id es ≡ None → has_distinct_rings (put nat_cmp id spec es) ≡ true = λ none. distinct_added es none (free_behind e es free) parts.1 in
      elim (nat_cmp id e.0) as (λ o. cond (is_eq o) (Some e.1) (find nat_cmp id es) ≡ None → has_distinct_rings (by_order o ((id, spec) ∷ e ∷ es) ((e.0, spec) ∷ es) (e ∷ put nat_cmp id spec es)) ≡ true) [
        | Less ↦ λ none. ap₂ ◌&&◌ (ap not (like_none spec (e ∷ es) free)) h
        | Equal ↦ λ none. cc
        | Greater ↦ λ none. ap₂ ◌&&◌ (ap not (alone_added e es none free (is_not _ parts.0))) (rest none)
      ] absent

-- ANOTHER SPEC OF A CONNECTION, of the same ring
module _ (id : ℕ) (old spec : ConnSpec) (same : ring_domid old ≡ ring_domid spec) where
  not_less : {A : Type 0} (e : ℕ × ConnSpec) (es : Specs) → nat_cmp id e.0 ≡ Less → below_all nat_cmp e.0 es ≡ true → find nat_cmp id es ≡ Some old → A
  not_less e es less below there =
      let bad : None ≡ Some old = sym (none_below id e.0 es (is_less id e.0 less) below) ∙ there in cc
    where
      is_less : (x y : ℕ) → nat_cmp x y ≡ Less → x < y
      is_less x y h = grind (arith, nat_tests)

  pub ring_set : (d : ℕ) (es : Specs) → is_sorted nat_cmp es ≡ true → find nat_cmp id es ≡ Some old → ring_id d (put nat_cmp id spec es) ≡ ring_id d es
  ring_set d [] h there = cc
  ring_set d (e ∷ es) h there =
      let parts = both (below_all nat_cmp e.0 es) (is_sorted nat_cmp es) h in
      let rest : find nat_cmp id es ≡ Some old → ring_id d (put nat_cmp id spec es) ≡ ring_id d es = ring_set d es parts.1 in
      elim (nat_cmp id e.0) as (λ o. nat_cmp id e.0 ≡ o → cond (is_eq o) (Some e.1) (find nat_cmp id es) ≡ Some old → ring_id d (by_order o ((id, spec) ∷ e ∷ es) ((e.0, spec) ∷ es) (e ∷ put nat_cmp id spec es)) ≡ ring_id d (e ∷ es)) [
        | Less ↦ λ o is. not_less e es o parts.0 is
        | Equal ↦ λ o is. let first : e.1 ≡ old = cc in ap (λ b. cond b (Some e.0) (ring_id d es)) (sym (same_ring d old spec same) ∙ ap (is_ring_of d) (sym first))
        | Greater ↦ λ o is. ap (cond (is_ring_of d e.1) (Some e.0)) (rest is)
      ] refl there

  pub distinct_set : (es : Specs) → is_sorted nat_cmp es ≡ true → find nat_cmp id es ≡ Some old → has_distinct_rings es ≡ true → has_distinct_rings (put nat_cmp id spec es) ≡ true
  distinct_set [] s there h = cc
  distinct_set (e ∷ es) s there h =
      let order = both (below_all nat_cmp e.0 es) (is_sorted nat_cmp es) s in
      let parts = both (not (has_its_ring e.1 es)) (has_distinct_rings es) h in
      let alone : has_its_ring e.1 es ≡ false = is_not _ parts.0 in
      let rest : find nat_cmp id es ≡ Some old → has_distinct_rings (put nat_cmp id spec es) ≡ true = λ is. distinct_set es order.1 is parts.1 in
      elim (nat_cmp id e.0) as (λ o. nat_cmp id e.0 ≡ o → cond (is_eq o) (Some e.1) (find nat_cmp id es) ≡ Some old → has_distinct_rings (by_order o ((id, spec) ∷ e ∷ es) ((e.0, spec) ∷ es) (e ∷ put nat_cmp id spec es)) ≡ true) [
        | Less ↦ λ o is. not_less e es o order.0 is
        | Equal ↦ λ o is.
            let first : e.1 ≡ old = cc in
            ap₂ ◌&&◌ (ap not (like_none spec es (λ d k. none_like d e.1 es (ap (is_ring_of d) first ∙ (same_ring d old spec same ∙ k)) alone))) parts.1
        | Greater ↦ λ o is.
            ap₂ ◌&&◌ (ap not (like_none e.1 (put nat_cmp id spec es) (λ d k. ring_set d es order.1 is ∙ none_like d e.1 es k alone))) (rest is)
      ] refl there

-- A CONNECTION LESS
module _ (id : ℕ) where
  abbrev pub without : Specs → Specs
  without es = where_key nat_cmp (λ key. not (id == key)) es

  pub ring_removed : (d : ℕ) (es : Specs) → has_distinct_rings es ≡ true → ring_id d (without es) ≡ unless id (ring_id d es)
  ring_removed d [] h = refl
  ring_removed d (e ∷ es) h =
      let parts = both (not (has_its_ring e.1 es)) (has_distinct_rings es) h in
      by (ring_removed d es parts.1) (λ is. none_like d e.1 es is (is_not _ parts.0)) (id == e.0) (is_ring_of d e.1) refl refl
    where
      by : ring_id d (without es) ≡ unless id (ring_id d es) → (is_ring_of d e.1 ≡ true → ring_id d es ≡ None) → (b r : Bool) → (id == e.0) ≡ b → is_ring_of d e.1 ≡ r → ring_id d (cond (not b) (e ∷ without es) (without es)) ≡ unless id (cond r (Some e.0) (ring_id d es))
      by rest none true true t is = rest ∙ (ap (unless id) (none is) ∙ sym (ap (λ b. cond b None (Some e.0)) t))
      by rest none true false t is = rest
      by rest none false true t is = ap (λ b. cond b (Some e.0) (ring_id d (without es))) is ∙ sym (ap (λ b. cond b None (Some e.0)) t)
      by rest none false false t is = ap (λ b. cond b (Some e.0) (ring_id d (without es))) is ∙ rest

  pub distinct_removed : (es : Specs) → has_distinct_rings es ≡ true → has_distinct_rings (without es) ≡ true
  distinct_removed [] h = refl
  distinct_removed (e ∷ es) h =
      let parts = both (not (has_its_ring e.1 es)) (has_distinct_rings es) h in
      let rest = distinct_removed es parts.1 in
      elim (id == e.0) as (λ b. has_distinct_rings (cond (not b) (e ∷ without es) (without es)) ≡ true) [
        | true ↦ rest
        | false ↦ ap₂ ◌&&◌ (ap not (like_none e.1 (without es) (λ d k. ring_removed d es parts.1 ∙ ap (unless id) (none_like d e.1 es k (is_not _ parts.0))))) rest
      ]

-- WHERE THE RING IS
pub ring_there : (d id : ℕ) (es : Specs) → is_sorted nat_cmp es ≡ true → ring_id d es ≡ Some id → is_ring_at d id es ≡ true
ring_there d id [] s h = cc
ring_there d id (e ∷ es) s h =
    let parts = both (below_all nat_cmp e.0 es) (is_sorted nat_cmp es) s in
    by (is_ring_of d e.1) refl h (λ k. ring_there d id es parts.1 k) parts.0
  where
    by : (r : Bool) → is_ring_of d e.1 ≡ r → cond r (Some e.0) (ring_id d es) ≡ Some id → (ring_id d es ≡ Some id → is_ring_at d id es ≡ true) → below_all nat_cmp e.0 es ≡ true → is_ring_at d id (e ∷ es) ≡ true
    by true is k rest below =
        let same : id ≡ e.0 = cc in
        ap (λ b. is_found_ring d (cond b (Some e.1) (find nat_cmp id es))) (unsigned_tied id e.0 ∙ eq-eqb id e.0 same) ∙ is
    by false is k rest below =
        let there = rest k in
        ap (λ b. is_found_ring d (cond b (Some e.1) (find nat_cmp id es))) (unsigned_tied id e.0 ∙ ne_eqb id e.0 (λ same. missing same there)) ∙ there
      where
        tied_below : (x y : ℕ) (es : Specs) → x ≡ y → below_all nat_cmp y es ≡ true → find nat_cmp x es ≡ None
        tied_below x y [] same h = refl
        tied_below x y (f ∷ fs) same h =
            let parts = both (is_lt (nat_cmp y f.0)) (below_all nat_cmp y fs) h in
            let lower : y < f.0 = in_order y f.0 parts.0 in
            ap (λ b. cond b (Some f.1) (find nat_cmp x fs)) (unsigned_tied x f.0 ∙ ne_eqb x f.0 (λ k. omega arith)) ∙ tied_below x y fs same parts.1

        missing : id ≡ e.0 → is_ring_at d id es ≡ true → ⊥
        missing same there = let bad : false ≡ true = sym (ap (is_found_ring d) (tied_below id e.0 es same below)) ∙ there in cc

pub there_ring : (d id : ℕ) (es : Specs) → has_distinct_rings es ≡ true → is_ring_at d id es ≡ true → ring_id d es ≡ Some id
there_ring d id [] h is = cc
there_ring d id (e ∷ es) h is =
    let parts = both (not (has_its_ring e.1 es)) (has_distinct_rings es) h in
    by (id == e.0) refl (sym (ap (λ b. is_found_ring d (cond b (Some e.1) (find nat_cmp id es))) (unsigned_tied id e.0)) ∙ is) (there_ring d id es parts.1) (is_not _ parts.0)
  where
    by : (b : Bool) → (id == e.0) ≡ b → is_found_ring d (cond b (Some e.1) (find nat_cmp id es)) ≡ true → (is_ring_at d id es ≡ true → ring_id d es ≡ Some id) → has_its_ring e.1 es ≡ false → ring_id d (e ∷ es) ≡ Some id
    by true t k rest alone = ap (λ b. cond b (Some e.0) (ring_id d es)) k ∙ ap Some (sym (eqb-true id e.0 t))
    by false t k rest alone = ap (λ b. cond b (Some e.0) (ring_id d es)) (other (is_ring_of d e.1) refl) ∙ rest k
      where
        other : (r : Bool) → is_ring_of d e.1 ≡ r → r ≡ false
        other true is = let bad : None ≡ Some id = sym (none_like d e.1 es is alone) ∙ rest k in cc
        other false is = refl

pub ring_is : (d id : ℕ) (es : Specs) → IsTable es → (ring_id d es ≡ Some id) ↔ (is_ring_at d id es ≡ true)
ring_is d id es table = (ring_there d id es table.rising, there_ring d id es table.rings)

pub one_ring : (d i j : ℕ) (es : Specs) → IsTable es → is_ring_at d i es ≡ true → is_ring_at d j es ≡ true → i ≡ j
one_ring d i j es table a b =
    let both_there : Some i ≡ Some j = sym (there_ring d i es table.rings a) ∙ there_ring d j es table.rings b in cc
