-- A table and the ids of its ring connections agree after each edit.
use Rattle.std.proofs.Common.{◌≡◌, ℕ, ◌==◌, Bool, true, false, cond, not, ◌||◌, List, Option, Some, None, is_some, refl, sym, ap, subst, ◌∙◌, arith, eqb-true, eq-eqb, ne_eqb}
use lib.Dec.{T}
use Rattle.std.specs.Bool.{passes}
use Rattle.std.specs.Option.{ForSome}
use Rattle.std.specs.declared.cmp.Ordering.TheVariants.{Equal}
use Rattle.std.specs.Ordering.{nat_cmp}
use Rattle.std.specs.Cmp.{unsigned_tied}
use Rattle.std.specs.FinMap.{find, put, is_sorted}
use Rattle.std.specs.FinMap.Entries.{where_key, find-put, find-where_key, is_sorted-put, is_sorted-where_key}
use Rattle.std.proofs.lemmas.Bool.{eqb-false}
use Rattle.std.proofs.lemmas.Bool.Decides.{nat_tests}
use Rattle.std.proofs.lemmas.Cmp.{nat_cmp_total}
use Rattle.machine_model.specs.declared.ConnSpec.{ConnSpec}
use Rattle.machine_model.specs.declared.ConnSpec.TheVariants.{Ring, Socket}
use Rattle.machine_model.specs.Connections.{is_ring_of}
use Rattle.conn_table.specs.Tables.{Specs, ring_id, ring_domid, has_its_ring, is_taken, is_found_ring, is_ring_at, unless}
use Rattle.conn_table.specs.Kept.{Rings, Agrees, with_ring, without_ring}
use Rattle.conn_table.proofs.RingLemmas.{none_like, IsFree, ring_added, distinct_added, ring_set, distinct_set, without, ring_removed, distinct_removed, ring_there, there_ring}

true_of : (b : Bool) → T b → b ≡ true
true_of true h = refl
true_of false h = absurd h

pub rising_put : {X : Type 0} (k : ℕ) (x : X) (es : List (ℕ × X)) → is_sorted nat_cmp es ≡ true → is_sorted nat_cmp (put nat_cmp k x es) ≡ true
rising_put k x es h = true_of _ (is_sorted-put nat_cmp nat_cmp_total k x es (passes _ h))

rising_without : {X : Type 0} (k : ℕ) (es : List (ℕ × X)) → is_sorted nat_cmp es ≡ true → is_sorted nat_cmp (where_key nat_cmp (λ key. not (k == key)) es) ≡ true
rising_without k es h = true_of _ (is_sorted-where_key nat_cmp (λ key. not (k == key)) es (passes _ h))

found_put : {X : Type 0} (q k : ℕ) (x : X) (es : List (ℕ × X)) → find nat_cmp q (put nat_cmp k x es) ≡ cond (q == k) (Some x) (find nat_cmp q es)
found_put q k x es = find-put nat_cmp nat_cmp_total q k x es ∙ ap (λ b. cond b (Some x) (find nat_cmp q es)) (unsigned_tied q k)

found_without : {X : Type 0} (q k : ℕ) (es : List (ℕ × X)) → find nat_cmp q (where_key nat_cmp (λ key. not (k == key)) es) ≡ cond (not (k == q)) (find nat_cmp q es) None
found_without q k es = find-where_key nat_cmp (λ key. not (k == key)) q (λ x t. ap (λ z. not (k == z)) (tied_is q x t)) es
  where
    tied_is : (q x : ℕ) → nat_cmp q x ≡ Equal → x ≡ q
    tied_is q x e = grind (arith, nat_tests)

-- WHAT IS TAKEN
untaken : (id : ℕ) (spec : ConnSpec) (es : Specs) → is_taken id spec es ≡ false → (find nat_cmp id es ≡ None) × (has_its_ring spec es ≡ false)
untaken id spec es h = by (find nat_cmp id es) h
  where
    by : (o : Option ConnSpec) → (is_some o || has_its_ring spec es) ≡ false → (o ≡ None) × (has_its_ring spec es ≡ false)
    by None h = (refl, h)
    by (Some x) h = cc

pub ring_untaken : (id : ℕ) (spec : ConnSpec) (es : Specs) → is_taken id spec es ≡ false → (d : ℕ) → ring_id d (put nat_cmp id spec es) ≡ cond (is_ring_of d spec) (Some id) (ring_id d es)
ring_untaken id spec es free d =
    let parts = untaken id spec es free in ring_added id spec d es parts.0 (λ is. none_like d spec es is parts.1)

-- AGREEMENT after an edit
module _ (es : Specs) (rings : Rings) (h : Agrees es rings) where
  agrees_added : (id : ℕ) (spec : ConnSpec) → find nat_cmp id es ≡ None → has_its_ring spec es ≡ false → Agrees (put nat_cmp id spec es) (with_ring spec id rings)
  agrees_added id spec absent alone =
      let free : IsFree id spec es = λ d is. none_like d spec es is alone in
      record {
        table = record { rising = rising_put id spec es h.table.rising; rings = distinct_added id spec es absent free h.table.rings };
        each = λ d. kept spec d ∙ sym (ring_added id spec d es absent (free d));
      }
    where
      kept : (spec : ConnSpec) (d : ℕ) → find nat_cmp d (with_ring spec id rings) ≡ cond (is_ring_of d spec) (Some id) (ring_id d es)
      kept (Ring domid target evtchn) d = found_put d domid id rings ∙ ap (cond (d == domid) (Some id)) (h.each d)
      kept (Socket fd) d = h.each d

  pub agrees_untaken : (id : ℕ) (spec : ConnSpec) → is_taken id spec es ≡ false → Agrees (put nat_cmp id spec es) (with_ring spec id rings)
  agrees_untaken id spec free = let parts = untaken id spec es free in agrees_added id spec parts.0 parts.1

  pub agrees_set : (id : ℕ) (old spec : ConnSpec) → ring_domid old ≡ ring_domid spec → find nat_cmp id es ≡ Some old → Agrees (put nat_cmp id spec es) rings
  agrees_set id old spec same there = record {
    table = record { rising = rising_put id spec es h.table.rising; rings = distinct_set id old spec same es h.table.rising there h.table.rings };
    each = λ d. h.each d ∙ sym (ring_set id old spec same d es h.table.rising there);
  }

  -- the connection that is gone was no ring of the domain, if another is
  not_its : (id d : ℕ) → is_ring_at d id es ≡ false → unless id (ring_id d es) ≡ ring_id d es
  not_its id d other = by (ring_id d es) refl
    where
      by : (o : Option ℕ) → ring_id d es ≡ o → unless id o ≡ o
      by None is = refl
      by (Some i) is = ap (λ b. cond b None (Some i)) (ne_eqb id i (λ same. at i is same))
        where
          at : (i : ℕ) → ring_id d es ≡ Some i → id ≡ i → ⊥
          at i is same =
              let there = ring_there d i es h.table.rising is in
              let bad : true ≡ false = sym there ∙ (sym (ap (λ j. is_ring_at d j es) same) ∙ other) in cc

  pub agrees_removed : (id : ℕ) → Agrees (without id es) (without_ring (find nat_cmp id es) rings)
  agrees_removed id = record {
    table = record { rising = rising_without id es h.table.rising; rings = distinct_removed id es h.table.rings };
    each = λ d. kept (find nat_cmp id es) refl d ∙ sym (ring_removed id d es h.table.rings);
  }
    where
      kept : (o : Option ConnSpec) → find nat_cmp id es ≡ o → (d : ℕ) → find nat_cmp d (without_ring o rings) ≡ unless id (ring_id d es)
      kept None is d = h.each d ∙ sym (not_its id d (ap (is_found_ring d) is))
      kept (Some (Socket fd)) is d = h.each d ∙ sym (not_its id d (ap (is_found_ring d) is))
      kept (Some (Ring domid target evtchn)) is d = found_without d domid rings ∙ by (domid == d) refl
        where
          by : (b : Bool) → (domid == d) ≡ b → cond (not b) (find nat_cmp d rings) None ≡ unless id (ring_id d es)
          by true t =
              let same : domid ≡ d = eqb-true domid d t in
              let ring : ring_id d es ≡ Some id = there_ring d id es h.table.rings (ap (is_found_ring d) is ∙ eq-eqb d domid (sym same)) in
              sym (ap (unless id) ring ∙ ap (λ b. cond b None (Some id)) (eq-eqb id id refl))
          by false t = h.each d ∙ sym (not_its id d (ap (is_found_ring d) is ∙ ne_eqb d domid (λ same. eqb-false domid d t (sym same))))

  -- another spec of the connection, if it is there
  pub agrees_after_set : (id : ℕ) (spec : ConnSpec) (r : Bool) (new : Specs) → r ≡ is_some (find nat_cmp id es) → ForSome (find nat_cmp id es) (λ old. ring_domid old ≡ ring_domid spec) → new ≡ cond r (put nat_cmp id spec es) es → Agrees new rings
  agrees_after_set id spec r new found same after = by (find nat_cmp id es) refl found
    where
      by : (o : Option ConnSpec) → find nat_cmp id es ≡ o → r ≡ is_some o → Agrees new rings
      by None there is = subst (λ l. Agrees l rings) (sym (after ∙ ap (λ b. cond b (put nat_cmp id spec es) es) is)) h
      by (Some old) there is = subst (λ l. Agrees l rings) (sym (after ∙ ap (λ b. cond b (put nat_cmp id spec es) es) is)) (agrees_set id old spec (same old there) there)

  pub ring_after_set : (new : Specs) → Agrees new rings → (d : ℕ) → ring_id d new ≡ ring_id d es
  ring_after_set new after d = sym (after.each d) ∙ h.each d
