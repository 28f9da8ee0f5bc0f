-- A ring is opened and closed.
use Rattle.std.proofs.Common.{◌≡◌, ℕ, zero, suc, ◌^◌, ◌<◌, ◌⊎◌, Bool, true, false, ◌||◌, Some, None, List, [], ◌∷◌, ◌++◌, length, get_or, sym, refl, ap, subst, ◌∙◌, inl, inr, arith}
use Rattle.std.specs.Prelude.{slice_set}
use Rattle.std.proofs.lemmas.List.{get_or-set_same, get_or-set_other, length-set}
use mathlib.Core.Option.{some, some-ne-none, some-injective}
use lib.ListN.{get_elem?}
use Rattle.atomic_table.specs.Table.{State, Splits, Joins}
use Rattle.atomic_table.proofs.Lists.{at_set}
use Rattle.ring_words.specs.declared.view.View.{View}
use Rattle.ring_words.specs.declared.view.Role.TheVariants.{Fresh, Producer, Consumer, Closed, Spent, Kept}
use Rattle.ring_words.specs.Indices.{index_of}
use Rattle.ring_words.specs.Views.{fresh, with_role, closed, spent}
use Rattle.ring_words.specs.Rule.{Agree, Work, IsClosed, IsRing, IsBlamed}
use Rattle.ring_words.proofs.MoveLemmas.{producer_at, consumer_at, same_role, role_closed}

abbrev Ring : State (Unit {0}) View → Type 0
Ring s = IsRing s.words s.views

-- OPENING. Zeros, and both indices at their start
module _ (start : ℕ) (zeros : List ℕ) (fits : start < 2 ^ 32) (count : length zeros ≡ 1027) (zero_at : (k : ℕ) → k < 1027 → get_or zeros k 0 ≡ 0) where
  first_words : List ℕ
  first_words = slice_set (slice_set zeros 1024 start) 1025 start

  pub opens : Work (slice_set (slice_set zeros 1024 start) 1025 start) (with_role Producer (fresh start)) (with_role Consumer (fresh start))
  opens =
      let once = slice_set zeros 1024 start in
      let long : length once ≡ 1027 = length-set zeros 1024 start ∙ count in
      let at_byte : (k : ℕ) → k < 1024 → get_or (slice_set once 1025 start) k 0 ≡ 0 = λ k below. get_or-set_other once 1025 k start 0 (omega arith) ∙ get_or-set_other zeros 1024 k start 0 (omega arith) ∙ zero_at k (omega arith) in
      let at_prod : get_or (slice_set once 1025 start) 1024 0 ≡ start = get_or-set_other once 1025 1024 start 0 (omega arith) ∙ get_or-set_same zeros 1024 start 0 (omega arith) in
      let at_cons : get_or (slice_set once 1025 start) 1025 0 ≡ start = get_or-set_same once 1025 start 0 (omega arith) in
      let at_note : get_or (slice_set once 1025 start) 1026 0 ≡ 0 = get_or-set_other once 1025 1026 start 0 (omega arith) ∙ get_or-set_other zeros 1024 1026 start 0 (omega arith) ∙ zero_at 1026 (omega arith) in
      let own : start ≡ index_of start 0 = omega arith in
      record {
        start = refl;
        content = record {
          count = length-set once 1025 start ∙ long;
          bytes = λ k below. let is = at_byte k below in omega (arith, is);
          prod = omega (arith, at_prod);
          cons = omega (arith, at_cons);
        };
        linked = λ mine theirs. record {
          agree = record {
            begins = ([], refl);
            seen_read = omega arith;
            seen_sent = omega arith;
            notes = λ k d below. absurd (omega arith);
            heard = inl refl;
            whole = inl refl;
            put_well = refl;
            took_well = refl;
            not_short = refl;
          };
          prod = at_prod ∙ own;
          cons = at_cons ∙ own;
          note = at_note;
          freed = omega arith;
          room = omega arith;
          seen = omega arith;
          bytes = λ n from to. absurd (omega arith);
        };
      }

pub opens_split : (id : ℕ) (v : View) → v.role ≡ Fresh → Splits Ring id v (with_role Producer v) (with_role Consumer v)
opens_split id v role s holds at = fresh_at s.words s.views id v holds at role
  where
    fresh_at : (ws : List ℕ) (views : List View) (id : ℕ) (v : View) → IsRing ws views → get_elem? views id ≡ some v → v.role ≡ Fresh → IsRing ws (slice_set views id (with_role Producer v) ++ with_role Consumer v ∷ [])
    fresh_at ws [] id v h at role = absurd h
    fresh_at ws (one ∷ []) zero v h at role = inl (refl, refl, subst (λ (x : View). Work ws (with_role Producer x) (with_role Consumer x)) (some-injective one v at) h.1)
    fresh_at ws (one ∷ []) (suc id) v h at role = absurd (some-ne-none v (sym at))
    fresh_at ws (one ∷ two ∷ []) zero v (inl h) at role = let e : Producer ≡ Fresh = same_role one v Producer Fresh at h.0 role in absurd (cc)
    fresh_at ws (one ∷ two ∷ []) zero v (inr h) at role = let e : Closed ≡ Fresh = same_role one v Closed Fresh at (role_closed one h.0) role in absurd (cc)
    fresh_at ws (one ∷ two ∷ []) (suc zero) v (inl h) at role = let e : Consumer ≡ Fresh = same_role two v Consumer Fresh at h.1 role in absurd (cc)
    fresh_at ws (one ∷ two ∷ []) (suc zero) v (inr h) at role = let e : Spent ≡ Fresh = same_role two v Spent Fresh at (ap (λ (x : View). x.role) h.1) role in absurd (cc)
    fresh_at ws (one ∷ two ∷ []) (suc (suc id)) v h at role = absurd (some-ne-none v (sym at))
    fresh_at ws (one ∷ two ∷ three ∷ []) zero v h at role = let e : Kept ≡ Fresh = same_role one v Kept Fresh at (ap (λ (x : View). x.role) h.2) role in absurd (cc)
    fresh_at ws (one ∷ two ∷ three ∷ []) (suc zero) v h at role = let e : Spent ≡ Fresh = same_role two v Spent Fresh at (ap (λ (x : View). x.role) h.3) role in absurd (cc)
    fresh_at ws (one ∷ two ∷ three ∷ []) (suc (suc zero)) v h at role = let e : Kept ≡ Fresh = same_role three v Kept Fresh at (ap (λ (x : View). x.role) h.4) role in absurd (cc)
    fresh_at ws (one ∷ two ∷ three ∷ []) (suc (suc (suc id))) v h at role = absurd (some-ne-none v (sym at))
    fresh_at ws (one ∷ two ∷ three ∷ four ∷ more) id v h at role = absurd h

-- CLOSING. The two ends are joined
pub shuts_join : (id : ℕ) (v : View) (other : ℕ) (w : View) → v.role ≡ Producer → w.role ≡ Consumer → Joins Ring id v other w (closed v w) spent
shuts_join id v other w vr wr s holds at apart there =
    let k = producer_at s.words s.views id v holds at vr in
    let at_other : get_elem? s.views other ≡ some w = elim (at_set s.views id other (closed v w) w there) [ inl same ↦ absurd (apart same.0) | inr is ↦ is.1 ] in
    let m = consumer_at s.words s.views other w holds at_other wr in
    let first : m.other ≡ v = some-injective m.other v (ap (λ (x : ℕ × List View). get_elem? x.1 x.0) (λ j. (sym k.place j, sym m.two j)) ∙ at) in
    let worked : Work s.words v w = subst (λ (x : View). Work s.words x w) first m.work in
    subst (λ (x : ℕ × ℕ × List View). IsRing s.words (slice_set (slice_set x.2 x.0 (closed v w)) x.1 spent)) (λ j. (sym k.place j, sym m.place j, sym m.two j))
    (inr (record { words = s.words; producer = v; consumer = w; worked = worked; joined = refl }, refl))

-- and their joined view is cut in two
pub shuts_split : (id : ℕ) (v : View) → v.role ≡ Closed → Splits Ring id v (with_role Kept v) (with_role Kept v)
shuts_split id v role s holds at = closed_at s.words s.views id v holds at role
  where
    closed_at : (ws : List ℕ) (views : List View) (id : ℕ) (v : View) → IsRing ws views → get_elem? views id ≡ some v → v.role ≡ Closed → IsRing ws (slice_set views id (with_role Kept v) ++ with_role Kept v ∷ [])
    closed_at ws [] id v h at role = absurd h
    closed_at ws (one ∷ []) zero v h at role = let e : Fresh ≡ Closed = same_role one v Fresh Closed at h.0 role in absurd (cc)
    closed_at ws (one ∷ []) (suc id) v h at role = absurd (some-ne-none v (sym at))
    closed_at ws (one ∷ two ∷ []) zero v (inl h) at role = let e : Producer ≡ Closed = same_role one v Producer Closed at h.0 role in absurd (cc)
    closed_at ws (one ∷ two ∷ []) zero v (inr h) at role = (v, subst IsClosed (some-injective one v at) h.0, refl, h.1, refl)
    closed_at ws (one ∷ two ∷ []) (suc zero) v (inl h) at role = let e : Consumer ≡ Closed = same_role two v Consumer Closed at h.1 role in absurd (cc)
    closed_at ws (one ∷ two ∷ []) (suc zero) v (inr h) at role = let e : Spent ≡ Closed = same_role two v Spent Closed at (ap (λ (x : View). x.role) h.1) role in absurd (cc)
    closed_at ws (one ∷ two ∷ []) (suc (suc id)) v h at role = absurd (some-ne-none v (sym at))
    closed_at ws (one ∷ two ∷ three ∷ []) zero v h at role = let e : Kept ≡ Closed = same_role one v Kept Closed at (ap (λ (x : View). x.role) h.2) role in absurd (cc)
    closed_at ws (one ∷ two ∷ three ∷ []) (suc zero) v h at role = let e : Spent ≡ Closed = same_role two v Spent Closed at (ap (λ (x : View). x.role) h.3) role in absurd (cc)
    closed_at ws (one ∷ two ∷ three ∷ []) (suc (suc zero)) v h at role = let e : Kept ≡ Closed = same_role three v Kept Closed at (ap (λ (x : View). x.role) h.4) role in absurd (cc)
    closed_at ws (one ∷ two ∷ three ∷ []) (suc (suc (suc id))) v h at role = absurd (some-ne-none v (sym at))
    closed_at ws (one ∷ two ∷ three ∷ four ∷ more) id v h at role = absurd h

-- what a kept view comes from
kept_at : (ws : List ℕ) (views : List View) (id : ℕ) (v : View) → IsRing ws views → get_elem? views id ≡ some v → v.role ≡ Kept → (w : View) × IsClosed w × (v ≡ with_role Kept w)
kept_at ws [] id v h at role = absurd h
kept_at ws (one ∷ []) zero v h at role = let e : Fresh ≡ Kept = same_role one v Fresh Kept at h.0 role in absurd (cc)
kept_at ws (one ∷ []) (suc id) v h at role = absurd (some-ne-none v (sym at))
kept_at ws (one ∷ two ∷ []) zero v (inl h) at role = let e : Producer ≡ Kept = same_role one v Producer Kept at h.0 role in absurd (cc)
kept_at ws (one ∷ two ∷ []) zero v (inr h) at role = let e : Closed ≡ Kept = same_role one v Closed Kept at (role_closed one h.0) role in absurd (cc)
kept_at ws (one ∷ two ∷ []) (suc zero) v (inl h) at role = let e : Consumer ≡ Kept = same_role two v Consumer Kept at h.1 role in absurd (cc)
kept_at ws (one ∷ two ∷ []) (suc zero) v (inr h) at role = let e : Spent ≡ Kept = same_role two v Spent Kept at (ap (λ (x : View). x.role) h.1) role in absurd (cc)
kept_at ws (one ∷ two ∷ []) (suc (suc id)) v h at role = absurd (some-ne-none v (sym at))
kept_at ws (one ∷ two ∷ three ∷ []) zero v h at role = (h.0, h.1, sym (some-injective one v at) ∙ h.2)
kept_at ws (one ∷ two ∷ three ∷ []) (suc zero) v h at role = let e : Spent ≡ Kept = same_role two v Spent Kept at (ap (λ (x : View). x.role) h.3) role in absurd (cc)
kept_at ws (one ∷ two ∷ three ∷ []) (suc (suc zero)) v h at role = (h.0, h.1, sym (some-injective three v at) ∙ h.4)
kept_at ws (one ∷ two ∷ three ∷ []) (suc (suc (suc id))) v h at role = absurd (some-ne-none v (sym at))
kept_at ws (one ∷ two ∷ three ∷ four ∷ more) id v h at role = absurd h

neither : (a b : Bool) → (a || b) ≡ false → (a ≡ false) × (b ≡ false)
neither true b is = absurd (cc)
neither false b is = (refl, is)

-- what the two ends that were closed know of one another
module _ (p c v : View) (id : ℕ) (s : State (Unit {0}) View) (is : v ≡ with_role Kept (closed p c)) (holds : IsRing s.words s.views) (at : get_elem? s.views id ≡ some v) where
  pub shuts_agree : p.poked ≡ false → c.poked ≡ false → Agree p c
  shuts_agree mine theirs =
      let k = kept_at s.words s.views id v holds at (ap (λ (x : View). x.role) is) in
      let was = k.1 in
      let same : with_role Kept (closed p c) ≡ with_role Kept (closed was.producer was.consumer) = sym is ∙ k.2 ∙ ap (with_role Kept) was.joined in
      let nobody : (was.producer.poked || was.consumer.poked) ≡ false = sym (ap (λ (x : View). x.poked) same) ∙ rw (mine, theirs) refl in
      let quiet = neither was.producer.poked was.consumer.poked nobody in
      let there = (was.worked.linked quiet.0 quiet.1).agree in
      let joined : Agree (with_role Kept (closed was.producer was.consumer)) (with_role Kept (closed was.producer was.consumer)) = assumption there in
      let here : Agree (with_role Kept (closed p c)) (with_role Kept (closed p c)) = subst (λ (x : View). Agree x x) (sym same) joined in
      assumption here

somebody : (a b : Bool) → ((a ≡ false) → (b ≡ false) → ⊥) → (a ≡ true) ⊎ (b ≡ true)
somebody true b h = inl refl
somebody false true h = inr refl
somebody false false h = absurd (h refl refl)

pub blames : (p c : View) → (p.poked ≡ false → c.poked ≡ false → Agree p c) → IsBlamed p c
blames p c agree = record {
  bad_put = λ bad is. somebody p.poked c.poked (λ a b. let e : None ≡ Some bad = sym (agree a b).put_well ∙ is in absurd (cc));
  bad_take = λ bad is. somebody p.poked c.poked (λ a b. let e : None ≡ Some bad = sym (agree a b).took_well ∙ is in absurd (cc));
  short = λ is. somebody p.poked c.poked (λ a b. let e : false ≡ true = sym (agree a b).not_short ∙ is in absurd (cc));
}
