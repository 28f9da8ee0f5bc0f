-- From the rule of two ends at work to what the table asks of a step.
use Rattle.std.proofs.Common.{◌≡◌, ℕ, zero, suc, List, [], ◌∷◌, set, sym, refl, ap, subst, ◌∙◌, inl, inr}
use Rattle.std.proofs.lemmas.List.{set-get_or}
use Rattle.std.specs.Prelude.{slice_set, slice_index}
use mathlib.Core.Option.{some, some-ne-none, some-injective}
use lib.ListN.{get_elem?}
use Rattle.atomic_table.specs.Table.{State, Allows}
use Rattle.atomic_table.specs.Table.Act.{keeps}
use Rattle.ring_words.specs.declared.view.View.{View}
use Rattle.ring_words.specs.declared.view.Role.{Role}
use Rattle.ring_words.specs.declared.view.Role.TheVariants.{Fresh, Producer, Consumer, Closed, Spent, Kept}
use Rattle.ring_words.specs.Rule.{Work, IsClosed, IsRing}

pub role_closed : (v : View) → IsClosed v → v.role ≡ Closed
role_closed v h = ap (λ (x : View). x.role) h.joined

pub same_role : (v w : View) (a b : Role) → some v ≡ some w → v.role ≡ a → w.role ≡ b → a ≡ b
same_role v w a b same va wb = sym va ∙ ap (λ (x : View). x.role) (some-injective v w same) ∙ wb

-- the producer's seat is the first of two
pub record AtWorkFirst (ws : List ℕ) (views : List View) (id : ℕ) (v : View) : Type 0 where
  pub other : View
  pub place : id ≡ 0
  pub two : views ≡ v ∷ other ∷ []
  pub role : other.role ≡ Consumer
  pub work : Work ws v other

pub producer_at : (ws : List ℕ) (views : List View) (id : ℕ) (v : View) → IsRing ws views → get_elem? views id ≡ some v → v.role ≡ Producer → AtWorkFirst ws views id v
producer_at ws [] id v h at role = absurd h
producer_at ws (one ∷ []) zero v h at role = let e : Fresh ≡ Producer = same_role one v Fresh Producer at h.0 role in absurd (cc)
producer_at ws (one ∷ []) (suc id) v h at role = absurd (some-ne-none v (sym at))
producer_at ws (one ∷ two ∷ []) zero v (inl (first, second, work)) at role = record {
  other = two;
  place = refl;
  two = ap (λ (x : View). x ∷ two ∷ []) (some-injective one v at);
  role = second;
  work = subst (λ (x : View). Work ws x two) (some-injective one v at) work;
}
producer_at ws (one ∷ two ∷ []) (suc zero) v (inl (first, second, work)) at role = let e : Consumer ≡ Producer = same_role two v Consumer Producer at second role in absurd (cc)
producer_at ws (one ∷ two ∷ []) (suc (suc id)) v (inl h) at role = absurd (some-ne-none v (sym at))
producer_at ws (one ∷ two ∷ []) zero v (inr h) at role = let e : Closed ≡ Producer = same_role one v Closed Producer at (role_closed one h.0) role in absurd (cc)
producer_at ws (one ∷ two ∷ []) (suc zero) v (inr h) at role = let e : Spent ≡ Producer = same_role two v Spent Producer at (ap (λ (x : View). x.role) h.1) role in absurd (cc)
producer_at ws (one ∷ two ∷ []) (suc (suc id)) v (inr h) at role = absurd (some-ne-none v (sym at))
producer_at ws (one ∷ two ∷ three ∷ []) zero v h at role = let e : Kept ≡ Producer = same_role one v Kept Producer at (ap (λ (x : View). x.role) h.2) role in absurd (cc)
producer_at ws (one ∷ two ∷ three ∷ []) (suc zero) v h at role = let e : Spent ≡ Producer = same_role two v Spent Producer at (ap (λ (x : View). x.role) h.3) role in absurd (cc)
producer_at ws (one ∷ two ∷ three ∷ []) (suc (suc zero)) v h at role = let e : Kept ≡ Producer = same_role three v Kept Producer at (ap (λ (x : View). x.role) h.4) role in absurd (cc)
producer_at ws (one ∷ two ∷ three ∷ []) (suc (suc (suc id))) v h at role = absurd (some-ne-none v (sym at))
producer_at ws (one ∷ two ∷ three ∷ four ∷ more) id v h at role = absurd h

-- the consumer's seat is the second of two
pub record AtWorkSecond (ws : List ℕ) (views : List View) (id : ℕ) (v : View) : Type 0 where
  pub other : View
  pub place : id ≡ 1
  pub two : views ≡ other ∷ v ∷ []
  pub role : other.role ≡ Producer
  pub work : Work ws other v

pub consumer_at : (ws : List ℕ) (views : List View) (id : ℕ) (v : View) → IsRing ws views → get_elem? views id ≡ some v → v.role ≡ Consumer → AtWorkSecond ws views id v
consumer_at ws [] id v h at role = absurd h
consumer_at ws (one ∷ []) zero v h at role = let e : Fresh ≡ Consumer = same_role one v Fresh Consumer at h.0 role in absurd (cc)
consumer_at ws (one ∷ []) (suc id) v h at role = absurd (some-ne-none v (sym at))
consumer_at ws (one ∷ two ∷ []) zero v (inl (first, second, work)) at role = let e : Producer ≡ Consumer = same_role one v Producer Consumer at first role in absurd (cc)
consumer_at ws (one ∷ two ∷ []) (suc zero) v (inl (first, second, work)) at role = record {
  other = one;
  place = refl;
  two = ap (λ (x : View). one ∷ x ∷ []) (some-injective two v at);
  role = first;
  work = subst (λ (x : View). Work ws one x) (some-injective two v at) work;
}
consumer_at ws (one ∷ two ∷ []) (suc (suc id)) v (inl h) at role = absurd (some-ne-none v (sym at))
consumer_at ws (one ∷ two ∷ []) zero v (inr h) at role = let e : Closed ≡ Consumer = same_role one v Closed Consumer at (role_closed one h.0) role in absurd (cc)
consumer_at ws (one ∷ two ∷ []) (suc zero) v (inr h) at role = let e : Spent ≡ Consumer = same_role two v Spent Consumer at (ap (λ (x : View). x.role) h.1) role in absurd (cc)
consumer_at ws (one ∷ two ∷ []) (suc (suc id)) v (inr h) at role = absurd (some-ne-none v (sym at))
consumer_at ws (one ∷ two ∷ three ∷ []) zero v h at role = let e : Kept ≡ Consumer = same_role one v Kept Consumer at (ap (λ (x : View). x.role) h.2) role in absurd (cc)
consumer_at ws (one ∷ two ∷ three ∷ []) (suc zero) v h at role = let e : Spent ≡ Consumer = same_role two v Spent Consumer at (ap (λ (x : View). x.role) h.3) role in absurd (cc)
consumer_at ws (one ∷ two ∷ three ∷ []) (suc (suc zero)) v h at role = let e : Kept ≡ Consumer = same_role three v Kept Consumer at (ap (λ (x : View). x.role) h.4) role in absurd (cc)
consumer_at ws (one ∷ two ∷ three ∷ []) (suc (suc (suc id))) v h at role = absurd (some-ne-none v (sym at))
consumer_at ws (one ∷ two ∷ three ∷ four ∷ more) id v h at role = absurd h

abbrev Ring : State (Unit {0}) View → Type 0
Ring s = IsRing s.words s.views

-- A STEP that keeps the rule of two ends at work: by the producer
module _ (id slots i : ℕ) (v : View) (held : List (ℕ × Unit {0})) (after : ℕ → View) (Fact : ℕ → Type 0) (role : v.role ≡ Producer) (role_after : (n : ℕ) → (after n).role ≡ Producer) where
  producer_may : (f : ℕ → ℕ)
      → ((ws : List ℕ) (c : View) → Work ws v c → Work (set ws i (f (slice_index ws i))) (after (slice_index ws i)) c × Fact (slice_index ws i))
      → Allows Ring slots id (v, held) i f (λ n w. (w ≡ (after n, held)) × Fact n)
  producer_may f keeps_work s holds homes at fits =
      let k = producer_at s.words s.views id v holds at role in
      let n = slice_index s.words i in
      let done = keeps_work s.words k.other k.work in (
        after n,
        keeps,
        tt,
        subst (λ (x : ℕ × List View). IsRing (set s.words i (f n)) (slice_set x.1 x.0 (after n))) (λ j. (sym k.place j, sym k.two j)) (inl (role_after n, k.role, done.0)),
        (refl, done.1),
      )

  -- a load leaves the words as they are
  pub producer_may_load :
      ((ws : List ℕ) (c : View) → Work ws v c → Work ws (after (slice_index ws i)) c × Fact (slice_index ws i))
      → Allows Ring slots id (v, held) i (λ n. n) (λ n w. (w ≡ (after n, held)) × Fact n)
  producer_may_load keeps_work = producer_may (λ n. n) (λ ws c work. let done = keeps_work ws c work in (rw (set-get_or ws i 0) done.0, done.1))

-- the same of a store, which tells nothing
pub producer_may_store : (id slots i : ℕ) (v after : View) (held : List (ℕ × Unit {0})) (n : ℕ) → v.role ≡ Producer → after.role ≡ Producer
    → ((ws : List ℕ) (c : View) → Work ws v c → Work (set ws i n) after c)
    → Allows Ring slots id (v, held) i (λ _. n) (λ _ w. w ≡ (after, held))
producer_may_store id slots i v after held n role role_after keeps_work s holds homes at fits =
    let k = producer_at s.words s.views id v holds at role in (
      after,
      keeps,
      tt,
      subst (λ (x : ℕ × List View). IsRing (set s.words i n) (slice_set x.1 x.0 after)) (λ j. (sym k.place j, sym k.two j)) (inl (role_after, k.role, keeps_work s.words k.other k.work)),
      refl,
    )

-- and by the consumer
module _ (id slots i : ℕ) (v : View) (held : List (ℕ × Unit {0})) (after : ℕ → View) (Fact : ℕ → Type 0) (role : v.role ≡ Consumer) (role_after : (n : ℕ) → (after n).role ≡ Consumer) where
  consumer_may : (f : ℕ → ℕ)
      → ((ws : List ℕ) (p : View) → Work ws p v → Work (set ws i (f (slice_index ws i))) p (after (slice_index ws i)) × Fact (slice_index ws i))
      → Allows Ring slots id (v, held) i f (λ n w. (w ≡ (after n, held)) × Fact n)
  consumer_may f keeps_work s holds homes at fits =
      let k = consumer_at s.words s.views id v holds at role in
      let n = slice_index s.words i in
      let done = keeps_work s.words k.other k.work in (
        after n,
        keeps,
        tt,
        subst (λ (x : ℕ × List View). IsRing (set s.words i (f n)) (slice_set x.1 x.0 (after n))) (λ j. (sym k.place j, sym k.two j)) (inl (k.role, role_after n, done.0)),
        (refl, done.1),
      )

  pub consumer_may_load :
      ((ws : List ℕ) (p : View) → Work ws p v → Work ws p (after (slice_index ws i)) × Fact (slice_index ws i))
      → Allows Ring slots id (v, held) i (λ n. n) (λ n w. (w ≡ (after n, held)) × Fact n)
  consumer_may_load keeps_work = consumer_may (λ n. n) (λ ws p work. let done = keeps_work ws p work in (rw (set-get_or ws i 0) done.0, done.1))

pub consumer_may_store : (id slots i : ℕ) (v after : View) (held : List (ℕ × Unit {0})) (n : ℕ) → v.role ≡ Consumer → after.role ≡ Consumer
    → ((ws : List ℕ) (p : View) → Work ws p v → Work (set ws i n) p after)
    → Allows Ring slots id (v, held) i (λ _. n) (λ _ w. w ≡ (after, held))
consumer_may_store id slots i v after held n role role_after keeps_work s holds homes at fits =
    let k = consumer_at s.words s.views id v holds at role in (
      after,
      keeps,
      tt,
      subst (λ (x : ℕ × List View). IsRing (set s.words i n) (slice_set x.1 x.0 after)) (λ j. (sym k.place j, sym k.two j)) (inl (k.role, role_after, keeps_work s.words k.other k.work)),
      refl,
    )
