-- The callers that are with no thread.
use Rattle.std.proofs.Common.{◌≡◌, ◌≢◌, ℕ, zero, suc, ◌+◌, ◌-◌, ◌<◌, ◌≤◌, ◌⊎◌, inl, inr, ⊎_elim, List, [], ◌∷◌, ◌++◌, set, get_or, length, take, refl, sym, ap, ◌∙◌, subst, arith, length-set, length-append, Option, Some, None}
use Rattle.std.specs.Prelude.{slice_get, IsSome, IfSome, IsSomeAnd, MatchBool}
use Rattle.std.proofs.lemmas.Option.{none-some}
use Rattle.atomic_table.specs.Seated.{TableId}
use Rattle.store_turn.specs.declared.history.Entry.{Entry}
use Rattle.store_turn.specs.declared.views.Known.{Known}
use Rattle.store_turn.specs.declared.views.View.{View}
use mathlib.Core.Logic.{dite}
use native.Mathlib.Decide.{ℕ_discrete}
use Rattle.store_turn.specs.declared.views.Stage.TheVariants.{Idle}
use Rattle.store_turn.specs.Calls.{calls_by}
use Rattle.store_turn.specs.Turns.{IsWhole}
use Rattle.store_turn.specs.Sides.{TurnId, Party, Crowd, newcomer, newcomers}
use Rattle.store_turn.specs.Seats.{view_of, one_of, party_of, turn_id, IsCaller, IsCrowd, IsIn, IsFirst, NoneBefore, AreKnown, known_of}
use Rattle.store_turn.specs.Rule.{Each, Fits, known, view, fresh}
use Rattle.store_turn.proofs.Knowns.{single}
use Rattle.store_turn.proofs.Called.{same_some}

module _ {A : Type 0} where
  pub is_there : (P : A → Type 0) (o : Option A) → IsSomeAnd o P → IsSome o
  is_there P None h = absurd h
  is_there P (Some x) h = refl

  pub there_is : (P : A → Type 0) (o : Option A) → IsSome o → ((x : A) → o ≡ Some x → P x) → IsSomeAnd o P
  there_is P None h f = absurd (subst (λ b. MatchBool b ⊥ (Unit {0})) h tt)
  there_is P (Some x) h f = f x refl

  pub got_set : (l : List A) (i j : ℕ) (a b : A) → slice_get (set l i a) j ≡ Some b → ((j ≡ i) × (a ≡ b)) ⊎ ((j ≢ i) × (slice_get l j ≡ Some b))
  got_set [] i j a b e = absurd (none-some b e)
  got_set (x ∷ xs) zero zero a b e = inl (refl, same_some a b e)
  got_set (x ∷ xs) zero (suc j) a b e = inr ((λ h. omega arith), e)
  got_set (x ∷ xs) (suc i) zero a b e = inr ((λ h. omega arith), e)
  got_set (x ∷ xs) (suc i) (suc j) a b e = ⊎_elim (λ t. inl (ap suc t.0, t.1)) (λ t. let n = t.0 in inr ((λ h. n (omega arith)), t.1)) (got_set xs i j a b e)

  pub got_within : (l : List A) (i : ℕ) (a : A) → slice_get l i ≡ Some a → i < length l
  got_within [] i a e = absurd (none-some a e)
  got_within (x ∷ xs) zero a e = omega arith
  got_within (x ∷ xs) (suc i) a e = let r = got_within xs i a e in omega arith

  pub got_at : (l : List A) (i : ℕ) (d : A) → i < length l → slice_get l i ≡ Some (get_or l i d)
  got_at [] i d lt = absurd (omega arith)
  got_at (x ∷ xs) zero d lt = refl
  got_at (x ∷ xs) (suc i) d lt = got_at xs i d (omega arith)

  -- the last of those that are left is taken off
  take_front : (xs ys : List A) → take (length xs) (xs ++ ys) ≡ xs
  take_front [] ys = refl
  take_front (x ∷ xs) ys = ap (λ l. x ∷ l) (take_front xs ys)

  take_less : (m n : ℕ) (xs : List A) → m ≤ n → take m (take n xs) ≡ take m xs
  take_less zero n xs le = refl
  take_less (suc m) zero xs le = absurd (omega arith)
  take_less (suc m) (suc n) [] le = refl
  take_less (suc m) (suc n) (x ∷ xs) le = ap (λ l. x ∷ l) (take_less m n xs (omega arith))

  got_take : (n k : ℕ) (xs : List A) (a : A) → slice_get (take n xs) k ≡ Some a → slice_get xs k ≡ Some a
  got_take zero k xs a e = absurd (none-some a e)
  got_take (suc n) k [] a e = absurd (none-some a e)
  got_take (suc n) zero (x ∷ xs) a e = e
  got_take (suc n) (suc k) (x ∷ xs) a e = got_take n k xs a e

  got_last : (xs : List A) (a : A) → slice_get (xs ++ a ∷ []) (length xs) ≡ Some a
  got_last [] a = refl
  got_last (x ∷ xs) a = got_last xs a

  pub popped_at : (all items items' : List A) (a : A) → items ≡ take (length items) all → items ≡ items' ++ a ∷ [] → slice_get all (length items') ≡ Some a
  popped_at all items items' a front last = got_take (length items) (length items') all a (ap (λ l. slice_get l (length items')) (sym front ∙ last) ∙ got_last items' a)

  pub popped_front : (all items items' : List A) (a : A) → items ≡ take (length items) all → items ≡ items' ++ a ∷ [] → items' ≡ take (length items') all
  popped_front all items items' a front last = let l : length items ≡ length items' + 1 = ap length last ∙ length-append items' (a ∷ []) in
      sym (take_front items' (a ∷ [])) ∙ (ap (take (length items')) (sym last ∙ front) ∙ take_less (length items') (length items) all (omega arith))

module _ {O Op Answer : Type 0} where
  pub crowd_without : (table : TableId) (views : List (View O Op Answer)) (there : List (Option (Party O Op Answer))) (place : ℕ) → IsCrowd table views there → IsCrowd table views (set there place None)
  crowd_without table views there place c = record {
    one = c.one;
    stage = c.stage;
    known = c.known;
    long = length-set there place None ∙ c.long;
    turns = λ k caller e. c.turns k caller (before k caller e);
    placed = λ k caller e. c.placed k caller (before k caller e);
  } where
    before : (k : ℕ) (caller : Party O Op Answer) → slice_get (set there place None) k ≡ Some (Some caller) → slice_get there k ≡ Some (Some caller)
    before k caller e = ⊎_elim (λ (t : (k ≡ place) × (None ≡ Some caller)). absurd (none-some caller t.1)) (λ (t : (k ≢ place) × (slice_get there k ≡ Some (Some caller))). t.1) (got_set there place k None (Some caller) e)

  pub crowd_with : (table : TableId) (views : List (View O Op Answer)) (there : List (Option (Party O Op Answer))) (caller : Party O Op Answer) → caller.turn ≡ turn_id table (view_of views)
      → IsCrowd table views there → IsCrowd table views (set there caller.number (Some caller))
  crowd_with table views there caller own c = record {
    one = c.one;
    stage = c.stage;
    known = c.known;
    long = length-set there caller.number (Some caller) ∙ c.long;
    turns = λ k other e. ⊎_elim (λ (t : (k ≡ caller.number) × (Some caller ≡ Some other)). subst (λ (p : Party O Op Answer). p.turn ≡ turn_id table (view_of views)) (same_some caller other t.1) own)
        (λ (t : (k ≢ caller.number) × (slice_get there k ≡ Some (Some other))). c.turns k other t.1) (got_set there caller.number k (Some caller) (Some other) e);
    placed = λ k other e. ⊎_elim (λ (t : (k ≡ caller.number) × (Some caller ≡ Some other)). ap (λ (p : Party O Op Answer). p.number) (sym (same_some caller other t.1)) ∙ sym t.0)
        (λ (t : (k ≢ caller.number) × (slice_get there k ≡ Some (Some other))). c.placed k other t.1) (got_set there caller.number k (Some caller) (Some other) e);
  }

  -- what is known, put together
  pub in_front : (k : Known O Op Answer) (ks ls : List (Known O Op Answer)) → IsIn k ks → IsIn k (ks ++ ls)
  in_front k [] ls h = absurd h
  in_front k (x ∷ xs) ls (inl e) = inl e
  in_front k (x ∷ xs) ls (inr h) = inr (in_front k xs ls h)

  pub in_last : (k : Known O Op Answer) (ks : List (Known O Op Answer)) → IsIn k (ks ++ k ∷ [])
  in_last k [] = inl refl
  in_last k (x ∷ xs) = inr (in_last k xs)

  pub of_each : (P : Known O Op Answer → Type 0) (k : Known O Op Answer) (ks : List (Known O Op Answer)) → IsIn k ks → Each P ks → P k
  of_each P k [] h e = absurd h
  of_each P k (x ∷ xs) (inl h) e = subst P (sym h) e.0
  of_each P k (x ∷ xs) (inr h) e = of_each P k xs h e.1

module _ (O Op Answer : Type 0) where
  pub fresh_next : (first callers : ℕ) → first < callers → fresh {O = O} {Op = Op} {Answer = Answer} first (callers - first) ≡ known first [] [] ∷ fresh (first + 1) (callers - (first + 1))
  fresh_next first callers lt = let e : callers - first ≡ suc (callers - (first + 1)) = omega arith in let f : suc first ≡ first + 1 = omega arith in
      ap (fresh first) e ∙ ap (λ (n : ℕ). known first [] [] ∷ fresh n (callers - (first + 1))) f

  pub newcomers_length : (turn : TurnId O) (first count : ℕ) → length (newcomers {O = O} {Op = Op} {Answer = Answer} turn first count) ≡ count
  newcomers_length turn first zero = refl
  newcomers_length turn first (suc count) = ap suc (newcomers_length turn (suc first) count)

  pub one_newcomer_more : (turn : TurnId O) (first count : ℕ) → newcomers {O = O} {Op = Op} {Answer = Answer} turn first (count + 1) ≡ newcomers turn first count ++ Some (newcomer turn (first + count)) ∷ []
  one_newcomer_more turn first zero = ap (λ n. Some (newcomer turn n) ∷ []) (omega arith)
  one_newcomer_more turn first (suc count) = let r = one_newcomer_more turn (suc first) count in let e : suc (first) + count ≡ first + suc count = omega arith in
      let a : suc count + 1 ≡ suc (count + 1) = omega arith in
      ap (newcomers turn first) a ∙ (ap (λ l. Some (newcomer turn first) ∷ l) r ∙ ap (λ (n : ℕ). Some (newcomer turn first) ∷ (newcomers turn (suc first) count ++ Some (newcomer turn n) ∷ [])) e)

module _ {O Op Answer : Type 0} where
  -- what a caller's seat knows is what contracts see of the caller
  pub one_known : (table : TableId) (number : ℕ) (views : List (View O Op Answer)) (w : View O Op Answer) → IsCaller number views → views ≡ w ∷ [] → w.known ≡ known_of (party_of table number views) ∷ []
  one_known table number views w c e =
      let v : view_of views ≡ w = ap view_of e in
      let one = single w.known (subst (λ (x : View O Op Answer). length x.known ≡ 1) v c.idle.known) in
      let k = one.0 in
      let ks : (view_of views).known ≡ k ∷ [] = ap (λ (x : View O Op Answer). x.known) v ∙ one.1 in
      let its : k.number ≡ number = ap (λ l. (one_of l).number) (sym ks) ∙ c.idle.its in
      one.1 ∙ (λ i. known (its i) (one_of (sym ks i)).found (one_of (sym ks i)).asked ∷ [])

  pub same_turn : (t u : TableId) (v w : View O Op Answer) → t ≡ u → v.callers ≡ w.callers → v.start ≡ w.start → turn_id t v ≡ turn_id u w
  same_turn t u v w a b c = λ i. record { table = a i; callers = b i; start = c i }

  -- one more is dealt
  pub dealt : (turn : TurnId O) (number : ℕ) (there there' : List (Option (Party O Op Answer))) (caller : Party O Op Answer) (its : TurnId O) → its ≡ turn → there ≡ newcomers turn 0 number
      → caller ≡ newcomer its number → there' ≡ there ++ Some caller ∷ [] → there' ≡ newcomers turn 0 (number + 1)
  dealt turn number there there' caller its same before is longer =
      let z : number ≡ 0 + number = omega arith in
      longer ∙ (ap (λ l. l ++ Some caller ∷ []) before ∙ (ap (λ c. newcomers turn 0 number ++ Some c ∷ []) (is ∙ (ap (λ t. newcomer t number) same ∙ ap (newcomer turn) z)) ∙ sym (one_newcomer_more O Op Answer turn 0 number)))

  -- the lowest that is there
  pub first_taken : (table : TableId) (views : List (View O Op Answer)) (there : List (Option (Party O Op Answer))) (place : ℕ) (result : Option (Party O Op Answer)) → IsCrowd table views there
      → NoneBefore there place → slice_get there place ≡ Some result → IfSome result (λ caller. IsFirst there caller.number caller × (set there place None ≡ set there caller.number None))
  first_taken table views there place None c before e = tt
  first_taken table views there place (Some caller) c before e = let n : place ≡ caller.number = sym (c.placed place caller e) in
      ((subst (λ (k : ℕ). slice_get there k ≡ Some (Some caller)) n e, subst (NoneBefore there) n before), ap (λ (k : ℕ). set there k None) n)

  pub first_own : (table : TableId) (views : List (View O Op Answer)) (there : List (Option (Party O Op Answer))) (place : ℕ) (result : Option (Party O Op Answer)) (turn : TurnId O) → IsCrowd table views there
      → slice_get there place ≡ Some result → turn_id table (view_of views) ≡ turn → IfSome result (λ caller. caller.turn ≡ turn)
  first_own table views there place None turn c e is = tt
  first_own table views there place (Some caller) turn c e is = c.turns place caller e ∙ is

  -- newcomers
  newcomer_at : (turn : TurnId O) (first count k : ℕ) (caller : Party O Op Answer) → slice_get (newcomers turn first count) k ≡ Some (Some caller) → caller ≡ newcomer turn (first + k)
  newcomer_at turn first zero k caller e = absurd (none-some (Some caller) e)
  newcomer_at turn first (suc count) zero caller e = let z : first ≡ first + 0 = omega arith in sym (same_some (newcomer turn first) caller (same_some (Some (newcomer turn first)) (Some caller) e)) ∙ ap (newcomer turn) z
  newcomer_at turn first (suc count) (suc k) caller e = let z : suc first + k ≡ first + suc k = omega arith in newcomer_at turn (suc first) count k caller e ∙ ap (newcomer turn) z

  pub crowd_new : (table : TableId) (views : List (View O Op Answer)) (there : List (Option (Party O Op Answer))) (start : Option O) (callers : ℕ) → views ≡ view Idle start callers [] ∷ []
      → there ≡ newcomers (record { table = table; callers = callers; start = start }) 0 callers → IsCrowd table views there
  crowd_new table views there start callers seen new =
      let turn : TurnId O = record { table = table; callers = callers; start = start } in
      let v : view_of views ≡ view Idle start callers [] = ap view_of seen in record {
        one = seen ∙ ap (λ x. x ∷ []) (sym v);
        stage = ap (λ (x : View O Op Answer). x.stage) v;
        known = ap (λ (x : View O Op Answer). x.known) v;
        long = ap length new ∙ (newcomers_length O Op Answer turn 0 callers ∙ ap (λ (x : View O Op Answer). x.callers) (sym v));
        turns = λ k caller e. ap (λ (p : Party O Op Answer). p.turn) (newcomer_at turn 0 callers k caller (ap (λ l. slice_get l k) (sym new) ∙ e)) ∙ ap (turn_id table) (sym v);
        placed = λ k caller e. let z : 0 + k ≡ k = omega arith in ap (λ (p : Party O Op Answer). p.number) (newcomer_at turn 0 callers k caller (ap (λ l. slice_get l k) (sym new) ∙ e)) ∙ z;
      }

  pub still_known : (all items items' : List (Option (Party O Op Answer))) (place : Option (Party O Op Answer)) (got : Party O Op Answer) (ks ks' : List (Known O Op Answer))
      → items ≡ take (length items) all → items ≡ items' ++ place ∷ [] → place ≡ Some got → ks' ≡ ks ++ known_of got ∷ []
      → ((k : ℕ) (caller : Party O Op Answer) → slice_get all k ≡ Some (Some caller) → (k < length items) ⊎ IsIn (known_of caller) ks)
      → (k : ℕ) (caller : Party O Op Answer) → slice_get all k ≡ Some (Some caller) → (k < length items') ⊎ IsIn (known_of caller) ks'
  still_known all items items' place got ks ks' front last is longer before k caller e = ⊎_elim
      (λ (lt : k < length items). dite (ℕ_discrete k (length items'))
      (λ here. inr (subst (λ l. IsIn (known_of caller) l) (sym longer) (subst (λ p. IsIn (known_of p) (ks ++ known_of got ∷ []))
      (same_some got caller (sym is ∙ same_some place (Some caller) (sym (popped_at all items items' place front last) ∙ (ap (slice_get all) (sym here) ∙ e)))) (in_last (known_of got) ks))))
      (λ ne. let l : length items ≡ length items' + 1 = ap length last ∙ length-append items' (place ∷ []) in inl (omega arith)))
      (λ (h : IsIn (known_of caller) ks). inr (subst (λ l. IsIn (known_of caller) l) (sym longer) (in_front (known_of caller) ks (known_of got ∷ []) h)))
      (before k caller e)

  -- all who were there fit the whole history
  pub is_whole : (crowd : Crowd O Op Answer) (there : List (Option (Party O Op Answer))) (table : TableId) (views : List (View O Op Answer)) (callers : ℕ) (log : List (Entry O Op Answer)) (ks : List (Known O Op Answer))
      → there ≡ crowd.there → IsCrowd table views there → length there ≡ callers → AreKnown there ks → Each (Fits callers log) ks → ((n : ℕ) → callers ≤ n → calls_by n log ≡ []) → IsWhole crowd log
  is_whole crowd there table views callers log ks same c long known fits others =
      let fit : (k : ℕ) (caller : Party O Op Answer) → slice_get crowd.there k ≡ Some (Some caller) → Fits callers log (known_of caller) =
      (λ k caller e. of_each (Fits callers log) (known_of caller) ks (known k caller (ap (λ l. slice_get l k) same ∙ e)) fits) in record {
        found = λ k caller e. (fit k caller e).found;
        own = λ k caller e. let n : caller.number ≡ k = c.placed k caller (ap (λ l. slice_get l k) same ∙ e) in ap (λ (i : ℕ). calls_by i log) (sym n) ∙ (fit k caller e).mine;
        others = λ k le. others k (let l = ap length same in omega arith);
      }
