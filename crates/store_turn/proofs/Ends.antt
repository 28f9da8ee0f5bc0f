-- How a turn begins, how it is dealt to callers, and how it ends.
use Rattle.std.proofs.Common.{◌≡◌, ◌≢◌, ℕ, zero, suc, ◌+◌, ◌^◌, ◌<◌, ◌≤◌, inl, inr, ⊎_elim, List, [], ◌∷◌, ◌++◌, set, length, take, drop, sym, refl, ap, ◌∙◌, subst, arith, length-append, Some}
use Rattle.std.proofs.lemmas.Option.{none-some}
use mathlib.Core.Option.{none, some, some-injective, some-ne-none}
use mathlib.Core.Option as maybe
use lib.ListN.{get_elem?}
use Rattle.atomic_table.specs.Table.{State, Splits, Joins, opening, Seen, Final}
use Rattle.atomic_table.proofs.Lists.{at_set, at_snoc, at_longer, set_else}
use Rattle.store_turn.specs.declared.history.Entry.{Entry}
use Rattle.store_turn.specs.declared.views.Stage.{Stage}
use Rattle.store_turn.specs.declared.views.Stage.TheVariants.{Idle, Serving}
use Rattle.store_turn.specs.declared.views.Known.{Known}
use Rattle.store_turn.specs.declared.views.View.{View}
use Rattle.store_turn.specs.Calls.{calls_by}
use Rattle.store_turn.specs.Rule.{total, Each, ticket, queued, view, fresh, is_number, waits, knows, has_number, Fits, Holds, Lies, Sound, Kept, first_of, rest_of, both_of, spent}
use Rattle.store_turn.proofs.Totals.{total_set, total_append, total_cut, total_two}
use Rattle.store_turn.proofs.Knowns.{kind_of, each_append, each_take, each_drop, waits_know, fresh_length, fresh_once, fresh_fits}
use Rattle.store_turn.proofs.Moves.{still_lies}

module _ {S O Op Answer : Type 0} (history : S → List (Entry O Op Answer)) (begun : S → O) (start : O) (callers : ℕ) where
  abbrev V : Type 0
  V = View O Op Answer

  abbrev Rule : State S V → Type 0
  Rule = Kept history begun start callers

  not_serving : (st : Stage) (n : ℕ) → st ≡ Idle → st ≢ Serving n
  not_serving st n idle e = let z : kind_of Idle ≡ kind_of (Serving n) = ap kind_of (sym idle ∙ e) in absurd (omega arith)

  idle_ticket : (st : Stage) (n : ℕ) → st ≡ Idle → ticket st ≡ Some n → ⊥
  idle_ticket st n idle e = none-some n (ap ticket (sym idle) ∙ e)

  idle_holds : (hs : List (maybe.Option S)) (done drawn : ℕ) (log : List (Entry O Op Answer)) (ks : List (Known O Op Answer)) (st : Stage) → st ≡ Idle → Holds hs done drawn log ks st
  idle_holds hs done drawn log ks st idle = subst (Holds hs done drawn log ks) (sym idle) tt

  total_last : (f : V → ℕ) (vs : List V) (w : V) → total f (vs ++ w ∷ []) ≡ total f vs + f w
  total_last f vs w = let a = total_append f vs (w ∷ []) in omega arith

  length_cut : (n : ℕ) (ks : List (Known O Op Answer)) → length (drop n ks) + length (take n ks) ≡ length ks
  length_cut zero ks = omega arith
  length_cut (suc n) [] = refl
  length_cut (suc n) (k ∷ ks) = let r = length_cut n ks in omega arith

  -- the first seat, which knows all callers
  pub starts : (y : S) → history y ≡ [] → begun y ≡ start → callers < 2 ^ 32 → Rule (opening (0 ∷ 0 ∷ []) (y ∷ []) (view Idle (Some start) callers (fresh 0 callers)))
  starts y none_yet from few = record {
    done = 0;
    drawn = 0;
    log = [];
    words = refl;
    queue = omega arith;
    apart = first_apart;
    each = first_each;
    slot = inr (y, refl, none_yet, from);
    few = few;
    count = let l = fresh_length O Op Answer 0 callers in omega arith;
    numbers = λ n. let o = fresh_once O Op Answer n 0 callers in omega arith;
    others = λ n le. refl;
  } where
    v : V
    v = view Idle (Some start) callers (fresh 0 callers)

    first_apart : (i j : ℕ) (u w : V) (t : ℕ) → get_elem? (v ∷ []) i ≡ some u → get_elem? (v ∷ []) j ≡ some w → ticket u.stage ≡ Some t → ticket w.stage ≡ Some t → i ≡ j
    first_apart zero zero u w t a b e f = refl
    first_apart zero (suc j) u w t a b e f = absurd (some-ne-none w (sym b))
    first_apart (suc i) j u w t a b e f = absurd (some-ne-none u (sym a))

    first_each : (i : ℕ) (u : V) → get_elem? (v ∷ []) i ≡ some u → Sound history begun start callers (some y ∷ []) 0 0 [] u
    first_each zero u a = subst (Sound history begun start callers (some y ∷ []) 0 0 []) (some-injective v u a)
        (record { stage = tt; known = fresh_fits O Op Answer callers 0 callers (omega arith); origin = λ _. (refl, refl) })
    first_each (suc i) u a = absurd (some-ne-none u (sym a))

  -- one caller is cut off
  pub deals : (id : ℕ) (v : V) → v.stage ≡ Idle → Splits Rule id v (rest_of v) (first_of v)
  deals id v idle s r at =
      let w : V = rest_of v in let x : V = first_of v in let old = r.each id v at in record {
        done = r.done;
        drawn = r.drawn;
        log = r.log;
        words = r.words;
        queue = let a = total_set waits s.views id v w at in let b = total_last waits (set s.views id w) x in let q = r.queue in omega arith;
        apart = λ i j u u' n ati atj ei ej. ⊎_elim
            (λ (a : get_elem? (set s.views id w) i ≡ some u). ⊎_elim
            (λ (b : get_elem? (set s.views id w) j ≡ some u'). r.apart i j u u' n (still s id v w i u n at idle idle a ei) (still s id v w j u' n at idle idle b ej) ei ej)
            (λ (b : x ≡ u'). absurd (none-some n (ap (λ (z : V). ticket z.stage) b ∙ ej)))
            (at_snoc (set s.views id w) x u' j atj))
            (λ (a : x ≡ u). absurd (none-some n (ap (λ (z : V). ticket z.stage) a ∙ ei)))
            (at_snoc (set s.views id w) x u i ati);
        each = λ i u ati. ⊎_elim
            (λ (a : get_elem? (set s.views id w) i ≡ some u). ⊎_elim
            (λ (b : (i ≡ id) × (w ≡ u)). subst (Sound history begun start callers s.homes r.done r.drawn r.log) b.1
            (record {
              stage = idle_holds s.homes r.done r.drawn r.log w.known w.stage idle;
              known = each_drop (Fits callers r.log) 1 v.known old.known;
              origin = λ lt. old.origin (let l = length_cut 1 v.known in omega arith);
            }))
            (λ (b : (i ≢ id) × (get_elem? s.views i ≡ some u)). r.each i u b.1)
            (at_set s.views id i w u a))
            (λ (a : x ≡ u). subst (Sound history begun start callers s.homes r.done r.drawn r.log) a
            (record { stage = tt; known = each_take (Fits callers r.log) 1 v.known old.known; origin = λ lt. old.origin (let l = length_cut 1 v.known in omega arith) }))
            (at_snoc (set s.views id w) x u i ati);
        slot = longer (set s.views id w) x s.words s.homes r.done r.log (still_lies history begun start callers s s.words r.done r.log id v w at (not_serving v.stage r.done idle) r.slot);
        few = r.few;
        count = let a = total_set knows s.views id v w at in let b = total_last knows (set s.views id w) x in let c = r.count in let l = length_cut 1 v.known in omega arith;
        numbers = λ n. let a = total_set (has_number n) s.views id v w at in let b = total_last (has_number n) (set s.views id w) x in let c = r.numbers n in let l = total_cut (is_number n) 1 v.known in omega arith;
        others = r.others;
      } where
        still : (s : State S V) (id : ℕ) (v w : V) (i : ℕ) (u : V) (n : ℕ) → get_elem? s.views id ≡ some v → v.stage ≡ Idle → w.stage ≡ Idle → get_elem? (set s.views id w) i ≡ some u → ticket u.stage ≡ Some n → get_elem? s.views i ≡ some u
        still s id v w i u n at idle idle' a e = ⊎_elim
            (λ (b : (i ≡ id) × (w ≡ u)). absurd (idle_ticket w.stage n idle' (ap (λ (z : V). ticket z.stage) b.1 ∙ e)))
            (λ (b : (i ≢ id) × (get_elem? s.views i ≡ some u)). b.1)
            (at_set s.views id i w u a)

        longer : (vs : List V) (x : V) (words : List ℕ) (homes : List (maybe.Option S)) (done : ℕ) (log : List (Entry O Op Answer)) → Lies history begun start callers (record { words = words; homes = homes; views = vs }) done log
            → Lies history begun start callers (record { words = words; homes = homes; views = vs ++ x ∷ [] }) done log
        longer vs x words homes done log (inl out) = inl (out.0, (out.1.0, out.1.1, at_longer vs (x ∷ []) out.1.0 out.1.1 out.1.2, out.1.3))
        longer vs x words homes done log (inr home) = inr home

  -- a caller comes back
  pub gathers : (id : ℕ) (v : V) (other : ℕ) (w : V) → v.stage ≡ Idle → w.stage ≡ Idle → 0 < length w.known → Joins Rule id v other w (both_of v w) spent
  gathers id v other w idle idle' some_known s r at apart at_other =
      let b : V = both_of v w in
      let at_w : get_elem? s.views other ≡ some w = sym (set_else s.views id other b apart) ∙ at_other in
      let vs = set s.views id b in
      let old = r.each id v at in let old' = r.each other w at_w in
      let from = old'.origin some_known in record {
        done = r.done;
        drawn = r.drawn;
        log = r.log;
        words = r.words;
        queue = let a = total_set waits s.views id v b at in let c = total_set waits vs other w spent at_other in let q = r.queue in let z : waits w ≡ 0 = ap queued idle' in omega arith;
        apart = λ i j u u' n ati atj ei ej. r.apart i j u u' n (before i u n ati ei) (before j u' n atj ej) ei ej;
        each = λ i u ati. ⊎_elim
            (λ (a : (i ≡ other) × (spent ≡ u)). subst (Sound history begun start callers s.homes r.done r.drawn r.log) a.1 (record { stage = tt; known = tt; origin = λ lt. absurd (omega arith) }))
            (λ (a : (i ≢ other) × (get_elem? vs i ≡ some u)). ⊎_elim
            (λ (c : (i ≡ id) × (b ≡ u)). subst (Sound history begun start callers s.homes r.done r.drawn r.log) c.1
            (record { stage = idle_holds s.homes r.done r.drawn r.log b.known b.stage idle; known = each_append (Fits callers r.log) v.known w.known old.known old'.known; origin = λ _. from }))
            (λ (c : (i ≢ id) × (get_elem? s.views i ≡ some u)). r.each i u c.1)
            (at_set s.views id i b u a.1))
            (at_set vs other i spent u ati);
        slot = still_lies history begun start callers (record { words = s.words; homes = s.homes; views = vs }) s.words r.done r.log other w spent at_other (not_serving w.stage r.done idle')
            (still_lies history begun start callers s s.words r.done r.log id v b at (not_serving v.stage r.done idle) r.slot);
        few = r.few;
        count = let a = total_set knows s.views id v b at in let c = total_set knows vs other w spent at_other in let q = r.count in let l = length-append v.known w.known in omega arith;
        numbers = λ n. let a = total_set (has_number n) s.views id v b at in let c = total_set (has_number n) vs other w spent at_other in let q = r.numbers n in let l = total_append (is_number n) v.known w.known in omega arith;
        others = r.others;
      } where
        before : (i : ℕ) (u : V) (n : ℕ) → get_elem? (set (set s.views id (both_of v w)) other spent) i ≡ some u → ticket u.stage ≡ Some n → get_elem? s.views i ≡ some u
        before i u n ati e = ⊎_elim
            (λ (a : (i ≡ other) × (spent ≡ u)). absurd (none-some n (ap (λ (z : V). ticket z.stage) a.1 ∙ e)))
            (λ (a : (i ≢ other) × (get_elem? (set s.views id (both_of v w)) i ≡ some u)). ⊎_elim
            (λ (c : (i ≡ id) × (both_of v w ≡ u)). absurd (idle_ticket v.stage n idle (ap (λ (z : V). ticket z.stage) c.1 ∙ e)))
            (λ (c : (i ≢ id) × (get_elem? s.views i ≡ some u)). c.1)
            (at_set s.views id i (both_of v w) u a.1))
            (at_set (set s.views id (both_of v w)) other i spent u ati)

  -- once all callers are in one view, the slot is at home
  pub ends : (id : ℕ) (v : V) (s : State S V) → Seen Rule id v s → v.stage ≡ Idle → length v.known ≡ callers
      → (y : S) × (get_elem? s.homes 0 ≡ some (some y)) × (begun y ≡ start) × Each (Fits callers (history y)) v.known × ((n : ℕ) → callers ≤ n → calls_by n (history y) ≡ [])
  ends id v s seen idle all = let r = seen.0 in let at = seen.1 in ⊎_elim
      (λ (out : (s.homes ≡ none ∷ []) × ((i : ℕ) × (w : V) × (get_elem? s.views i ≡ some w) × (w.stage ≡ Serving r.done))).
      let i = out.1.0 in let w = out.1.1 in let ne : id ≢ i = (λ e. not_serving v.stage r.done idle (ap (λ (x : V). x.stage) (some-injective v w (sym at ∙ ap (get_elem? s.views) e ∙ out.1.2)) ∙ out.1.3)) in
      let two = total_two knows s.views id i v w ne at out.1.2 in let c = r.count in
      let one = waits_know s.homes r.done r.drawn r.log w.known w.stage (r.each i w out.1.2).stage in
      let z : waits w ≡ 1 = ap queued out.1.3 in absurd (omega arith))
      (λ (home : (y : S) × (s.homes ≡ some y ∷ []) × (history y ≡ r.log) × (begun y ≡ start)). (
        home.0,
        ap (λ hs. get_elem? hs 0) home.1,
        home.3,
        subst (λ l. Each (Fits callers l) v.known) (sym home.2) (r.each id v at).known,
        λ n le. ap (calls_by n) home.2 ∙ r.others n le,
      ))
      r.slot

  pub starts_with : (ys : List S) (y : S) → ys ≡ y ∷ [] → history y ≡ [] → begun y ≡ start → callers < 2 ^ 32 → Rule (opening (0 ∷ 0 ∷ []) ys (view Idle (Some start) callers (fresh 0 callers)))
  starts_with ys y one none_yet from few = subst (λ (zs : List S). Rule (opening (0 ∷ 0 ∷ []) zs (view Idle (Some start) callers (fresh 0 callers)))) (sym one) (starts y none_yet from few)

  -- what was in the slot, once the table is closed
  pub record Opened (v : V) (d : S) : Type 0 where
    pub from : begun d ≡ start
    pub fits : Each (Fits callers (history d)) v.known
    pub others : (n : ℕ) → callers ≤ n → calls_by n (history d) ≡ []

  pub opens : (id : ℕ) (v : V) (ws : List ℕ) (xs : List S) (d : S) → Final (Seen Rule id v) ws xs → v.stage ≡ Idle → length v.known ≡ callers → get_elem? xs 0 ≡ some d → Opened v d
  opens id v ws xs d f idle all got =
      let e = ends id v f.0 f.1 idle all in
      let same : e.0 ≡ d = some-injective e.0 d (sym (f.4 0 e.0 e.1) ∙ got) in
      subst (Opened v) same (record { from = e.2; fits = e.3; others = e.4 })
