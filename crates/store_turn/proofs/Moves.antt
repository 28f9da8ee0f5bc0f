-- Each step keeps the rule.
use Rattle.std.proofs.Common.{◌≡◌, ◌≢◌, ℕ, zero, suc, ◌+◌, ◌%◌, ◌^◌, ◌<◌, ◌≤◌, inl, inr, ⊎_elim, Bool, eqb, List, [], ◌∷◌, ◌++◌, set, get_or, length, sym, refl, ap, ◌∙◌, subst, arith, eq-eqb, ne_eqb, Option, Some, None}
use Rattle.std.specs.Prelude.{MatchBool}
use Rattle.std.proofs.lemmas.Option.{none-some}
use mathlib.Core.Option.{none, some, some-injective, some-ne-none}
use mathlib.Core.Option as maybe
use mathlib.Core.Logic.{dite}
use native.Mathlib.Decide.{ℕ_discrete}
use lib.ListN.{get_elem?}
use Rattle.std.specs.declared.snapshot.Snapshot.{Snapshot}
use Rattle.atomic_table.specs.Table.{State, Me, step, keeps, takes, gives, stepped, Allows, Splits, Joins, opening, Seen}
use Rattle.atomic_table.proofs.Lists.{at_set, at_snoc, set_here, set_else, one_turn}
use Rattle.store_turn.specs.declared.history.Entry.{Entry}
use Rattle.store_turn.specs.declared.views.Stage.{Stage}
use Rattle.store_turn.specs.declared.views.Stage.TheVariants.{Idle, Waiting, Serving}
use Rattle.store_turn.specs.declared.views.Known.{Known}
use Rattle.store_turn.specs.declared.views.View.{View}
use Rattle.store_turn.specs.Calls.{entry, calls_by, noted}
use Rattle.store_turn.specs.Rule.{total, Each, ticket, queued, known, view, is_number, waits, knows, has_number, Fits, HasFound, Holds, Lies, Sound, Kept, at_stage, finding, asked_at, Draws, Takes, Looks, found_length, left_with, Gives}
use Rattle.store_turn.proofs.Totals.{total_set, total_two, total_below}
use Rattle.store_turn.proofs.Knowns.{begins_all, number_of, kind_of, calls_other, each_append, each_take, each_drop, others_fit, number_itself, in_range, later_drawn, waits_know, fresh_length, fresh_once, fresh_fits}

-- the next ticket, as a word
next_word : (n : ℕ) → (n % 2 ^ 64 + 1) % 2 ^ 64 ≡ (n + 1) % 2 ^ 64
next_word n = omega arith

-- the next ticket after one whose word is n
pub word_after : (n t : ℕ) → n ≡ t % 2 ^ 64 → (n + 1) % 2 ^ 64 ≡ (t + 1) % 2 ^ 64
word_after n t e = ap (λ z. (z + 1) % 2 ^ 64) e ∙ next_word t

module _ {S O Op Answer : Type 0} (history : S → List (Entry O Op Answer)) (begun : S → O) (start : O) (callers : ℕ) where
  abbrev V : Type 0
  V = View O Op Answer

  abbrev Rule : State S V → Type 0
  Rule = Kept history begun start callers

  -- a step of a seat that does not have the slot leaves it with whom it is
  pub still_lies : (s : State S V) (words : List ℕ) (done : ℕ) (log : List (Entry O Op Answer)) (id : ℕ) (v w : V) → get_elem? s.views id ≡ some v → v.stage ≢ Serving done
      → Lies history begun start callers s done log → Lies history begun start callers (record { words = words; homes = s.homes; views = set s.views id w }) done log
  still_lies s words done log id v w at not (inl out) = inl (
    out.0,
    (
      out.1.0,
      out.1.1,
      set_else s.views id out.1.0 w
          (λ e. not (ap (λ (x : V). x.stage) (some-injective v out.1.1 (sym at ∙ ap (get_elem? s.views) (sym e) ∙ out.1.2)) ∙ out.1.3)) ∙ out.1.2,
      out.1.3,
    ),
  )
  still_lies s words done log id v w at not (inr home) = inr home

  -- how many wait is less than a turn of the words
  few_wait : (s : State S V) (r : Rule s) → total waits s.views < 2 ^ 32
  few_wait s r = let few = r.few in let c = r.count in
      let b = total_below waits knows s.views (λ i v at. waits_know s.homes r.done r.drawn r.log v.known v.stage (r.each i v at).stage) in omega arith

  -- DRAW
  pub draws : (slots id : ℕ) (me : Me S V) → me.0.stage ≡ Idle → length me.0.known ≡ 1
      → Allows Rule slots id me 0 (λ n. (n + 1) % 2 ^ 64) (Draws (step slots 0 1 0 none) me)
  draws slots id me idle one s r _ at _ =
      let w : V = at_stage (Waiting r.drawn) me.0 in
      let old = r.each id me.0 at in
      let zero_before : waits me.0 ≡ 0 = ap queued idle in
      let q = r.queue in
      let more = total_set waits s.views id me.0 w at in
      let t = s.views in (
        w,
        keeps,
        tt,
        record {
          done = r.done;
          drawn = r.drawn + 1;
          log = r.log;
          words = ap (λ ws. set ws 0 ((get_or ws 0 0 + 1) % 2 ^ 64)) r.words ∙ ap (λ n. n ∷ r.done % 2 ^ 64 ∷ []) (next_word r.drawn);
          queue = omega arith;
          apart = λ i j v u n ati atj ei ej. ⊎_elim
              (λ (a : (i ≡ id) × (w ≡ v)). ⊎_elim
              (λ (b : (j ≡ id) × (w ≡ u)). a.0 ∙ sym b.0)
              (λ (b : (j ≢ id) × (get_elem? s.views j ≡ some u)).
              let same : r.drawn ≡ n = some_number r.drawn n (ap (λ (x : V). ticket x.stage) a.1 ∙ ei) in
              let lt = (in_range s.homes r.done r.drawn r.log u.known u.stage n (r.each j u b.1).stage ej).1 in absurd (omega arith))
              (at_set s.views id j w u atj))
              (λ (a : (i ≢ id) × (get_elem? s.views i ≡ some v)). ⊎_elim
              (λ (b : (j ≡ id) × (w ≡ u)).
              let same : r.drawn ≡ n = some_number r.drawn n (ap (λ (x : V). ticket x.stage) b.1 ∙ ej) in
              let lt = (in_range s.homes r.done r.drawn r.log v.known v.stage n (r.each i v a.1).stage ei).1 in absurd (omega arith))
              (λ (b : (j ≢ id) × (get_elem? s.views j ≡ some u)). r.apart i j v u n a.1 b.1 ei ej)
              (at_set s.views id j w u atj))
              (at_set s.views id i w v ati);
          each = λ i v ati. ⊎_elim
              (λ (a : (i ≡ id) × (w ≡ v)). subst (Sound history begun start callers s.homes r.done (r.drawn + 1) r.log) a.1
              (record { stage = (omega arith, omega arith, omega arith); known = old.known; origin = old.origin }))
              (λ (a : (i ≢ id) × (get_elem? s.views i ≡ some v)). let o = r.each i v a.1 in
              record { stage = later_drawn s.homes r.done r.drawn r.log v.known v.stage o.stage; known = o.known; origin = o.origin })
              (at_set s.views id i w v ati);
          slot = still_lies s (set s.words 0 ((get_or s.words 0 0 + 1) % 2 ^ 64)) r.done r.log id me.0 w at
              (λ e. let z : kind_of Idle ≡ kind_of (Serving r.done) = ap kind_of (sym idle ∙ e) in absurd (omega arith)) r.slot;
          few = r.few;
          count = let c = total_set knows s.views id me.0 w at in let k = r.count in omega arith;
          numbers = λ n. let c = total_set (has_number n) s.views id me.0 w at in let k = r.numbers n in omega arith;
          others = r.others;
        },
        (r.drawn, ap (λ ws. get_or ws 0 0) r.words, refl),
      ) where
        some_number : (a b : ℕ) → Some a ≡ Some b → a ≡ b
        some_number a b e = ap Rattle.store_turn.proofs.Knowns.the e

  -- LOOK: a served ticket that is the own one
  own_turn : (s : State S V) (r : Rule s) (i j : ℕ) (v w : V) (t : ℕ) → get_elem? s.views i ≡ some v → v.stage ≡ Waiting t → get_elem? s.views j ≡ some w → w.stage ≡ Serving r.done → t ≡ r.done → ⊥
  own_turn s r i j v w t ati vi atj wj e =
      let same : i ≡ j = r.apart i j v w t ati atj (ap ticket vi) (ap ticket wj ∙ ap (λ (n : ℕ). Some n) (sym e)) in
      let one : v ≡ w = some-injective v w (sym ati ∙ ap (get_elem? s.views) same ∙ atj) in
      let z : kind_of (Waiting t) ≡ kind_of (Serving r.done) = ap kind_of (sym vi ∙ ap (λ (x : V). x.stage) one ∙ wj) in absurd (omega arith)

  -- the ticket of one who waits is less than a turn of the words from the one that is served
  near : (s : State S V) (r : Rule s) (i : ℕ) (v : V) (t : ℕ) → get_elem? s.views i ≡ some v → v.stage ≡ Waiting t → (r.done ≤ t) × (t < r.done + 2 ^ 64)
  near s r i v t at vi = let b = in_range s.homes r.done r.drawn r.log v.known v.stage t (r.each i v at).stage (ap ticket vi) in let le = b.0 in let lt = b.1 in let q = r.queue in let f = few_wait s r in (le, omega arith)

  found_it : (log : List (Entry O Op Answer)) (ks : List (Known O Op Answer)) → length ks ≡ 1 → HasFound log (finding log [] ks)
  found_it log [] e = absurd (omega arith)
  found_it log (k ∷ ks) e = refl

  finding_length : (log : List (Entry O Op Answer)) (more : List (Op × ℕ)) (ks : List (Known O Op Answer)) → length ks ≡ 1 → length (finding log more ks) ≡ 1
  finding_length log more [] e = absurd (omega arith)
  finding_length log more (k ∷ ks) e = refl

  finding_number : (n : ℕ) (log : List (Entry O Op Answer)) (more : List (Op × ℕ)) (ks : List (Known O Op Answer)) → length ks ≡ 1 → total (is_number n) (finding log more ks) ≡ total (is_number n) ks
  finding_number n log more [] e = absurd (omega arith)
  finding_number n log more (k ∷ []) e = refl
  finding_number n log more (k ∷ l ∷ ks) e = absurd (omega arith)

  finding_fits : (log : List (Entry O Op Answer)) (more : List (Op × ℕ)) (ks : List (Known O Op Answer)) → Each (Fits callers log) ks → Each (Fits callers log) (finding log more ks)
  finding_fits log more [] fits = tt
  finding_fits log more (k ∷ ks) fits = (record { number = fits.0.number; found = begins_all log; mine = refl }, tt)

  taking : (slots id : ℕ) (me : Me S V) (t : ℕ) → me.0.stage ≡ Waiting t → length me.0.known ≡ 1 → (s : State S V) (r : Rule s) → get_elem? s.views id ≡ some me.0 → t ≡ r.done
      → (w : V) × (a : Rattle.atomic_table.specs.Table.Act S) × Rattle.atomic_table.specs.Table.Valid s.homes me.1 a × Rule (stepped s 1 (get_or s.words 1 0) id me.1 w a)
      × Takes history begun me t (w, Rattle.atomic_table.specs.Table.carried_after me.1 a)
  taking slots id me t waiting one s r at served = ⊎_elim
      (λ (out : (s.homes ≡ none ∷ []) × ((i : ℕ) × (v : V) × (get_elem? s.views i ≡ some v) × (v.stage ≡ Serving r.done))).
      absurd (own_turn s r id out.1.0 me.0 out.1.1 t at waiting out.1.2 out.1.3 served))
      (λ (home : (y : S) × (s.homes ≡ some y ∷ []) × (history y ≡ r.log) × (begun y ≡ start)).
      let y : S = home.0 in
      let w : V = view (Serving t) me.0.start me.0.callers (finding r.log [] me.0.known) in
      let old = r.each id me.0 at in
      let lt = (in_range s.homes r.done r.drawn r.log me.0.known me.0.stage t old.stage (ap ticket waiting)).1 in
      let one_before : waits me.0 ≡ 1 = ap queued waiting in
      let away : set s.homes 0 none ≡ none ∷ [] = ap (λ hs. set hs 0 none) home.1 in
      let long = finding_length r.log [] me.0.known one in
      let from = old.origin (omega arith) in
      let not_out : (u : V) (n : ℕ) → Holds s.homes r.done r.drawn r.log u.known (Serving n) → ⊥ = λ u n h. maybe.some-ne-none y (some-injective _ _ (ap (λ hs. get_elem? hs 0) (sym home.1 ∙ h.2))) in (
        w,
        takes 0 y,
        ap (λ hs. get_elem? hs 0) home.1,
        record {
          done = r.done;
          drawn = r.drawn;
          log = r.log;
          words = ap (λ ws. set ws 1 (get_or ws 1 0)) r.words;
          queue = let more = total_set waits s.views id me.0 w at in let q = r.queue in omega arith;
          apart = λ i j v u n ati atj ei ej. ⊎_elim
              (λ (a : (i ≡ id) × (w ≡ v)). ⊎_elim
              (λ (b : (j ≡ id) × (w ≡ u)). a.0 ∙ sym b.0)
              (λ (b : (j ≢ id) × (get_elem? s.views j ≡ some u)). a.0 ∙ r.apart id j me.0 u n at b.1 (ap ticket waiting ∙ (ap (λ (x : V). ticket x.stage) a.1 ∙ ei)) ej)
              (at_set s.views id j w u atj))
              (λ (a : (i ≢ id) × (get_elem? s.views i ≡ some v)). ⊎_elim
              (λ (b : (j ≡ id) × (w ≡ u)). r.apart i id v me.0 n a.1 at ei (ap ticket waiting ∙ (ap (λ (x : V). ticket x.stage) b.1 ∙ ej)) ∙ sym b.0)
              (λ (b : (j ≢ id) × (get_elem? s.views j ≡ some u)). r.apart i j v u n a.1 b.1 ei ej)
              (at_set s.views id j w u atj))
              (at_set s.views id i w v ati);
          each = λ i v ati. ⊎_elim
              (λ (a : (i ≡ id) × (w ≡ v)). subst (Sound history begun start callers (set s.homes 0 none) r.done r.drawn r.log) a.1
              (record { stage = (served, lt, away, found_it r.log me.0.known one); known = finding_fits r.log [] me.0.known old.known; origin = λ _. from }))
              (λ (a : (i ≢ id) × (get_elem? s.views i ≡ some v)). let o = r.each i v a.1 in
              record { stage = moved_home s.homes (set s.homes 0 none) r.done r.drawn r.log v.known v.stage (not_out v) o.stage; known = o.known; origin = o.origin })
              (at_set s.views id i w v ati);
          slot = inl (away, (id, w, set_here s.views id w (at_within s.views id me.0 at), ap Serving served));
          few = r.few;
          count = let c = total_set knows s.views id me.0 w at in let k = r.count in omega arith;
          numbers = λ n. let c = total_set (has_number n) s.views id me.0 w at in let k = r.numbers n in let f = finding_number n r.log [] me.0.known one in omega arith;
          others = r.others;
        },
        record {
          desk = y;
          seat = ap (λ log. (view (Serving t) me.0.start me.0.callers (finding log [] me.0.known), (0, y) ∷ me.1)) (sym home.2);
          from = from.0 ∙ ap (λ (o : O). Some o) (sym home.3);
          fits = subst (λ (log : List (Entry O Op Answer)). Each (Fits me.0.callers log) me.0.known) (sym home.2) (subst (λ n. Each (Fits n r.log) me.0.known) (sym from.1) old.known);
        },
      ))
      r.slot where
        moved_home : (hs hs' : List (maybe.Option S)) (done drawn : ℕ) (log : List (Entry O Op Answer)) (ks : List (Known O Op Answer)) (st : Stage)
            → ((n : ℕ) → Holds hs done drawn log ks (Serving n) → ⊥) → Holds hs done drawn log ks st → Holds hs' done drawn log ks st
        moved_home hs hs' done drawn log ks Idle never h = tt
        moved_home hs hs' done drawn log ks (Waiting u) never h = h
        moved_home hs hs' done drawn log ks (Serving u) never h = absurd (never u h)

        at_within : {A : Type 0} (l : List A) (i : ℕ) (a : A) → get_elem? l i ≡ some a → i < length l
        at_within [] i a e = absurd (maybe.some-ne-none a (sym e))
        at_within (x ∷ xs) zero a e = omega arith
        at_within (x ∷ xs) (suc i) a e = let r = at_within xs i a e in omega arith

  pub looks : (slots id : ℕ) (me : Me S V) (t : ℕ) → me.0.stage ≡ Waiting t → length me.0.known ≡ 1
      → Allows Rule slots id me 1 (λ n. n) (Looks history begun (step slots 1 0 0 none) me)
  looks slots id me t waiting one s r _ at _ =
      let n : ℕ = get_or s.words 1 0 in
      let is : n ≡ r.done % 2 ^ 64 = ap (λ ws. get_or ws 1 0) r.words in
      let close = near s r id me.0 t at waiting in
      let other : (u : ℕ) → me.0.stage ≡ Waiting u → t ≡ u = λ u e. ap number_of (sym waiting ∙ e) in dite (ℕ_discrete n (t % 2 ^ 64))
      (λ hit. let served : r.done ≡ t = one_turn r.done t (2 ^ 64) close.0 close.1 (sym is ∙ hit) in
      let k = taking slots id me t waiting one s r at (sym served) in (
        k.0,
        k.1,
        k.2,
        k.3,
        λ u e. subst (λ (z : ℕ). MatchBool (eqb n (z % 2 ^ 64)) (Takes history begun me z (k.0, Rattle.atomic_table.specs.Table.carried_after me.1 k.1)) ((k.0, Rattle.atomic_table.specs.Table.carried_after me.1 k.1) ≡ me)) (other u e)
            (subst (λ b. MatchBool b (Takes history begun me t (k.0, Rattle.atomic_table.specs.Table.carried_after me.1 k.1)) ((k.0, Rattle.atomic_table.specs.Table.carried_after me.1 k.1) ≡ me)) (sym (eq-eqb n (t % 2 ^ 64) hit)) k.4),
      ))
      (λ miss. (
        me.0,
        keeps,
        tt,
        subst (λ (z : List ℕ × List V). Rule record { words = z.0; homes = s.homes; views = z.1 }) (λ i. (sym (lib.Seq.set-get_or s.words 1 0) i, sym (Rattle.atomic_table.proofs.Lists.set_again s.views id me.0 at) i)) r,
        λ u e. subst (λ (z : ℕ). MatchBool (eqb n (z % 2 ^ 64)) (Takes history begun me z me) (me ≡ me)) (other u e)
            (subst (λ b. MatchBool b (Takes history begun me t me) (me ≡ me)) (sym (ne_eqb n (t % 2 ^ 64) miss)) refl),
      ))

  -- GIVE: the first of what is known
  head_of : (ks : List (Known O Op Answer)) → length ks ≡ 1 → (k : Known O Op Answer) × (ks ≡ k ∷ [])
  head_of [] e = absurd (omega arith)
  head_of (k ∷ []) e = (k, refl)
  head_of (k ∷ l ∷ ks) e = absurd (omega arith)

  -- another view, once the turn of ticket t is finished
  after_turn : (hs hs' : List (maybe.Option S)) (done drawn : ℕ) (log log' : List (Entry O Op Answer)) (ks : List (Known O Op Answer)) (st : Stage)
      → ((n : ℕ) → ticket st ≡ Some n → n ≢ done) → Holds hs done drawn log ks st → Holds hs' (done + 1) drawn log' ks st
  after_turn hs hs' done drawn log log' ks Idle apart h = tt
  after_turn hs hs' done drawn log log' ks (Waiting u) apart h = let ne = apart u refl in let le = h.0 in (omega arith, h.1, h.2)
  after_turn hs hs' done drawn log log' ks (Serving u) apart h = absurd (apart u refl h.0)

  module _ (last : S → Option (Snapshot Op)) where
    pub gives_at : (slots id new : ℕ) (v : V) (y : S) (t number : ℕ) (b : Bool) (op : Op) (k : Known O Op Answer) → v.stage ≡ Serving t → v.known ≡ k ∷ [] → k.number ≡ number → v.start ≡ Some (begun y)
        → history y ≡ noted b (entry number op) k.found → new ≡ (t + 1) % 2 ^ 64
        → Allows Rule slots id (v, (0, y) ∷ []) 1 (λ _. new) (λ _. Gives history last (step slots 1 new 0 none) (v, (0, y) ∷ []) new)
    gives_at slots id new v y t number b op k serving knows_k its from longer word s r _ at _ =
        let old = r.each id v at in
        let holds = subst (Holds s.homes r.done r.drawn r.log v.known) serving old.stage in
        let served : t ≡ r.done = holds.0 in
        let lt : t < r.drawn = holds.1 in
        let found : k.found ≡ r.log = subst (HasFound r.log) knows_k holds.3 in
        let now : history y ≡ noted b (entry number op) r.log = longer ∙ ap (noted b (entry number op)) found in
        let one : length v.known ≡ 1 = ap length knows_k in
        let begin = old.origin (omega arith) in
        let fits_k = (subst (Each (Fits callers r.log)) knows_k old.known).0 in
        let below : number < callers = subst (λ n. n < callers) its fits_k.number in
        let w : V = left_with (last y) (history y) v in
        let log : List (Entry O Op Answer) = history y in
        let one_before : waits v ≡ 1 = ap queued serving in
        let homes : set s.homes 0 (some y) ≡ some y ∷ [] = ap (λ hs. set hs 0 (some y)) holds.2 in
        let more = asked_at (last y) (found_length v.known) in
        let has_one : total (is_number number) v.known ≡ 1 = ap (total (is_number number)) knows_k ∙ (let z : is_number number k ≡ 1 = subst (λ n. is_number n k ≡ 1) its (number_itself k) in omega arith) in
        let own : Fits callers log (known k.number log (k.asked ++ more)) = record { number = fits_k.number; found = begins_all log; mine = refl } in (
          w,
          Rattle.atomic_table.specs.Table.Act.gives,
          tt,
          record {
            done = r.done + 1;
            drawn = r.drawn;
            log = log;
            words = ap (λ ws. set ws 1 new) r.words ∙ ap (λ n. r.drawn % 2 ^ 64 ∷ n ∷ []) (word ∙ ap (λ n. (n + 1) % 2 ^ 64) served);
            queue = let m = total_set waits s.views id v w at in let q = r.queue in omega arith;
            apart = λ i j u u' n ati atj ei ej. ⊎_elim
                (λ (a : (i ≡ id) × (w ≡ u)). absurd (none-some n (ap (λ (x : V). ticket x.stage) a.1 ∙ ei)))
                (λ (a : (i ≢ id) × (get_elem? s.views i ≡ some u)). ⊎_elim
                (λ (c : (j ≡ id) × (w ≡ u')). absurd (none-some n (ap (λ (x : V). ticket x.stage) c.1 ∙ ej)))
                (λ (c : (j ≢ id) × (get_elem? s.views j ≡ some u')). r.apart i j u u' n a.1 c.1 ei ej)
                (at_set s.views id j w u' atj))
                (at_set s.views id i w u ati);
            each = λ i u ati. ⊎_elim
                (λ (a : (i ≡ id) × (w ≡ u)). subst (Sound history begun start callers (set s.homes 0 (some y)) (r.done + 1) r.drawn log) a.1
                (record { stage = tt; known = subst (λ ks. Each (Fits callers log) (finding log more ks)) (sym knows_k) (own, tt); origin = λ _. begin }))
                (λ (a : (i ≢ id) × (get_elem? s.views i ≡ some u)). let o = r.each i u a.1 in
                let none_here : total (is_number number) u.known ≡ 0 = (let two = total_two (has_number number) s.views id i v u (λ e. a.0 (sym e)) at a.1 in let most = r.numbers number in omega arith) in
                record {
                  stage = after_turn s.homes (set s.homes 0 (some y)) r.done r.drawn r.log log u.known u.stage
                      (λ n e is. a.0 (r.apart i id u v n a.1 at e (ap ticket serving ∙ ap (λ (z : ℕ). Some z) (served ∙ sym is)))) o.stage;
                  known = subst (λ l. Each (Fits callers l) u.known) (sym now) (others_fit callers number b op r.log u.known none_here o.known);
                  origin = o.origin;
                })
                (at_set s.views id i w u ati);
            slot = inr (y, homes, refl, some_start (begun y) start (sym from ∙ begin.0));
            few = r.few;
            count = let c = total_set knows s.views id v w at in let q = r.count in let l = finding_length log more v.known one in omega arith;
            numbers = λ n. let c = total_set (has_number n) s.views id v w at in let q = r.numbers n in let f = finding_number n log more v.known one in omega arith;
            others = λ n le. ap (calls_by n) now ∙ (calls_other n number b op r.log (λ e. omega arith) ∙ r.others n le);
          },
          λ z e. ap (λ (x : S). (left_with (last x) (history x) v, [])) (ap (second y) e),
        ) where
          some_start : (a c : O) → Some a ≡ Some c → a ≡ c
          some_start a c e = ap (or_else a) e where
            or_else : O → Option O → O
            or_else d None = d
            or_else d (Some x) = x

          second : S → List (ℕ × S) → S
          second d [] = d
          second d (x ∷ xs) = x.1

    pub gives_from : (slots id new : ℕ) (me : Me S V) (y : S) (t : ℕ) (b : Bool) (op : Op) (k : Known O Op Answer) → me.1 ≡ (0, y) ∷ [] → me.0.stage ≡ Serving t → me.0.known ≡ k ∷ [] → me.0.start ≡ Some (begun y)
        → history y ≡ noted b (entry k.number op) k.found → new ≡ (t + 1) % 2 ^ 64
        → Allows Rule slots id me 1 (λ _. new) (λ _. Gives history last (step slots 1 new 0 none) me new)
    gives_from slots id new me y t b op k seat serving knows_k from longer word =
        subst (λ (cs : List (ℕ × S)). Allows Rule slots id (me.0, cs) 1 (λ _. new) (λ _. Gives history last (step slots 1 new 0 none) (me.0, cs) new)) (sym seat)
        (gives_at slots id new me.0 y t k.number b op k serving knows_k refl from longer word)
