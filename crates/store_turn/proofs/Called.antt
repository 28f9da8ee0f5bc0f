-- What the steps of one call come to.
use Rattle.std.proofs.Common.{◌≡◌, ℕ, ◌%◌, ◌^◌, ◌<◌, Bool, true, List, [], ◌∷◌, ◌++◌, length, sym, ap, ◌∙◌, subst, Option, Some, None, Result, Ok, Err}
use Rattle.std.specs.Prelude.{MatchResult, IfOk, OnErr, IsSomeAnd}
use Rattle.std.proofs.lemmas.List.{append-nil}
use Rattle.std.specs.declared.snapshot.Snapshot.{Snapshot}
use Rattle.atomic_table.specs.Seated.{TableId}
use Rattle.atomic_table.specs.Table.{Me}
use Rattle.store_turn.specs.declared.history.Entry.{Entry}
use Rattle.store_turn.specs.declared.views.Stage.TheVariants.{Idle, Serving}
use Rattle.store_turn.specs.declared.views.Known.{Known}
use Rattle.store_turn.specs.declared.views.View.{View}
use Rattle.store_turn.specs.Calls.{Begins, entry, calls_by, noted, after}
use Rattle.store_turn.specs.Seats.{one_of, party_at, IsIdle}
use Rattle.store_turn.specs.Turns.{IsAnswered, Refused, Served}
use Rattle.store_turn.specs.Rule.{Each, Fits, known, finding, asked_at, found_length, left_with, Drawn, WaitsWith, Has, Taken, MayGive}
use Rattle.store_turn.proofs.Knowns.{single, calls_own}

slot_of : {S : Type 0} → S → List (ℕ × S) → S
slot_of d [] = d
slot_of d (x ∷ xs) = x.1

pub same_slot : {S : Type 0} (y z : S) (cs : List (ℕ × S)) → cs ≡ (0, y) ∷ [] → cs ≡ (0, z) ∷ [] → y ≡ z
unfolding slot_of
same_slot y z cs a b = ap (slot_of y) (sym a ∙ b)

inside : {A : Type 0} → A → Option A → A
inside d None = d
inside d (Some x) = x

pub same_some : {A : Type 0} (x y : A) → Some x ≡ Some y → x ≡ y
unfolding inside
same_some x y e = ap (inside x) e

at_ok : {T E : Type 0} (r : Result T E) (P Q : T → Type 0) (U : Type 0) → ((x : T) → P x → Q x) → MatchResult r P (λ _. U) → IfOk r Q
at_ok (Ok x) P Q U f p = f x p
at_ok (Err e) P Q U f p = tt

at_err : {T E : Type 0} (r : Result T E) (P : T → Type 0) (U V : Type 0) → (U → V) → MatchResult r P (λ _. U) → OnErr r V
at_err (Ok x) P U V f p = tt
at_err (Err e) P U V f p = f p

asked_some : {Op : Type 0} (last : Option (Snapshot Op)) (op : Op) (n : ℕ) → IsSomeAnd last (λ a. a.value ≡ op) → asked_at last n ≡ (op, n) ∷ []
asked_some None op n h = absurd h
asked_some (Some a) op n h = ap (λ (o : _). (o, n) ∷ []) h

-- a call's seat, from its ticket on: `k` is what was known before
module _ {S O Op Answer : Type 0} (history : S → List (Entry O Op Answer)) (begun : S → O) (last : S → Option (Snapshot Op)) (number : ℕ) where
  abbrev M : Type 0
  M = Me S (View O Op Answer)

  pub waits_with : (m0 m1 : M) (n : ℕ) → IsIdle number m0.0 → Drawn m0 n m1 → WaitsWith n m1
  waits_with m0 m1 n idle d = (d.0, d.1, ap (λ (m : M). m.0.stage) d.2, ap (λ (m : M). length m.0.known) d.2 ∙ idle.known)

  -- what is so once the slot is taken
  pub record AtTurn (m0 m2 : M) (n : ℕ) : Type 0 where
    pub t : ℕ
    pub k : Known O Op Answer
    pub desk : S
    pub word : n ≡ t % 2 ^ 64
    pub was : m0.0.known ≡ k ∷ []
    pub stage : m2.0.stage ≡ Serving t
    pub start : m2.0.start ≡ m0.0.start
    pub from : m0.0.start ≡ Some (begun desk)
    pub callers : m2.0.callers ≡ m0.0.callers
    pub now : m2.0.known ≡ known k.number (history desk) k.asked ∷ []
    pub slot : m2.1 ≡ (0, desk) ∷ []
    pub fits : Fits m0.0.callers (history desk) k

  pub at_turn : (m0 m1 m2 : M) (n : ℕ) → IsIdle number m0.0 → m0.1 ≡ [] → Drawn m0 n m1 → Taken history begun n m1 m2 → AtTurn m0 m2 n
  at_turn m0 m1 m2 n idle empty d taken =
      let one = single m0.0.known idle.known in
      let k = one.0 in
      let T = taken.2 in
      let e1 = d.2 in
      let known1 : m1.0.known ≡ k ∷ [] = ap (λ (m : M). m.0.known) e1 ∙ one.1 in
      let start1 : m1.0.start ≡ m0.0.start = ap (λ (m : M). m.0.start) e1 in
      let callers1 : m1.0.callers ≡ m0.0.callers = ap (λ (m : M). m.0.callers) e1 in record {
        t = taken.0;
        k = k;
        desk = T.desk;
        word = taken.1;
        was = one.1;
        stage = ap (λ (m : M). m.0.stage) T.seat;
        start = ap (λ (m : M). m.0.start) T.seat ∙ start1;
        from = sym start1 ∙ T.from;
        callers = ap (λ (m : M). m.0.callers) T.seat ∙ callers1;
        now = ap (λ (m : M). m.0.known) T.seat ∙ (ap (finding (history T.desk) []) known1 ∙ ap (λ (asked : List (Op × ℕ)). known k.number (history T.desk) asked ∷ []) (append-nil k.asked));
        slot = ap (λ (m : M). m.1) T.seat ∙ ap (λ (cs : List (ℕ × S)). (0, T.desk) ∷ cs) (ap (λ (m : M). m.1) e1 ∙ empty);
        fits = (subst (λ (c : ℕ). Each (Fits c (history T.desk)) (k ∷ [])) callers1 (subst (Each (Fits m1.0.callers (history T.desk))) known1 T.fits)).0;
      }

  module _ (next : O → Op → O) (answer : O → Op → Answer) (quiet : Answer → Bool) {Err' : Type 0} (op : Op) (result : Result Answer Err') where
    abbrev Work : S → S → Type 0
    Work old new = Served next answer quiet number op result (begun old) (history old) (begun new) (history new) (last new)

    abbrev Works : M → M → Type 0
    Works m2 m3 = Has m2 (λ old. Has m3 (λ new. Work old new))

    -- what was done, on the very slot that was taken
    worked : (m0 m2 m3 : M) (n : ℕ) (a : AtTurn m0 m2 n) → Works m2 m3 → Has m3 (λ new. Work a.desk new)
    worked m0 m2 m3 n a w = subst (λ (old : S). Has m3 (λ new. Work old new)) (same_slot w.0 a.desk m2.1 w.1 a.slot) w.2

    longer : (es es' : List (Entry O Op Answer)) (start' start : O) (lastly : Option (Snapshot Op)) (r : Result Answer Err')
        → Served next answer quiet number op r start es start' es' lastly → (b : Bool) × (es' ≡ noted b (entry number op) es)
    longer es es' start' start lastly (Ok x) s = (quiet x, s.1.1)
    longer es es' start' start lastly (Err e) s = (true, s.1.0)

    pub may_give : (m0 m2 m3 : M) (n : ℕ) → IsIdle number m0.0 → AtTurn m0 m2 n → m3.0 ≡ m2.0 → Works m2 m3 → MayGive history begun n m3
    may_give m0 m2 m3 n idle a same w =
        let done = worked m0 m2 m3 n a w in
        let new = done.0 in
        let l = longer (history a.desk) (history new) (begun new) (begun a.desk) (last new) result done.2 in
        let its : number ≡ a.k.number = sym (ap (λ ks. (one_of ks).number) (sym a.was) ∙ idle.its) in record {
          t = a.t;
          word = a.word;
          stage = ap (λ (v : View O Op Answer). v.stage) same ∙ a.stage;
          desk = new;
          seat = done.1;
          from = ap (λ (v : View O Op Answer). v.start) same ∙ (a.start ∙ (a.from ∙ ap (λ (o : O). Some o) (sym done.2.0)));
          one = known a.k.number (history a.desk) a.k.asked;
          known = ap (λ (v : View O Op Answer). v.known) same ∙ a.now;
          quiet = l.0;
          op = op;
          longer = l.1 ∙ ap (λ (i : ℕ). noted l.0 (entry i op) (history a.desk)) its;
        }

    -- what is so once the slot is given back
    pub record Left (m0 m4 : M) (desk new : S) (k : Known O Op Answer) : Type 0 where
      pub was : m0.0.known ≡ k ∷ []
      pub now : m4.0.known ≡ known k.number (history new) (k.asked ++ asked_at (last new) (length (history desk))) ∷ []
      pub stage : m4.0.stage ≡ Idle
      pub start : m4.0.start ≡ m0.0.start
      pub callers : m4.0.callers ≡ m0.0.callers
      pub from : m0.0.start ≡ Some (begun desk)
      pub slot : m4.1 ≡ []
      pub fits : Fits m0.0.callers (history desk) k
      pub work : Work desk new
      pub its : k.number ≡ number

    pub left : (m0 m2 m3 m4 : M) (n : ℕ) → IsIdle number m0.0 → (a : AtTurn m0 m2 n) → m3.0 ≡ m2.0 → Works m2 m3 → Has m3 (λ desk. m4 ≡ (left_with (last desk) (history desk) m3.0, []))
        → (new : S) × Left m0 m4 a.desk new a.k
    left m0 m2 m3 m4 n idle a same w g =
        let done = worked m0 m2 m3 n a w in
        let new = done.0 in
        let e : m4 ≡ (left_with (last new) (history new) m3.0, []) = subst (λ (y : S). m4 ≡ (left_with (last y) (history y) m3.0, [])) (same_slot g.0 new m3.1 g.1 done.1) g.2 in
        let known3 : m3.0.known ≡ known a.k.number (history a.desk) a.k.asked ∷ [] = ap (λ (v : View O Op Answer). v.known) same ∙ a.now in (
          new,
          record {
            was = a.was;
            now = ap (λ (m : M). m.0.known) e ∙ ap (λ ks. finding (history new) (asked_at (last new) (found_length ks)) ks) known3;
            stage = ap (λ (m : M). m.0.stage) e;
            start = ap (λ (m : M). m.0.start) e ∙ (ap (λ (v : View O Op Answer). v.start) same ∙ a.start);
            callers = ap (λ (m : M). m.0.callers) e ∙ (ap (λ (v : View O Op Answer). v.callers) same ∙ a.callers);
            from = a.from;
            slot = ap (λ (m : M). m.1) e;
            fits = a.fits;
            work = done.2;
            its = ap (λ ks. (one_of ks).number) (sym a.was) ∙ idle.its;
          },
        )

    module _ (m0 m4 : M) (desk new : S) (k : Known O Op Answer) (l : Left m0 m4 desk new k) where
      pub idle_again : IsIdle number m0.0 → IsIdle number m4.0
      idle_again idle = record {
        stage = l.stage;
        known = ap length l.now;
        its = ap (λ ks. (one_of ks).number) l.now ∙ l.its;
        below = subst (λ (c : ℕ). number < c) (sym l.callers) idle.below;
      }

      found_before : (one_of m0.0.known).found ≡ k.found
      found_before = ap (λ ks. (one_of ks).found) l.was

      found_now : (one_of m4.0.known).found ≡ history new
      found_now = ap (λ ks. (one_of ks).found) l.now

      asked_now : (more : List (Op × ℕ)) → asked_at (last new) (length (history desk)) ≡ more → (one_of m4.0.known).asked ≡ (one_of m0.0.known).asked ++ more
      asked_now more e = ap (λ ks. (one_of ks).asked) l.now ∙ (ap (λ x. k.asked ++ x) e ∙ ap (λ ks. (one_of ks).asked ++ more) (sym l.was))

      own_before : calls_by number (one_of m0.0.known).found ≡ calls_by number (history desk)
      own_before = ap (calls_by number) found_before ∙ subst (λ (i : ℕ). calls_by i k.found ≡ calls_by i (history desk)) l.its (sym l.fits.mine)

      later : Begins (one_of m0.0.known).found (history desk)
      later = subst (λ es. Begins es (history desk)) (sym found_before) l.fits.found

      pub is_answered : (table : TableId) (start : O) → m0.0.start ≡ Some start → IfOk result (λ given. IsAnswered next answer quiet start (party_at table number m0.0) op given (party_at table number m4.0))
      is_answered table start from = at_ok result _ _ _ (λ given w. (
        history desk,
        record {
          later = later;
          replies = w.0 ∙ ap (λ (o : O). answer (after next o (history desk)) op) (same_some (begun desk) start (sym l.from ∙ from));
          found = found_now ∙ w.1;
          own = ap (calls_by number) (found_now ∙ w.1) ∙ (calls_own number (quiet given) op (history desk) ∙ ap (noted (quiet given) (entry number op)) (sym own_before));
          asked = asked_now ((op, length (history desk)) ∷ []) (asked_some (last new) op (length (history desk)) w.2);
        },
      )) l.work.1

      pub is_refused : (table : TableId) → OnErr result (Refused (party_at table number m0.0) (party_at table number m4.0))
      is_refused table = at_err result _ _ _ (λ w. record {
        later = subst (Begins (one_of m0.0.known).found) (sym (found_now ∙ w.0)) later;
        own = ap (calls_by number) (found_now ∙ w.0) ∙ sym own_before;
        asked = asked_now [] (ap (λ o. asked_at o (length (history desk))) w.1) ∙ append-nil (one_of m0.0.known).asked;
      }) l.work.1
