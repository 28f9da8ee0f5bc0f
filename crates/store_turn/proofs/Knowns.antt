-- What is known of callers, as the history grows.
use Rattle.std.proofs.Common.{◌≡◌, ◌≢◌, ℕ, zero, suc, ◌+◌, ◌<◌, ◌≤◌, Bool, true, false, if◌then◌else◌, eqb, List, [], ◌∷◌, ◌++◌, length, take, drop, sym, refl, ap, ◌∙◌, arith, append_assoc, eq-eqb, ne_eqb, Option, Some, None}
use Rattle.std.proofs.lemmas.List.{append-nil}
use Rattle.std.proofs.lemmas.Option.{none-some}
use mathlib.Core.Option.{none, some, some-injective, some-ne-none}
use mathlib.Core.Logic.{dite}
use native.Mathlib.Decide.{ℕ_discrete}
use Rattle.store_turn.specs.declared.history.Entry.{Entry}
use Rattle.store_turn.specs.declared.views.Stage.{Stage}
use Rattle.store_turn.specs.declared.views.Stage.TheVariants.{Idle, Waiting, Serving}
use Rattle.store_turn.specs.declared.views.Known.{Known}
use Rattle.store_turn.specs.Calls.{Begins, entry, calls_by, noted}
use Rattle.store_turn.specs.Rule.{total, Each, ticket, queued, known, fresh, is_number, Fits, Holds}

pub begins_all : {X : Type 0} (xs : List X) → Begins xs xs
begins_all xs = ([], sym (append-nil xs))

pub begins_more : {X : Type 0} (xs ys zs : List X) → Begins xs ys → Begins xs (ys ++ zs)
begins_more xs ys zs b = (b.0 ++ zs, ap (λ l. l ++ zs) b.1 ∙ append_assoc xs b.0 zs)

abbrev pub number_of : Stage → ℕ
number_of Idle = 0
number_of (Waiting t) = t
number_of (Serving t) = t

abbrev pub kind_of : Stage → ℕ
kind_of Idle = 0
kind_of (Waiting t) = 1
kind_of (Serving t) = 2

abbrev pub the : Option ℕ → ℕ
the None = 0
the (Some n) = n

abbrev pub there : Option ℕ → ℕ
there None = 0
there (Some n) = 1

module _ {O Op Answer : Type 0} where
  pub calls_append : (n : ℕ) (es fs : List (Entry O Op Answer)) → calls_by n (es ++ fs) ≡ calls_by n es ++ calls_by n fs
  calls_append n [] fs = refl
  calls_append n (e ∷ es) fs = at_head (eqb e.caller n) (calls_append n es fs) where
    at_head : (b : Bool) → calls_by n (es ++ fs) ≡ calls_by n es ++ calls_by n fs
        → (if b then e ∷ calls_by n (es ++ fs) else calls_by n (es ++ fs)) ≡ (if b then e ∷ calls_by n es else calls_by n es) ++ calls_by n fs
    at_head true r = ap (λ l. e ∷ l) r
    at_head false r = r

  pub begins_noted : (xs log : List (Entry O Op Answer)) (b : Bool) (e : Entry O Op Answer) → Begins xs log → Begins xs (noted b e log)
  begins_noted xs log true e begins = begins
  begins_noted xs log false e begins = begins_more xs log (e ∷ []) begins

  pub calls_other : (m n : ℕ) (b : Bool) (op : Op) (log : List (Entry O Op Answer)) → m ≢ n → calls_by m (noted b (entry n op) log) ≡ calls_by m log
  calls_other m n true op log ne = refl
  calls_other m n false op log ne = calls_append m log (entry n op ∷ [])
      ∙ ap (λ b. calls_by m log ++ (if b then entry n op ∷ [] else [])) (ne_eqb n m (λ e. ne (sym e))) ∙ append-nil (calls_by m log)

  pub calls_own : (n : ℕ) (b : Bool) (op : Op) (log : List (Entry O Op Answer)) → calls_by n (noted b (entry n op) log) ≡ noted b (entry n op) (calls_by n log)
  calls_own n true op log = refl
  calls_own n false op log = calls_append n log (entry n op ∷ [])
      ∙ ap (λ b. calls_by n log ++ (if b then entry n op ∷ [] else [])) (eq-eqb n n refl)

  pub each_append : (P : Known O Op Answer → Type 0) (ks ls : List (Known O Op Answer)) → Each P ks → Each P ls → Each P (ks ++ ls)
  each_append P [] ls a b = b
  each_append P (k ∷ ks) ls a b = (a.0, each_append P ks ls a.1 b)

  pub each_take : (P : Known O Op Answer → Type 0) (n : ℕ) (ks : List (Known O Op Answer)) → Each P ks → Each P (take n ks)
  each_take P zero ks a = tt
  each_take P (suc n) [] a = tt
  each_take P (suc n) (k ∷ ks) a = (a.0, each_take P n ks a.1)

  pub each_drop : (P : Known O Op Answer → Type 0) (n : ℕ) (ks : List (Known O Op Answer)) → Each P ks → Each P (drop n ks)
  each_drop P zero ks a = a
  each_drop P (suc n) [] a = tt
  each_drop P (suc n) (k ∷ ks) a = each_drop P n ks a.1

  -- a call of another number
  pub others_fit : (callers n : ℕ) (b : Bool) (op : Op) (log : List (Entry O Op Answer)) (ks : List (Known O Op Answer)) → total (is_number n) ks ≡ 0 → Each (Fits callers log) ks → Each (Fits callers (noted b (entry n op) log)) ks
  others_fit callers n b op log [] zeros fits = tt
  others_fit callers n b op log (k ∷ ks) zeros fits = dite (ℕ_discrete k.number n)
      (λ e. let one : is_number n k ≡ 1 = ap (λ b. if b then 1 else 0) (eq-eqb k.number n e) in absurd (omega arith))
      (λ ne. (
        record {
          number = fits.0.number;
          found = begins_noted k.found log b (entry n op) fits.0.found;
          mine = calls_other k.number n b op log ne ∙ fits.0.mine;
        },
        others_fit callers n b op log ks (omega arith) fits.1,
      ))

  pub number_itself : (k : Known O Op Answer) → is_number k.number k ≡ 1
  number_itself k = ap (λ b. if b then 1 else 0) (eq-eqb k.number k.number refl)

  -- tickets
  pub in_range : {S : Type 0} (homes : List (mathlib.Core.Option.Option S)) (done drawn : ℕ) (log : List (Entry O Op Answer)) (ks : List (Known O Op Answer)) (st : Stage) (t : ℕ)
      → Holds homes done drawn log ks st → ticket st ≡ Some t → (done ≤ t) × (t < drawn)
  in_range homes done drawn log ks Idle t h e = absurd (none-some t e)
  in_range homes done drawn log ks (Waiting u) t h e = let z : u ≡ t = ap the e in let a = h.0 in let b = h.1 in (omega arith, omega arith)
  in_range homes done drawn log ks (Serving u) t h e = let z : u ≡ t = ap the e in let a = h.0 in let b = h.1 in (omega arith, omega arith)

  pub later_drawn : {S : Type 0} (homes : List (mathlib.Core.Option.Option S)) (done drawn : ℕ) (log : List (Entry O Op Answer)) (ks : List (Known O Op Answer)) (st : Stage)
      → Holds homes done drawn log ks st → Holds homes done (drawn + 1) log ks st
  later_drawn homes done drawn log ks Idle h = tt
  later_drawn homes done drawn log ks (Waiting u) h = let b = h.1 in (h.0, omega arith, h.2)
  later_drawn homes done drawn log ks (Serving u) h = let b = h.1 in (h.0, omega arith, h.2, h.3)

  -- who holds a ticket is a caller
  pub waits_know : {S : Type 0} (homes : List (mathlib.Core.Option.Option S)) (done drawn : ℕ) (log : List (Entry O Op Answer)) (ks : List (Known O Op Answer)) (st : Stage)
      → Holds homes done drawn log ks st → queued st ≤ length ks
  waits_know homes done drawn log ks Idle h = omega arith
  waits_know homes done drawn log ks (Waiting u) h = let b = h.2 in omega arith
  waits_know homes done drawn log [] (Serving u) h = absurd h.3
  waits_know homes done drawn log (k ∷ ks) (Serving u) h = omega arith

  pub single : (ks : List (Known O Op Answer)) → length ks ≡ 1 → (k : Known O Op Answer) × (ks ≡ k ∷ [])
  single [] e = absurd (omega arith)
  single (k ∷ []) e = (k, refl)
  single (k ∷ l ∷ ks) e = absurd (omega arith)

module _ (O Op Answer : Type 0) where
  -- fresh parts
  pub fresh_length : (first count : ℕ) → length (fresh {O = O} {Op = Op} {Answer = Answer} first count) ≡ count
  fresh_length first zero = refl
  fresh_length first (suc count) = ap suc (fresh_length (suc first) count)

  pub fresh_below : (n first count : ℕ) → n < first → total (is_number n) (fresh {O = O} {Op = Op} {Answer = Answer} first count) ≡ 0
  fresh_below n first zero lt = refl
  fresh_below n first (suc count) lt = let r = fresh_below n (suc first) count (omega arith) in
      let z : is_number n (known {O = O} {Op = Op} {Answer = Answer} first [] []) ≡ 0 = ap (λ b. if b then 1 else 0) (ne_eqb first n (λ e. omega arith)) in omega arith

  pub fresh_once : (n first count : ℕ) → total (is_number n) (fresh {O = O} {Op = Op} {Answer = Answer} first count) ≤ 1
  fresh_once n first zero = omega arith
  fresh_once n first (suc count) = dite (ℕ_discrete first n)
      (λ e. let r = fresh_below n (suc first) count (omega arith) in let o : is_number n (known {O = O} {Op = Op} {Answer = Answer} first [] []) ≡ 1 = ap (λ b. if b then 1 else 0) (eq-eqb first n e) in omega arith)
      (λ ne. let r = fresh_once n (suc first) count in let z : is_number n (known {O = O} {Op = Op} {Answer = Answer} first [] []) ≡ 0 = ap (λ b. if b then 1 else 0) (ne_eqb first n ne) in omega arith)

  pub fresh_fits : (callers first count : ℕ) → first + count ≤ callers → Each (Fits callers []) (fresh {O = O} {Op = Op} {Answer = Answer} first count)
  fresh_fits callers first zero le = tt
  fresh_fits callers first (suc count) le = (record { number = omega arith; found = begins_all []; mine = refl }, fresh_fits callers (suc first) count (omega arith))
