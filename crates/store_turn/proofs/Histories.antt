-- Histories that grow by a call.
use Rattle.std.proofs.Common.{◌≡◌, ℕ, Bool, true, false, not, ◌&&◌, List, [], ◌∷◌, ◌++◌, refl, sym, ap, ◌∙◌, subst, arith}
use Rattle.store_turn.specs.declared.history.Entry.{Entry}
use Rattle.store_turn.specs.Calls.{after, is_loud, entry}

module _ {O Op Answer : Type 0} (next : O → Op → O) where
  pub after_one_more : (o : O) (es : List (Entry O Op Answer)) (e : Entry O Op Answer) → after next o (es ++ e ∷ []) ≡ next (after next o es) e.op
  after_one_more o [] e = refl
  after_one_more o (x ∷ xs) e = after_one_more (next o x.op) xs e

  module _ (answer : O → Op → Answer) (quiet : Answer → Bool) where
    pub loud_one_more : (o : O) (es : List (Entry O Op Answer)) (e : Entry O Op Answer) → is_loud next answer quiet o es ≡ true → quiet (answer (after next o es) e.op) ≡ false
        → is_loud next answer quiet o (es ++ e ∷ []) ≡ true
    loud_one_more o [] e loud here = ap (λ b. not b && true) here
    loud_one_more o (x ∷ xs) e loud here = grind (arith, loud_one_more (next o x.op) xs e)

    -- an object that answered aloud, with the call in its history
    pub stays_replayed : (start object object' : O) (es es' : List (Entry O Op Answer)) (number : ℕ) (op : Op) → object ≡ after next start es
        → object' ≡ next object op → es' ≡ es ++ entry number op ∷ [] → object' ≡ after next start es'
    stays_replayed start object object' es es' number op was now longer = now ∙ ap (λ o. next o op) was ∙ sym (after_one_more start es (entry number op)) ∙ ap (after next start) (sym longer)

    pub stays_loud : (start object : O) (es es' : List (Entry O Op Answer)) (number : ℕ) (op : Op) → object ≡ after next start es → is_loud next answer quiet start es ≡ true
        → quiet (answer object op) ≡ false → es' ≡ es ++ entry number op ∷ [] → is_loud next answer quiet start es' ≡ true
    stays_loud start object es es' number op was loud aloud longer = subst (λ l. is_loud next answer quiet start l ≡ true) (sym longer)
        (loud_one_more start es (entry number op) loud (subst (λ o. quiet (answer o op) ≡ false) was aloud))
