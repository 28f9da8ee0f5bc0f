-- The next of the busy connections, from an id on.
use Rattle.std.proofs.Common.{◌≡◌, ℕ, zero, suc, ◌+◌, ◌<◌, ◌≤◌, true, false, List, Option, Some, None, is_some, IfSome, sym, ap, ◌∙◌, arith}
use Rattle.std.specs.Borrow.{Bor}
use Rattle.std.specs.Option.{option_copied}
use Rattle.std.specs.Ordering.{nat_cmp}
use Rattle.std.specs.FinMap.{find}
use Rattle.xs_model.proofs.Maps.{not_both}
use Rattle.id_map.specs.Ids.{above, first_id, IsNext}
use Rattle.conn_rows.specs.Rows.{IsNextFrom}
use Rattle.conn_rows.proofs.WalkLemmas.{none_above, none_beyond}

pub not_got : {X : Type 0} (o : Option (Bor X)) (f : Option X) → is_some o ≡ false → option_copied o ≡ f → f ≡ None
not_got None f h e = sym e
not_got (Some x) f h e = absurd (never h)
  where
    never : true ≡ false → ⊥
    never q = cc

module _ {X : Type 0} (es : List (ℕ × X)) where
  pub next_some : (at : ℕ) (r : Option ℕ) → IfSome r (IsNext es at) → IfSome r (IsNextFrom es (at + 1))
  next_some at None h = tt
  next_some at (Some n) h = record { above = let lt : at < n = h.above in omega arith; there = h.there; least = λ k le there. h.least k (omega arith) there }

  pub next_none : (at : ℕ) (r : Option ℕ) → r ≡ first_id (above at es) → r ≡ None → (k : ℕ) → at + 1 ≤ k → find nat_cmp k es ≡ None
  next_none at r is none k le = none_beyond at k (omega arith) es (none_above at es (sym is ∙ none))

  module _ (none : find nat_cmp 0 es ≡ None) where
    least_first : (n : ℕ) → IsNext es 0 n → (k : ℕ) → is_some (find nat_cmp k es) ≡ true → n ≤ k
    least_first n h zero there = not_both there (ap is_some none)
    least_first n h (suc k) there = h.least (suc k) (omega arith) there

    pub first_some : (r : Option ℕ) → IfSome r (IsNext es 0) → IfSome r (IsNextFrom es 0)
    first_some None h = tt
    first_some (Some n) h = record { above = omega arith; there = h.there; least = λ k _ there. least_first n h k there }

    pub first_none : (r : Option ℕ) → r ≡ first_id (above 0 es) → r ≡ None → (k : ℕ) → find nat_cmp k es ≡ None
    first_none r is empty zero = none
    first_none r is empty (suc k) = none_beyond 0 (suc k) (omega arith) es (none_above 0 es (sym is ∙ empty))

  pub first_found : is_some (find nat_cmp 0 es) ≡ true → IsNextFrom es 0 0
  first_found there = record { above = omega arith; there = there; least = λ k _ _. omega arith }
