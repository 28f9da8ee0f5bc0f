-- No inbox gets too long.
use Rattle.std.proofs.Common.{◌≡◌, ℕ, ◌≤◌, ◌==◌, not, List, [], length, drop, Some, sym, subst, arith, length-drop}
use Rattle.std.specs.List.{AllByRecursion}
use Rattle.std.specs.Ordering.{nat_cmp}
use Rattle.std.specs.FinMap.{find, put}
use Rattle.std.specs.FinMap.Entries.{where_key}
use Rattle.xs_model.proofs.Maps.{all_found, all_put, all_where}

abbrev pub AreShort : ℕ → List (ℕ × List ℕ) → Type 0
AreShort limit inboxes = AllByRecursion (λ e. length e.1 ≤ limit) inboxes

module _ (limit : ℕ) (inboxes : List (ℕ × List ℕ)) (short : AreShort limit inboxes) where
  pub short_same : (new : List (ℕ × List ℕ)) → new ≡ inboxes → AreShort limit new
  short_same new same = subst (AreShort limit) (sym same) short

  -- one takes another's place
  pub short_put : (new : List (ℕ × List ℕ)) (c : ℕ) (bytes : List ℕ) → new ≡ put nat_cmp c bytes inboxes → length bytes ≤ limit → AreShort limit new
  short_put new c bytes is fits =
      subst (AreShort limit) (sym is) (all_put nat_cmp (λ (xs : List ℕ). length xs ≤ limit) c bytes inboxes fits short)

  pub short_empty : (new : List (ℕ × List ℕ)) (c : ℕ) → new ≡ put nat_cmp c [] inboxes → AreShort limit new
  short_empty new c is = short_put new c [] is (omega arith)

  -- one is there no longer
  pub short_without : (new : List (ℕ × List ℕ)) (c : ℕ) → new ≡ where_key nat_cmp (λ k. not (c == k)) inboxes → AreShort limit new
  short_without new c is =
      subst (AreShort limit) (sym is) (all_where nat_cmp (λ (xs : List ℕ). length xs ≤ limit) (λ k. not (c == k)) inboxes short)

  pub short_at : (c : ℕ) (bytes : List ℕ) → find nat_cmp c inboxes ≡ Some bytes → length bytes ≤ limit
  short_at c bytes there = all_found nat_cmp (λ (xs : List ℕ). length xs ≤ limit) c inboxes bytes short there

  -- its first bytes are gone
  pub short_behind : (new : List (ℕ × List ℕ)) (c n : ℕ) (bytes : List ℕ) → find nat_cmp c inboxes ≡ Some bytes → new ≡ put nat_cmp c (drop n bytes) inboxes → AreShort limit new
  short_behind new c n bytes there is =
      short_put new c (drop n bytes) is (omega (arith, length-drop n bytes, short_at c bytes there))
