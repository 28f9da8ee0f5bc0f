-- Which connection would have too many bytes unsent.
use Rattle.std.proofs.Common.{◌≡◌, ◌≢◌, ◌⊎◌, ℕ, ◌+◌, ◌<◌, ◌≤◌, true, cond, List, [], ◌∷◌, length, nat_lt, Some, None, inl, inr, refl, sym, ap, subst, ◌∙◌, arith}
use Rattle.std.specs.List.{AllByRecursion}
use Rattle.std.specs.declared.cmp.Ordering.TheVariants.{Less, Equal, Greater}
use Rattle.std.specs.Ordering.{nat_cmp, is_eq}
use Rattle.std.specs.FinMap.{find, is_sorted, nat_cmp-IsAntisymmetric}
use Rattle.std.specs.FinMap.Entries.{below_all}
use Rattle.std.proofs.lemmas.Bool.{and_parts}
use Rattle.xs_model.proofs.Maps.{from_Some, not_Some}
use Rattle.machine_model.specs.declared.bounds.TheConstants.{CROWD_LIMIT}
use Rattle.machine_model.specs.History.{Unsent}
use Rattle.conn_rows.specs.Rows.{Row}
use Rattle.conn_rows.specs.Queued.{unsent_of}
use Rattle.conn_rows.specs.Sending.{count_by, crowding}
use Rattle.conn_rows.specs.Receivers.{GetsNothing, IsNextReceiver, queues_of}
use Rattle.conn_rows.proofs.IdEntries.{put_again}
use Rattle.conn_rows.proofs.WalkLemmas.{is_less, is_greater, behind, higher, none_behind, all_both, all_weaker, all_changed, all_absent}
use Rattle.conn_rows.proofs.NoteLemmas.{not_lower}
use Rattle.conn_rows.proofs.ReceiverLemmas.{nothing_counted, beside, up_to}

-- how many bytes a connection would have unsent
abbrev pub sum_at : ℕ → ℕ → Unsent → ℕ × Row → ℕ
sum_at asker n owed e = length e.1.queue.bytes + count_by asker n owed e.0

abbrev pub AreShort : List (ℕ × Row) → Type 0
AreShort rows = AllByRecursion (λ e. length e.1.queue.bytes ≤ CROWD_LIMIT) rows

-- those up to an id have not too many
abbrev pub FitUpTo : ℕ → ℕ → Unsent → ℕ → List (ℕ × Row) → Type 0
FitUpTo asker n owed at rows = AllByRecursion (λ e. e.0 ≤ at → sum_at asker n owed e ≤ CROWD_LIMIT) rows

no_more : (limit l k : ℕ) → l ≤ limit → k ≡ 0 → l + k ≤ limit
no_more limit l k le none = omega arith

module _ (asker n : ℕ) (owed : Unsent) where
  fits_nothing : (e : ℕ × Row) → GetsNothing asker owed e.0 → length e.1.queue.bytes ≤ CROWD_LIMIT → sum_at asker n owed e ≤ CROWD_LIMIT
  fits_nothing e nothing short = no_more CROWD_LIMIT (length e.1.queue.bytes) (count_by asker n owed e.0) short (nothing_counted asker owed n e.0 nothing)

  both : (at : ℕ) (rows : List (ℕ × Row)) → FitUpTo asker n owed at rows → AreShort rows → AllByRecursion (λ e. (e.0 ≤ at → sum_at asker n owed e ≤ CROWD_LIMIT) × (length e.1.queue.bytes ≤ CROWD_LIMIT)) rows
  both at rows fits short = all_both (λ e. e.0 ≤ at → sum_at asker n owed e ≤ CROWD_LIMIT) (λ e. length e.1.queue.bytes ≤ CROWD_LIMIT) rows fits short

  pub fit_first : (rows : List (ℕ × Row)) → AllByRecursion (λ e. 1 ≤ e.0) rows → FitUpTo asker n owed 0 rows
  fit_first rows positive = all_weaker (λ e. 1 ≤ e.0) (λ e. e.0 ≤ 0 → sum_at asker n owed e ≤ CROWD_LIMIT) (λ e h le. absurd (never e.0 h le)) rows positive
    where
      never : (i : ℕ) → 1 ≤ i → i ≤ 0 → ⊥
      never i h le = omega arith

  -- THE FIRST that has too many
  first_crowd : (next : ℕ) (row : Row) (rows : List (ℕ × Row)) → is_sorted nat_cmp rows ≡ true → find nat_cmp next rows ≡ Some row → nat_lt CROWD_LIMIT (sum_at asker n owed (next, row)) ≡ true
      → AllByRecursion (λ e. e.0 < next → sum_at asker n owed e ≤ CROWD_LIMIT) rows → crowding asker n owed (unsent_of (queues_of rows)) ≡ Some next
  first_crowd next row [] rising there crowd fits = not_Some there
  first_crowd next row (e ∷ rows) rising there crowd fits =
      let parts = and_parts (below_all nat_cmp e.0 rows) (is_sorted nat_cmp rows) rising in
      let rest = crowding asker n owed (unsent_of (queues_of rows)) in
      elim (nat_cmp next e.0) as (λ o. nat_cmp next e.0 ≡ o → cond (is_eq o) (Some e.1) (find nat_cmp next rows) ≡ Some row → cond (nat_lt CROWD_LIMIT (sum_at asker n owed e)) (Some e.0) rest ≡ Some next) [
        | Less ↦ λ t found. not_Some (sym (none_behind next rows (higher next e.0 (is_less next e.0 t) rows (behind e.0 rows parts.0))) ∙ found)
        | Equal ↦ λ t found. let same : next ≡ e.0 = nat_cmp-IsAntisymmetric next e.0 t in
            ap (λ b. cond b (Some e.0) rest) (subst (λ i. nat_lt CROWD_LIMIT (sum_at asker n owed (i, e.1)) ≡ true) same
            (subst (λ (r : Row). nat_lt CROWD_LIMIT (sum_at asker n owed (next, r)) ≡ true) (sym (from_Some found)) crowd)) ∙ ap Some (sym same)
        | Greater ↦ λ t found.
            ap (λ b. cond b (Some e.0) rest) (not_lower CROWD_LIMIT (sum_at asker n owed e) (fits.0 (is_greater next e.0 t))) ∙ first_crowd next row rows parts.1 found crowd fits.1
      ] refl there

  -- ONE MORE of those that are sent something
  module _ (at next : ℕ) (is : IsNextReceiver asker owed at next) (rows : List (ℕ × Row)) (short : AreShort rows) (fits : FitUpTo asker n owed at rows) where
    fits_beside : (e : ℕ × Row) → (e.0 ≢ next) → (e.0 ≤ at → sum_at asker n owed e ≤ CROWD_LIMIT) × (length e.1.queue.bytes ≤ CROWD_LIMIT) → e.0 ≤ next → sum_at asker n owed e ≤ CROWD_LIMIT
    fits_beside e apart h le = placed (beside asker owed at next e.0 is apart)
      where
        never : (i j : ℕ) → i ≤ j → j < i → ⊥
        never i j le lt = omega arith

        placed : (e.0 ≤ at) ⊎ ((next < e.0) ⊎ GetsNothing asker owed e.0) → sum_at asker n owed e ≤ CROWD_LIMIT
        placed (inl low) = h.0 low
        placed (inr (inl high)) = absurd (never e.0 next le high)
        placed (inr (inr nothing)) = fits_nothing e nothing h.1

    pub fit_more : (row : Row) → is_sorted nat_cmp rows ≡ true → Some row ≡ find nat_cmp next rows → sum_at asker n owed (next, row) ≤ CROWD_LIMIT → FitUpTo asker n owed next rows
    fit_more row rising there fit =
        subst (FitUpTo asker n owed next) (put_again next row rows rising (sym there))
        (all_changed next row (λ e. (e.0 ≤ at → sum_at asker n owed e ≤ CROWD_LIMIT) × (length e.1.queue.bytes ≤ CROWD_LIMIT)) (λ e. e.0 ≤ next → sum_at asker n owed e ≤ CROWD_LIMIT)
        fits_beside (λ _. fit) rows rising (both at rows fits short))

    pub fit_past : None ≡ find nat_cmp next rows → FitUpTo asker n owed next rows
    fit_past absent =
        all_absent next (λ e. (e.0 ≤ at → sum_at asker n owed e ≤ CROWD_LIMIT) × (length e.1.queue.bytes ≤ CROWD_LIMIT)) (λ e. e.0 ≤ next → sum_at asker n owed e ≤ CROWD_LIMIT)
        fits_beside rows (sym absent) (both at rows fits short)

    before : AllByRecursion (λ e. e.0 < next → sum_at asker n owed e ≤ CROWD_LIMIT) rows
    before =
        all_weaker (λ e. (e.0 ≤ at → sum_at asker n owed e ≤ CROWD_LIMIT) × (length e.1.queue.bytes ≤ CROWD_LIMIT)) (λ e. e.0 < next → sum_at asker n owed e ≤ CROWD_LIMIT)
        (λ e h lt. fits_beside e (apart e.0 next lt) h (at_most e.0 next lt)) rows (both at rows fits short)
      where
        apart : (i j : ℕ) → i < j → i ≢ j
        apart i j lt = λ same. omega arith

        at_most : (i j : ℕ) → i < j → i ≤ j
        at_most i j lt = omega arith

    -- or it is the first that has too many
    pub crowding_next : (row : Row) → is_sorted nat_cmp rows ≡ true → Some row ≡ find nat_cmp next rows → nat_lt CROWD_LIMIT (sum_at asker n owed (next, row)) ≡ true → crowding asker n owed (unsent_of (queues_of rows)) ≡ Some next
    crowding_next row rising there crowd = first_crowd next row rows rising (sym there) crowd before

  -- NOBODY has too many
  no_crowd : (rows : List (ℕ × Row)) → AllByRecursion (λ e. sum_at asker n owed e ≤ CROWD_LIMIT) rows → crowding asker n owed (unsent_of (queues_of rows)) ≡ None
  no_crowd [] fits = refl
  no_crowd (e ∷ rows) fits = ap (λ b. cond b (Some e.0) (crowding asker n owed (unsent_of (queues_of rows)))) (not_lower CROWD_LIMIT (sum_at asker n owed e) fits.0) ∙ no_crowd rows fits.1

  pub crowding_none : (at : ℕ) (rows : List (ℕ × Row)) → ((c : ℕ) → at < c → GetsNothing asker owed c) → AreShort rows → FitUpTo asker n owed at rows → crowding asker n owed (unsent_of (queues_of rows)) ≡ None
  crowding_none at rows none short fits =
      no_crowd rows (all_weaker (λ e. (e.0 ≤ at → sum_at asker n owed e ≤ CROWD_LIMIT) × (length e.1.queue.bytes ≤ CROWD_LIMIT)) (λ e. sum_at asker n owed e ≤ CROWD_LIMIT) by rows (both at rows fits short))
    where
      by : (e : ℕ × Row) → (e.0 ≤ at → sum_at asker n owed e ≤ CROWD_LIMIT) × (length e.1.queue.bytes ≤ CROWD_LIMIT) → sum_at asker n owed e ≤ CROWD_LIMIT
      by e h = placed (up_to asker owed at e.0 none)
        where
          placed : (e.0 ≤ at) ⊎ GetsNothing asker owed e.0 → sum_at asker n owed e ≤ CROWD_LIMIT
          placed (inl low) = h.0 low
          placed (inr nothing) = fits_nothing e nothing h.1
