-- Places in a list, and what is at them.
use Rattle.std.specs.Prelude.{◌≡◌, ℕ, zero, suc, ◌+◌, ◌<◌, Bool, true, false, ◌||◌, cond, List, [], ◌∷◌, ◌++◌, length, filter, take, Some, slice_get}
use Rattle.std.specs.List.{list_any, cons_option}
use Rattle.std.proofs.Common.{refl, sym, ap, ◌∙◌, arith, get_or, append-nil, All}
use Rattle.std.proofs.lemmas.List.{take_more}
use Rattle.std.proofs.lemmas.List.Elements.{All-push, filter_map-append, filter_more}
use Rattle.std.proofs.lemmas.List.Folds.{list_any-append}
use Rattle.std.proofs.lemmas.Option.{slice_get-get_or}
use Rattle.watch_table.specs.Tables.{Made, at_each, watch_of}

-- some watch, for places where there is none
abbrev pub no_watch : Made
no_watch = record { watch = watch_of [] []; domid = 0 }

pub there : (ms : List Made) (i : ℕ) → i < length ms → slice_get ms i ≡ Some (get_or ms i no_watch)
there ms i h = slice_get-get_or ms i no_watch h

module _ (test : Made → Bool) (ms : List Made) (i : ℕ) (within : i < length ms) where
  -- the place joins those so far, if the test holds there
  pub place_step : (ps : List ℕ) → at_each ps ms ≡ filter test (take i ms) → at_each (cond (test (get_or ms i no_watch)) (ps ++ i ∷ []) ps) ms ≡ filter test (take (i + 1) ms)
  place_step ps h = by (test (get_or ms i no_watch)) ∙ sym (filter_more test ms i no_watch within)
    where
      by : (b : Bool) → at_each (cond b (ps ++ i ∷ []) ps) ms ≡ filter test (take i ms) ++ cond b (get_or ms i no_watch ∷ []) []
      by true = filter_map-append (λ p. slice_get ms p) ps (i ∷ []) ∙ (λ j. h j ++ cons_option (there ms i within j) [])
      by false = h ∙ sym (append-nil (filter test (take i ms)))

  pub within_step : (ps : List ℕ) (b : Bool) → All (λ p. p < length ms) ps → All (λ p. p < length ms) (cond b (ps ++ i ∷ []) ps)
  within_step ps true h = All-push (λ p. p < length ms) ps i h within
  within_step ps false h = h

  pub none_past : list_any test (take i ms) ≡ false → test (get_or ms i no_watch) ≡ false → list_any test (take (i + 1) ms) ≡ false
  none_past h t =
      ap (list_any test) (take_more ms i no_watch within) ∙ list_any-append test (take i ms) (get_or ms i no_watch ∷ [])
      ∙ (λ j. h j || (t j || false))

pub any_at : (test : Made → Bool) (ms : List Made) (i : ℕ) → i < length ms → test (get_or ms i no_watch) ≡ true → list_any test ms ≡ true
any_at test [] i h t = absurd (omega arith)
any_at test (m ∷ ms) zero h t = ap (λ b. b || list_any test ms) t
any_at test (m ∷ ms) (suc i) h t = by (test m) (any_at test ms i (omega (arith, h)) t)
  where
    by : (b : Bool) → list_any test ms ≡ true → (b || list_any test ms) ≡ true
    by true e = refl
    by false e = e
