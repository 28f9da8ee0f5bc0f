-- Watches fit the fields of their records, and are written one by one.
use Rattle.std.proofs.Common.{◌≡◌, ℕ, zero, suc, ◌+◌, ◌≤◌, ◌<◌, List, [], ◌∷◌, ◌++◌, length, take, get_or, Some, sym, ap, subst, ◌∙◌, ltb-false}
use Rattle.std.specs.Prelude.{nat_lt, slice_get}
use Rattle.std.specs.Option.{option_map}
use Rattle.std.specs.List.{AllByRecursion, flat_map}
use Rattle.std.proofs.lemmas.Bool.{not-true}
use Rattle.std.proofs.lemmas.List.Folds.{flat_map-map}
use Rattle.xs_model.specs.Watches.{Watch}
use Rattle.xs_model.proofs.Maps.{from_Some, not_Some}
use Rattle.xs_model.proofs.LengthLemmas.{watch_path-short}
use Rattle.stream_model.specs.Spelling.{canonical_record}
use Rattle.kept_model.specs.Images.{watch_record}
use Rattle.watch_table.specs.Tables.{Made, IsAskable, watches_in}
use Rattle.mig_records.proofs.Written.{text_more}
use Rattle.mig_save.specs.Texts.{watches_text}

pub record IsShort (w : Watch) : Type 0 where
  pub wpath : length w.wpath ≤ 3072
  pub token : length w.token ≤ 1022

askable : (m : Made) → IsAskable m → IsShort m.watch
askable m is = record {
  wpath = watch_path-short m.watch.wpath m.domid is.wpath;
  token = ltb-false 1022 (length m.watch.token) (not-true (nat_lt 1022 (length m.watch.token)) is.token);
}

pub short_at : (made : List Made) (place : ℕ) (w : Watch) → AllByRecursion IsAskable made → Some w ≡ option_map (λ (m : Made). m.watch) (slice_get made place) → IsShort w
short_at [] place w all is = not_Some (sym is)
short_at (m ∷ made) zero w all is = subst IsShort (sym (from_Some is)) (askable m all.0)
short_at (m ∷ made) (suc place) w all is = short_at made place w all.1 is

module _ (c : ℕ) where
  abbrev pub made_text : Made → List ℕ
  made_text m = canonical_record (watch_record c m.watch)

  pub as_made : (made : List Made) → watches_text c (watches_in made) ≡ flat_map made_text made
  as_made made = flat_map-map (λ (w : Watch). canonical_record (watch_record c w)) (λ (m : Made). m.watch) made

  pub watches_more : (before out now : List ℕ) (made : List Made) (i : ℕ) (d : Made) → i < length made → out ≡ before ++ watches_text c (watches_in (take i made))
      → now ≡ out ++ canonical_record (watch_record c (get_or made i d).watch) → now ≡ before ++ watches_text c (watches_in (take (i + 1) made))
  watches_more before out now made i d lt so_far more =
      text_more made_text before out now made i d lt (so_far ∙ ap (λ (x : List ℕ). before ++ x) (as_made (take i made))) more
      ∙ ap (λ (x : List ℕ). before ++ x) (sym (as_made (take (i + 1) made)))
