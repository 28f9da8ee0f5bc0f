-- The watches that entries stand for.
use Rattle.std.specs.Prelude.{◌≡◌, ℕ, zero, suc, ◌<◌, ◌≤◌, ◌^◌, Bool, true, false, not, ◌||◌, cond, List, [], ◌∷◌, ◌++◌, length, nat_lt, filter, Option, Some, None, slice_get}
use Rattle.std.specs.Option.{option_map}
use Rattle.std.specs.Global.{Vec}
use Rattle.std.specs.List.{list_any, AllByRecursion, IsDistinct}
use Rattle.std.specs.Map.{keys_of}
use Rattle.std.specs.Str.{bytes_eq}
use Rattle.std.proofs.Common.{refl, sym, ap, subst, ◌∙◌, arith, ltb-false}
use Rattle.std.proofs.lemmas.Option.{none-some, same_Some, slice_get-map}
use Rattle.xs_model.proofs.LengthLemmas.{watch_path-short}
use Rattle.std.proofs.lemmas.Bool.{not-true}
use Rattle.xs_model.specs.Paths.{Path}
use Rattle.xs_model.specs.Watches.{Watch, same_watch}
use Rattle.watch_table.specs.Tables.{Made, watches_in, watched_node, IsAskable, AreMade}
use Rattle.watch_table.specs.Keys.{joined, watch_in}
use Rattle.watch_table.specs.Entries.{Entry, made_of, made_in, IsKept}
use Rattle.watch_table.proofs.KeyLemmas.{joined-length, parted, same_key, same_parts}
use Rattle.watch_table.proofs.EntryLemmas.{one_key}

abbrev pub key_of : Vec ℕ → List ℕ
key_of v = v.items

-- a short watch's path has a length of two bytes
short_path : (w : Watch) → length (joined w) ≤ 4096 → length w.wpath < 2 ^ 16
short_path w h = omega (arith, joined-length w, h)

kept_short : (e : Entry) → IsKept e → length (joined (watch_in e.0.items)) ≤ 4096
kept_short e k = omega (arith, ap length k.key.parts, k.key.fits)

-- whether a key is that of a watch
pub same_entry : (w : Watch) (e : Entry) → length (joined w) ≤ 4096 → IsKept e → bytes_eq (joined w) e.0.items ≡ same_watch w (made_of e).watch
same_entry w e h k =
    ap (bytes_eq (joined w)) k.key.parts ∙ same_key w (watch_in e.0.items) (short_path w h) (short_path (watch_in e.0.items) (kept_short e k))

pub any_made : (w : Watch) (es : List Entry) → length (joined w) ≤ 4096 → AllByRecursion IsKept es → list_any (λ e. bytes_eq (joined w) e.0.items) es ≡ list_any (same_watch w) (watches_in (made_in es))
any_made w [] h k = refl
any_made w (e ∷ es) h k = λ i. same_entry w e h k.0 i || any_made w es h k.1 i

pub filter_made : (w : Watch) (es : List Entry) → length (joined w) ≤ 4096 → AllByRecursion IsKept es
    → made_in (filter (λ e. not (bytes_eq (joined w) e.0.items)) es) ≡ filter (λ m. not (same_watch w m.watch)) (made_in es)
filter_made w [] h k = refl
filter_made w (e ∷ es) h k =
    elim (bytes_eq (joined w) e.0.items) as (λ b. made_in (cond (not b) (e ∷ filter (λ x. not (bytes_eq (joined w) x.0.items)) es) (filter (λ x. not (bytes_eq (joined w) x.0.items)) es))
    ≡ cond (not b) (made_of e ∷ made_in (filter (λ x. not (bytes_eq (joined w) x.0.items)) es)) (made_in (filter (λ x. not (bytes_eq (joined w) x.0.items)) es))) [ true ↦ refl | false ↦ refl ]
    ∙ (λ i. cond (not (same_entry w e h k.0 i)) (made_of e ∷ filter_made w es h k.1 i) (filter_made w es h k.1 i))

-- the same by the key that a watch has
module _ (w : Watch) (q : List ℕ) (es : List Entry) (is : q ≡ joined w) (fits : length q ≤ 4096) (kept : AllByRecursion IsKept es) where
  fitting : length (joined w) ≤ 4096
  fitting = omega (arith, ap length is, fits)

  pub found_by : list_any (λ e. bytes_eq q e.0.items) es ≡ list_any (same_watch w) (watches_in (made_in es))
  found_by = ap (λ (k : List ℕ). list_any (λ e. bytes_eq k e.0.items) es) is ∙ any_made w es fitting kept

  pub left_by : made_in (filter (λ e. not (bytes_eq q e.0.items)) es) ≡ filter (λ m. not (same_watch w m.watch)) (made_in es)
  left_by = ap (λ (k : List ℕ). made_in (filter (λ e. not (bytes_eq k e.0.items)) es)) is ∙ filter_made w es fitting kept

-- no watch is kept that is longer
not_long : (w : Watch) (e : Entry) → 4096 < length (joined w) → IsKept e → same_watch w (made_of e).watch ≡ false
not_long w e h k = by (same_watch w (made_of e).watch) refl
  where
    by : (b : Bool) → same_watch w (made_of e).watch ≡ b → b ≡ false
    by true s = absurd (omega (arith, h, kept_short e k, ap (λ (x : Watch). length (joined x)) (same_parts w (made_of e).watch s)))
    by false s = refl

pub none_long : (w : Watch) (es : List Entry) → 4096 < length (joined w) → AllByRecursion IsKept es → list_any (same_watch w) (watches_in (made_in es)) ≡ false
none_long w [] h k = refl
none_long w (e ∷ es) h k = λ i. not_long w e h k.0 i || none_long w es h k.1 i

pub all_stay_long : (w : Watch) (es : List Entry) → 4096 < length (joined w) → AllByRecursion IsKept es → filter (λ m. not (same_watch w m.watch)) (made_in es) ≡ made_in es
all_stay_long w [] h k = refl
all_stay_long w (e ∷ es) h k = λ i. cond (not (not_long w e h k.0 i)) (made_of e ∷ all_stay_long w es h k.1 i) (all_stay_long w es h k.1 i)

-- what holds of each entry
pub all_filter : {X : Type 0} (P : X → Type 0) (test : X → Bool) (xs : List X) → AllByRecursion P xs → AllByRecursion P (filter test xs)
all_filter P test [] h = h
all_filter P test (x ∷ xs) h =
    elim (test x) as (λ b. AllByRecursion P (cond b (x ∷ filter test xs) (filter test xs))) [ true ↦ (h.0, all_filter P test xs h.1) | false ↦ all_filter P test xs h.1 ]

pub all_push : {X : Type 0} (P : X → Type 0) (xs : List X) (y : X) → AllByRecursion P xs → P y → AllByRecursion P (xs ++ y ∷ [])
all_push P [] y h p = (p, tt)
all_push P (x ∷ xs) y h p = (h.0, all_push P xs y h.1 p)

pub all_at : {X : Type 0} (P : X → Type 0) (xs : List X) (i : ℕ) (x : X) → AllByRecursion P xs → slice_get xs i ≡ Some x → P x
all_at P [] i x h s = absurd (none-some x s)
all_at P (y ∷ ys) zero x h s = subst P (same_Some y x s) h.0
all_at P (y ∷ ys) (suc i) x h s = all_at P ys i x h.1 s

-- the watch at a place is that of the entry there
at_place : (es : List Entry) (i : ℕ) (e : Entry) (m : Made) → slice_get es i ≡ Some e → slice_get (made_in es) i ≡ Some m → made_of e ≡ m
at_place es i e m at h = same_Some (made_of e) m (ap (option_map made_of) (sym at) ∙ sym (slice_get-map made_of es i) ∙ h)

pub node_at : (es : List Entry) (i : ℕ) (e : Entry) (m : Made) → AllByRecursion IsKept es → slice_get es i ≡ Some e → slice_get (made_in es) i ≡ Some m → e.1.watched ≡ watched_node m
node_at es i e m k at h = (all_at IsKept es i e k at).watched ∙ ap watched_node (at_place es i e m at h)

pub none_at : (es : List Entry) (i : ℕ) (m : Made) → slice_get es i ≡ None → slice_get (made_in es) i ≡ Some m → ⊥
none_at es i m at h = none-some m (ap (option_map made_of) (sym at) ∙ sym (slice_get-map made_of es i) ∙ h)

-- A WATCH THAT IS ADDED
pub askable_fits : (m : Made) → IsAskable m → length (joined m.watch) ≤ 4096
askable_fits m a =
    omega (
      arith,
      joined-length m.watch,
      watch_path-short m.watch.wpath m.domid a.wpath,
      ltb-false 1022 (length m.watch.token) (not-true (nat_lt 1022 (length m.watch.token)) a.token),
    )

module _ (w : Watch) (domid : ℕ) (key : Vec ℕ) (is : key.items ≡ joined w) (askable : IsAskable (record { watch = w; domid = domid })) where
  fitting_new : length (joined w) ≤ 4096
  fitting_new = askable_fits (record { watch = w; domid = domid }) askable

  parted_new : watch_in key.items ≡ w
  parted_new = ap watch_in is ∙ parted w (short_path w fitting_new)

  pub made_new : (watched : Option Path) → made_of (key, record { domid = domid; watched = watched }) ≡ record { watch = w; domid = domid }
  made_new watched = ap (λ (v : Watch). record { watch = v; domid = domid }) parted_new

  pub kept_new : (watched : Option Path) → watched ≡ watched_node (record { watch = w; domid = domid }) → IsKept (key, record { domid = domid; watched = watched })
  kept_new watched on =
      record {
        key = record { parts = is ∙ ap joined (sym parted_new); fits = omega (arith, ap length is, fitting_new) };
        askable = subst (λ (v : Watch). IsAskable (record { watch = v; domid = domid })) (sym parted_new) askable;
        watched = on ∙ ap (λ (v : Watch). watched_node (record { watch = v; domid = domid })) (sym parted_new);
      }

-- entries whose keys differ are different watches
askable_in : (es : List Entry) → AllByRecursion IsKept es → AllByRecursion IsAskable (made_in es)
askable_in [] k = tt
askable_in (e ∷ es) k = (k.0.askable, askable_in es k.1)

apart : (e : Entry) (es : List Entry) → IsKept e → AllByRecursion IsKept es → AllByRecursion (λ y. one_key key_of e.0 y ≡ false) (keys_of es) → AllByRecursion (λ w. same_watch (made_of e).watch w ≡ false) (watches_in (made_in es))
apart e [] k ks h = tt
apart e (f ∷ fs) k ks h =
    (sym (same_entry (made_of e).watch f (kept_short e k) ks.0) ∙ ap (λ (key : List ℕ). bytes_eq key f.0.items) (sym k.key.parts) ∙ h.0, apart e fs k ks.1 h.1)

distinct_in : (es : List Entry) → AllByRecursion IsKept es → IsDistinct (one_key key_of) (keys_of es) → IsDistinct same_watch (watches_in (made_in es))
unfolding IsDistinct
distinct_in [] k d = tt
distinct_in (e ∷ es) k d = (apart e es k.0 k.1 d.0, distinct_in es k.1 d.1)

pub are_made : (es : List Entry) → AllByRecursion IsKept es → IsDistinct (one_key key_of) (keys_of es) → AreMade (made_in es)
are_made es k d = record { each = askable_in es k; distinct = distinct_in es k d }
