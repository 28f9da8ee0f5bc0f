-- What the watches of one connection are told.
use Rattle.std.specs.Prelude.{◌≡◌, ◌≤◌, ℕ, zero, suc, Bool, true, false, cond, nat_lt, List, [], ◌∷◌, length, drop, map, filter, Option, Some, None, IfSome, Ok, slice_get, option_map}
use Rattle.std.specs.Borrow.{Bor}
use Rattle.std.specs.List.{AllByRecursion, flat_map}
use Rattle.std.specs.Option.{option_to_list}
use Rattle.std.specs.Str.{bytes_eq}
use Rattle.std.specs.Cmp.Lexicographic.{bytes_decides}
use Rattle.std.proofs.Common.{sym, refl, ap, ◌∙◌, subst, ltb-false, append-nil, length-drop, arith}
use Rattle.std.proofs.lemmas.Bool.{not-true}
use Rattle.xs_model.specs.declared.perm.Perm.{Perm}
use Rattle.xs_model.specs.Paths.{Path, path_of, text}
use Rattle.xs_model.specs.Messages.{Message, message_bytes}
use Rattle.xs_model.specs.Perms.{Caller, rights_of}
use Rattle.xs_model.specs.Requests.{is_token}
use Rattle.xs_model.specs.Watches.{Watch, Event, matches, named_path, event_message, first_event, owed, special_owed}
use Rattle.xs_model.proofs.LengthLemmas.{spelled-short, watch_path-short}
use Rattle.xs_model.proofs.Maps.{from_Some, not_Some}
use Rattle.watch_table.specs.Tables.{Made, watch_of, watches_in, is_reached, at_each, IsAskable}
use Rattle.watch_events.specs.Told.{told, watch_at, told_at, Fit}

-- AT A PLACE. What the watch there is told, by its parts and by the name that the path has for it
module _ (domid : ℕ) (p : Path) (made : List Made) (place : ℕ) (wpath token name : List ℕ) where
  one : Some (watch_of wpath token) ≡ watch_at made place → name ≡ named_path domid (watch_of wpath token) p → event_message name token ∷ [] ≡ told_at domid p made place
  one is named = ap (λ n. event_message n token ∷ []) named ∙ ap (λ o. option_to_list (option_map (told domid p) o)) is

  pub told_one : Some (watch_of wpath token) ≡ watch_at made place → name ≡ named_path domid (watch_of wpath token) p
      → message_bytes (event_message name token) ≡ flat_map message_bytes (told_at domid p made place)
  told_one is named = sym (append-nil (message_bytes (event_message name token))) ∙ ap (flat_map message_bytes) (one is named)

  pub listed_one : Some (watch_of wpath token) ≡ watch_at made place → name ≡ named_path domid (watch_of wpath token) p
      → message_bytes (event_message name token) ∷ [] ≡ map message_bytes (told_at domid p made place)
  listed_one is named = ap (map message_bytes) (one is named)

-- SIZES. The text of a path
pub text_short : (bytes : List ℕ) (p : Path) → path_of bytes 0 ≡ Ok p → bytes ≡ text p → length bytes ≤ 3072
text_short bytes p read is = subst (λ (l : List ℕ). length l ≤ 3072) (sym is) (spelled-short bytes 0 p read)

pub rest_short : (bytes rest : List ℕ) (n : ℕ) → length bytes ≤ 3072 → rest ≡ drop n bytes → length rest ≤ 3072
rest_short bytes rest n short is = omega (arith, ap (λ (l : List ℕ). length l) is, length-drop n bytes)

-- the parts of a watch that may be asked for fit in a message
askable_at : (made : List Made) (place : ℕ) (m : Made) → AllByRecursion IsAskable made → slice_get made place ≡ Some m → IsAskable m
askable_at [] place m all h = not_Some h
askable_at (n ∷ made) zero m all h = subst IsAskable (from_Some h) all.0
askable_at (n ∷ made) (suc place) m all h = askable_at made place m all.1 h

token_short : (token : List ℕ) → is_token token ≡ true → length token ≤ 1022
token_short token h = ltb-false 1022 (length token) (not-true (nat_lt 1022 (length token)) h)

abbrev part_of : Bor (List ℕ) × Bor (List ℕ) → Watch
part_of parts = watch_of parts.0.now parts.1.now

pub fit_at : (made : List Made) (place : ℕ) (parts : Option (Bor (List ℕ) × Bor (List ℕ))) → AllByRecursion IsAskable made → option_map part_of parts ≡ watch_at made place → IfSome parts Fit
fit_at made place None all h = tt
fit_at made place (Some parts) all h = by (slice_get made place) refl h
  where
    by : (o : Option Made) → slice_get made place ≡ o → Some (part_of parts) ≡ option_map (λ m. m.watch) o → Fit parts
    by None at is = not_Some (sym is)
    by (Some m) at is =
        let askable = askable_at made place m all at in
        let same : part_of parts ≡ m.watch = from_Some is in
        record {
          wpath = subst (λ (w : Watch). length w.wpath ≤ 3072) (sym same) (watch_path-short m.watch.wpath m.domid askable.wpath);
          token = subst (λ (w : Watch). length w.token ≤ 1022) (sym same) (token_short m.watch.token askable.token);
        }

-- REACHED. The watches that an event reaches, by the domain of each and by that of all
module _ (domid : ℕ) (event : Event) where
  reached_by : (b : Bool) (m : Made) (ws : List Watch) (ms : List Made) → ws ≡ watches_in ms → cond b (m.watch ∷ ws) ws ≡ watches_in (cond b (m ∷ ms) ms)
  reached_by true m ws ms more = ap (λ l. m.watch ∷ l) more
  reached_by false m ws ms more = more

  pub reached_watches : (made : List Made) → AllByRecursion (λ m. m.domid ≡ domid) made → filter (matches domid event) (watches_in made) ≡ watches_in (filter (is_reached event) made)
  reached_watches [] all = refl
  reached_watches (m ∷ made) all =
      reached_by (matches domid event m.watch) m (filter (matches domid event) (watches_in made)) (filter (is_reached event) made) (reached_watches made all.1)
      ∙ ap (λ d. watches_in (cond (matches d event m.watch) (m ∷ filter (is_reached event) made) (filter (is_reached event) made))) (sym all.0)

-- what is owed to a caller that may read
pub owed_read : (caller : Caller) (made : List Made) (event : Event) (perms : List Perm) (places : List ℕ) → (rights_of caller perms).can_read ≡ true → AllByRecursion (λ m. m.domid ≡ caller.domid) made
    → at_each places made ≡ filter (is_reached event) made → map (told caller.domid event.path) (watches_in (at_each places made)) ≡ owed caller (watches_in made) event perms
owed_read caller made event perms places h all at =
    ap (λ (ms : List Made). map (told caller.domid event.path) (watches_in ms)) at
    ∙ ap (map (told caller.domid event.path)) (sym (reached_watches caller.domid event made all))
    ∙ ap (λ b. cond b (map (told caller.domid event.path) (filter (matches caller.domid event) (watches_in made))) []) (sym h)

-- SPECIAL
module _ (special : List ℕ) where
  abbrev hears : Made → Bool
  hears m = bytes_eq m.watch.wpath special

  abbrev told_special : List Watch → List Message
  told_special ws = map (λ w. event_message special w.token) ws

  special_by : (b : Bool) (m : Made) (ms : List Made) (ws : List Watch) → hears m ≡ b → map first_event (watches_in ms) ≡ told_special ws
      → map first_event (watches_in (cond b (m ∷ ms) ms)) ≡ told_special (cond b (m.watch ∷ ws) ws)
  special_by true m ms ws h more =
      let same : first_event m.watch ≡ event_message special m.watch.token = ap (λ s. event_message s m.watch.token) ((bytes_decides m.watch.wpath special).0 h) in
      λ i. same i ∷ more i
  special_by false m ms ws h more = more

  special_watches : (made : List Made) → map first_event (watches_in (filter hears made)) ≡ told_special (filter (λ w. bytes_eq w.wpath special) (watches_in made))
  special_watches [] = refl
  special_watches (m ∷ made) = special_by (hears m) m (filter hears made) (filter (λ w. bytes_eq w.wpath special) (watches_in made)) refl (special_watches made)

  -- what is owed to domain 0, from its watches at some places
  pub special_read : (domid : ℕ) (target : Option ℕ) (made : List Made) (places listed bytes : List ℕ) → domid ≡ 0 → listed ≡ places → at_each places made ≡ filter hears made
      → bytes ≡ flat_map message_bytes (map first_event (watches_in (at_each listed made)))
      → bytes ≡ flat_map message_bytes (special_owed (record { domid = domid; target = target }) (watches_in made) special)
  special_read domid target made places listed bytes zero_is same at is =
      is
      ∙ ap (λ (ps : List ℕ). flat_map message_bytes (map first_event (watches_in (at_each ps made)))) same
      ∙ ap (λ (ms : List Made). flat_map message_bytes (map first_event (watches_in ms))) at
      ∙ ap (flat_map message_bytes) (special_watches made)
      ∙ ap (λ (d : ℕ). flat_map message_bytes (special_owed (record { domid = d; target = target }) (watches_in made) special)) (sym zero_is)
