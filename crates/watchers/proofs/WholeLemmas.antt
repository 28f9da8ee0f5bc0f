-- What connections are owed is whole messages.
use Rattle.std.specs.Prelude.{◌≡◌, ◌≤◌, ◌+◌, ◌==◌, ℕ, Bool, true, false, cond, nat_lt, List, [], ◌∷◌, length, drop, map, filter, flat_map}
use Rattle.std.specs.List.{AllByRecursion}
use Rattle.std.specs.Str.{bytes_eq}
use Rattle.std.specs.Cmp.Lexicographic.{bytes_decides}
use Rattle.std.proofs.Common.{refl, ap, arith, length-append, length-drop, ltb-false}
use Rattle.std.proofs.lemmas.Bool.{not-true}
use Rattle.xs_model.specs.declared.perm.Perm.{Perm}
use Rattle.xs_model.specs.Paths.{Path, text, home, is_absolute}
use Rattle.xs_model.specs.Perms.{Caller, rights_of}
use Rattle.xs_model.specs.Messages.{Message, message_bytes, header_for, string}
use Rattle.xs_model.specs.Watches.{Watch, Event, matches, named_path, event_message, owed, special_owed, first_event}
use Rattle.xs_model.specs.Wholes.{whole_behind}
use Rattle.xs_model.specs.Laws.{IsShort}
use Rattle.xs_model.proofs.LengthLemmas.{watch_path-short}
use Rattle.machine_model.proofs.Lists.{all_map_of, all_filter, contained}
use Rattle.out_queues.proofs.MessageLemmas.{whole_behind-append}
use Rattle.out_queues.proofs.LawLemmas.{written_is_whole}
use Rattle.watch_table.specs.Tables.{Made, watches_in, IsAskable}

abbrev HasShortPayload : Message → Type 0
HasShortPayload m = length m.payload ≤ 4096

whole_one : (m : Message) → HasShortPayload m → whole_behind 0 (message_bytes m) ≡ true
whole_one m short = written_is_whole (header_for m) m.payload refl short

whole_each : (ms : List Message) → AllByRecursion HasShortPayload ms → whole_behind 0 (flat_map message_bytes ms) ≡ true
whole_each [] h = refl
whole_each (m ∷ ms) h = whole_behind-append 0 (message_bytes m) (flat_map message_bytes ms) (whole_one m h.0) (whole_each ms h.1)

payload_short : (path token : List ℕ) → length path + length token + 2 ≤ 4096 → HasShortPayload (event_message path token)
payload_short path token h = omega (arith, length-append (string path) (string token), length-append path (0 ∷ []), length-append token (0 ∷ []))

-- the first event of a watch
pub whole_first : (w : Watch) → length w.wpath + length w.token + 2 ≤ 4096 → whole_behind 0 (message_bytes (first_event w)) ≡ true
whole_first w h = whole_one (first_event w) (payload_short w.wpath w.token h)

-- the parts of a watch that was asked for
record Fits (w : Watch) : Type 0 where
  wpath : length w.wpath ≤ 3072
  token : length w.token ≤ 1022

fits_each : (made : List Made) → AllByRecursion IsAskable made → AllByRecursion Fits (watches_in made)
fits_each [] h = tt
fits_each (m ∷ made) h = (
  record {
    wpath = watch_path-short m.watch.wpath m.domid h.0.wpath;
    token = ltb-false 1022 (length m.watch.token) (not-true (nat_lt 1022 (length m.watch.token)) h.0.token);
  },
  fits_each made h.1,
)

named_short : (domid : ℕ) (w : Watch) (p : Path) → IsShort p → length (named_path domid w p) ≤ 3072
named_short domid w p h = by (is_absolute w.wpath)
  where
    by : (b : Bool) → length (cond b (text p) (drop (length (text (home domid)) + 1) (text p))) ≤ 3072
    by true = h
    by false = omega (arith, length-drop (length (text (home domid)) + 1) (text p))

-- what an event owes
module _ (caller : Caller) (made : List Made) (askable : AllByRecursion IsAskable made) where
  pub whole_event : (event : Event) (perms : List Perm) → IsShort event.path → whole_behind 0 (flat_map message_bytes (owed caller (watches_in made) event perms)) ≡ true
  whole_event event perms short = by (rights_of caller perms).can_read
    where
      fits : AllByRecursion Fits (watches_in made)
      fits = fits_each made askable

      short_one : (w : Watch) → Fits w → HasShortPayload (event_message (named_path caller.domid w event.path) w.token)
      short_one w f = payload_short (named_path caller.domid w event.path) w.token (omega (arith, named_short caller.domid w event.path short, f.token))

      by : (b : Bool) → whole_behind 0 (flat_map message_bytes (cond b (map (λ w. event_message (named_path caller.domid w event.path) w.token) (filter (matches caller.domid event) (watches_in made))) [])) ≡ true
      by false = refl
      by true = whole_each _
          (all_map_of HasShortPayload (λ w. event_message (named_path caller.domid w event.path) w.token) (filter (matches caller.domid event) (watches_in made))
          (all_filter (λ w. HasShortPayload (event_message (named_path caller.domid w event.path) w.token)) (matches caller.domid event) (watches_in made)
          (λ w among match. short_one w (contained Fits (watches_in made) w fits among))))

  pub whole_special : (special : List ℕ) → whole_behind 0 (flat_map message_bytes (special_owed caller (watches_in made) special)) ≡ true
  whole_special special = by (caller.domid == 0)
    where
      fits : AllByRecursion Fits (watches_in made)
      fits = fits_each made askable

      short_one : (w : Watch) → Fits w → bytes_eq w.wpath special ≡ true → HasShortPayload (event_message special w.token)
      short_one w f same =
          let is : w.wpath ≡ special = (bytes_decides w.wpath special).0 same in
          payload_short special w.token (omega (arith, ap (λ (bs : List ℕ). length bs) is, f.wpath, f.token))

      by : (b : Bool) → whole_behind 0 (flat_map message_bytes (cond b (map (λ w. event_message special w.token) (filter (λ w. bytes_eq w.wpath special) (watches_in made))) [])) ≡ true
      by false = refl
      by true = whole_each _
          (all_map_of HasShortPayload (λ w. event_message special w.token) (filter (λ w. bytes_eq w.wpath special) (watches_in made))
          (all_filter (λ w. HasShortPayload (event_message special w.token)) (λ w. bytes_eq w.wpath special) (watches_in made)
          (λ w among match. short_one w (contained Fits (watches_in made) w fits among) match)))
