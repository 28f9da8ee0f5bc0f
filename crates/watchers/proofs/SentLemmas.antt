-- What a change or a special event sends to one connection of a table, by what single events owe to it.
use Rattle.std.specs.Prelude.{◌≡◌, ◌<◌, ◌≤◌, ◌==◌, ◌||◌, ℕ, Bool, true, false, cond, not, List, [], ◌∷◌, ◌++◌, length, filter, flat_map, take, Option, Some, None, slice_index_or}
use Rattle.std.specs.List.{AllByRecursion, list_any}
use Rattle.std.specs.Ordering.{nat_cmp, eq_by_cmp, is_lt}
use Rattle.std.specs.Cmp.{unsigned_tied}
use Rattle.std.specs.FinMap.{find, is_sorted}
use Rattle.std.specs.FinMap.Entries.{below_all}
use Rattle.std.proofs.Common.{refl, sym, ap, subst, ◌∙◌, arith, append-nil, append_assoc, eqb-true, ne_eqb}
use Rattle.std.proofs.lemmas.Bool.{and_parts}
use Rattle.std.proofs.lemmas.Bool.Decides.{nat_tests}
use Rattle.std.proofs.lemmas.Grind.{flat_map-append}
use Rattle.std.proofs.lemmas.List.{take_all}
use Rattle.std.proofs.lemmas.List.Folds.{flat_map-map}
use Rattle.xs_model.specs.declared.perm.Perm.{Perm}
use Rattle.xs_model.specs.Paths.{Path}
use Rattle.xs_model.specs.Trees.{Tree, is_present}
use Rattle.xs_model.specs.Perms.{Caller, rights_of}
use Rattle.xs_model.specs.Messages.{Message, message_bytes}
use Rattle.xs_model.specs.Watches.{Watch, Event, event_at, events, event_perms, same_watch, in_order, is_gone_with_parent, owed, special_owed}
use Rattle.xs_model.proofs.Maps.{from_Some, not_Some, not_both}
use Rattle.machine_model.specs.declared.ConnSpec.{ConnSpec}
use Rattle.machine_model.specs.Connections.{Connection, caller_of}
use Rattle.machine_model.specs.Machine.{Send, owed_events, sends_to, change_sends, special_sends}
use Rattle.machine_model.specs.History.{sent_to}
use Rattle.machine_model.proofs.Lists.{all_filter_map, contained}
use Rattle.conn_table.specs.Tables.{Specs}
use Rattle.watch_table.specs.Tables.{Made, watches_in}
use Rattle.watchers.specs.Watched.{Watched, or_none, watches_of, watching, conns_of, AreOwn}
use Rattle.watchers.specs.Owing.{if_found, event_bytes, special_bytes}

-- SENT TO ONE
sent_by : (c : ℕ) (b : Bool) (x : Send) (xs ys both : List Send) → flat_map (λ (s : Send). message_bytes s.1) both ≡ flat_map (λ (s : Send). message_bytes s.1) xs ++ flat_map (λ (s : Send). message_bytes s.1) ys
    → flat_map (λ (s : Send). message_bytes s.1) (cond b (x ∷ both) both) ≡ flat_map (λ (s : Send). message_bytes s.1) (cond b (x ∷ xs) xs) ++ flat_map (λ (s : Send). message_bytes s.1) ys
sent_by c true x xs ys both h = ap (λ l. message_bytes x.1 ++ l) h ∙ sym (append_assoc (message_bytes x.1) (flat_map (λ (s : Send). message_bytes s.1) xs) (flat_map (λ (s : Send). message_bytes s.1) ys))
sent_by c false x xs ys both h = h

sent_more : (c : ℕ) (xs ys : List Send) → sent_to c (xs ++ ys) ≡ sent_to c xs ++ sent_to c ys
sent_more c [] ys = refl
sent_more c (x ∷ xs) ys = sent_by c (c == x.0) x (filter (λ (s : Send). c == s.0) xs) (filter (λ (s : Send). c == s.0) ys) (filter (λ (s : Send). c == s.0) (xs ++ ys)) (sent_more c xs ys)

module _ (c k : ℕ) where
  sent_same : (c == k) ≡ true → (ms : List Message) → sent_to c (sends_to k ms) ≡ flat_map message_bytes ms
  sent_same is [] = refl
  sent_same is (m ∷ ms) =
      ap (λ b. flat_map (λ (s : Send). message_bytes s.1) (cond b ((k, m) ∷ filter (λ (s : Send). c == s.0) (sends_to k ms)) (filter (λ (s : Send). c == s.0) (sends_to k ms)))) is
      ∙ ap (λ l. message_bytes m ++ l) (sent_same is ms)

  sent_other : (c == k) ≡ false → (ms : List Message) → sent_to c (sends_to k ms) ≡ []
  sent_other is [] = refl
  sent_other is (m ∷ ms) =
      ap (λ b. flat_map (λ (s : Send). message_bytes s.1) (cond b ((k, m) ∷ filter (λ (s : Send). c == s.0) (sends_to k ms)) (filter (λ (s : Send). c == s.0) (sends_to k ms)))) is
      ∙ sent_other is ms

-- the messages that are found for a connection, in bytes
abbrev bytes_found : Option ConnSpec → (ConnSpec → List Message) → List ℕ
bytes_found None ms = []
bytes_found (Some spec) ms = flat_map message_bytes (ms spec)

less_by : (x y : ℕ) → is_lt (nat_cmp x y) ≡ true → x < y
less_by x y h = grind (arith, nat_tests)

not_found_behind : (c : ℕ) (es : Specs) → below_all nat_cmp c es ≡ true → find nat_cmp c es ≡ None
not_found_behind c [] h = refl
not_found_behind c (e ∷ es) h =
    let parts = and_parts (is_lt (nat_cmp c e.0)) (below_all nat_cmp c es) h in
    let lt = less_by c e.0 parts.0 in
    ap (λ b. cond b (Some e.1) (find nat_cmp c es)) (unsigned_tied c e.0 ∙ ne_eqb c e.0 (λ same. omega (arith, same, lt))) ∙ not_found_behind c es parts.1

module _ (owes : ℕ → ConnSpec → List Message) (c : ℕ) where
  abbrev sends_of : ℕ × ConnSpec → List Send
  sends_of e = sends_to e.0 (owes e.0 e.1)

  sent_found : (es : Specs) → is_sorted nat_cmp es ≡ true → sent_to c (flat_map sends_of es) ≡ bytes_found (find nat_cmp c es) (owes c)
  sent_found [] h = refl
  sent_found (e ∷ es) h =
      let parts = and_parts (below_all nat_cmp e.0 es) (is_sorted nat_cmp es) h in
      sent_more c (sends_of e) (flat_map sends_of es)
      ∙ ap (λ l. sent_to c (sends_of e) ++ l) (sent_found es parts.1)
      ∙ by parts.0 (c == e.0) refl
      ∙ ap (λ b. bytes_found (cond b (Some e.1) (find nat_cmp c es)) (owes c)) (sym (unsigned_tied c e.0))
    where
      by : below_all nat_cmp e.0 es ≡ true → (b : Bool) → (c == e.0) ≡ b
          → sent_to c (sends_of e) ++ bytes_found (find nat_cmp c es) (owes c) ≡ bytes_found (cond b (Some e.1) (find nat_cmp c es)) (owes c)
      by below true is =
          let same : c ≡ e.0 = eqb-true c e.0 is in
          ap (λ o. sent_to c (sends_of e) ++ bytes_found o (owes c)) (not_found_behind c es (subst (λ i. below_all nat_cmp i es ≡ true) (sym same) below))
          ∙ append-nil (sent_to c (sends_of e)) ∙ sent_same c e.0 is (owes e.0 e.1)
          ∙ ap (λ i. flat_map message_bytes (owes i e.1)) (sym same)
      by below false is = ap (λ l. l ++ bytes_found (find nat_cmp c es) (owes c)) (sent_other c e.0 is (owes e.0 e.1))

-- EVENTS one after the other
flat_flat : {X : Type 0} (f : X → List Message) (xs : List X) → flat_map message_bytes (flat_map f xs) ≡ flat_map (λ x. flat_map message_bytes (f x)) xs
flat_flat f [] = refl
flat_flat f (x ∷ xs) = flat_map-append message_bytes (f x) (flat_map f xs) ∙ ap (λ l. flat_map message_bytes (f x) ++ l) (flat_flat f xs)

abbrev none_of : (A : Type 0) → List A
none_of A = []

flat_none : {X : Type 0} (xs : List X) → flat_map (λ (x : X). none_of ℕ) xs ≡ []
flat_none [] = refl
flat_none (x ∷ xs) = flat_none xs

-- what the events of a change owe to a connection
abbrev pub events_bytes : Tree → Tree → Specs → Watched → List Event → ℕ → List ℕ
events_bytes before after specs watched es c = flat_map (λ event. event_bytes specs watched event (event_perms before after event.path) c) es

module _ (before after : Tree) (specs : Specs) (watched : Watched) (rising : is_sorted nat_cmp specs ≡ true) (c : ℕ) where
  events_by : (es : List Event) (o : Option ConnSpec)
      → bytes_found o (λ spec. owed_events before after (caller_of spec) (watches_of c watched) es)
      ≡ flat_map (λ event. if_found o (λ caller. flat_map message_bytes (owed caller (watches_of c watched) event (event_perms before after event.path)))) es
  events_by es None = sym (flat_none es)
  events_by es (Some spec) = flat_flat (λ event. owed (caller_of spec) (watches_of c watched) event (event_perms before after event.path)) es

  pub change_sent : (written : List Path) → sent_to c (change_sends before written after (conns_of specs watched)) ≡ events_bytes before after specs watched (events before written after) c
  change_sent written =
      ap (sent_to c) (flat_map-map (λ (e : ℕ × Connection). sends_to e.0 (owed_events before after (caller_of e.1.spec) e.1.watches (events before written after))) (λ (e : ℕ × ConnSpec). (e.0, watching e.1 (watches_of e.0 watched))) specs)
      ∙ sent_found (λ k spec. owed_events before after (caller_of spec) (watches_of k watched) (events before written after)) c specs rising
      ∙ events_by (events before written after) (find nat_cmp c specs)

  special_by : (special : List ℕ) (o : Option ConnSpec)
      → bytes_found o (λ spec. special_owed (caller_of spec) (watches_of c watched) special)
      ≡ if_found o (λ caller. flat_map message_bytes (special_owed caller (watches_of c watched) special))
  special_by special None = refl
  special_by special (Some spec) = refl

  pub special_sent : (special : List ℕ) → sent_to c (special_sends special (conns_of specs watched)) ≡ special_bytes specs watched special c
  special_sent special =
      ap (sent_to c) (flat_map-map (λ (e : ℕ × Connection). sends_to e.0 (special_owed (caller_of e.1.spec) e.1.watches special)) (λ (e : ℕ × ConnSpec). (e.0, watching e.1 (watches_of e.0 watched))) specs)
      ∙ sent_found (λ k spec. special_owed (caller_of spec) (watches_of k watched) special) c specs rising
      ∙ special_by special (find nat_cmp c specs)

-- each event of a change is at a path that is there before or after it
abbrev pub IsThere : Tree → Tree → Event → Type 0
IsThere before after event = (is_present before event.path || is_present after event.path) ≡ true

there_by : (before after : Tree) (p : Path) (event : Event) (b : Bool) → (is_present before p || is_present after p) ≡ b
    → cond b (Some (record { path = p; exact = is_gone_with_parent after p })) None ≡ Some event → IsThere before after event
there_by before after p event true h e = subst (IsThere before after) (from_Some e) h
there_by before after p event false h e = not_Some e

pub event_there : (before after : Tree) (written : List Path) (k : ℕ) (event : Event) → k < length (events before written after) → slice_index_or (events before written after) k event ≡ event → IsThere before after event
event_there before after written k event within at =
    contained (IsThere before after) (events before written after) event
    (all_filter_map (IsThere before after) (event_at before after) (in_order written) (λ p e is. there_by before after p e (is_present before p || is_present after p) refl is))
    (k, within, at)

-- WITHOUT WATCHES nobody is owed anything
module _ (caller : Caller) where
  none_for_event : (event : Event) (perms : List Perm) → flat_map message_bytes (owed caller [] event perms) ≡ []
  none_for_event event perms = by (rights_of caller perms).can_read
    where
      by : (b : Bool) → flat_map message_bytes (cond b (none_of Message) (none_of Message)) ≡ []
      by true = refl
      by false = refl

module _ (specs : Specs) (watched : Watched) (c : ℕ) (none : find nat_cmp c watched ≡ None) where
  no_watches : watches_of c watched ≡ []
  no_watches = ap (λ (o : Option (List Made)). watches_in (or_none o)) none

  pub event_unwatched : (event : Event) (perms : List Perm) → event_bytes specs watched event perms c ≡ []
  event_unwatched event perms = by (find nat_cmp c specs)
    where
      by : (o : Option ConnSpec) → if_found o (λ caller. flat_map message_bytes (owed caller (watches_of c watched) event perms)) ≡ []
      by None = refl
      by (Some spec) = ap (λ (ws : List Watch). flat_map message_bytes (owed (caller_of spec) ws event perms)) no_watches ∙ none_for_event (caller_of spec) event perms

-- FOUND, with watches
module _ (specs : Specs) (watched : Watched) (c : ℕ) (spec : ConnSpec) (made : List Made) (there : find nat_cmp c specs ≡ Some spec) (watching_it : find nat_cmp c watched ≡ Some made) where
  pub event_found : (event : Event) (perms : List Perm) → event_bytes specs watched event perms c ≡ flat_map message_bytes (owed (caller_of spec) (watches_in made) event perms)
  event_found event perms =
      ap (λ (o : Option ConnSpec). if_found o (λ caller. flat_map message_bytes (owed caller (watches_of c watched) event perms))) there
      ∙ ap (λ (o : Option (List Made)). flat_map message_bytes (owed (caller_of spec) (watches_in (or_none o)) event perms)) watching_it

  pub special_found : (special : List ℕ) → special_bytes specs watched special c ≡ flat_map message_bytes (special_owed (caller_of spec) (watches_in made) special)
  special_found special =
      ap (λ (o : Option ConnSpec). if_found o (λ caller. flat_map message_bytes (special_owed caller (watches_of c watched) special))) there
      ∙ ap (λ (o : Option (List Made)). flat_map message_bytes (special_owed (caller_of spec) (watches_in (or_none o)) special)) watching_it

-- NOT FOUND
module _ (specs : Specs) (watched : Watched) (c : ℕ) (absent : find nat_cmp c specs ≡ None) where
  pub event_absent : (event : Event) (perms : List Perm) → event_bytes specs watched event perms c ≡ []
  event_absent event perms = ap (λ (o : Option ConnSpec). if_found o (λ caller. flat_map message_bytes (owed caller (watches_of c watched) event perms))) absent

  pub special_absent : (special : List ℕ) → special_bytes specs watched special c ≡ []
  special_absent special = ap (λ (o : Option ConnSpec). if_found o (λ caller. flat_map message_bytes (special_owed caller (watches_of c watched) special))) absent

-- each watch of a connection of the table is its own
pub own_watches : (specs : Specs) (c : ℕ) (made : List Made) (spec : ConnSpec) (watched : Watched) → AreOwn specs watched → find nat_cmp c watched ≡ Some made → find nat_cmp c specs ≡ Some spec → AllByRecursion (λ m. m.domid ≡ (caller_of spec).domid) made
own_watches specs c made spec [] own found there = not_Some found
own_watches specs c made spec (e ∷ es) own found there = elim (eq_by_cmp nat_cmp c e.0) as (λ b. eq_by_cmp nat_cmp c e.0 ≡ b → cond b (Some e.1) (find nat_cmp c es) ≡ Some made → AllByRecursion (λ m. m.domid ≡ (caller_of spec).domid) made) [
  | true ↦ λ t is.
      let same : c ≡ e.0 = eqb-true c e.0 (sym (unsigned_tied c e.0) ∙ t) in
      let there_too : find nat_cmp e.0 specs ≡ Some spec = ap (λ k. find nat_cmp k specs) (sym same) ∙ there in
      subst (λ ms. AllByRecursion (λ (m : Made). m.domid ≡ (caller_of spec).domid) ms) (from_Some is) (own.0 spec there_too)
  | false ↦ λ t is. own_watches specs c made spec es own.1 is there
] refl found

-- a watch that is not there is not taken away
none_by : (b : Bool) (m : Made) (made after : List Made) → (b || false) ≡ false → after ≡ made → cond (not b) (m ∷ after) after ≡ m ∷ made
none_by true m made after h e = not_both refl h
none_by false m made after h e = ap (λ ms. m ∷ ms) e

or_parts : (a b : Bool) → (a || b) ≡ false → (a ≡ false) × (b ≡ false)
or_parts true b h = not_both refl h
or_parts false b h = (refl, h)

pub none_removed : (w : Watch) (made : List Made) → list_any (same_watch w) (watches_in made) ≡ false → filter (λ m. not (same_watch w m.watch)) made ≡ made
none_removed w [] h = refl
none_removed w (m ∷ made) h =
    let parts = or_parts (same_watch w m.watch) (list_any (same_watch w) (watches_in made)) h in
    none_by (same_watch w m.watch) m made (filter (λ m. not (same_watch w m.watch)) made) (ap (λ b. b || false) parts.0) (none_removed w made parts.1)

-- NOTHING is sent where nothing was written
no_entries : {X : Type 0} (xs : List X) → length xs ≡ 0 → xs ≡ []
no_entries [] h = refl
no_entries (x ∷ xs) h = absurd (omega (arith, h))

module _ (before after : Tree) (specs : Specs) (watched : Watched) (rising : is_sorted nat_cmp specs ≡ true) (written : List Path) (c : ℕ) where
  pub nothing_written : length written ≡ 0 → sent_to c (change_sends before written after (conns_of specs watched)) ≡ []
  nothing_written none =
      change_sent before after specs watched rising c written
      ∙ ap (λ (ps : List Path). events_bytes before after specs watched (events before ps after) c) (no_entries written none)

  -- the events that were gone over are all
  pub all_events_sent : (es : List Event) (k : ℕ) → es ≡ events before written after → length es ≤ k → events_bytes before after specs watched (take k es) c ≡ sent_to c (change_sends before written after (conns_of specs watched))
  all_events_sent es k is past =
      ap (λ (l : List Event). events_bytes before after specs watched l c) (take_all k es past ∙ is) ∙ sym (change_sent before after specs watched rising c written)

pub event_in : (before after : Tree) (written : List Path) (es : List Event) → es ≡ events before written after → (k : ℕ) (event : Event) → k < length es → event ≡ slice_index_or es k event → IsThere before after event
event_in before after written es is k event within at =
    event_there before after written k event (subst (λ (l : List Event). k < length l) is within) (sym (at ∙ ap (λ (l : List Event). slice_index_or l k event) is))
