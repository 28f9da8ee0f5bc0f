-- Each connection that has a watch on a node is found in the index, after each edit.
use Rattle.std.specs.Prelude.{◌≡◌, ◌==◌, ◌&&◌, ◌||◌, ℕ, Bool, true, false, cond, not, List, [], ◌∷◌, ◌++◌, length, map, filter, flat_map, Option, Some, None, is_some, Result, Ok, Err, OnOk, OnErr}
use Rattle.std.specs.List.{AllByRecursion, list_any}
use Rattle.std.specs.Ordering.{nat_cmp, eq_by_cmp}
use Rattle.std.specs.Cmp.{unsigned_tied}
use Rattle.std.specs.FinMap.{find, put, is_sorted}
use Rattle.std.specs.FinMap.Entries.{where_key}
use Rattle.std.proofs.Common.{refl, sym, ap, subst, ◌∙◌, eqb-true, eq-eqb, arith, ◌⊎◌, ⊎_elim}
use Rattle.std.proofs.lemmas.Bool.{or_cases, or_left, or_right}
use Rattle.std.proofs.lemmas.List.Folds.{list_any-append}
use Rattle.std.proofs.lemmas.Cmp.{nat_cmp_total}
use Rattle.xs_model.specs.Paths.{Path, same_path}
use Rattle.xs_model.specs.declared.perm.Perm.{Perm}
use Rattle.xs_model.specs.Perms.{Caller, rights_of}
use Rattle.xs_model.specs.Trees.{Tree}
use Rattle.xs_model.specs.Messages.{message_bytes}
use Rattle.xs_model.specs.Watches.{Watch, Event, same_watch, reaches, reaches_watched, matches, named_path, event_message, event_perms, events, owed}
use Rattle.xs_model.proofs.Maps.{found_put, found_without, not_both}
use Rattle.xs_model.proofs.PathLemmas.{same_path-itself, same_path-is}
use Rattle.watch_table.specs.Tables.{Made, watches_in, watched_node, is_on, is_reached}
use Rattle.machine_model.specs.declared.ConnSpec.{ConnSpec}
use Rattle.machine_model.specs.Connections.{caller_of}
use Rattle.conn_table.specs.Tables.{Specs}
use Rattle.watchers.specs.Watched.{Watched, or_none, made_by, conns_of, AreOwn}
use Rattle.watchers.specs.Owing.{event_bytes}
use Rattle.watchers.specs.Index.{Ids, Index, is_listed, left_on, IsIndexed, HasAllReached, StaysListed}
use Rattle.machine_model.specs.Machine.{change_sends}
use Rattle.machine_model.specs.History.{sent_to}
use Rattle.watchers.proofs.SentLemmas.{events_bytes, change_sent, event_found, event_absent, event_unwatched, own_watches, none_removed}

-- WHAT IS MADE by a connection after an edit
made_put : (c k : ℕ) (made : List Made) (watched : Watched) → made_by c (put nat_cmp k made watched) ≡ cond (c == k) made (made_by c watched)
made_put c k made watched = ap or_none (found_put nat_cmp nat_cmp_total c k made watched) ∙ by (eq_by_cmp nat_cmp c k) ∙ ap (λ b. cond b made (made_by c watched)) (unsigned_tied c k)
  where
    by : (b : Bool) → or_none (cond b (Some made) (find nat_cmp c watched)) ≡ cond b made (made_by c watched)
    by true = refl
    by false = refl

-- OF ONE CONNECTION other watches
module _ (watched : Watched) (index : Index) (k : ℕ) (made : List Made) (is : IsIndexed watched index) where
  pub indexed_put : (new : Index) → ((p : Path) → list_any (is_on p) made ≡ true → is_listed k p new ≡ true)
      → ((c : ℕ) (p : Path) → (c == k) ≡ false → is_listed c p index ≡ true → is_listed c p new ≡ true) → IsIndexed (put nat_cmp k made watched) new
  indexed_put new here others c p on = by (c == k) refl (sym (ap (λ (ms : List Made). list_any (is_on p) ms) (made_put c k made watched)) ∙ on)
    where
      by : (b : Bool) → (c == k) ≡ b → list_any (is_on p) (cond b made (made_by c watched)) ≡ true → is_listed c p new ≡ true
      by true t h = subst (λ (i : ℕ). is_listed i p new ≡ true) (sym (eqb-true c k t)) (here p h)
      by false t h = others c p t (is c p h)

pub indexed_more : (watched : Watched) (old new : Index) → IsIndexed watched old → StaysListed old new → IsIndexed watched new
indexed_more watched old new is stays c p on = stays c p (is c p on)

-- ONE WATCH MORE
on_last : (p : Path) (made : List Made) (m : Made) → list_any (is_on p) (made ++ m ∷ []) ≡ true → (list_any (is_on p) made ≡ true) ⊎ (is_on p m ≡ true)
on_last p made m h = or_cases (list_any (is_on p) made) (is_on p m) (sym (list_any-append (is_on p) made (m ∷ []) ∙ ap (λ b. list_any (is_on p) made || b) (last (is_on p m))) ∙ h)
  where
    last : (b : Bool) → (b || false) ≡ b
    last true = refl
    last false = refl

pub indexed_added : (watched : Watched) (index : Index) (k : ℕ) (m : Made) → IsIndexed watched index → ((p : Path) → is_on p m ≡ true → is_listed k p index ≡ true)
    → IsIndexed (put nat_cmp k (made_by k watched ++ m ∷ []) watched) index
indexed_added watched index k m is here =
    indexed_put watched index k (made_by k watched ++ m ∷ []) is index
    (λ p on. ⊎_elim (is k p) (here p) (on_last p (made_by k watched) m on)) (λ c p t h. h)

-- ONE WATCH LESS
module _ (w : Watch) (p : Path) where
  left_by : (s : Bool) (o : Bool) (m : Made) (rest : List Made) (after : Bool) → list_any (is_on p) rest ≡ after → is_on p m ≡ o → list_any (is_on p) (cond (not s) (m ∷ rest) rest) ≡ ((not s && o) || after)
  left_by true o m rest after h e = h
  left_by false o m rest after h e = λ i. e i || h i

  -- on the node is one of those that are left, or none
  pub left_is : (made : List Made) → list_any (is_on p) (filter (λ m. not (same_watch w m.watch)) made) ≡ left_on w p made
  left_is [] = refl
  left_is (m ∷ made) = left_by (same_watch w m.watch) (is_on p m) m (filter (λ m. not (same_watch w m.watch)) made) (left_on w p made) (left_is made) refl

  was_by : (s o a b : Bool) → (a ≡ true → b ≡ true) → ((not s && o) || a) ≡ true → (o || b) ≡ true
  was_by s true a b to h = refl
  was_by true false a b to h = to h
  was_by false false a b to h = to h

  pub left_was : (made : List Made) → left_on w p made ≡ true → list_any (is_on p) made ≡ true
  left_was [] h = h
  left_was (m ∷ made) h = was_by (same_watch w m.watch) (is_on p m) (left_on w p made) (list_any (is_on p) made) (left_was made) h

pub indexed_removed : (watched : Watched) (old new : Index) (k : ℕ) (w : Watch) → IsIndexed watched old
    → ((c : ℕ) (p : Path) → (c ≡ k → left_on w p (made_by k watched) ≡ true) → is_listed c p old ≡ true → is_listed c p new ≡ true)
    → IsIndexed (put nat_cmp k (filter (λ m. not (same_watch w m.watch)) (made_by k watched)) watched) new
indexed_removed watched old new k w is keeps =
    indexed_put watched old k (filter (λ m. not (same_watch w m.watch)) (made_by k watched)) is new
    (λ p on. let left : left_on w p (made_by k watched) ≡ true = sym (left_is w p (made_by k watched)) ∙ on in
    keeps k p (λ same. left) (is k p (left_was w p (made_by k watched) left)))
    (λ c p t h. keeps c p (λ same. not_both (itself c k same) t) h)
  where
    itself : (c k : ℕ) → c ≡ k → (c == k) ≡ true
    itself c k same = eq-eqb c k same

-- or none was like it
pub indexed_kept : (watched : Watched) (old new : Index) (k : ℕ) (w : Watch) → IsIndexed watched old → list_any (same_watch w) (watches_in (made_by k watched)) ≡ false
    → ((c : ℕ) (p : Path) → (c ≡ k → left_on w p (made_by k watched) ≡ true) → is_listed c p old ≡ true → is_listed c p new ≡ true)
    → IsIndexed watched new
indexed_kept watched old new k w is none keeps c p on =
    keeps c p
    (λ same. sym (left_is w p (made_by k watched)) ∙ ap (λ (ms : List Made). list_any (is_on p) ms) (none_removed w (made_by k watched) none) ∙ subst (λ (i : ℕ). list_any (is_on p) (made_by i watched) ≡ true) same on)
    (is c p on)

-- NO WATCHES left
module _ (watched : Watched) (k : ℕ) where
  without_same : (es : Watched) → where_key nat_cmp (λ key. not (eq_by_cmp nat_cmp k key)) es ≡ where_key nat_cmp (λ key. not (k == key)) es
  without_same [] = refl
  without_same (e ∷ es) = λ i. cond (not (unsigned_tied k e.0 i)) (e ∷ without_same es i) (without_same es i)

  made_cleared : (c : ℕ) → made_by c (where_key nat_cmp (λ key. not (k == key)) watched) ≡ cond (c == k) [] (made_by c watched)
  made_cleared c =
      ap (λ (es : Watched). made_by c es) (sym (without_same watched))
      ∙ ap or_none (found_without nat_cmp nat_cmp_total c k watched) ∙ by (eq_by_cmp nat_cmp c k)
      ∙ ap (λ b. cond b [] (made_by c watched)) (unsigned_tied c k)
    where
      by : (b : Bool) → or_none (cond b None (find nat_cmp c watched)) ≡ cond b [] (made_by c watched)
      by true = refl
      by false = refl

  pub indexed_cleared : (old new : Index) → IsIndexed watched old → ((c : ℕ) (p : Path) → (c == k) ≡ false → is_listed c p old ≡ true → is_listed c p new ≡ true)
      → IsIndexed (where_key nat_cmp (λ key. not (k == key)) watched) new
  indexed_cleared old new is others c p on = by (c == k) refl (sym (ap (λ (ms : List Made). list_any (is_on p) ms) (made_cleared c)) ∙ on)
    where
      by : (b : Bool) → (c == k) ≡ b → list_any (is_on p) (cond b [] (made_by c watched)) ≡ true → is_listed c p new ≡ true
      by true t h = not_both h refl
      by false t h = others c p t (is c p h)

-- WHOM AN EVENT REACHES
record Way (event : Event) (made : List Made) : Type 0 where
  node : Path
  reached : reaches event node ≡ true
  on : list_any (is_on node) made ≡ true

way_here : (event : Event) (o : Option Path) → reaches_watched event o ≡ true → (p : Path) × (reaches event p ≡ true) × (reaches_watched (record { path = p; exact = true }) o ≡ true)
way_here event None h = not_both h refl
way_here event (Some p) h = (p, h, same_path-itself p)

way_to : (event : Event) (made : List Made) → list_any (is_reached event) made ≡ true → Way event made
way_to event [] h = not_both h refl
way_to event (m ∷ made) h = ⊎_elim
    (λ here. let way = way_here event (watched_node m) here in record { node = way.0; reached = way.1; on = or_left (is_on way.0 m) (list_any (is_on way.0) made) way.2 })
    (λ later. let way = way_to event made later in record { node = way.node; reached = way.reached; on = or_right (is_on way.node m) (list_any (is_on way.node) made) way.on })
    (or_cases (is_reached event m) (list_any (is_reached event) made) h)

pub unreached : (watched : Watched) (index : Index) (event : Event) (ids : Ids) → IsIndexed watched index → HasAllReached event index ids
    → (c : ℕ) → find nat_cmp c ids.entries ≡ None → list_any (is_reached event) (made_by c watched) ≡ false
unreached watched index event ids is all c none = by (list_any (is_reached event) (made_by c watched)) refl
  where
    by : (b : Bool) → list_any (is_reached event) (made_by c watched) ≡ b → b ≡ false
    by false h = refl
    by true h = let way = way_to event (made_by c watched) h in not_both (all c way.node way.reached (is c way.node way.on)) (ap is_some none)

-- an empty index finds nobody
pub none_on : (watched : Watched) → IsIndexed watched [] → (event : Event) (c : ℕ) → list_any (is_reached event) (made_by c watched) ≡ false
none_on watched is event c = by (list_any (is_reached event) (made_by c watched)) refl
  where
    by : (b : Bool) → list_any (is_reached event) (made_by c watched) ≡ b → b ≡ false
    by false h = refl
    by true h = let way = way_to event (made_by c watched) h in not_both (is c way.node way.on) refl

pub empty_index : (index : Index) → length index ≡ 0 → index ≡ []
empty_index [] h = refl
empty_index (e ∷ es) h = absurd (omega (arith, h))

-- WHOM NO WATCH brings an event is owed nothing for it
or_parts : (a b : Bool) → (a || b) ≡ false → (a ≡ false) × (b ≡ false)
or_parts true b h = not_both refl h
or_parts false b h = (refl, h)

unmatched : (domid : ℕ) (event : Event) (made : List Made) → AllByRecursion (λ m. m.domid ≡ domid) made → list_any (is_reached event) made ≡ false → filter (matches domid event) (watches_in made) ≡ []
unmatched domid event [] own h = refl
unmatched domid event (m ∷ made) own h =
    let parts = or_parts (is_reached event m) (list_any (is_reached event) made) h in
    ap (λ b. cond b (m.watch ∷ filter (matches domid event) (watches_in made)) (filter (matches domid event) (watches_in made))) (ap (λ (d : ℕ). matches d event m.watch) (sym own.0) ∙ parts.0)
    ∙ unmatched domid event made own.1 parts.1

unmatched_bytes : (caller : Caller) (ws : List Watch) (event : Event) (perms : List Perm) → filter (matches caller.domid event) ws ≡ [] → flat_map message_bytes (owed caller ws event perms) ≡ []
unmatched_bytes caller ws event perms none = by (rights_of caller perms).can_read
  where
    by : (b : Bool) → flat_map message_bytes (cond b (map (λ w. event_message (named_path caller.domid w event.path) w.token) (filter (matches caller.domid event) ws)) []) ≡ []
    by true = ap (λ (l : List Watch). flat_map message_bytes (map (λ w. event_message (named_path caller.domid w event.path) w.token) l)) none
    by false = refl

module _ (specs : Specs) (watched : Watched) (own : AreOwn specs watched) (event : Event) (perms : List Perm) (c : ℕ) where
  pub event_unreached : list_any (is_reached event) (made_by c watched) ≡ false → event_bytes specs watched event perms c ≡ []
  event_unreached none = by (find nat_cmp c specs) (find nat_cmp c watched) refl refl
    where
      by : (s : Option ConnSpec) (m : Option (List Made)) → find nat_cmp c specs ≡ s → find nat_cmp c watched ≡ m → event_bytes specs watched event perms c ≡ []
      by None m there made_is = event_absent specs watched c there event perms
      by (Some spec) None there made_is = event_unwatched specs watched c made_is event perms
      by (Some spec) (Some made) there made_is =
          event_found specs watched c spec made there made_is event perms
          ∙ unmatched_bytes (caller_of spec) (watches_in made) event perms
          (unmatched (caller_of spec).domid event made (own_watches specs c made spec watched own made_is there)
          (ap (λ (o : Option (List Made)). list_any (is_reached event) (or_none o)) (sym made_is) ∙ none))

pub events_unreached : (before after : Tree) (specs : Specs) (watched : Watched) → AreOwn specs watched → (c : ℕ) → ((event : Event) → list_any (is_reached event) (made_by c watched) ≡ false)
    → (es : List Event) → events_bytes before after specs watched es c ≡ []
events_unreached before after specs watched own c none [] = refl
events_unreached before after specs watched own c none (event ∷ es) =
    ap (λ (l : List ℕ). l ++ events_bytes before after specs watched es c) (event_unreached specs watched own event (event_perms before after event.path) c (none event))
    ∙ events_unreached before after specs watched own c none es

-- whoever is not apart has a watch left there
pub apart_or_left : (w : Watch) (made : List Made) (k c : ℕ) (node p : Path) → left_on w node made ≡ false → (c ≡ k → left_on w p made ≡ true) → ((c == k) && same_path p node) ≡ false
apart_or_left w made k c node p none left = by (c == k) (same_path p node) refl refl
  where
    by : (a b : Bool) → (c == k) ≡ a → same_path p node ≡ b → (a && b) ≡ false
    by false b g h = refl
    by true false g h = refl
    by true true g h = not_both (left (eqb-true c k g)) (ap (λ (q : Path). left_on w q made) (same_path-is p node h) ∙ none)

-- a watch is on its node alone
pub on_node : (node p : Path) (o : Option Path) → o ≡ Some node → reaches_watched (record { path = p; exact = true }) o ≡ true → p ≡ node
on_node node p o is on = sym (same_path-is node p (sym (ap (reaches_watched (record { path = p; exact = true })) is) ∙ on))

-- whichever way a call went
pub either_way : {X Y P Q R : Type 0} (r : Result X Y) → (P → R) → (Q → R) → OnOk r P → OnErr r Q → R
either_way (Ok x) p q g h = p g
either_way (Err e) p q g h = q h

-- an empty index: nothing is sent
pub nothing_listed : (before after : Tree) (specs : Specs) (watched : Watched) (index : Index) → is_sorted nat_cmp specs ≡ true → AreOwn specs watched → IsIndexed watched index → length index ≡ 0
    → (written : List Path) (c : ℕ) → sent_to c (change_sends before written after (conns_of specs watched)) ≡ []
nothing_listed before after specs watched index rising own is none written c =
    let indexed : IsIndexed watched [] = subst (λ (i : Index). IsIndexed watched i) (empty_index index none) is in
    change_sent before after specs watched rising c written
    ∙ events_unreached before after specs watched own c (λ event. none_on watched indexed event c) (events before written after)

-- a watch on a special path is on no node
pub on_none : {A : Type 0} (p : Path) (o : Option Path) → o ≡ None → reaches_watched (record { path = p; exact = true }) o ≡ true → A
on_none p o is on = not_both (sym (ap (reaches_watched (record { path = p; exact = true })) is) ∙ on) refl
