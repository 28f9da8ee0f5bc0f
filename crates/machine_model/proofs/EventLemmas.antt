-- What the definitions send for changes and for domains, each message with the reason why it is due.
use Rattle.std.specs.Prelude.{◌≡◌, ℕ, ◌==◌, Bool, true, false, cond, ◌||◌, List, [], ◌∷◌, map, Option, Some, None, is_some, ◌⊎◌}
use Rattle.std.specs.List.{AllByRecursion, Contains, filter}
use Rattle.std.specs.Str.{bytes_eq}
use Rattle.std.specs.Cmp.Lexicographic.{bytes_decides}
use Rattle.std.proofs.Common.{sym, refl, ap, subst, ◌∙◌, inl, inr, eqb-true}
use Rattle.xs_model.specs.Paths.{Path}
use Rattle.xs_model.specs.Perms.{Caller, rights_of}
use Rattle.xs_model.specs.Trees.{Node, Tree, node_at, is_present}
use Rattle.xs_model.specs.Messages.{Message}
use Rattle.xs_model.specs.Requests.{introduce_domain, release_domain}
use Rattle.xs_model.specs.Watches.{Watch, Event, event_at, events, event_perms, perms_or, in_order, is_gone_with_parent, matches, named_path, event_message, owed, special_owed}
use Rattle.xs_model.proofs.Maps.{not_both, from_Some, not_Some}
use Rattle.machine_model.specs.Connections.{Connection, Connections, caller_of}
use Rattle.machine_model.specs.Machine.{Send, told, tell, owed_events, sends_to, change_sends, special_sends}
use Rattle.machine_model.specs.Sends.{MayRead, IsDueToChange, IsDueToSpecial}
use Rattle.machine_model.proofs.Lists.{contains_map, all_append, all_map_of, all_flat_map, all_filter_map, all_filter, all_weaker}

-- A CHANGE
may_read_by : (caller : Caller) (before after : Tree) (p : Path) (o u : Option Node) → node_at before p ≡ o → node_at after p ≡ u → (is_some o || is_some u) ≡ true
    → (rights_of caller (perms_or (perms_or [] o) u)).can_read ≡ true → MayRead caller before after p
may_read_by caller before after p o (Some node) a b some h = record { node = node; stood = inl b; right = h }
may_read_by caller before after p (Some node) None a b some h = record { node = node; stood = inr (b, a); right = h }
may_read_by caller before after p None None a b some h = not_both some refl

may_read : (caller : Caller) (before after : Tree) (p : Path) → (is_present before p || is_present after p) ≡ true → (rights_of caller (event_perms before after p)).can_read ≡ true → MayRead caller before after p
may_read caller before after p some h = may_read_by caller before after p (node_at before p) (node_at after p) refl refl some h

-- an event is at its own path, which was there before or is after
event_by : (before after : Tree) (p : Path) (event : Event) (b : Bool) → (is_present before p || is_present after p) ≡ b
    → cond b (Some (record { path = p; exact = is_gone_with_parent after p })) None ≡ Some event
    → (event_at before after event.path ≡ Some event) × ((is_present before event.path || is_present after event.path) ≡ true)
event_by before after p event true some e =
    let at_p : event_at before after p ≡ Some event = ap (λ b. cond b (Some (record { path = p; exact = is_gone_with_parent after p })) None) some ∙ e in
    let same : p ≡ event.path = ap (λ (v : Event). v.path) (from_Some e) in
    (subst (λ q. event_at before after q ≡ Some event) same at_p, subst (λ q. (is_present before q || is_present after q) ≡ true) same some)
event_by before after p event false some e = not_Some e

abbrev IsEventOf : Tree → Tree → Event → Type 0
IsEventOf before after event = (event_at before after event.path ≡ Some event) × ((is_present before event.path || is_present after event.path) ≡ true)

events_at : (before after : Tree) (written : List Path) → AllByRecursion (IsEventOf before after) (events before written after)
events_at before after written = all_filter_map (IsEventOf before after) (event_at before after) (in_order written) (λ p event e. event_by before after p event (is_present before p || is_present after p) refl e)

module _ (before after : Tree) (conns : Connections) (c : ℕ) (conn : Connection) (there : Contains conns (c, conn)) where
  abbrev caller : Caller
  caller = caller_of conn.spec

  abbrev IsDueHere : Message → Type 0
  IsDueHere message = IsDueToChange before after conns c message

  owed_by : (event : Event) → IsEventOf before after event → (b : Bool) → (rights_of caller (event_perms before after event.path)).can_read ≡ b
      → AllByRecursion IsDueHere (cond b (map (λ w. event_message (named_path caller.domid w event.path) w.token) (filter (matches caller.domid event) conn.watches)) [])
  owed_by event is false h = tt
  owed_by event is true h =
      all_map_of IsDueHere (λ w. event_message (named_path caller.domid w event.path) w.token) (filter (matches caller.domid event) conn.watches)
      (all_filter (λ w. IsDueHere (event_message (named_path caller.domid w event.path) w.token)) (matches caller.domid event) conn.watches (λ w among match. record {
        conn = conn;
        there = there;
        watch = w;
        watches = among;
        event = event;
        happened = is.0;
        matched = match;
        readable = may_read caller before after event.path is.1 h;
        sent = refl;
      }))

  owed_each : (es : List Event) → AllByRecursion (IsEventOf before after) es → AllByRecursion IsDueHere (owed_events before after caller conn.watches es)
  owed_each [] h = tt
  owed_each (event ∷ es) h =
      all_append IsDueHere (owed caller conn.watches event (event_perms before after event.path)) (owed_events before after caller conn.watches es)
      (owed_by event h.0 (rights_of caller (event_perms before after event.path)).can_read refl) (owed_each es h.1)

pub change_due : (before after : Tree) (written : List Path) (conns : Connections) → AllByRecursion (λ (s : Send). IsDueToChange before after conns s.0 s.1) (change_sends before written after conns)
change_due before after written conns =
    all_flat_map (λ (s : Send). IsDueToChange before after conns s.0 s.1) (λ e. sends_to e.0 (owed_events before after (caller_of e.1.spec) e.1.watches (events before written after))) conns
    (λ e there. all_map_of (λ (s : Send). IsDueToChange before after conns s.0 s.1) (λ m. (e.0, m)) (owed_events before after (caller_of e.1.spec) e.1.watches (events before written after))
    (owed_each before after conns e.0 e.1 there (events before written after) (events_at before after written)))

-- by the connections after the change, whose transactions were told of it
told_due : (before after : Tree) (paths : List Path) (conns : Connections) (c : ℕ) (message : Message) → IsDueToChange before after conns c message → IsDueToChange before after (tell paths conns) c message
told_due before after [] conns c message d = d
told_due before after (p ∷ ps) conns c message d = record {
  conn = told (p ∷ ps) d.conn;
  there = contains_map (λ (e : ℕ × Connection). (e.0, told (p ∷ ps) e.1)) conns (c, d.conn) d.there;
  watch = d.watch;
  watches = d.watches;
  event = d.event;
  happened = d.happened;
  matched = d.matched;
  readable = d.readable;
  sent = d.sent;
}

pub change_due_told : (before after : Tree) (written paths : List Path) (conns : Connections) → AllByRecursion (λ (s : Send). IsDueToChange before after (tell paths conns) s.0 s.1) (change_sends before written after conns)
change_due_told before after written paths conns =
    all_weaker (λ (s : Send). IsDueToChange before after conns s.0 s.1) (λ (s : Send). IsDueToChange before after (tell paths conns) s.0 s.1) (λ s d. told_due before after paths conns s.0 s.1 d)
    (change_sends before written after conns) (change_due before after written conns)

-- A DOMAIN THAT CAME OR WENT
module _ (conns : Connections) (special : List ℕ) (is : (special ≡ introduce_domain) ⊎ (special ≡ release_domain)) where
  special_by : (c : ℕ) (conn : Connection) → Contains conns (c, conn) → (b : Bool) → ((caller_of conn.spec).domid == 0) ≡ b
      → AllByRecursion (IsDueToSpecial conns c) (cond b (map (λ w. event_message special w.token) (filter (λ w. bytes_eq w.wpath special) conn.watches)) [])
  special_by c conn there false h = tt
  special_by c conn there true h =
      all_map_of (IsDueToSpecial conns c) (λ w. event_message special w.token) (filter (λ w. bytes_eq w.wpath special) conn.watches)
      (all_filter (λ (w : Watch). IsDueToSpecial conns c (event_message special w.token)) (λ w. bytes_eq w.wpath special) conn.watches (λ w among match.
      let on : w.wpath ≡ special = (bytes_decides w.wpath special).0 match in
      record {
        conn = conn;
        there = there;
        control = eqb-true (caller_of conn.spec).domid 0 h;
        watch = w;
        watches = among;
        special = subst (λ s. (s ≡ introduce_domain) ⊎ (s ≡ release_domain)) (sym on) is;
        sent = ap (λ s. event_message s w.token) (sym on);
      }))

  pub special_due : AllByRecursion (λ (s : Send). IsDueToSpecial conns s.0 s.1) (special_sends special conns)
  special_due =
      all_flat_map (λ (s : Send). IsDueToSpecial conns s.0 s.1) (λ e. sends_to e.0 (special_owed (caller_of e.1.spec) e.1.watches special)) conns
      (λ e there. all_map_of (λ (s : Send). IsDueToSpecial conns s.0 s.1) (λ m. (e.0, m)) (special_owed (caller_of e.1.spec) e.1.watches special)
      (special_by e.0 e.1 there ((caller_of e.1.spec).domid == 0) refl))
