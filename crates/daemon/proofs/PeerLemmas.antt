-- Connections with what is unsent to each stay sound.
use Rattle.std.proofs.Common.{◌≡◌, ℕ, ◌+◌, ◌<◌, ◌≤◌, Bool, true, false, ◌||◌, cond, List, [], ◌∷◌, length, map, drop, Option, Some, None, is_some, refl, sym, ap, subst, ◌∙◌, arith, le_trans, le_refl, length-drop}
use Rattle.std.specs.List.{AllByRecursion}
use Rattle.std.specs.declared.cmp.Ordering.TheVariants.{Less, Equal, Greater}
use Rattle.std.specs.Ordering.{nat_cmp}
use Rattle.std.specs.FinMap.{find, put, is_sorted, nat_cmp-IsAntisymmetric}
use Rattle.std.specs.FinMap.Entries.{where_key, by_order}
use Rattle.xs_model.proofs.Maps.{from_Some, all_put, all_where, all_found, keys_put, keys_where, keys_found}
use Rattle.machine_model.specs.declared.ConnSpec.{ConnSpec}
use Rattle.machine_model.specs.declared.ConnSpec.TheVariants.{Ring, Socket}
use Rattle.machine_model.specs.Connections.{with_evtchn, with_target}
use Rattle.out_queues.specs.Queues.{Queue}
use Rattle.conn_table.specs.Tables.{Specs, IsTable, IsDomain, is_socket, count_sockets}
use Rattle.conn_table.proofs.SmallLemmas.{tables_are_small}
use Rattle.machine_model.specs.declared.bounds.TheConstants.{CROWD_LIMIT}
use Rattle.conn_rows.specs.Queued.{unsent_of, rests_of, Moves, PulledFrom}
use Rattle.machine_model.specs.Connections.{caller_of}
use Rattle.conn_table.specs.Tables.{is_taken, has_its_ring}
use Rattle.watchers.specs.Watched.{Watched, AreOwn}
use Rattle.conn_rows.specs.Rows.{Rows}
use Rattle.daemon.specs.Peers.{Connected, IsInBounds, IsSoundTable, IsSound}
use Rattle.daemon.proofs.OwnLemmas.{AreThere, own_put, own_added, there_put, own_without, there_without}
use Rattle.conn_rows.proofs.IdEntries.{keys_map, same_put, same_where, same_rising, put_again}

-- SOCKETS: at most one more, and none with a ring
count_put : (c : ℕ) (spec : ConnSpec) (specs : Specs) → count_sockets (put nat_cmp c spec specs) ≤ cond (is_socket spec) 1 0 + count_sockets specs
count_put c spec [] = one (is_socket spec)
  where
    one : (b : Bool) → cond b (0 + 1) 0 ≤ cond b 1 0 + 0
    one true = omega arith
    one false = omega arith
count_put c spec (e ∷ es) =
    let n = count_sockets es in
    let rest = count_put c spec es in
    elim (nat_cmp c e.0) as (λ o. count_sockets (by_order o ((c, spec) ∷ e ∷ es) ((e.0, spec) ∷ es) (e ∷ put nat_cmp c spec es)) ≤ cond (is_socket spec) 1 0 + cond (is_socket e.1) (n + 1) n) [
      | Less ↦ before (is_socket spec) (is_socket e.1) n
      | Equal ↦ instead (is_socket spec) (is_socket e.1) n
      | Greater ↦ behind (is_socket spec) (is_socket e.1) n (count_sockets (put nat_cmp c spec es)) rest
    ]
  where
    before : (a b : Bool) (n : ℕ) → cond a (cond b (n + 1) n + 1) (cond b (n + 1) n) ≤ cond a 1 0 + cond b (n + 1) n
    before true b n = omega arith
    before false b n = omega arith

    instead : (a b : Bool) (n : ℕ) → cond a (n + 1) n ≤ cond a 1 0 + cond b (n + 1) n
    instead true true n = omega arith
    instead true false n = omega arith
    instead false true n = omega arith
    instead false false n = omega arith

    behind : (a b : Bool) (n m : ℕ) → m ≤ cond a 1 0 + n → cond b (m + 1) m ≤ cond a 1 0 + cond b (n + 1) n
    behind a true n m h = omega arith
    behind a false n m h = omega arith

count_where : (p : ℕ → Bool) (specs : Specs) → count_sockets (where_key nat_cmp p specs) ≤ count_sockets specs
count_where p [] = le_refl 0
count_where p (e ∷ es) =
    let n = count_sockets es in
    let rest = count_where p es in
    elim (p e.0) as (λ b. count_sockets (cond b (e ∷ where_key nat_cmp p es) (where_key nat_cmp p es)) ≤ cond (is_socket e.1) (n + 1) n) [
      | true ↦ same (is_socket e.1) n (count_sockets (where_key nat_cmp p es)) rest
      | false ↦ fewer (is_socket e.1) n (count_sockets (where_key nat_cmp p es)) rest
    ]
  where
    same : (b : Bool) (n m : ℕ) → m ≤ n → cond b (m + 1) m ≤ cond b (n + 1) n
    same true n m h = omega arith
    same false n m h = omega arith

    fewer : (b : Bool) (n m : ℕ) → m ≤ n → m ≤ cond b (n + 1) n
    fewer true n m h = omega arith
    fewer false n m h = omega arith

-- THE TABLE
module _ (specs : Specs) (sound : IsSoundTable specs) where
  pub table_put : (c : ℕ) (spec : ConnSpec) → IsTable (put nat_cmp c spec specs) → 1 ≤ c → IsInBounds spec → (is_socket spec ≡ true → count_sockets specs < 65536) → IsSoundTable (put nat_cmp c spec specs)
  table_put c spec table positive bounds few = record {
    table = table;
    ids = keys_put nat_cmp (λ i. 1 ≤ i) c spec specs positive sound.ids;
    bounds = all_put nat_cmp IsInBounds c spec specs bounds sound.bounds;
    sockets = le_trans (count_put c spec specs) (within (is_socket spec) few);
  }
    where
      within : (b : Bool) → (b ≡ true → count_sockets specs < 65536) → cond b 1 0 + count_sockets specs ≤ 65536
      within true h = let few_more = h refl in omega arith
      within false h = omega (arith, sound.sockets)

  pub table_without : (p : ℕ → Bool) → IsTable (where_key nat_cmp p specs) → IsSoundTable (where_key nat_cmp p specs)
  table_without p table = record {
    table = table;
    ids = keys_where nat_cmp (λ i. 1 ≤ i) p specs sound.ids;
    bounds = all_where nat_cmp IsInBounds p specs sound.bounds;
    sockets = le_trans (count_where p specs) sound.sockets;
  }

  -- another end of the same connection
  table_changed : (change : ConnSpec → ConnSpec) → ((fd : ℕ) → change (Socket fd) ≡ Socket fd) → ((spec : ConnSpec) → IsInBounds spec → IsInBounds (change spec)) → ((spec : ConnSpec) → is_socket (change spec) ≡ is_socket spec)
      → (c : ℕ) (spec : ConnSpec) → find nat_cmp c specs ≡ Some spec → IsTable (put nat_cmp c (change spec) specs) → IsSoundTable (put nat_cmp c (change spec) specs)
  table_changed change kept bounds alike c (Socket fd) there table =
      subst IsSoundTable (sym (ap (λ spec. put nat_cmp c spec specs) (kept fd) ∙ put_again c (Socket fd) specs sound.table.rising there)) sound
  table_changed change kept bounds alike c (Ring domid target evtchn) there table =
      let old : ConnSpec = Ring domid target evtchn in
      table_put c (change old) table (keys_found nat_cmp (λ i. 1 ≤ i) nat_cmp-IsAntisymmetric c specs old sound.ids there)
      (bounds old (all_found nat_cmp IsInBounds c specs old sound.bounds there)) (λ is. absurd (never (sym (alike old) ∙ is)))
    where
      never : false ≡ true → ⊥
      never e = cc

-- a ring that has another event channel, or another target
pub evtchn_changed : (specs : Specs) → IsSoundTable specs → (evtchn c : ℕ) (spec : ConnSpec) → find nat_cmp c specs ≡ Some spec → IsTable (put nat_cmp c (with_evtchn evtchn spec) specs) → IsSoundTable (put nat_cmp c (with_evtchn evtchn spec) specs)
evtchn_changed specs sound evtchn c spec there table = table_changed specs sound (with_evtchn evtchn) (λ fd. refl) bounds alike c spec there table
  where
    bounds : (spec : ConnSpec) → IsInBounds spec → IsInBounds (with_evtchn evtchn spec)
    bounds (Ring domid target old) h = h
    bounds (Socket fd) h = h

    alike : (spec : ConnSpec) → is_socket (with_evtchn evtchn spec) ≡ is_socket spec
    alike (Ring domid target old) = refl
    alike (Socket fd) = refl

pub target_changed : (specs : Specs) → IsSoundTable specs → (target c : ℕ) → target ≤ 32751 → (spec : ConnSpec) → find nat_cmp c specs ≡ Some spec → IsTable (put nat_cmp c (with_target target spec) specs) → IsSoundTable (put nat_cmp c (with_target target spec) specs)
target_changed specs sound target c domain spec there table = table_changed specs sound (with_target target) (λ fd. refl) bounds alike c spec there table
  where
    bounds : (spec : ConnSpec) → IsInBounds spec → IsInBounds (with_target target spec)
    bounds (Ring domid old evtchn) h = (h.0, domain)
    bounds (Socket fd) h = h

    alike : (spec : ConnSpec) → is_socket (with_target target spec) ≡ is_socket spec
    alike (Ring domid old evtchn) = refl
    alike (Socket fd) = refl

-- there is a free id for one connection more
domains : (specs : Specs) → AllByRecursion (λ e. IsInBounds e.1) specs → AllByRecursion (λ e. IsDomain e.1) specs
domains [] h = tt
domains ((id, Ring domid target evtchn) ∷ es) h = (h.0.0, domains es h.1)
domains ((id, Socket fd) ∷ es) h = (tt, domains es h.1)

pub table_is_small : (specs : Specs) → IsSoundTable specs → length specs ≤ 98288
table_is_small specs sound = let small = tables_are_small specs sound.table (domains specs sound.bounds) in omega (arith, small.most, sound.sockets)

-- THE CONNECTIONS WITH THEIR QUEUES
pub short_queues : (queues : List (ℕ × Queue)) → AllByRecursion (λ e. length e.1 ≤ CROWD_LIMIT) (unsent_of queues) → AllByRecursion (λ e. length e.1.bytes ≤ CROWD_LIMIT) queues
short_queues [] h = tt
short_queues (e ∷ es) h = (h.0, short_queues es h.1)

pub short_unsent : (queues : List (ℕ × Queue)) → AllByRecursion (λ e. length e.1.bytes ≤ CROWD_LIMIT) queues → AllByRecursion (λ e. length e.1 ≤ CROWD_LIMIT) (unsent_of queues)
short_unsent [] h = tt
short_unsent (e ∷ es) h = (h.0, short_unsent es h.1)

pub unsent_keys : (queues : List (ℕ × Queue)) → map (λ e. e.0) (unsent_of queues) ≡ map (λ e. e.0) queues
unsent_keys queues = keys_map (λ (q : Queue). q.bytes) queues

-- the connections of a table with these watches and these rows
abbrev pub connected : Specs → Watched → Rows → Connected
connected specs watched rows = record { specs = specs; watched = watched; queues = rows.queues; txns = rows.txns }

-- the watches of a table
abbrev pub Belong : Specs → Watched → Type 0
Belong specs watched = AreOwn specs watched × AreThere specs watched

pub belong_same : (specs specs_new : Specs) (watched watched_new : Watched) → specs_new ≡ specs → watched_new ≡ watched → Belong specs watched → Belong specs_new watched_new
belong_same specs specs_new watched watched_new same still h =
    subst (λ (ss : Specs). Belong ss watched_new) (sym same) (subst (λ (ws : Watched). Belong specs ws) (sym still) h)

-- ids that are positive in one list are so in another with the same ids
positive_keys : {X : Type 0} (es : List (ℕ × X)) → AllByRecursion (λ e. 1 ≤ e.0) es → AllByRecursion (λ k. 1 ≤ k) (map (λ e. e.0) es)
positive_keys [] h = tt
positive_keys (e ∷ es) h = (h.0, positive_keys es h.1)

keys_positive : {X : Type 0} (es : List (ℕ × X)) → AllByRecursion (λ k. 1 ≤ k) (map (λ e. e.0) es) → AllByRecursion (λ e. 1 ≤ e.0) es
keys_positive [] h = tt
keys_positive (e ∷ es) h = (h.0, keys_positive es h.1)

pub positive_ids : {X Y : Type 0} (es : List (ℕ × X)) (fs : List (ℕ × Y)) → map (λ e. e.0) es ≡ map (λ e. e.0) fs → AllByRecursion (λ e. 1 ≤ e.0) fs → AllByRecursion (λ e. 1 ≤ e.0) es
positive_ids es fs same h = keys_positive es (subst (AllByRecursion (λ k. 1 ≤ k)) (sym same) (positive_keys fs h))

-- by the bytes that are unsent
pub sound_by : (peers : Connected) (unsent : List (ℕ × List ℕ)) → unsent_of peers.queues ≡ unsent → IsSoundTable peers.specs → Belong peers.specs peers.watched → map (λ e. e.0) unsent ≡ map (λ e. e.0) peers.specs → map (λ e. e.0) peers.txns ≡ map (λ e. e.0) peers.specs
    → AllByRecursion (λ e. length e.1 ≤ CROWD_LIMIT) unsent → IsSound peers
sound_by peers unsent is table belong ids rows short = record {
  table = table;
  own = belong.0;
  watching = belong.1;
  ids = sym (unsent_keys peers.queues) ∙ ap (map (λ e. e.0)) is ∙ ids;
  rows = rows;
  short = short_queues peers.queues (subst (AllByRecursion (λ e. length e.1 ≤ CROWD_LIMIT)) (sym is) short);
}

module _ (peers : Connected) (sound : IsSound peers) where
  pub ids_unsent : map (λ e. e.0) (unsent_of peers.queues) ≡ map (λ e. e.0) peers.specs
  ids_unsent = unsent_keys peers.queues ∙ sound.ids

  pub ids_rests : map (λ e. e.0) (rests_of peers.queues) ≡ map (λ e. e.0) peers.specs
  ids_rests = keys_map (λ (q : Queue). q.rest) peers.queues ∙ sound.ids

  pub rising_rests : is_sorted nat_cmp (rests_of peers.queues) ≡ true
  rising_rests = same_rising (rests_of peers.queues) peers.specs ids_rests ∙ sound.table.table.rising

  pub belongs : Belong peers.specs peers.watched
  belongs = (sound.own, sound.watching)

  pub ids_positive : AllByRecursion (λ e. 1 ≤ e.0) peers.queues
  ids_positive = positive_ids peers.queues peers.specs sound.ids sound.table.ids

  pub rising_unsent : is_sorted nat_cmp (unsent_of peers.queues) ≡ true
  rising_unsent = same_rising (unsent_of peers.queues) peers.specs ids_unsent ∙ sound.table.table.rising

  -- the same transactions
  ids_txns : (new : Connected) → new.specs ≡ peers.specs → new.txns ≡ peers.txns → map (λ e. e.0) new.txns ≡ map (λ e. e.0) new.specs
  ids_txns new specs txns = ap (map (λ e. e.0)) txns ∙ sound.rows ∙ ap (map (λ e. e.0)) (sym specs)

  -- the same bytes
  pub sound_same : (new : Connected) → new.specs ≡ peers.specs → new.watched ≡ peers.watched → new.txns ≡ peers.txns → unsent_of new.queues ≡ unsent_of peers.queues → IsSound new
  sound_same new specs watched txns bytes =
      sound_by new (unsent_of peers.queues) bytes (subst IsSoundTable (sym specs) sound.table) (belong_same peers.specs new.specs peers.watched new.watched specs watched belongs)
      (ids_unsent ∙ ap (map (λ e. e.0)) (sym specs)) (ids_txns new specs txns) (short_unsent peers.queues sound.short)

  -- other bytes of one connection
  sound_put : (new : Connected) (c : ℕ) (bytes old : List ℕ) → find nat_cmp c (unsent_of peers.queues) ≡ Some old → length bytes ≤ CROWD_LIMIT → new.specs ≡ peers.specs → new.watched ≡ peers.watched → new.txns ≡ peers.txns → unsent_of new.queues ≡ put nat_cmp c bytes (unsent_of peers.queues) → IsSound new
  sound_put new c bytes old there fits specs watched txns is =
      let unsent = unsent_of peers.queues in
      sound_by new (put nat_cmp c bytes unsent) is (subst IsSoundTable (sym specs) sound.table) (belong_same peers.specs new.specs peers.watched new.watched specs watched belongs)
      (same_put unsent unsent refl c bytes old ∙ ap (map (λ e. e.0)) (put_again c old unsent rising_unsent there) ∙ ids_unsent ∙ ap (map (λ e. e.0)) (sym specs))
      (ids_txns new specs txns)
      (all_put nat_cmp (λ b. length b ≤ CROWD_LIMIT) c bytes unsent fits (short_unsent peers.queues sound.short))

  -- without the first of them
  pub sound_pulled : (new : Connected) (c : ℕ) (into into_new : List ℕ) (n : ℕ) → new.specs ≡ peers.specs → new.watched ≡ peers.watched → new.txns ≡ peers.txns → Moves peers.queues c into new.queues into_new n → IsSound new
  sound_pulled new c into into_new n specs watched txns moved =
      let fits = all_found nat_cmp (λ (b : List ℕ). length b ≤ CROWD_LIMIT) c (unsent_of peers.queues) moved.bytes (short_unsent peers.queues sound.short) moved.there in
      sound_put new c (drop n moved.bytes) moved.bytes moved.there (omega (arith, length-drop n moved.bytes, fits)) specs watched txns moved.unsent

  -- a connection more, to which nothing is unsent
  pub sound_added : (new : Connected) (c : ℕ) (spec : ConnSpec) → find nat_cmp c peers.specs ≡ None → IsSoundTable new.specs → new.specs ≡ put nat_cmp c spec peers.specs → new.watched ≡ peers.watched → unsent_of new.queues ≡ put nat_cmp c [] (unsent_of peers.queues) → new.txns ≡ put nat_cmp c [] peers.txns → IsSound new
  sound_added new c spec absent table specs watched is txns =
      sound_by new (put nat_cmp c [] (unsent_of peers.queues)) is table
      (belong_same (put nat_cmp c spec peers.specs) new.specs peers.watched new.watched specs watched (own_added peers.specs peers.watched sound.watching sound.own c spec absent, there_put peers.specs peers.watched sound.watching c spec))
      (same_put (unsent_of peers.queues) peers.specs ids_unsent c [] spec ∙ ap (map (λ e. e.0)) (sym specs))
      (ap (map (λ e. e.0)) txns ∙ same_put peers.txns peers.specs sound.rows c [] spec ∙ ap (map (λ e. e.0)) (sym specs))
      (all_put nat_cmp (λ b. length b ≤ CROWD_LIMIT) c [] (unsent_of peers.queues) (omega arith) (short_unsent peers.queues sound.short))

  -- without one
  pub sound_without : (p : ℕ → Bool) → IsTable (where_key nat_cmp p peers.specs)
      → IsSound (record { specs = where_key nat_cmp p peers.specs; watched = where_key nat_cmp p peers.watched; queues = where_key nat_cmp p peers.queues; txns = where_key nat_cmp p peers.txns })
  sound_without p table = record {
    table = table_without peers.specs sound.table p table;
    own = own_without p peers.specs peers.watched sound.own;
    watching = there_without p peers.specs peers.watched sound.watching;
    ids = same_where peers.queues peers.specs sound.ids p;
    rows = same_where peers.txns peers.specs sound.rows p;
    short = all_where nat_cmp (λ (q : Queue). length q.bytes ≤ CROWD_LIMIT) p peers.queues sound.short;
  }

  -- with another end of one of them
  abbrev with_end : Specs → Connected
  with_end specs = record { specs = specs; watched = peers.watched; queues = peers.queues; txns = peers.txns }

  sound_changed : (c : ℕ) (old spec : ConnSpec) → find nat_cmp c peers.specs ≡ Some old → (caller_of spec).domid ≡ (caller_of old).domid → IsSoundTable (put nat_cmp c spec peers.specs) → IsSound (with_end (put nat_cmp c spec peers.specs))
  sound_changed c old spec there same table = record {
    table = table;
    own = own_put peers.specs peers.watched sound.watching sound.own c spec (λ other found. same ∙ ap (λ s. (caller_of s).domid) (from_Some (sym there ∙ found)));
    watching = there_put peers.specs peers.watched sound.watching c spec;
    ids = sound.ids ∙ ap (map (λ e. e.0)) (sym (put_again c old peers.specs sound.table.table.rising there)) ∙ same_put peers.specs peers.specs refl c old spec;
    rows = sound.rows ∙ ap (map (λ e. e.0)) (sym (put_again c old peers.specs sound.table.table.rising there)) ∙ same_put peers.specs peers.specs refl c old spec;
    short = sound.short;
  }

  pub evtchn_sound : (evtchn c : ℕ) (old spec : ConnSpec) (new : Specs) → find nat_cmp c peers.specs ≡ Some old → spec ≡ with_evtchn evtchn old → new ≡ put nat_cmp c spec peers.specs → IsTable new → IsSound (with_end new)
  evtchn_sound evtchn c old spec new there is puts table =
      let puts_it : new ≡ put nat_cmp c (with_evtchn evtchn old) peers.specs = puts ∙ ap (λ s. put nat_cmp c s peers.specs) is in
      subst (λ n. IsSound (with_end n)) (sym puts_it)
      (sound_changed c old (with_evtchn evtchn old) there (same_domid old) (evtchn_changed peers.specs sound.table evtchn c old there (subst IsTable puts_it table)))
    where
      same_domid : (s : ConnSpec) → (caller_of (with_evtchn evtchn s)).domid ≡ (caller_of s).domid
      same_domid (Ring domid target old) = refl
      same_domid (Socket fd) = refl

  pub target_sound : (target c : ℕ) → target ≤ 32751 → (old spec : ConnSpec) (new : Specs) → find nat_cmp c peers.specs ≡ Some old → spec ≡ with_target target old → new ≡ put nat_cmp c spec peers.specs → IsTable new → IsSound (with_end new)
  target_sound target c domain old spec new there is puts table =
      let puts_it : new ≡ put nat_cmp c (with_target target old) peers.specs = puts ∙ ap (λ s. put nat_cmp c s peers.specs) is in
      subst (λ n. IsSound (with_end n)) (sym puts_it)
      (sound_changed c old (with_target target old) there (same_domid old) (target_changed peers.specs sound.table target c domain old there (subst IsTable puts_it table)))
    where
      same_domid : (s : ConnSpec) → (caller_of (with_target target s)).domid ≡ (caller_of s).domid
      same_domid (Ring domid old evtchn) = refl
      same_domid (Socket fd) = refl

-- what is not taken is not there
pub untaken : (c : ℕ) (spec : ConnSpec) (specs : Specs) → is_taken c spec specs ≡ false → find nat_cmp c specs ≡ None
untaken c spec specs h = by (find nat_cmp c specs) h
  where
    by : (o : Option ConnSpec) → (is_some o || has_its_ring spec specs) ≡ false → o ≡ None
    by None e = refl
    by (Some s) e = cc

-- what was set, where the connection was found
pub set_there : (found : Bool) (c : ℕ) (old spec : ConnSpec) (specs new : Specs) → find nat_cmp c specs ≡ Some old → found ≡ is_some (find nat_cmp c specs) → new ≡ cond found (put nat_cmp c spec specs) specs → new ≡ put nat_cmp c spec specs
set_there found c old spec specs new there is after = after ∙ ap (λ b. cond b (put nat_cmp c spec specs) specs) (is ∙ ap is_some there)

-- after a pull, whether the connection was there or not
pub sound_after_pull : (peers : Connected) → IsSound peers → (new : Connected) (c : ℕ) (into into_new : List ℕ) (r : Option ℕ) → new.specs ≡ peers.specs → new.watched ≡ peers.watched → new.txns ≡ peers.txns → PulledFrom peers.queues c into new.queues into_new r → IsSound new
sound_after_pull peers sound new c into into_new None specs watched txns pulled = sound_same peers sound new specs watched txns (ap unsent_of pulled.1.0)
sound_after_pull peers sound new c into into_new (Some n) specs watched txns pulled = sound_pulled peers sound new c into into_new n specs watched txns pulled
