-- What a daemon keeps and sends, for each store that it stands for, by its tree and its connections.
use Rattle.std.proofs.Common.{◌≡◌, ℕ, ◌<◌, ◌≤◌, ◌==◌, Bool, true, false, not, List, [], ◌∷◌, ◌++◌, length, take, drop, Option, Some, None, is_some, OnOk, IsErrOf, ◌↔◌, Result, Ok, Err, refl, sym, ap, ◌∙◌, arith}
use Rattle.std.specs.Option.{option_map}
use Rattle.std.specs.Ordering.{nat_cmp}
use Rattle.std.specs.FinMap.{find, put}
use Rattle.std.specs.FinMap.Entries.{where_key}
use Rattle.xs_model.specs.Wholes.{rest_after}
use Rattle.xs_model.proofs.Maps.{from_Some, not_Some}
use Rattle.machine_model.specs.declared.ConnSpec.{ConnSpec}
use Rattle.machine_model.specs.declared.Globals.{Globals}
use Rattle.machine_model.specs.Connections.{fresh, ring_of}
use Rattle.machine_model.specs.Machine.{Machine, Lost}
use Rattle.machine_model.proofs.KeepLemmas.{with_conn_keeps, step_keeps}
use Rattle.machine_model.proofs.IdLemmas.{put_ids, step_ids}
use Rattle.mark_model.specs.Stores.{KeptStore, opens_in as opens_of_conn, without_transactions, kept_step}
use Rattle.mark_model.proofs.MarkLaws.{laws}
use Rattle.mark_model.proofs.StoreSteps.{steps_kept}
use Rattle.out_queues.specs.Queues.{Queue}
use Rattle.node_tree.specs.KeptTree.{KeptTree}
use Rattle.conn_table.specs.declared.table.AddErr.{AddErr}
use Rattle.conn_table.specs.declared.table.AddErr.TheVariants.{Taken}
use Rattle.conn_table.specs.Tables.{Specs, ring_id, is_taken}
use Rattle.daemon.specs.declared.answer.Pull.TheVariants.{Got, Nothing, Gone}
use Rattle.watch_table.specs.Tables.{Made, watches_in}
use Rattle.watchers.specs.Watched.{watching, conns_of}
use Rattle.store_parts.specs.Kept.{Kept}
use Rattle.daemon.specs.Keeps.{StandsFor, machine_of}
use Rattle.conn_rows.specs.Rows.{opens_in, opens_of}
use Rattle.conn_rows.specs.Queued.{PulledFrom, unsent_of, rests_of}
use Rattle.daemon.specs.Peers.{Connected, IsSound}
use Rattle.daemon.specs.Acts.{kept_by, store_in, IsAsBefore}
use Rattle.daemon.specs.Submits.{Pulled, Adds, Drops}
use Rattle.conn_rows.proofs.IdEntries.{put_map, where_map, same_there, none_there, put_again}
use Rattle.daemon.proofs.KeepsLemmas.{conns_put, conns_without, conns_ring}
use Rattle.daemon.proofs.OwnLemmas.{none_watched}
use Rattle.conn_rows.proofs.UnsentBytes.{unsent_found}
use Rattle.daemon.proofs.PeerLemmas.{untaken, ids_unsent, ids_rests, rising_unsent, rising_rests}
use Rattle.daemon.proofs.DoorLemmas.{bare_ring}

-- what follows from some facts on a success
pub with_all : {T E P Q R U V S : Type 0} (r : Result T E) → OnOk r P → OnOk r Q → OnOk r R → OnOk r U → OnOk r V → (P → Q → R → U → V → S) → OnOk r S
with_all (Ok x) p q r u v to = to p q r u v
with_all (Err e) p q r u v to = tt

pub both : {T E : Type 0} (P Q : Type 0) (r : Result T E) → OnOk r P → OnOk r Q → OnOk r (P × Q)
both P Q (Ok x) p q = (p, q)
both P Q (Err e) p q = tt

-- what is added was not there
pub not_taken : (r : Result (Unit {0}) AddErr) (c : ℕ) (spec : ConnSpec) (specs : Specs) → (IsErrOf r Taken ↔ (is_taken c spec specs ≡ true)) → OnOk r (is_taken c spec specs ≡ false)
not_taken (Ok x) c spec specs h = by (is_taken c spec specs) refl
  where
    by : (b : Bool) → is_taken c spec specs ≡ b → b ≡ false
    by true e = let bad : Ok x ≡ Err Taken = h.1 e in cc
    by false e = refl
not_taken (Err e) c spec specs h = tt

pub not_there : (r : Result (Unit {0}) AddErr) (c : ℕ) (spec : ConnSpec) (specs : Specs) → (IsErrOf r Taken ↔ (is_taken c spec specs ≡ true)) → OnOk r (find nat_cmp c specs ≡ None)
not_there (Ok x) c spec specs h = untaken c spec specs (not_taken (Ok x) c spec specs h)
not_there (Err e) c spec specs h = tt

-- A CONNECTION IS ADDED
pub adds : (tree : KeptTree) (globals : Globals) (old new : Connected) (c : ℕ) (spec : ConnSpec) → 1 ≤ c → IsSound old → find nat_cmp c old.specs ≡ None → new.specs ≡ put nat_cmp c spec old.specs → new.watched ≡ old.watched → unsent_of new.queues ≡ put nat_cmp c [] (unsent_of old.queues) → rests_of new.queues ≡ put nat_cmp c 0 (rests_of old.queues) → new.txns ≡ put nat_cmp c [] old.txns → IsSound new
    → Adds (kept_by tree old globals) c spec (kept_by tree new globals)
adds tree globals old new c spec positive was absent specs watched bytes rests txns sound =
    let opens : opens_of new.txns ≡ put nat_cmp c [] (opens_of old.txns) = ap (λ rows. opens_of rows) txns ∙ put_map opens_in c [] old.txns in
    let made : put nat_cmp c (fresh spec) (conns_of old.specs old.watched) ≡ conns_of (put nat_cmp c spec old.specs) old.watched =
    ap (λ (ws : List Made). put nat_cmp c (watching spec (watches_in ws)) (conns_of old.specs old.watched)) (sym (none_watched old.specs old.watched was.watching c absent)) ∙ conns_put old.watched c spec old.specs
    in
    record {
      unsent = bytes;
      rests = rests;
      specs = specs;
      watched = watched;
      opens = opens;
      tree = (refl, refl);
      globals = refl;
      stands = λ m stands. record {
        same = λ i. record {
          machine = record {
            tree = (stands.same i).machine.tree;
            gens = (stands.same i).machine.gens;
            conns = (put_map without_transactions c (fresh spec) m.conns ∙ (λ j. put nat_cmp c (fresh spec) (stands.same j).machine.conns) ∙ made ∙ (λ j. conns_of (sym specs j) (sym watched j))) i;
          };
          opens = (put_map opens_of_conn c (fresh spec) m.conns ∙ (λ j. put nat_cmp c [] (stands.same j).opens) ∙ sym opens) i;
        };
        followed = with_conn_keeps m stands.followed c (fresh spec) tt;
        conn_ids = put_ids m stands.conn_ids c (fresh spec) positive;
        table = sound.table.table;
        ids = ids_unsent new sound;
        rest_ids = ids_rests new sound;
      };
    }

-- IT IS LOST
pub drops : (tree : KeptTree) (globals : Globals) (old new : Connected) (c : ℕ) → IsSound old → new.specs ≡ where_key nat_cmp (λ key. not (c == key)) old.specs → new.queues ≡ where_key nat_cmp (λ key. not (c == key)) old.queues → new.txns ≡ where_key nat_cmp (λ key. not (c == key)) old.txns → new.watched ≡ where_key nat_cmp (λ key. not (c == key)) old.watched → IsSound new
    → Drops (kept_by tree old globals) c (kept_by tree new globals)
drops tree globals old new c was specs queues txns watched sound =
    let store : store_in tree new ≡ (kept_step [] (store_in tree old) (Lost c)).0 =
    λ i. record {
      machine = record { tree = tree.nodes; gens = tree.gens; conns = ((λ j. conns_of (specs j) (watched j)) ∙ sym (conns_without (λ key. not (c == key)) old.specs old.watched was.table.table.rising)) i };
      opens = (ap (λ rows. opens_of rows) txns ∙ where_map opens_in (λ key. not (c == key)) old.txns) i;
    }
    in
    record {
      unsent = ap unsent_of queues ∙ where_map (λ (q : Queue). q.bytes) (λ key. not (c == key)) old.queues;
      rests = ap rests_of queues ∙ where_map (λ (q : Queue). q.rest) (λ key. not (c == key)) old.queues;
      globals = refl;
      store = store;
      stands = λ m stands. record {
        same = (steps_kept laws [] m (Lost c) stands.followed stands.conn_ids).store ∙ ap (λ (k : KeptStore). (kept_step [] k (Lost c)).0) stands.same ∙ sym store;
        followed = step_keeps m stands.followed [] (Lost c);
        conn_ids = step_ids m stands.conn_ids [] (Lost c);
        table = sound.table.table;
        ids = ids_unsent new sound;
        rest_ids = ids_rests new sound;
      };
    }

-- A RING is found as the store finds it
pub ring_stands : (kept : Kept) (d : ℕ) (m : Machine) → StandsFor kept m → ring_id d kept.specs ≡ ring_of d m.conns
ring_stands kept d m stands = sym (conns_ring kept.watched d kept.specs) ∙ ap (λ (k : KeptStore). ring_of d k.machine.conns) (sym stands.same) ∙ bare_ring d m.conns

-- HOW MANY BYTES are unsent to a connection
counted : (o : Option Queue) → option_map (λ (q : Queue). length q.bytes) o ≡ option_map length (option_map (λ (q : Queue). q.bytes) o)
counted None = refl
counted (Some q) = refl

pub unsent_count : (c : ℕ) (queues : List (ℕ × Queue)) → option_map (λ (q : Queue). length q.bytes) (find nat_cmp c queues) ≡ option_map length (find nat_cmp c (unsent_of queues))
unsent_count c queues = counted (find nat_cmp c queues) ∙ ap (option_map length) (sym (unsent_found c queues))

pub same_unsent : (peers : Connected) → IsSound peers → (c : ℕ) → is_some (find nat_cmp c (unsent_of peers.queues)) ≡ is_some (find nat_cmp c peers.specs)
same_unsent peers sound c = same_there (unsent_of peers.queues) peers.specs (ids_unsent peers sound) c

-- BYTES LEAVE
pub positive : (n : ℕ) → (n ≡ 0 → ⊥) → 0 < n
positive n h = omega arith

pub same_kept : (tree : KeptTree) (globals : Globals) (old new : Connected) → new.specs ≡ old.specs → new.watched ≡ old.watched → new.txns ≡ old.txns → unsent_of new.queues ≡ unsent_of old.queues → rests_of new.queues ≡ rests_of old.queues
    → kept_by tree new globals ≡ kept_by tree old globals
same_kept tree globals old new specs watched txns bytes rests =
    λ i. record { tree = tree.nodes; gens = tree.gens; globals = globals; specs = specs i; watched = watched i; opens = opens_of (txns i); unsent = bytes i; rests = rests i }

-- by what a refusal leaves
pub kept_as_before : (tree : KeptTree) (old : Connected) (tree_new : KeptTree) (new : Connected) → IsAsBefore tree old tree_new new → (globals : Globals) → kept_by tree_new new globals ≡ kept_by tree old globals
kept_as_before tree old tree_new new same globals = λ i. record {
  tree = same.nodes i;
  gens = same.gens i;
  globals = globals;
  specs = same.conns.specs i;
  watched = same.conns.watched i;
  opens = same.conns.opens i;
  unsent = same.conns.unsent i;
  rests = same.conns.rests i;
}

pub same_store : (tree : KeptTree) (old new : Connected) → new.specs ≡ old.specs → new.watched ≡ old.watched → new.txns ≡ old.txns → store_in tree new ≡ store_in tree old
same_store tree old new specs watched txns = λ i. record { machine = machine_of tree.nodes tree.gens (specs i) (watched i); opens = opens_of (txns i) }

pub pulled_none : (tree : KeptTree) (globals : Globals) (old new : Connected) (c : ℕ) (into into_new : List ℕ) → new.specs ≡ old.specs → new.watched ≡ old.watched → new.txns ≡ old.txns → PulledFrom old.queues c into new.queues into_new None → Pulled (kept_by tree old globals) c into (kept_by tree new globals) into_new Gone
pulled_none tree globals old new c into into_new specs watched txns pulled =
    (unsent_found c old.queues ∙ ap (option_map (λ (q : Queue). q.bytes)) pulled.0, (same_kept tree globals old new specs watched txns (ap unsent_of pulled.1.0) (ap rests_of pulled.1.0), pulled.1.1))

nothing_there : (bytes : List ℕ) → length bytes ≡ 0 → bytes ≡ []
nothing_there [] h = refl
nothing_there (b ∷ bs) h = absurd (omega arith)

pub pulled_nothing : (tree : KeptTree) (globals : Globals) (old new : Connected) (c : ℕ) (into into_new : List ℕ) (n : ℕ) → IsSound old → 0 < length into → n ≡ 0 → new.specs ≡ old.specs → new.watched ≡ old.watched → new.txns ≡ old.txns → PulledFrom old.queues c into new.queues into_new (Some n)
    → Pulled (kept_by tree old globals) c into (kept_by tree new globals) into_new Nothing
pulled_nothing tree globals old new c into into_new n sound room none specs watched txns moved =
    let unsent = unsent_of old.queues in
    let short : length moved.bytes ≡ 0 = omega (arith, moved.count) in
    let empty = nothing_there moved.bytes short in
    let there : find nat_cmp c unsent ≡ Some [] = moved.there ∙ ap (λ b. Some b) empty in
    let rising = rising_unsent old sound in (
      there,
      (
        same_kept tree globals old new specs watched txns (moved.unsent ∙ ap (λ b. put nat_cmp c b unsent) (ap (λ k. drop k moved.bytes) none ∙ empty) ∙ put_again c [] unsent rising there)
            (moved.rests ∙ ap (λ k. put nat_cmp c (rest_after moved.rest k moved.bytes) (rests_of old.queues)) none ∙ put_again c moved.rest (rests_of old.queues) (rising_rests old sound) moved.was),
        moved.taken ∙ ap (λ k. take k moved.bytes ++ drop k into) none,
      ),
    )

pub pulled_some : (tree : KeptTree) (globals : Globals) (old new : Connected) (c : ℕ) (into into_new : List ℕ) (n : ℕ) → IsSound new → 0 < n → new.specs ≡ old.specs → new.watched ≡ old.watched → new.txns ≡ old.txns → PulledFrom old.queues c into new.queues into_new (Some n)
    → Pulled (kept_by tree old globals) c into (kept_by tree new globals) into_new (Got n)
pulled_some tree globals old new c into into_new n sound some specs watched txns moved = record {
  bytes = moved.bytes;
  there = moved.there;
  some = omega (arith, moved.count);
  count = moved.count;
  taken = moved.taken;
  unsent = moved.unsent;
  rest = moved.rest;
  was = moved.was;
  rests = moved.rests;
  globals = refl;
  stands = λ m stands. record {
    same = stands.same ∙ sym (same_store tree old new specs watched txns);
    followed = stands.followed;
    conn_ids = stands.conn_ids;
    table = sound.table.table;
    ids = ids_unsent new sound;
    rest_ids = ids_rests new sound;
  };
}

-- WHAT IS NOT TAKEN
pub absent_unsent : (peers : Connected) → IsSound peers → (c : ℕ) → None ≡ find nat_cmp c peers.specs → find nat_cmp c (unsent_of peers.queues) ≡ None
absent_unsent peers sound c absent = none_there (find nat_cmp c (unsent_of peers.queues)) (same_unsent peers sound c ∙ ap is_some (sym absent))

pub uncounted : (c : ℕ) (unsent : List (ℕ × List ℕ)) → None ≡ option_map length (find nat_cmp c unsent) → find nat_cmp c unsent ≡ None
uncounted c unsent none = by (find nat_cmp c unsent) none
  where
    by : (o : Option (List ℕ)) → None ≡ option_map length o → o ≡ None
    by None h = refl
    by (Some b) h = not_Some h

pub count_there : (n c : ℕ) (unsent : List (ℕ × List ℕ)) → Some n ≡ option_map length (find nat_cmp c unsent) → (bytes : List ℕ) × (find nat_cmp c unsent ≡ Some bytes) × (n ≡ length bytes)
count_there n c unsent some = by (find nat_cmp c unsent) some
  where
    by : (o : Option (List ℕ)) → Some n ≡ option_map length o → (bytes : List ℕ) × (o ≡ Some bytes) × (n ≡ length bytes)
    by None h = not_Some (sym h)
    by (Some b) h = (b, refl, from_Some h)
