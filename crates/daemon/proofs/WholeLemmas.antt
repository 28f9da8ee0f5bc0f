-- What a daemon keeps stays whole.
use Rattle.std.proofs.Common.{◌≡◌, ℕ, ◌<◌, ◌≤◌, ◌^◌, ◌==◌, ◌||◌, not, Bool, true, false, List, [], ◌∷◌, map, length, None, is_some, Result, Ok, Err, OnOk, OnErr, refl, sym, ap, subst, ◌∙◌, arith, eqb-true}
use Rattle.std.specs.Option.{option_map}
use Rattle.std.specs.List.{AllByRecursion}
use Rattle.std.specs.Ordering.{nat_cmp}
use Rattle.std.specs.FinMap.{find, put}
use Rattle.std.specs.FinMap.Entries.{where_key}
use Rattle.xs_model.specs.Trees.{Tree, IsTree}
use Rattle.xs_model.specs.Generations.{greatest}
use Rattle.xs_model.proofs.Maps.{all_put}
use Rattle.machine_model.specs.declared.bounds.TheConstants.{CROWD_LIMIT}
use Rattle.machine_model.specs.History.{Unsent}
use Rattle.machine_model.specs.Limits.{HasIds}
use Rattle.machine_model.specs.declared.ConnSpec.{ConnSpec}
use Rattle.machine_model.specs.declared.ConnSpec.TheVariants.{Ring, Socket}
use Rattle.machine_model.specs.Connections.{fresh, is_ring_of}
use Rattle.machine_model.specs.Machine.{Lost}
use Rattle.mark_model.specs.Stores.{Opens, IsKeptTransaction, IsKeptStore, kept_step}
use Rattle.kept_model.specs.Sound.{IsSoundStore, SpecFits, OpensFit, count_ends, is_socket as is_socket_end}
use Rattle.kept_model.proofs.StepConns.{ConnsFit, added_fits}
use Rattle.kept_model.proofs.StepStores.{steps_keep_sound}
use Rattle.conn_table.specs.Tables.{Specs, ring_id, has_its_ring, is_taken, is_socket, count_sockets}
use Rattle.watch_table.specs.Tables.{Made, watches_in}
use Rattle.node_tree.specs.KeptTree.{KeptTree}
use Rattle.out_queues.specs.Queues.{Queue}
use Rattle.watchers.specs.Watched.{Watched, watching, conns_of}
use Rattle.daemon.specs.Keeps.{machine_of}
use Rattle.conn_rows.specs.Rows.{opens_in, opens_of}
use Rattle.conn_rows.specs.Queued.{unsent_of}
use Rattle.daemon.specs.Peers.{Connected, IsSound, IsSoundTable}
use Rattle.daemon.specs.Acts.{IsWhole, IsAsBefore, store_in}
use Rattle.conn_rows.proofs.IdEntries.{put_map, where_map, none_there}
use Rattle.daemon.proofs.KeepsLemmas.{conn_at, conns_keys, conns_rising, conns_found, conns_put, conns_ring, conns_without}
use Rattle.daemon.proofs.OwnLemmas.{none_watched}
use Rattle.daemon.proofs.PeerLemmas.{Belong, belong_same, belongs, positive_ids, unsent_keys, short_unsent, ids_unsent, untaken}
use Rattle.daemon.proofs.UnsentLemmas.{opens_keys, ids_open}

-- SOUND by what is kept
short_again : (queues : List (ℕ × Queue)) → AllByRecursion (λ e. length e.1 ≤ CROWD_LIMIT) (unsent_of queues) → AllByRecursion (λ e. length e.1.bytes ≤ CROWD_LIMIT) queues
short_again [] h = tt
short_again (e ∷ es) h = (h.0, short_again es h.1)

pub sound_kept : (peers : Connected) → IsSoundTable peers.specs → Belong peers.specs peers.watched → map (λ e. e.0) (unsent_of peers.queues) ≡ map (λ e. e.0) peers.specs → map (λ e. e.0) (opens_of peers.txns) ≡ map (λ e. e.0) peers.specs
    → AllByRecursion (λ e. length e.1 ≤ CROWD_LIMIT) (unsent_of peers.queues) → IsSound peers
sound_kept peers table belong ids rows short = record {
  table = table;
  own = belong.0;
  watching = belong.1;
  ids = sym (unsent_keys peers.queues) ∙ ids;
  rows = sym (opens_keys peers.txns) ∙ rows;
  short = short_again peers.queues short;
}

-- THE STORE
abbrev AreKept : Tree → Opens → Type 0
AreKept tree opens = AllByRecursion (λ f. IsKeptTransaction tree f.1) opens

conns_ids : (specs : Specs) (watched : Watched) → IsSoundTable specs → HasIds (conns_of specs watched)
conns_ids specs watched sound = record { rising = conns_rising watched specs sound.table.rising; positive = positive_ids (conns_of specs watched) specs (conns_keys watched specs) sound.ids }

none_open : (specs : Specs) (watched : Watched) → AllByRecursion (λ e. e.1.transactions ≡ []) (conns_of specs watched)
none_open [] watched = tt
none_open (e ∷ es) watched = (refl, none_open es watched)

store_kept : (tree : KeptTree) (peers : Connected) → IsSound peers → IsTree tree.nodes → (opens : List (ℕ × Opens)) → opens_of peers.txns ≡ opens → AllByRecursion (λ e. AreKept tree.nodes e.1) opens → IsKeptStore (store_in tree peers)
store_kept tree peers sound is_tree opens same each = record {
  tree = is_tree;
  ids = conns_ids peers.specs peers.watched sound.table;
  none_open = none_open peers.specs peers.watched;
  keys = ids_open peers sound ∙ sym (conns_keys peers.watched peers.specs);
  each = subst (AllByRecursion (λ e. AreKept tree.nodes e.1)) (sym same) each;
}

-- HOW MANY SOCKETS there are, and rings of a domain
same_socket : (spec : ConnSpec) → is_socket_end spec ≡ is_socket spec
same_socket (Ring domid target evtchn) = refl
same_socket (Socket fd) = refl

pub sockets_counted : (specs : Specs) (watched : Watched) → count_ends is_socket_end (conns_of specs watched) ≡ count_sockets specs
sockets_counted [] watched = refl
sockets_counted ((id, Ring domid target evtchn) ∷ es) watched = sockets_counted es watched
sockets_counted ((id, Socket fd) ∷ es) watched = let rest = sockets_counted es watched in omega (arith, rest)

untaken_ring : (c : ℕ) (spec : ConnSpec) (specs : Specs) → is_taken c spec specs ≡ false → has_its_ring spec specs ≡ false
untaken_ring c spec specs h = by (is_some (find nat_cmp c specs)) h
  where
    by : (b : Bool) → (b || has_its_ring spec specs) ≡ false → has_its_ring spec specs ≡ false
    by true e = cc
    by false e = e

ringless : (d : ℕ) (spec : ConnSpec) (specs : Specs) → has_its_ring spec specs ≡ false → is_ring_of d spec ≡ true → ring_id d specs ≡ None
ringless d (Ring domid target evtchn) specs none is = none_there (ring_id d specs) (ap (λ k. is_some (ring_id k specs)) (eqb-true d domid is) ∙ none)
ringless d (Socket fd) specs none is = cc

module _ (tree : KeptTree) (old : Connected) (whole : IsWhole tree old) (new : Connected) where
  -- the same connections, with the same transactions open
  pub whole_same : IsSound new → new.specs ≡ old.specs → new.watched ≡ old.watched → new.txns ≡ old.txns → IsWhole tree new
  whole_same sound specs watched txns = record {
    sound = sound;
    store = subst IsSoundStore (λ i. record { machine = machine_of tree.nodes tree.gens (sym specs i) (sym watched i); opens = opens_of (sym txns i) }) whole.store;
    counter = whole.counter;
  }

  -- a connection more
  module _ (c : ℕ) (spec : ConnSpec) (small : c < 2 ^ 32) (fits : SpecFits spec) (few : is_socket spec ≡ true → count_sockets old.specs < 65536) where
    pub whole_more : IsSound new → is_taken c spec old.specs ≡ false → new.specs ≡ put nat_cmp c spec old.specs → new.watched ≡ old.watched → new.txns ≡ put nat_cmp c [] old.txns → IsWhole tree new
    whole_more sound free specs watched txns =
        let absent : find nat_cmp c old.specs ≡ None = untaken c spec old.specs free in
        let conns = conns_of old.specs old.watched in
        let made : put nat_cmp c (fresh spec) conns ≡ conns_of new.specs new.watched =
        ap (λ (ws : List Made). put nat_cmp c (watching spec (watches_in ws)) conns) (sym (none_watched old.specs old.watched whole.sound.watching c absent))
        ∙ conns_put old.watched c spec old.specs ∙ (λ i. conns_of (sym specs i) (sym watched i))
        in
        let had : ConnsFit conns = record { ids = whole.store.ids; ends = whole.store.ends; rings = whole.store.rings; sockets = whole.store.sockets; watches = whole.store.watches } in
        let has : ConnsFit (conns_of new.specs new.watched) =
        subst ConnsFit made (added_fits conns whole.store.kept.ids had c spec (conns_found old.watched c old.specs ∙ ap (option_map (conn_at old.watched c)) absent) small fits
        (λ d is. conns_ring old.watched d old.specs ∙ ringless d spec old.specs (untaken_ring c spec old.specs free) is)
        (λ is. subst (λ n. n < 65536) (sym (sockets_counted old.specs old.watched)) (few (sym (same_socket spec) ∙ is))))
        in
        let opens : put nat_cmp c [] (opens_of old.txns) ≡ opens_of new.txns = sym (ap opens_of txns ∙ put_map opens_in c [] old.txns) in
        record {
          sound = sound;
          store = record {
            kept = store_kept tree new sound whole.store.kept.tree (put nat_cmp c [] (opens_of old.txns)) (sym opens) (all_put nat_cmp (AreKept tree.nodes) c [] (opens_of old.txns) tt whole.store.kept.each);
            nodes = whole.store.nodes;
            numbers = whole.store.numbers;
            ids = has.ids;
            ends = has.ends;
            rings = has.rings;
            sockets = has.sockets;
            watches = has.watches;
            opens = subst (AllByRecursion (λ e. OpensFit e.1)) opens (all_put nat_cmp OpensFit c [] (opens_of old.txns) (record { rising = refl; numbers = tt; marks = tt }) whole.store.opens);
          };
          counter = whole.counter;
        }

    pub whole_added : {T E S : Type 0} (r : Result T E) → OnOk r S → (S → IsSound new) → OnOk r (is_taken c spec old.specs ≡ false) → OnOk r (new.specs ≡ put nat_cmp c spec old.specs) → new.watched ≡ old.watched → OnOk r (new.txns ≡ put nat_cmp c [] old.txns) → OnErr r (new ≡ old) → IsWhole tree new
    whole_added (Ok x) sound to free specs watched txns same = whole_more (to sound) free specs watched txns
    whole_added (Err e) sound to free specs watched txns same = subst (IsWhole tree) (sym same) whole

  -- one less
  pub whole_less : IsSound new → (c : ℕ) → new.specs ≡ where_key nat_cmp (λ key. not (c == key)) old.specs → new.watched ≡ where_key nat_cmp (λ key. not (c == key)) old.watched → new.txns ≡ where_key nat_cmp (λ key. not (c == key)) old.txns → IsWhole tree new
  whole_less sound c specs watched txns =
      let left : (kept_step [] (store_in tree old) (Lost c)).0 ≡ store_in tree new =
      λ i. record {
        machine = record { tree = tree.nodes; gens = tree.gens; conns = (conns_without (λ key. not (c == key)) old.specs old.watched whole.sound.table.table.rising ∙ (λ j. conns_of (sym specs j) (sym watched j))) i };
        opens = sym (ap opens_of txns ∙ where_map opens_in (λ key. not (c == key)) old.txns) i;
      }
      in
      record {
        sound = sound;
        store = subst IsSoundStore left (steps_keep_sound [] (store_in tree old) (Lost c) tt whole.store);
        counter = whole.counter;
      }

-- nothing has changed but memory
pub whole_as_before : (tree : KeptTree) (old : Connected) → IsWhole tree old → (tree_new : KeptTree) (new : Connected) → IsAsBefore tree old tree_new new → IsWhole tree_new new
whole_as_before tree old whole tree_new new as_before =
    let kept = as_before.conns in
    let keys : map (λ e. e.0) old.specs ≡ map (λ e. e.0) new.specs = ap (map (λ e. e.0)) (sym kept.specs) in
    let store : store_in tree_new new ≡ store_in tree old =
    λ i. record { machine = machine_of (as_before.nodes i) (as_before.gens i) (kept.specs i) (kept.watched i); opens = kept.opens i }
    in
    record {
      sound = sound_kept new (subst IsSoundTable (sym kept.specs) whole.sound.table)
          (belong_same old.specs new.specs old.watched new.watched kept.specs kept.watched (belongs old whole.sound))
          (ap (λ (es : Unsent). map (λ e. e.0) es) kept.unsent ∙ ids_unsent old whole.sound ∙ keys)
          (ap (λ (es : List (ℕ × Opens)). map (λ e. e.0) es) kept.opens ∙ ids_open old whole.sound ∙ keys)
          (subst (λ (es : Unsent). AllByRecursion (λ e. length e.1 ≤ CROWD_LIMIT) es) (sym kept.unsent) (short_unsent old.queues whole.sound.short));
      store = subst IsSoundStore (sym store) whole.store;
      counter = as_before.counter ∙ whole.counter ∙ ap greatest (sym as_before.gens);
    }
