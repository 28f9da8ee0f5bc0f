-- A start stands for the world that goes on from the state of the store.
use Rattle.std.proofs.Common.{◌≡◌, ℕ, true, List, [], ◌∷◌, map, filter_map, refl, sym, ap, subst, ◌∙◌}
use Rattle.std.specs.List.{cons_option}
use Rattle.std.specs.Ordering.{nat_cmp}
use Rattle.std.specs.FinMap.{is_sorted}
use Rattle.machine_model.specs.declared.ConnSpec.{ConnSpec}
use Rattle.machine_model.specs.Connections.{Connection}
use Rattle.machine_model.specs.History.{bytes_or_none}
use Rattle.mark_model.specs.Marks.{Mark}
use Rattle.mark_model.specs.Stores.{KeptStore, Opens, or_no_opens, opens_of, begun_conn}
use Rattle.mark_model.proofs.MarkLaws.{laws}
use Rattle.mark_model.proofs.StoreKeepers.{begun_followed, begun_kept}
use Rattle.mark_model.proofs.StoreMaps.{map_map, sorted_keys}
use Rattle.kept_model.specs.States.{TransactionOf, ConnectionOf, State, kept_transaction, opens_in, connection_in, store_of as store_of_state, begun}
use Rattle.kept_model.specs.Sound.{IsSound}
use Rattle.conn_table.specs.Tables.{Specs, IsTable}
use Rattle.conn_rows.proofs.IdEntries.{keys_map}
use Rattle.store_parts.specs.Kept.{Kept as KeptByDaemon}
use Rattle.store_parts.specs.States.{Inboxes, or_zero, transactions_of, connection_of, state_of}
use Rattle.daemon.specs.Ids.{AreIds}
use Rattle.daemon.specs.Keeps as daemon
use Rattle.daemon.proofs.KeepsLemmas.{at_keys}
use Rattle.daemon.proofs.ValueLemmas.{values_same}
use Rattle.world_model.specs.Worlds.{Channel, ring_domid, with_fresh_guests, unsent_of}
use Rattle.world_states.specs.States.{channel_in, ring_domids, begun_world}
use Rattle.world_core.specs.Stands.{Kept, StandsFor, Begins, inboxes_of, rests_of}

-- THE DOMAINS of the rings of connections with the same ends
domids_again : (g : ℕ × ConnectionOf Mark → Connection) → ((e : ℕ × ConnectionOf Mark) → (g e).spec ≡ e.1.spec) → (es : List (ℕ × ConnectionOf Mark))
    → filter_map (λ (e : ℕ × Connection). ring_domid e.1.spec) (map (λ e. (e.0, g e)) es) ≡ filter_map (λ (e : ℕ × ConnectionOf Mark). ring_domid e.1.spec) es
domids_again g same [] = refl
domids_again g same (e ∷ es) = λ i. cons_option (ring_domid (same e i)) (domids_again g same es i)

-- an open transaction that the state tells is the one that is kept
same_txns : (opens : Opens) → map (λ (f : ℕ × TransactionOf Mark). (f.0, kept_transaction f.1)) (transactions_of opens) ≡ opens
same_txns [] = refl
same_txns (f ∷ opens) = ap (λ fs. f ∷ fs) (same_txns opens)

opens_by_ids : (opens : List (ℕ × Opens)) (specs : Specs)
    → map (λ (e : ℕ × ConnSpec). (e.0, map (λ (f : ℕ × TransactionOf Mark). (f.0, kept_transaction f.1)) (transactions_of (opens_of e.0 opens)))) specs ≡ map {B = ℕ × Opens} (λ e. (e.0, opens_of e.0 opens)) specs
opens_by_ids opens [] = refl
opens_by_ids opens (e ∷ specs) = λ i. (e.0, same_txns (opens_of e.0 opens) i) ∷ opens_by_ids opens specs i

module _ (store : KeptByDaemon) (ins : Inboxes) where
  abbrev told : State
  told = state_of store ins

  abbrev channels : List (ℕ × Channel)
  channels = map (λ e. (e.0, channel_in e.1)) told.conns

  -- what is told of each connection is told of the table
  of_state : {V : Type 0} (f : ConnectionOf Mark → V) → map (λ e. (e.0, f e.1)) told.conns ≡ map {B = ℕ × V} (λ e. (e.0, f (connection_of store ins e.0 e.1))) store.specs
  of_state f = map_map (λ (e : ℕ × ConnSpec). (e.0, connection_of store ins e.0 e.1)) (λ e. (e.0, f e.1)) store.specs

  of_channels : {V : Type 0} (f : Channel → V) → map (λ e. (e.0, f e.1)) channels ≡ map {B = ℕ × V} (λ e. (e.0, f (channel_in (connection_of store ins e.0 e.1)))) store.specs
  of_channels f = map_map (λ (e : ℕ × ConnectionOf Mark). (e.0, channel_in e.1)) (λ e. (e.0, f e.1)) told.conns ∙ of_state (λ conn. f (channel_in conn))

  same_domids : filter_map (λ (e : ℕ × Connection). ring_domid e.1.spec) (begun told).conns ≡ ring_domids told
  same_domids =
      let k : KeptStore = store_of_state told in
      ap (filter_map (λ (e : ℕ × Connection). ring_domid e.1.spec)) (map_map (λ (e : ℕ × ConnectionOf Mark). (e.0, connection_in e.1)) (λ e. (e.0, begun_conn told.tree (opens_of e.0 k.opens) e.1)) told.conns)
      ∙ domids_again (λ e. begun_conn told.tree (opens_of e.0 k.opens) (connection_in e.1)) (λ e. refl) told.conns

  module _ (sound : IsSound told) (are : AreIds store) (table : IsTable store.specs) where
    same_opens : map (λ (e : ℕ × ConnectionOf Mark). (e.0, opens_in e.1)) told.conns ≡ store.opens
    same_opens =
        of_state opens_in ∙ opens_by_ids store.opens store.specs
        ∙ sym (values_same or_no_opens (λ txns. refl) store.opens store.specs are.opens table.rising store.specs refl)

    same_store : store_of_state told ≡ daemon.store_of store
    same_store = λ i. record {
      machine = record { tree = store.tree; gens = store.gens; conns = of_state connection_in i };
      opens = same_opens i;
    }

    -- the daemon stands for the store that is begun
    store_stands : daemon.StandsFor store (begun told)
    store_stands = record {
      same = begun_kept laws (store_of_state told) sound.store.kept ∙ same_store;
      followed = (begun_followed laws (store_of_state told) sound.store.kept).followed;
      conn_ids = (begun_followed laws (store_of_state told) sound.store.kept).ids;
      table = table;
      ids = are.unsent;
      rest_ids = are.rests;
    }

    module _ (named : map (λ e. e.0) ins ≡ map (λ e. e.0) store.unsent) where
      same_inboxes : inboxes_of channels ≡ ins
      same_inboxes = of_channels (λ channel. channel.inbox) ∙ sym (values_same bytes_or_none (λ bytes. refl) ins store.specs (named ∙ are.unsent) table.rising store.specs refl)

      same_unsent : unsent_of channels ≡ store.unsent
      same_unsent = of_channels (λ channel. channel.unsent) ∙ sym (values_same bytes_or_none (λ bytes. refl) store.unsent store.specs are.unsent table.rising store.specs refl)

      same_rests : rests_of channels ≡ store.rests
      same_rests = of_channels (λ channel. channel.rest) ∙ sym (values_same or_zero (λ n. refl) store.rests store.specs are.rests table.rising store.specs refl)

      in_order : is_sorted nat_cmp channels ≡ true
      in_order =
          sorted_keys nat_cmp channels store.specs (keys_map channel_in told.conns ∙ at_keys (connection_of store ins) store.specs) ∙ table.rising

      pub begun_stands : (new : Kept) → Begins store ins new → StandsFor new (begun_world told)
      begun_stands new begins =
          subst (λ domids. StandsFor new (record { machine = begun told; globals = store.globals; guests = with_fresh_guests domids []; channels = channels })) same_domids
          (begins.stands (begun told) channels store_stands same_inboxes same_unsent same_rests in_order)
