-- The state that a world keeps is told by what the code keeps of it.
use Rattle.std.proofs.Common.{◌≡◌, ℕ, List, map, Option, Some, None, refl, sym, ap, ◌∙◌}
use Rattle.std.specs.Option.{option_map}
use Rattle.std.specs.Ordering.{nat_cmp}
use Rattle.std.specs.FinMap.{find}
use Rattle.xs_model.proofs.Maps.{found_map}
use Rattle.machine_model.specs.declared.ConnSpec.{ConnSpec}
use Rattle.machine_model.specs.Connections.{Connection, Connections}
use Rattle.machine_model.specs.Transactions.{Transaction}
use Rattle.machine_model.specs.History.{bytes_or_none}
use Rattle.machine_model.proofs.Lists.{all_weaker}
use Rattle.mark_model.specs.Marks.{Mark}
use Rattle.mark_model.specs.Stores.{KeptStore, Opens, kept_transaction as marks_in, opens_in, without_transactions, or_no_opens, opens_of}
use Rattle.mark_model.proofs.StoreMaps.{map_map, map_alike, each_found}
use Rattle.kept_model.specs.States.{ConnectionOf}
use Rattle.world_model.specs.Worlds.{World, Channel, channel_or_empty, unsent_of}
use Rattle.world_states.specs.States.{kept_transaction, kept_connection, channel_of, kept as kept_of_world}
use Rattle.watchers.specs.Watched.{watching, watches_of}
use Rattle.store_parts.specs.States.{Inboxes, or_zero, rest_of, transaction_of, transactions_of, state_of}
use Rattle.world_core.specs.Stands.{Kept, StandsFor, inboxes_of, rests_of}

-- BYTES UNDER WAY of a connection, by the lists of each kind
module _ (c : ℕ) (channels : List (ℕ × Channel)) where
  inbox_at : bytes_or_none (find nat_cmp c (inboxes_of channels)) ≡ (channel_of c channels).inbox
  inbox_at = ap bytes_or_none (found_map nat_cmp (λ (channel : Channel). channel.inbox) c channels) ∙ by (find nat_cmp c channels)
    where
      by : (o : Option Channel) → bytes_or_none (option_map (λ (channel : Channel). channel.inbox) o) ≡ (channel_or_empty o).inbox
      by None = refl
      by (Some channel) = refl

  unsent_at : bytes_or_none (find nat_cmp c (unsent_of channels)) ≡ (channel_of c channels).unsent
  unsent_at = ap bytes_or_none (found_map nat_cmp (λ (channel : Channel). channel.unsent) c channels) ∙ by (find nat_cmp c channels)
    where
      by : (o : Option Channel) → bytes_or_none (option_map (λ (channel : Channel). channel.unsent) o) ≡ (channel_or_empty o).unsent
      by None = refl
      by (Some channel) = refl

  rest_at : rest_of c (rests_of channels) ≡ (channel_of c channels).rest
  rest_at = ap or_zero (found_map nat_cmp (λ (channel : Channel). channel.rest) c channels) ∙ by (find nat_cmp c channels)
    where
      by : (o : Option Channel) → or_zero (option_map (λ (channel : Channel). channel.rest) o) ≡ (channel_or_empty o).rest
      by None = refl
      by (Some channel) = refl

-- the open transactions of a connection
opens_at : (e : ℕ × Connection) (conns : Connections) → find nat_cmp e.0 conns ≡ Some e.1
    → transactions_of (opens_of e.0 (map (λ e. (e.0, opens_in e.1)) conns)) ≡ map (λ f. (f.0, kept_transaction f.1)) e.1.transactions
opens_at e conns found =
    ap (λ o. transactions_of (or_no_opens o)) (found_map nat_cmp opens_in e.0 conns ∙ ap (option_map opens_in) found)
    ∙ map_map (λ (f : ℕ × Transaction). (f.0, marks_in f.1)) (λ f. (f.0, transaction_of f.1)) e.1.transactions

-- ONE CONNECTION of the state, by the one of the store
module _ (opens : List (ℕ × Opens)) (ins : Inboxes) (rests : List (ℕ × ℕ)) (unsent : List (ℕ × List ℕ)) where
  abbrev with_bytes : ℕ × Connection → ℕ × ConnectionOf Mark
  with_bytes e = (
    e.0,
    record {
      spec = e.1.spec;
      watches = e.1.watches;
      inbox = bytes_or_none (find nat_cmp e.0 ins);
      rest = rest_of e.0 rests;
      unsent = bytes_or_none (find nat_cmp e.0 unsent);
      opens = transactions_of (opens_of e.0 opens);
    },
  )

module _ (conns : Connections) (channels : List (ℕ × Channel)) where
  abbrev bare_with_bytes : ℕ × Connection → ℕ × ConnectionOf Mark
  bare_with_bytes e = with_bytes (map (λ e. (e.0, opens_in e.1)) conns) (inboxes_of channels) (rests_of channels) (unsent_of channels) (e.0, without_transactions e.1)

  abbrev kept_with_channel : ℕ × Connection → ℕ × ConnectionOf Mark
  kept_with_channel e = (e.0, kept_connection (channel_of e.0 channels) e.1)

  same_connection : (e : ℕ × Connection) → find nat_cmp e.0 conns ≡ Some e.1 → kept_with_channel e ≡ bare_with_bytes e
  same_connection e found i = (
    e.0,
    record {
      spec = e.1.spec;
      watches = e.1.watches;
      inbox = sym (inbox_at e.0 channels) i;
      rest = sym (rest_at e.0 channels) i;
      unsent = sym (unsent_at e.0 channels) i;
      opens = sym (opens_at e conns found) i;
    },
  )

-- WHAT A WORLD KEEPS that is stood for
module _ (kept : Kept) (w : World) (stands : StandsFor kept w) where
  abbrev in_kept : ℕ × Connection → ℕ × ConnectionOf Mark
  in_kept = with_bytes kept.daemon.opens kept.inboxes kept.daemon.rests kept.daemon.unsent

  same_bytes : bare_with_bytes w.machine.conns w.channels ≡ (λ e. in_kept (e.0, without_transactions e.1))
  same_bytes i e = with_bytes (stands.store.same i).opens (stands.inboxes i) (stands.rests i) (stands.unsent i) (e.0, without_transactions e.1)

  same_conns : (kept_of_world w).conns ≡ (state_of kept.daemon kept.inboxes).conns
  same_conns =
      map_alike (kept_with_channel w.machine.conns w.channels) (bare_with_bytes w.machine.conns w.channels) w.machine.conns
      (all_weaker (λ (e : ℕ × Connection). find nat_cmp e.0 w.machine.conns ≡ Some e.1) (λ e. kept_with_channel w.machine.conns w.channels e ≡ bare_with_bytes w.machine.conns w.channels e) (same_connection w.machine.conns w.channels) w.machine.conns
      (each_found w.machine.conns stands.store.conn_ids.rising))
      ∙ ap (λ (f : ℕ × Connection → ℕ × ConnectionOf Mark). map f w.machine.conns) same_bytes
      ∙ sym (map_map (λ (e : ℕ × Connection). (e.0, without_transactions e.1)) in_kept w.machine.conns)
      ∙ ap (λ (k : KeptStore). map in_kept k.machine.conns) stands.store.same
      ∙ map_map (λ (e : ℕ × ConnSpec). (e.0, watching e.1 (watches_of e.0 kept.daemon.watched))) in_kept kept.daemon.specs

  pub kept_is : kept_of_world w ≡ state_of kept.daemon kept.inboxes
  kept_is = λ i. record {
    tree = (stands.store.same i).machine.tree;
    gens = (stands.store.same i).machine.gens;
    globals = stands.globals i;
    conns = same_conns i;
  }
