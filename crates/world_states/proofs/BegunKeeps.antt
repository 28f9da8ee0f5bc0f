-- What the world that goes on from a sound state keeps.
use Rattle.std.specs.Prelude.{◌≡◌, ℕ, List, map, Some}
use Rattle.std.specs.List.{AllByRecursion}
use Rattle.std.specs.Ordering.{nat_cmp}
use Rattle.std.specs.FinMap.{find}
use Rattle.std.specs.Option.{option_map}
use Rattle.std.proofs.Common.{ap, ◌∙◌}
use Rattle.xs_model.proofs.Maps.{found_map}
use Rattle.machine_model.proofs.Lists.{all_weaker}
use Rattle.mark_model.specs.Marks.{Mark}
use Rattle.machine_model.specs.Connections.{Connection}
use Rattle.machine_model.specs.Transactions.{Transaction}
use Rattle.mark_model.specs.Stores.{KeptTransaction, begun_transaction, begun_conn, or_no_opens, opens_of}
use Rattle.mark_model.proofs.MarkLaws.{laws}
use Rattle.mark_model.proofs.StoreMaps.{map_map, map_itself, all_with, each_found}
use Rattle.kept_model.specs.States.{TransactionOf, ConnectionOf, State, kept_transaction as as_kept, opens_in, connection_in, store_of}
use Rattle.kept_model.specs.Sound.{IsSound}
use Rattle.kept_model.proofs.SaveSound.{TransactionFits, ConnectionFits, all_fit, conns_rising}
use Rattle.world_model.specs.Worlds.{Channel, channel_or_empty}
use Rattle.world_states.specs.States.{kept, kept_transaction, kept_connection, channel_in, channel_of, begun_world}

module _ (s : State) (sound : IsSound s) where
  -- a transaction that was begun
  abbrev again : ℕ × TransactionOf Mark → ℕ × TransactionOf Mark
  again f = (f.0, kept_transaction (begun_transaction s.tree (as_kept f.1)))

  same_transaction : (f : ℕ × TransactionOf Mark) → TransactionFits s.tree f → again f ≡ f
  same_transaction f fits i = (
    f.0,
    record {
      count = laws.count s.tree f.1.marks f.1.count fits.count i;
      marks = laws.marks s.tree f.1.marks f.1.count fits.over.rising i;
    },
  )

  same_opens : (opens : List (ℕ × TransactionOf Mark)) → AllByRecursion (TransactionFits s.tree) opens
      → map (λ (f : ℕ × Transaction). (f.0, kept_transaction f.1)) (map (λ (f : ℕ × KeptTransaction). (f.0, begun_transaction s.tree f.1)) (map (λ (f : ℕ × TransactionOf Mark). (f.0, as_kept f.1)) opens)) ≡ opens
  same_opens opens fit =
      ap (map (λ (f : ℕ × Transaction). (f.0, kept_transaction f.1))) (map_map (λ (f : ℕ × TransactionOf Mark). (f.0, as_kept f.1)) (λ f. (f.0, begun_transaction s.tree f.1)) opens)
      ∙ map_map (λ (f : ℕ × TransactionOf Mark). (f.0, begun_transaction s.tree (as_kept f.1))) (λ f. (f.0, kept_transaction f.1)) opens
      ∙ map_itself again opens (all_weaker (TransactionFits s.tree) (λ f. again f ≡ f) same_transaction opens fit)

  -- a connection that was begun, with the bytes that are under way
  abbrev channels : List (ℕ × Channel)
  channels = map (λ e. (e.0, channel_in e.1)) s.conns

  abbrev goes_on : ℕ × ConnectionOf Mark → ℕ × ConnectionOf Mark
  goes_on e = (e.0, kept_connection (channel_of e.0 channels) (begun_conn s.tree (opens_of e.0 (store_of s).opens) (connection_in e.1)))

  same_connection : (e : ℕ × ConnectionOf Mark) → find nat_cmp e.0 s.conns ≡ Some e.1 → ConnectionFits s.tree e → goes_on e ≡ e
  same_connection e found fits =
      let channel : channel_of e.0 channels ≡ channel_in e.1 =
      ap channel_or_empty (found_map nat_cmp channel_in e.0 s.conns ∙ ap (option_map channel_in) found) in
      let opens : opens_of e.0 (store_of s).opens ≡ opens_in e.1 =
      ap or_no_opens (found_map nat_cmp opens_in e.0 s.conns ∙ ap (option_map opens_in) found) in
      ap (λ ch. (e.0, kept_connection ch (begun_conn s.tree (opens_of e.0 (store_of s).opens) (connection_in e.1)))) channel
      ∙ ap (λ ts. (e.0, kept_connection (channel_in e.1) (begun_conn s.tree ts (connection_in e.1)))) opens
      ∙ (λ i. (
        e.0,
        record {
          spec = e.1.spec;
          watches = e.1.watches;
          inbox = e.1.inbox;
          rest = e.1.rest;
          unsent = e.1.unsent;
          opens = same_opens e.1.opens fits.opens i;
        },
      ))

  same_conns : (kept (begun_world s)).conns ≡ s.conns
  same_conns =
      ap (map (λ (e : ℕ × Connection). (e.0, kept_connection (channel_of e.0 channels) e.1))) (map_map (λ (e : ℕ × ConnectionOf Mark). (e.0, connection_in e.1)) (λ e. (e.0, begun_conn s.tree (opens_of e.0 (store_of s).opens) e.1)) s.conns)
      ∙ map_map (λ (e : ℕ × ConnectionOf Mark). (e.0, begun_conn s.tree (opens_of e.0 (store_of s).opens) (connection_in e.1))) (λ e. (e.0, kept_connection (channel_of e.0 channels) e.1)) s.conns
      ∙ map_itself goes_on s.conns
      (all_with (λ e. find nat_cmp e.0 s.conns ≡ Some e.1) (ConnectionFits s.tree) (λ e. goes_on e ≡ e) same_connection s.conns (each_found s.conns (conns_rising s sound)) (all_fit s sound))

  pub begun_keeps : kept (begun_world s) ≡ s
  begun_keeps = λ i. record { tree = s.tree; gens = s.gens; globals = s.globals; conns = same_conns i }
