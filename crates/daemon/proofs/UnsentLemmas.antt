-- What is unsent to the connections of a table, the rests of messages, and what they have open, after an edit of the table.
use Rattle.std.proofs.Common.{◌≡◌, ℕ, Bool, List, [], map, None, refl, sym, ◌∙◌}
use Rattle.std.specs.Ordering.{nat_cmp}
use Rattle.std.specs.FinMap.{find, put}
use Rattle.std.specs.FinMap.Entries.{where_key}
use Rattle.machine_model.specs.declared.ConnSpec.{ConnSpec}
use Rattle.machine_model.specs.History.{bytes_or_none}
use Rattle.mark_model.specs.Stores.{Opens, or_no_opens, opens_by}
use Rattle.conn_table.specs.Tables.{Specs}
use Rattle.watchers.specs.Watched.{Watched, conns_of}
use Rattle.conn_rows.specs.Queued.{unsent_of, rests_of}
use Rattle.daemon.specs.Peers.{Connected, IsSound}
use Rattle.conn_rows.specs.Rows.{Txns, opens_in, opens_of}
use Rattle.store_parts.specs.States.{or_zero}
use Rattle.daemon.specs.Acts.{unsent_by, rests_by}
use Rattle.conn_rows.proofs.IdEntries.{put_map, where_map, keys_map}
use Rattle.daemon.proofs.KeepsLemmas.{conns_keys}
use Rattle.daemon.proofs.PeerLemmas.{ids_unsent, ids_rests}
use Rattle.daemon.proofs.ValueLemmas.{same_ids, values_same, values_more, values_less}

pub opens_keys : (txns : List (ℕ × Txns)) → map (λ e. e.0) (opens_of txns) ≡ map (λ e. e.0) txns
opens_keys txns = keys_map opens_in txns

-- those of the connections of a table
opens_table : (specs : Specs) (watched : Watched) (opens : List (ℕ × Opens)) → opens_by (conns_of specs watched) opens ≡ map (λ e. (e.0, or_no_opens (find nat_cmp e.0 opens))) specs
opens_table specs watched opens = same_ids (λ k. or_no_opens (find nat_cmp k opens)) (conns_of specs watched) specs (conns_keys watched specs)

module _ (peers : Connected) (sound : IsSound peers) where
  pub ids_open : map (λ e. e.0) (opens_of peers.txns) ≡ map (λ e. e.0) peers.specs
  ids_open = opens_keys peers.txns ∙ sound.rows

  -- the same ids
  pub unsent_same : (specs : Specs) → map (λ e. e.0) specs ≡ map (λ e. e.0) peers.specs → unsent_of peers.queues ≡ unsent_by specs (unsent_of peers.queues)
  unsent_same specs same = values_same bytes_or_none (λ bytes. refl) (unsent_of peers.queues) peers.specs (ids_unsent peers sound) sound.table.table.rising specs same

  pub rests_same : (specs : Specs) → map (λ e. e.0) specs ≡ map (λ e. e.0) peers.specs → rests_of peers.queues ≡ rests_by specs (rests_of peers.queues)
  rests_same specs same = values_same or_zero (λ rest. refl) (rests_of peers.queues) peers.specs (ids_rests peers sound) sound.table.table.rising specs same

  pub opens_same : (specs : Specs) (watched : Watched) → map (λ e. e.0) specs ≡ map (λ e. e.0) peers.specs → opens_of peers.txns ≡ opens_by (conns_of specs watched) (opens_of peers.txns)
  opens_same specs watched same =
      values_same or_no_opens (λ txns. refl) (opens_of peers.txns) peers.specs ids_open sound.table.table.rising specs same
      ∙ sym (opens_table specs watched (opens_of peers.txns))

  -- one more, to which nothing is unsent and which has nothing open
  pub unsent_more : (k : ℕ) (spec : ConnSpec) → find nat_cmp k peers.specs ≡ None → put nat_cmp k [] (unsent_of peers.queues) ≡ unsent_by (put nat_cmp k spec peers.specs) (unsent_of peers.queues)
  unsent_more k spec absent = values_more bytes_or_none (λ bytes. refl) (unsent_of peers.queues) peers.specs (ids_unsent peers sound) sound.table.table.rising k spec absent

  pub rests_more : (k : ℕ) (spec : ConnSpec) → find nat_cmp k peers.specs ≡ None → put nat_cmp k 0 (rests_of peers.queues) ≡ rests_by (put nat_cmp k spec peers.specs) (rests_of peers.queues)
  rests_more k spec absent = values_more or_zero (λ rest. refl) (rests_of peers.queues) peers.specs (ids_rests peers sound) sound.table.table.rising k spec absent

  pub opens_put_more : (watched : Watched) (k : ℕ) (spec : ConnSpec) → find nat_cmp k peers.specs ≡ None → put nat_cmp k [] (opens_of peers.txns) ≡ opens_by (conns_of (put nat_cmp k spec peers.specs) watched) (opens_of peers.txns)
  opens_put_more watched k spec absent =
      values_more or_no_opens (λ txns. refl) (opens_of peers.txns) peers.specs ids_open sound.table.table.rising k spec absent
      ∙ sym (opens_table (put nat_cmp k spec peers.specs) watched (opens_of peers.txns))

  pub opens_more : (watched : Watched) (k : ℕ) (spec : ConnSpec) → find nat_cmp k peers.specs ≡ None → opens_of (put nat_cmp k [] peers.txns) ≡ opens_by (conns_of (put nat_cmp k spec peers.specs) watched) (opens_of peers.txns)
  opens_more watched k spec absent =
      put_map opens_in k [] peers.txns
      ∙ values_more or_no_opens (λ txns. refl) (opens_of peers.txns) peers.specs ids_open sound.table.table.rising k spec absent
      ∙ sym (opens_table (put nat_cmp k spec peers.specs) watched (opens_of peers.txns))

  -- some less
  pub unsent_less : (p : ℕ → Bool) → unsent_of (where_key nat_cmp p peers.queues) ≡ unsent_by (where_key nat_cmp p peers.specs) (unsent_of peers.queues)
  unsent_less p =
      where_map (λ queue. queue.bytes) p peers.queues
      ∙ values_less bytes_or_none (λ bytes. refl) (unsent_of peers.queues) peers.specs (ids_unsent peers sound) sound.table.table.rising p

  pub rests_less : (p : ℕ → Bool) → rests_of (where_key nat_cmp p peers.queues) ≡ rests_by (where_key nat_cmp p peers.specs) (rests_of peers.queues)
  rests_less p =
      where_map (λ queue. queue.rest) p peers.queues
      ∙ values_less or_zero (λ rest. refl) (rests_of peers.queues) peers.specs (ids_rests peers sound) sound.table.table.rising p

  pub opens_less : (watched : Watched) (p : ℕ → Bool) → opens_of (where_key nat_cmp p peers.txns) ≡ opens_by (conns_of (where_key nat_cmp p peers.specs) watched) (opens_of peers.txns)
  opens_less watched p =
      where_map opens_in p peers.txns
      ∙ values_less or_no_opens (λ txns. refl) (opens_of peers.txns) peers.specs ids_open sound.table.table.rising p
      ∙ sym (opens_table (where_key nat_cmp p peers.specs) watched (opens_of peers.txns))
