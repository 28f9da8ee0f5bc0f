-- What callers see of rows: the bytes, the rests of messages and the transactions, and who is busy.
use Rattle.std.proofs.Common.{◌≡◌, ◌⊎◌, ℕ, true, List, [], ◌∷◌, ◌++◌, map, is_some, refl, sym, ap, subst, ◌∙◌}
use Rattle.std.specs.List.{AllByRecursion}
use Rattle.std.specs.Ordering.{nat_cmp}
use Rattle.std.specs.FinMap.{find}
use Rattle.machine_model.specs.History.{Unsent}
use Rattle.out_queues.specs.Queues.{Queue}
use Rattle.conn_rows.specs.Rows.{Row, Txns}
use Rattle.conn_rows.specs.Queued.{unsent_of, rests_of}
use Rattle.conn_rows.specs.Sending.{joined_by, sent_by}
use Rattle.conn_rows.specs.Receivers.{Seen, queues_of, seen_in, seen_after}
use Rattle.conn_rows.proofs.RowLemmas.{AreQuietOrBusy, txns_in}

pub all_of_queues : (P : ℕ × Queue → Type 0) (rows : List (ℕ × Row)) → AllByRecursion P (queues_of rows) → AllByRecursion (λ e. P (e.0, e.1.queue)) rows
all_of_queues P [] h = tt
all_of_queues P (e ∷ rows) h = (h.0, all_of_queues P rows h.1)

pub all_to_queues : (P : ℕ × Queue → Type 0) (rows : List (ℕ × Row)) → AllByRecursion (λ e. P (e.0, e.1.queue)) rows → AllByRecursion P (queues_of rows)
all_to_queues P [] h = tt
all_to_queues P (e ∷ rows) h = (h.0, all_to_queues P rows h.1)

-- THE PARTS of what is seen
abbrev bytes_of : List (ℕ × Seen) → Unsent
bytes_of seen = map (λ e. (e.0, e.1.0)) seen

abbrev txns_of_seen : List (ℕ × Seen) → List (ℕ × Txns)
txns_of_seen seen = map (λ e. (e.0, e.1.1.1)) seen

abbrev rests_of_seen : List (ℕ × Seen) → List (ℕ × ℕ)
rests_of_seen seen = map (λ e. (e.0, e.1.1.0)) seen

bytes_seen : (rows : List (ℕ × Row)) → unsent_of (queues_of rows) ≡ bytes_of (seen_in rows)
bytes_seen [] = refl
bytes_seen (e ∷ rows) = ap (λ l. (e.0, e.1.queue.bytes) ∷ l) (bytes_seen rows)

rests_seen : (rows : List (ℕ × Row)) → rests_of (queues_of rows) ≡ rests_of_seen (seen_in rows)
rests_seen [] = refl
rests_seen (e ∷ rows) = ap (λ l. (e.0, e.1.queue.rest) ∷ l) (rests_seen rows)

txns_seen : (rows : List (ℕ × Row)) → txns_in rows ≡ txns_of_seen (seen_in rows)
txns_seen [] = refl
txns_seen (e ∷ rows) = ap (λ l. (e.0, e.1.txns) ∷ l) (txns_seen rows)

bytes_after : (asker : ℕ) (reply : List ℕ) (owed : Unsent) (rows : List (ℕ × Row)) → bytes_of (seen_after asker reply owed rows) ≡ joined_by asker reply owed (unsent_of (queues_of rows))
bytes_after asker reply owed [] = refl
bytes_after asker reply owed (e ∷ rows) = ap (λ l. (e.0, e.1.queue.bytes ++ sent_by asker reply owed e.0) ∷ l) (bytes_after asker reply owed rows)

rests_after : (asker : ℕ) (reply : List ℕ) (owed : Unsent) (rows : List (ℕ × Row)) → rests_of_seen (seen_after asker reply owed rows) ≡ rests_of (queues_of rows)
rests_after asker reply owed [] = refl
rests_after asker reply owed (e ∷ rows) = ap (λ l. (e.0, e.1.queue.rest) ∷ l) (rests_after asker reply owed rows)

txns_after : (asker : ℕ) (reply : List ℕ) (owed : Unsent) (rows : List (ℕ × Row)) → txns_of_seen (seen_after asker reply owed rows) ≡ txns_in rows
txns_after asker reply owed [] = refl
txns_after asker reply owed (e ∷ rows) = ap (λ l. (e.0, e.1.txns) ∷ l) (txns_after asker reply owed rows)

-- where the same is seen
module _ (new old : List (ℕ × Row)) (same : seen_in new ≡ seen_in old) where
  pub same_bytes : unsent_of (queues_of new) ≡ unsent_of (queues_of old)
  same_bytes = bytes_seen new ∙ ap bytes_of same ∙ sym (bytes_seen old)

  pub same_rests : rests_of (queues_of new) ≡ rests_of (queues_of old)
  same_rests = rests_seen new ∙ ap rests_of_seen same ∙ sym (rests_seen old)

  pub same_seen_txns : txns_in new ≡ txns_in old
  same_seen_txns = txns_seen new ∙ ap txns_of_seen same ∙ sym (txns_seen old)

-- or what was sent has joined it
module _ (asker : ℕ) (reply : List ℕ) (owed : Unsent) (new old : List (ℕ × Row)) (sent : seen_in new ≡ seen_after asker reply owed old) where
  pub sent_bytes : unsent_of (queues_of new) ≡ joined_by asker reply owed (unsent_of (queues_of old))
  sent_bytes = bytes_seen new ∙ ap bytes_of sent ∙ bytes_after asker reply owed old

  pub sent_rests : rests_of (queues_of new) ≡ rests_of (queues_of old)
  sent_rests = rests_seen new ∙ ap rests_of_seen sent ∙ rests_after asker reply owed old

  pub sent_txns : txns_in new ≡ txns_in old
  sent_txns = txns_seen new ∙ ap txns_of_seen sent ∙ txns_after asker reply owed old

-- WHO IS BUSY depends on the transactions alone
abbrev AreQuietTxns : List (ℕ × Unit {0}) → List (ℕ × Txns) → Type 0
AreQuietTxns busy txns = AllByRecursion (λ e. (e.1 ≡ []) ⊎ (is_some (find nat_cmp e.0 busy) ≡ true)) txns

quiet_there : (busy : List (ℕ × Unit {0})) (rows : List (ℕ × Row)) → AreQuietOrBusy busy rows → AreQuietTxns busy (txns_in rows)
quiet_there busy [] h = tt
quiet_there busy (e ∷ rows) h = (h.0, quiet_there busy rows h.1)

quiet_back : (busy : List (ℕ × Unit {0})) (rows : List (ℕ × Row)) → AreQuietTxns busy (txns_in rows) → AreQuietOrBusy busy rows
quiet_back busy [] h = tt
quiet_back busy (e ∷ rows) h = (h.0, quiet_back busy rows h.1)

pub quiet_same : (busy : List (ℕ × Unit {0})) (new old : List (ℕ × Row)) → txns_in new ≡ txns_in old → AreQuietOrBusy busy old → AreQuietOrBusy busy new
quiet_same busy new old same quiet = quiet_back busy new (subst (AreQuietTxns busy) (sym same) (quiet_there busy old quiet))
