-- What is sent to each connection, once the walk has come to an id: the memory for it, and what is unsent then.
use Rattle.std.proofs.Common.{◌≡◌, ◌≢◌, ◌⊎◌, ℕ, ◌<◌, ◌≤◌, ◌==◌, Bool, true, false, cond, List, [], ◌∷◌, ◌++◌, map, nat_lt, Some, None, is_some, inl, inr, refl, sym, ap, subst, ◌∙◌, arith, eqb-true, ne_eqb}
use Rattle.std.proofs.lemmas.Bool.{eqb-false}
use Rattle.std.proofs.lemmas.List.{append-nil}
use Rattle.std.specs.List.{AllByRecursion}
use Rattle.std.specs.Ordering.{nat_cmp}
use Rattle.std.specs.FinMap.{find, put, is_sorted, nat_cmp-IsAntisymmetric}
use Rattle.xs_model.proofs.Maps.{from_Some, not_Some, keys_found}
use Rattle.machine_model.specs.History.{Unsent}
use Rattle.out_queues.specs.Queues.{Queue}
use Rattle.conn_rows.specs.Rows.{Row}
use Rattle.conn_rows.specs.Sending.{sent_by, count_by, HasRoomFor}
use Rattle.conn_rows.specs.Receivers.{GetsNothing, IsNextReceiver, Seen, queues_of, seen_in, seen_after}
use Rattle.conn_rows.proofs.IdEntries.{found_at}
use Rattle.conn_rows.proofs.WalkLemmas.{all_there, map_alike, map_changed, map_absent}
use Rattle.conn_rows.proofs.NoteLemmas.{lower, not_lower}
use Rattle.conn_rows.proofs.ReceiverLemmas.{nothing_counted, nothing_sent, beside, up_to}
use Rattle.conn_rows.proofs.RowLemmas.{put_queues, queue_there, queue_absent}

-- MEMORY of those up to an id, and of those behind it
abbrev pub RoomUpTo : ℕ → ℕ → Unsent → ℕ → List (ℕ × Row) → Type 0
RoomUpTo asker n owed at rows = (c : ℕ) (queue : Queue) → c ≤ at → find nat_cmp c (queues_of rows) ≡ Some queue → count_by asker n owed c ≤ queue.spare

abbrev pub RoomBehind : ℕ → ℕ → Unsent → ℕ → List (ℕ × Row) → Type 0
RoomBehind asker n owed at rows = (c : ℕ) (queue : Queue) → at < c → find nat_cmp c (queues_of rows) ≡ Some queue → count_by asker n owed c ≤ queue.spare

never : (i j : ℕ) → i ≤ j → j < i → ⊥
never i j le lt = omega arith

-- what is found once a row is changed
changed_found : (c k : ℕ) (new : Row) (rows : List (ℕ × Row)) → find nat_cmp c (queues_of (put nat_cmp k new rows)) ≡ cond (c == k) (Some new.queue) (find nat_cmp c (queues_of rows))
changed_found c k new rows = ap (find nat_cmp c) (put_queues k new rows) ∙ found_at c k new.queue (queues_of rows)

-- the keys of the queues
keys_of : (rows : List (ℕ × Row)) → AllByRecursion (λ e. 1 ≤ e.0) rows → AllByRecursion (λ e. 1 ≤ e.0) (queues_of rows)
keys_of [] h = tt
keys_of (e ∷ rows) h = (h.0, keys_of rows h.1)

module _ (asker n : ℕ) (owed : Unsent) where
  pub room_first : (rows : List (ℕ × Row)) → AllByRecursion (λ e. 1 ≤ e.0) rows → RoomUpTo asker n owed 0 rows
  room_first rows positive c queue le found = absurd (none c (keys_found nat_cmp (λ i. 1 ≤ i) nat_cmp-IsAntisymmetric c (queues_of rows) queue (keys_of rows positive) found) le)
    where
      none : (i : ℕ) → 1 ≤ i → i ≤ 0 → ⊥
      none i h le = omega arith

  pub room_done : (at : ℕ) (rows : List (ℕ × Row)) → ((c : ℕ) → at < c → GetsNothing asker owed c) → RoomUpTo asker n owed at rows → HasRoomFor asker n owed (queues_of rows)
  room_done at rows none room c queue found = placed (up_to asker owed at c none)
    where
      placed : (c ≤ at) ⊎ GetsNothing asker owed c → count_by asker n owed c ≤ queue.spare
      placed (inl low) = room c queue low found
      placed (inr nothing) = let e : count_by asker n owed c ≡ 0 = nothing_counted asker owed n c nothing in omega (arith, e)

  module _ (at next : ℕ) (is : IsNextReceiver asker owed at next) (rows : List (ℕ × Row)) where
    room_beside : RoomUpTo asker n owed at rows → (c : ℕ) (queue : Queue) → c ≢ next → c ≤ next → find nat_cmp c (queues_of rows) ≡ Some queue → count_by asker n owed c ≤ queue.spare
    room_beside room c queue apart le found = placed (beside asker owed at next c is apart)
      where
        placed : (c ≤ at) ⊎ ((next < c) ⊎ GetsNothing asker owed c) → count_by asker n owed c ≤ queue.spare
        placed (inl low) = room c queue low found
        placed (inr (inl high)) = absurd (never c next le high)
        placed (inr (inr nothing)) = let e : count_by asker n owed c ≡ 0 = nothing_counted asker owed n c nothing in omega (arith, e)

    pub room_taken : (new : Row) → count_by asker n owed next ≤ new.queue.spare → RoomUpTo asker n owed at rows → RoomUpTo asker n owed next (put nat_cmp next new rows)
    room_taken new taken room c queue le found = by (c == next) refl (sym (changed_found c next new rows) ∙ found)
      where
        by : (b : Bool) → (c == next) ≡ b → cond b (Some new.queue) (find nat_cmp c (queues_of rows)) ≡ Some queue → count_by asker n owed c ≤ queue.spare
        by true t there =
            subst (λ i. count_by asker n owed i ≤ queue.spare) (sym (eqb-true c next t)) (subst (λ (q : Queue). count_by asker n owed next ≤ q.spare) (from_Some there) taken)
        by false t there = room_beside room c queue (eqb-false c next t) le there

    pub room_past : None ≡ find nat_cmp next rows → RoomUpTo asker n owed at rows → RoomUpTo asker n owed next rows
    room_past absent room c queue le found = by (c == next) refl
      where
        by : (b : Bool) → (c == next) ≡ b → count_by asker n owed c ≤ queue.spare
        by true t = not_Some (sym (queue_absent next rows absent) ∙ ap (λ i. find nat_cmp i (queues_of rows)) (sym (eqb-true c next t)) ∙ found)
        by false t = room_beside room c queue (eqb-false c next t) le found

    -- what is behind the next one is as before
    pub room_left : (new : Row) → RoomBehind asker n owed at rows → RoomBehind asker n owed next (put nat_cmp next new rows)
    room_left new room c queue lt found =
        room c queue (behind at next c is.above lt) (sym (changed_found c next new rows ∙ ap (λ b. cond b (Some new.queue) (find nat_cmp c (queues_of rows))) (ne_eqb c next (apart next c lt))) ∙ found)
      where
        behind : (i j k : ℕ) → i < j → j < k → i < k
        behind i j k f g = omega arith

        apart : (i j : ℕ) → i < j → j ≢ i
        apart i j f = λ same. omega arith

    pub room_over : RoomBehind asker n owed at rows → RoomBehind asker n owed next rows
    room_over room c queue lt found = room c queue (behind at next c is.above lt) found
      where
        behind : (i j k : ℕ) → i < j → j < k → i < k
        behind i j k f g = omega arith

  pub room_here : (at next : ℕ) (row : Row) (rows : List (ℕ × Row)) → RoomBehind asker n owed at rows → at < next → Some row ≡ find nat_cmp next rows → count_by asker n owed next ≤ row.queue.spare
  room_here at next row rows room lt there = room next row.queue lt (queue_there next row rows there)

-- WHAT IS SEEN of a row that is changed
seen_as : (old new : Row) (bytes : List ℕ) → new.queue.bytes ≡ bytes → new.queue.rest ≡ old.queue.rest → new.txns ≡ old.txns
    → ◌≡◌ {A = Seen} (new.queue.bytes, (new.queue.rest, new.txns)) (bytes, (old.queue.rest, old.txns))
seen_as old new bytes b r t = λ i. (b i, (r i, t i))

pub seen_kept : (c : ℕ) (old new : Row) (rows : List (ℕ × Row)) → is_sorted nat_cmp rows ≡ true → Some old ≡ find nat_cmp c rows → new.queue.bytes ≡ old.queue.bytes → new.queue.rest ≡ old.queue.rest → new.txns ≡ old.txns
    → seen_in (put nat_cmp c new rows) ≡ seen_in rows
seen_kept c old new rows rising there bytes rest txns =
    map_changed c new old (λ e. (e.0, (e.1.queue.bytes, (e.1.queue.rest, e.1.txns)))) (λ e. (e.0, (e.1.queue.bytes, (e.1.queue.rest, e.1.txns)))) (λ e. is_some (find nat_cmp e.0 rows) ≡ true) (λ e apart h. refl)
    (ap (λ (s : Seen). (c, s)) (seen_as old new old.queue.bytes bytes rest txns)) rows rising (all_there rows) (sym there)

-- WHAT IS STILL TO BE SENT, once the walk has come to an id: to those behind it
abbrev pub left_at : ℕ → List ℕ → Unsent → ℕ → ℕ → List ℕ
left_at asker reply owed at c = cond (nat_lt at c) (sent_by asker reply owed c) []

abbrev pub awaited_at : ℕ → List ℕ → Unsent → ℕ → ℕ × Row → ℕ × Seen
awaited_at asker reply owed at e = (e.0, (e.1.queue.bytes ++ left_at asker reply owed at e.0, (e.1.queue.rest, e.1.txns)))

-- what is seen of rows, with what is still to be sent to them
abbrev pub awaited_in : ℕ → List ℕ → Unsent → ℕ → List (ℕ × Row) → List (ℕ × Seen)
awaited_in asker reply owed at rows = map (awaited_at asker reply owed at) rows

module _ (asker : ℕ) (reply : List ℕ) (owed : Unsent) where
  awaited_as : (at : ℕ) (e : ℕ × Row) (bytes : List ℕ) → left_at asker reply owed at e.0 ≡ bytes → awaited_at asker reply owed at e ≡ (e.0, (e.1.queue.bytes ++ bytes, (e.1.queue.rest, e.1.txns)))
  awaited_as at e bytes is = ap (λ b. (e.0, (e.1.queue.bytes ++ b, (e.1.queue.rest, e.1.txns)))) is

  left_behind : (at c : ℕ) → at < c → left_at asker reply owed at c ≡ sent_by asker reply owed c
  left_behind at c lt = ap (λ b. cond b (sent_by asker reply owed c) []) (lower at c lt)

  left_up_to : (at c : ℕ) → c ≤ at → left_at asker reply owed at c ≡ []
  left_up_to at c le = ap (λ b. cond b (sent_by asker reply owed c) []) (not_lower at c le)

  left_nothing : (at c : ℕ) → GetsNothing asker owed c → left_at asker reply owed at c ≡ []
  left_nothing at c nothing = by (nat_lt at c)
    where
      by : (b : Bool) → cond b (sent_by asker reply owed c) [] ≡ []
      by true = nothing_sent asker owed reply c nothing
      by false = refl

  pub awaited_first : (rows : List (ℕ × Row)) → AllByRecursion (λ e. 1 ≤ e.0) rows → awaited_in asker reply owed 0 rows ≡ seen_after asker reply owed rows
  awaited_first rows positive =
      map_alike (awaited_at asker reply owed 0) (λ e. (e.0, (e.1.queue.bytes ++ sent_by asker reply owed e.0, (e.1.queue.rest, e.1.txns)))) (λ e. 1 ≤ e.0)
      (λ e h. awaited_as 0 e (sent_by asker reply owed e.0) (left_behind 0 e.0 (some e.0 h))) rows positive
    where
      some : (i : ℕ) → 1 ≤ i → 0 < i
      some i h = omega arith

  pub awaited_last : (at : ℕ) (rows : List (ℕ × Row)) → ((c : ℕ) → at < c → GetsNothing asker owed c) → awaited_in asker reply owed at rows ≡ seen_in rows
  awaited_last at rows none =
      map_alike (awaited_at asker reply owed at) (λ e. (e.0, (e.1.queue.bytes, (e.1.queue.rest, e.1.txns)))) (λ e. is_some (find nat_cmp e.0 rows) ≡ true)
      (λ e h. awaited_as at e [] (placed e.0 (up_to asker owed at e.0 none)) ∙ ap (λ b. (e.0, (b, (e.1.queue.rest, e.1.txns)))) (append-nil e.1.queue.bytes)) rows (all_there rows)
    where
      placed : (c : ℕ) → (c ≤ at) ⊎ GetsNothing asker owed c → left_at asker reply owed at c ≡ []
      placed c (inl low) = left_up_to at c low
      placed c (inr nothing) = left_nothing at c nothing

  module _ (at next : ℕ) (is : IsNextReceiver asker owed at next) (rows : List (ℕ × Row)) where
    same_left : (c : ℕ) → c ≢ next → left_at asker reply owed next c ≡ left_at asker reply owed at c
    same_left c apart = placed (beside asker owed at next c is apart)
      where
        behind : (i j k : ℕ) → i < j → j < k → i < k
        behind i j k f g = omega arith

        low_too : (i j k : ℕ) → i ≤ j → j < k → i ≤ k
        low_too i j k f g = omega arith

        placed : (c ≤ at) ⊎ ((next < c) ⊎ GetsNothing asker owed c) → left_at asker reply owed next c ≡ left_at asker reply owed at c
        placed (inl low) = left_up_to next c (low_too c at next low is.above) ∙ sym (left_up_to at c low)
        placed (inr (inl high)) = left_behind next c high ∙ sym (left_behind at c (behind at next c is.above high))
        placed (inr (inr nothing)) = left_nothing next c nothing ∙ sym (left_nothing at c nothing)

    awaited_beside : (e : ℕ × Row) → e.0 ≢ next → awaited_at asker reply owed next e ≡ awaited_at asker reply owed at e
    awaited_beside e apart = awaited_as next e (left_at asker reply owed at e.0) (same_left e.0 apart)

    -- the next one was sent what is for it
    pub awaited_sent : (old new : Row) → is_sorted nat_cmp rows ≡ true → Some old ≡ find nat_cmp next rows → new.queue.bytes ≡ old.queue.bytes ++ sent_by asker reply owed next → new.queue.rest ≡ old.queue.rest → new.txns ≡ old.txns
        → awaited_in asker reply owed next (put nat_cmp next new rows) ≡ awaited_in asker reply owed at rows
    awaited_sent old new rising there bytes rest txns =
        map_changed next new old (awaited_at asker reply owed next) (awaited_at asker reply owed at) (λ e. is_some (find nat_cmp e.0 rows) ≡ true) (λ e apart h. awaited_beside e apart)
        (awaited_as next (next, new) [] (left_up_to next next (same next)) ∙ ap (λ b. (next, (b, (new.queue.rest, new.txns)))) (append-nil new.queue.bytes)
        ∙ ap (λ (s : Seen). (next, s)) (seen_as old new (old.queue.bytes ++ sent_by asker reply owed next) bytes rest txns)
        ∙ sym (awaited_as at (next, old) (sent_by asker reply owed next) (left_behind at next is.above))) rows rising (all_there rows) (sym there)
      where
        same : (i : ℕ) → i ≤ i
        same i = omega arith

    -- or is not there
    pub awaited_past : None ≡ find nat_cmp next rows → awaited_in asker reply owed next rows ≡ awaited_in asker reply owed at rows
    awaited_past absent =
        map_absent next (awaited_at asker reply owed next) (awaited_at asker reply owed at) (λ e. is_some (find nat_cmp e.0 rows) ≡ true) (λ e apart h. awaited_beside e apart) rows (sym absent) (all_there rows)
