-- Notes of open transactions: what is planned and noted, once the walk has come to an id.
use Rattle.std.proofs.Common.{◌≡◌, ◌≢◌, ◌⊎◌, ℕ, ◌<◌, ◌≤◌, Bool, true, false, cond, List, map, nat_lt, Some, None, is_some, Result, Ok, Err, OnOk, OnErr, inl, inr, refl, sym, ap, ◌∙◌, arith}
use Rattle.std.specs.List.{AllByRecursion}
use Rattle.std.specs.Ordering.{nat_cmp}
use Rattle.std.specs.FinMap.{find, put, is_sorted}
use Rattle.std.proofs.lemmas.Bool.Decides.{nat_tests}
use Rattle.xs_model.specs.Paths.{Path}
use Rattle.xs_model.specs.Trees.{Tree}
use Rattle.mark_model.specs.Marks.{Mark}
use Rattle.mark_model.specs.Stores.{KeptTransaction, Opens}
use Rattle.id_map.specs.Ids.{above, first_id, IsNext}
use Rattle.txn_access.specs.Txns.{Txn, Plans, note_each}
use Rattle.conn_rows.specs.Rows.{Txns, kept_txn, opens_in, applied, applied_in, HasRoomToNote}
use Rattle.conn_rows.proofs.WalkLemmas.{all_both, all_weaker, all_there, map_alike, all_changed, map_changed, none_above}

-- those up to an id have noted what they planned, and the others are still to do so
abbrev pub finished_at : ℕ → ℕ × Txn → ℕ × KeptTransaction
finished_at at e = (e.0, cond (nat_lt at e.0) (applied e.1) (kept_txn e.1))

abbrev pub finished_in : ℕ → Txns → Opens
finished_in at txns = map (finished_at at) txns

-- NUMBERS by their order
pub lower : (x y : ℕ) → x < y → nat_lt x y ≡ true
lower x y h = grind (arith, nat_tests)

pub not_lower : (x y : ℕ) → y ≤ x → nat_lt x y ≡ false
not_lower x y h = grind (arith, nat_tests)

pub is_lower : (x y : ℕ) → nat_lt x y ≡ true → x < y
is_lower x y h = grind (arith, nat_tests)

pub is_not_lower : (x y : ℕ) → nat_lt x y ≡ false → y ≤ x
is_not_lower x y h = grind (arith, nat_tests)

-- an entry other than the next is up to the id, or behind the next
next_apart : {X : Type 0} {es : List (ℕ × X)} (at tx k : ℕ) → IsNext es at tx → is_some (find nat_cmp k es) ≡ true → k ≢ tx → (k ≤ at) ⊎ (tx < k)
next_apart at tx k next there apart = by (nat_lt at k) refl
  where
    by : (b : Bool) → nat_lt at k ≡ b → (k ≤ at) ⊎ (tx < k)
    by true t = let least : tx ≤ k = next.least k (is_lower at k t) there in inr (omega (arith, apart))
    by false t = inl (is_not_lower at k t)

same_txn : (old new : Txn) (marks : List (Path × Mark)) → new.marks ≡ marks → new.count ≡ old.count → kept_txn new ≡ record { marks = marks; count = old.count }
same_txn old new marks m n = λ i. record { marks = m i; count = n i }

-- ONE TRANSACTION MORE plans what it notes
module _ (tree : Tree) (changed : List Path) (at tx : ℕ) (old new : Txn) (txns : Txns) (rising : is_sorted nat_cmp txns ≡ true) (there : find nat_cmp tx txns ≡ Some old) where
  pub planned_more : IsNext txns at tx → Plans tree changed new → AllByRecursion (λ e. e.0 ≤ at → Plans tree changed e.1) txns → AllByRecursion (λ e. e.0 ≤ tx → Plans tree changed e.1) (put nat_cmp tx new txns)
  planned_more next plans so_far =
      all_changed tx new (λ e. (e.0 ≤ at → Plans tree changed e.1) × (is_some (find nat_cmp e.0 txns) ≡ true)) (λ e. e.0 ≤ tx → Plans tree changed e.1)
      (λ e apart h le. beside e h le (next_apart at tx e.0 next h.1 apart)) (λ _. plans) txns rising
      (all_both (λ e. e.0 ≤ at → Plans tree changed e.1) (λ e. is_some (find nat_cmp e.0 txns) ≡ true) txns so_far (all_there txns))
    where
      beside : (e : ℕ × Txn) → (e.0 ≤ at → Plans tree changed e.1) × (is_some (find nat_cmp e.0 txns) ≡ true) → e.0 ≤ tx → (e.0 ≤ at) ⊎ (tx < e.0) → Plans tree changed e.1
      beside e h le (inl low) = h.0 low
      beside e h le (inr high) = absurd (omega arith)

module _ (at tx : ℕ) (old new : Txn) (txns : Txns) (rising : is_sorted nat_cmp txns ≡ true) (there : find nat_cmp tx txns ≡ Some old) where
  pub kept_more : new.marks ≡ old.marks → new.count ≡ old.count → opens_in (put nat_cmp tx new txns) ≡ opens_in txns
  kept_more marks count =
      map_changed tx new old (λ e. (e.0, kept_txn e.1)) (λ e. (e.0, kept_txn e.1)) (λ e. is_some (find nat_cmp e.0 txns) ≡ true) (λ e apart h. refl)
      (ap (λ (t : KeptTransaction). (tx, t)) (same_txn old new old.marks marks count)) txns rising (all_there txns) there

  -- or notes it
  pub finished_more : IsNext txns at tx → new.marks ≡ note_each old.pending old.marks → new.count ≡ old.count → finished_in tx (put nat_cmp tx new txns) ≡ finished_in at txns
  finished_more next marks count =
      map_changed tx new old (finished_at tx) (finished_at at) (λ e. is_some (find nat_cmp e.0 txns) ≡ true) (λ e apart h. beside e (next_apart at tx e.0 next h apart))
      (ap (λ b. (tx, cond b (applied new) (kept_txn new))) (not_lower tx tx (omega arith)) ∙ ap (λ (t : KeptTransaction). (tx, t)) (same_txn old new (note_each old.pending old.marks) marks count)
      ∙ sym (ap (λ b. (tx, cond b (applied old) (kept_txn old))) (lower at tx next.above))) txns rising (all_there txns) there
    where
      beside : (e : ℕ × Txn) → (e.0 ≤ at) ⊎ (tx < e.0) → finished_at tx e ≡ finished_at at e
      beside e (inl low) = let lt : at < tx = next.above in ap (λ b. (e.0, cond b (applied e.1) (kept_txn e.1))) (not_lower tx e.0 (omega arith) ∙ sym (not_lower at e.0 low))
      beside e (inr high) = let lt : at < tx = next.above in ap (λ b. (e.0, cond b (applied e.1) (kept_txn e.1))) (lower tx e.0 high ∙ sym (lower at e.0 (omega arith)))

  pub room_more : at < tx → AllByRecursion (λ e. at < e.0 → HasRoomToNote e.1) txns → AllByRecursion (λ e. tx < e.0 → HasRoomToNote e.1) (put nat_cmp tx new txns)
  room_more above room =
      all_changed tx new (λ e. at < e.0 → HasRoomToNote e.1) (λ e. tx < e.0 → HasRoomToNote e.1) (λ e apart h lt. h (omega arith)) (λ never. absurd (omega arith)) txns rising room

-- AT FIRST, and at last
pub planned_first : (tree : Tree) (changed : List Path) (txns : Txns) → AllByRecursion (λ e. 1 ≤ e.0) txns → AllByRecursion (λ e. e.0 ≤ 0 → Plans tree changed e.1) txns
planned_first tree changed txns positive = all_weaker (λ e. 1 ≤ e.0) (λ e. e.0 ≤ 0 → Plans tree changed e.1) (λ e h le. absurd (omega arith)) txns positive

pub planned_last : (tree : Tree) (changed : List Path) (at : ℕ) (txns : Txns) → first_id (above at txns) ≡ None → AllByRecursion (λ e. e.0 ≤ at → Plans tree changed e.1) txns → AllByRecursion (λ e. Plans tree changed e.1) txns
planned_last tree changed at txns none planned =
    all_weaker (λ e. (e.0 ≤ at → Plans tree changed e.1) × (e.0 ≤ at)) (λ e. Plans tree changed e.1) (λ e h. h.0 h.1) txns
    (all_both (λ e. e.0 ≤ at → Plans tree changed e.1) (λ e. e.0 ≤ at) txns planned (none_above at txns none))

pub finished_first : (txns : Txns) → AllByRecursion (λ e. 1 ≤ e.0) txns → finished_in 0 txns ≡ applied_in txns
finished_first txns positive =
    map_alike (finished_at 0) (λ e. (e.0, applied e.1)) (λ e. 1 ≤ e.0) (λ e h. ap (λ b. (e.0, cond b (applied e.1) (kept_txn e.1))) (lower 0 e.0 (omega arith))) txns positive

pub finished_last : (at : ℕ) (txns : Txns) → first_id (above at txns) ≡ None → finished_in at txns ≡ opens_in txns
finished_last at txns none =
    map_alike (finished_at at) (λ e. (e.0, kept_txn e.1)) (λ e. e.0 ≤ at) (λ e h. ap (λ b. (e.0, cond b (applied e.1) (kept_txn e.1))) (not_lower at e.0 h)) txns (none_above at txns none)

pub room_first : (txns : Txns) → AllByRecursion (λ e. HasRoomToNote e.1) txns → AllByRecursion (λ e. 0 < e.0 → HasRoomToNote e.1) txns
room_first txns room = all_weaker (λ e. HasRoomToNote e.1) (λ e. 0 < e.0 → HasRoomToNote e.1) (λ e h _. h) txns room

-- whatever the answer is
pub either_way : {T E P : Type 0} (r : Result T E) → OnOk r P → OnErr r P → P
either_way (Ok x) h g = h
either_way (Err e) h g = g

pub on_err_any : {T E P : Type 0} (r : Result T E) → P → OnErr r P
on_err_any (Ok x) h = tt
on_err_any (Err e) h = h
