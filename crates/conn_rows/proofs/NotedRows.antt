-- Notes of all open transactions, row by row: what is planned and noted, once the walk over the busy connections has
-- passed the ids below one.
use Rattle.std.proofs.Common.{◌≡◌, ◌≢◌, ◌⊎◌, ℕ, ◌+◌, ◌<◌, ◌≤◌, Bool, true, false, cond, List, [], ◌∷◌, map, nat_lt, Some, None, is_some, inl, inr, refl, sym, ap, ap₂, subst, ◌∙◌, arith}
use Rattle.std.specs.List.{AllByRecursion}
use Rattle.std.specs.Ordering.{nat_cmp}
use Rattle.std.specs.FinMap.{find, put, is_sorted}
use Rattle.xs_model.specs.Paths.{Path}
use Rattle.xs_model.specs.Trees.{Tree}
use Rattle.xs_model.proofs.Maps.{not_both}
use Rattle.mark_model.specs.Marks.{note_all}
use Rattle.mark_model.specs.Stores.{KeptTransaction, Opens, noted, noted_all}
use Rattle.txn_access.specs.Txns.{Txn, Plans}
use Rattle.conn_rows.specs.Rows.{Txns, Row, opens_in, opens_of, applied, applied_in, EachIn, HasRoomToNote, ArePlanned, HaveRoom, IsNextFrom}
use Rattle.conn_rows.proofs.WalkLemmas.{all_both, all_weaker, map_alike, all_changed, map_changed, all_absent, map_absent}
use Rattle.conn_rows.proofs.NoteLemmas.{lower, not_lower, is_lower, is_not_lower}
use Rattle.conn_rows.proofs.RowLemmas.{IsQuietOrBusy, AreQuietOrBusy, txns_in, joined}

-- rows below an id have noted what they planned, and the others are still to do so
abbrev pub finished_row : ℕ → ℕ × Row → ℕ × Opens
finished_row low e = (e.0, cond (nat_lt e.0 low) (opens_in e.1.txns) (applied_in e.1.txns))

abbrev pub finished_rows : ℕ → List (ℕ × Row) → List (ℕ × Opens)
finished_rows low rows = map (finished_row low) rows

abbrev pub applied_all : List (ℕ × Txns) → List (ℕ × Opens)
applied_all txns = map (λ e. (e.0, applied_in e.1)) txns

-- and have planned it
abbrev pub PlannedBelow : Tree → List Path → ℕ → List (ℕ × Row) → Type 0
PlannedBelow tree changed low rows = AllByRecursion (λ e. e.0 < low → EachIn (Plans tree changed) e.1.txns) rows

abbrev pub RoomFrom : ℕ → List (ℕ × Row) → Type 0
RoomFrom low rows = AllByRecursion (λ e. low ≤ e.0 → EachIn HasRoomToNote e.1.txns) rows

-- A ROW BESIDE the next busy one is below the id, or behind the next, or has no transactions
between : (busy : List (ℕ × Unit {0})) (low conn : ℕ) → IsNextFrom busy low conn → (k : ℕ) → k ≢ conn → is_some (find nat_cmp k busy) ≡ true → (k < low) ⊎ (conn < k)
between busy low conn next k apart there = by (nat_lt k low) refl
  where
    by : (b : Bool) → nat_lt k low ≡ b → (k < low) ⊎ (conn < k)
    by true t = inl (is_lower k low t)
    by false t = let least : conn ≤ k = next.least k (is_not_lower k low t) there in inr (omega (arith, apart))

below_it : (busy : List (ℕ × Unit {0})) (low : ℕ) → ((k : ℕ) → low ≤ k → find nat_cmp k busy ≡ None) → (k : ℕ) → is_some (find nat_cmp k busy) ≡ true → k < low
below_it busy low none k there = by (nat_lt k low) refl
  where
    by : (b : Bool) → nat_lt k low ≡ b → k < low
    by true t = is_lower k low t
    by false t = not_both there (ap is_some (none k (is_not_lower k low t)))

module _ (P : Txn → Type 0) where
  none_each : (txns : Txns) → txns ≡ [] → EachIn P txns
  none_each txns none = subst (EachIn P) (sym none) tt

-- PLANS
module _ (tree : Tree) (changed : List Path) (busy : List (ℕ × Unit {0})) (low conn : ℕ) (next : IsNextFrom busy low conn) (rows : List (ℕ × Row)) (quiet : AreQuietOrBusy busy rows) (so_far : PlannedBelow tree changed low rows) where
  beside : (e : ℕ × Row) → e.0 ≢ conn → (e.0 < low → EachIn (Plans tree changed) e.1.txns) × IsQuietOrBusy busy e → e.0 < conn + 1 → EachIn (Plans tree changed) e.1.txns
  beside e apart h lt = by h.1
    where
      placed : (e.0 < low) ⊎ (conn < e.0) → EachIn (Plans tree changed) e.1.txns
      placed (inl below) = h.0 below
      placed (inr above) = absurd (omega arith)

      by : IsQuietOrBusy busy e → EachIn (Plans tree changed) e.1.txns
      by (inl none) = none_each (Plans tree changed) e.1.txns none
      by (inr some) = placed (between busy low conn next e.0 apart some)

  both : AllByRecursion (λ e. (e.0 < low → EachIn (Plans tree changed) e.1.txns) × IsQuietOrBusy busy e) rows
  both = all_both (λ e. e.0 < low → EachIn (Plans tree changed) e.1.txns) (IsQuietOrBusy busy) rows so_far quiet

  pub planned_row : (new : Row) → is_sorted nat_cmp rows ≡ true → EachIn (Plans tree changed) new.txns → PlannedBelow tree changed (conn + 1) (put nat_cmp conn new rows)
  planned_row new rising plans =
      all_changed conn new (λ e. (e.0 < low → EachIn (Plans tree changed) e.1.txns) × IsQuietOrBusy busy e) (λ e. e.0 < conn + 1 → EachIn (Plans tree changed) e.1.txns) beside (λ _. plans) rows rising both

  pub planned_no_row : find nat_cmp conn rows ≡ None → PlannedBelow tree changed (conn + 1) rows
  planned_no_row absent =
      all_absent conn (λ e. (e.0 < low → EachIn (Plans tree changed) e.1.txns) × IsQuietOrBusy busy e) (λ e. e.0 < conn + 1 → EachIn (Plans tree changed) e.1.txns) beside rows absent both

pub planned_none : (tree : Tree) (changed : List Path) (rows : List (ℕ × Row)) → PlannedBelow tree changed 0 rows
planned_none tree changed [] = tt
planned_none tree changed (e ∷ rows) = ((λ lt. absurd (omega arith)), planned_none tree changed rows)

pub planned_all : (tree : Tree) (changed : List Path) (busy : List (ℕ × Unit {0})) (low : ℕ) → ((k : ℕ) → low ≤ k → find nat_cmp k busy ≡ None) → (rows : List (ℕ × Row)) → AreQuietOrBusy busy rows → PlannedBelow tree changed low rows → ArePlanned tree changed (txns_in rows)
planned_all tree changed busy low none [] quiet planned = tt
planned_all tree changed busy low none (e ∷ rows) quiet planned = (by quiet.0, planned_all tree changed busy low none rows quiet.1 planned.1)
  where
    by : IsQuietOrBusy busy e → EachIn (Plans tree changed) e.1.txns
    by (inl empty) = none_each (Plans tree changed) e.1.txns empty
    by (inr some) = planned.0 (below_it busy low none e.0 some)

-- NOTES
same_none : (txns : Txns) → txns ≡ [] → opens_in txns ≡ applied_in txns
same_none txns none = subst (λ (t : Txns). opens_in t ≡ applied_in t) (sym none) refl

either_is : {A : Type 0} (a b : Bool) (x y : A) → x ≡ y → cond a x y ≡ cond b x y
either_is true true x y same = refl
either_is true false x y same = same
either_is false true x y same = sym same
either_is false false x y same = refl

finished_quiet : (low high : ℕ) (e : ℕ × Row) → e.1.txns ≡ [] → finished_row high e ≡ finished_row low e
finished_quiet low high e none =
    ap (λ (o : Opens). (e.0, o)) (either_is (nat_lt e.0 high) (nat_lt e.0 low) (opens_in e.1.txns) (applied_in e.1.txns) (same_none e.1.txns none))

module _ (busy : List (ℕ × Unit {0})) (low conn : ℕ) (next : IsNextFrom busy low conn) (rows : List (ℕ × Row)) (quiet : AreQuietOrBusy busy rows) where
  finished_beside : (e : ℕ × Row) → e.0 ≢ conn → IsQuietOrBusy busy e → finished_row (conn + 1) e ≡ finished_row low e
  finished_beside e apart (inl none) = finished_quiet low (conn + 1) e none
  finished_beside e apart (inr some) = placed (between busy low conn next e.0 apart some)
    where
      at_most : low ≤ conn
      at_most = next.above

      placed : (e.0 < low) ⊎ (conn < e.0) → finished_row (conn + 1) e ≡ finished_row low e
      placed (inl below) = ap (λ b. (e.0, cond b (opens_in e.1.txns) (applied_in e.1.txns))) (lower e.0 (conn + 1) (omega (arith, at_most)) ∙ sym (lower e.0 low below))
      placed (inr above) = ap (λ b. (e.0, cond b (opens_in e.1.txns) (applied_in e.1.txns))) (not_lower e.0 (conn + 1) (omega arith) ∙ sym (not_lower e.0 low (omega (arith, at_most))))

  pub finished_next : (old new : Row) → is_sorted nat_cmp rows ≡ true → find nat_cmp conn rows ≡ Some old → opens_in new.txns ≡ applied_in old.txns → finished_rows (conn + 1) (put nat_cmp conn new rows) ≡ finished_rows low rows
  finished_next old new rising there noted_it =
      map_changed conn new old (finished_row (conn + 1)) (finished_row low) (IsQuietOrBusy busy) finished_beside
      (ap (λ b. (conn, cond b (opens_in new.txns) (applied_in new.txns))) (lower conn (conn + 1) (omega arith)) ∙ ap (λ (o : Opens). (conn, o)) noted_it
      ∙ sym (ap (λ b. (conn, cond b (opens_in old.txns) (applied_in old.txns))) (not_lower conn low next.above))) rows rising quiet there

  pub finished_absent : find nat_cmp conn rows ≡ None → finished_rows (conn + 1) rows ≡ finished_rows low rows
  finished_absent absent = map_absent conn (finished_row (conn + 1)) (finished_row low) (IsQuietOrBusy busy) finished_beside rows absent quiet

pub room_next : (low conn : ℕ) → low ≤ conn → (new : Row) (rows : List (ℕ × Row)) → is_sorted nat_cmp rows ≡ true → RoomFrom low rows → RoomFrom (conn + 1) (put nat_cmp conn new rows)
room_next low conn le new rows rising room =
    all_changed conn new (λ e. low ≤ e.0 → EachIn HasRoomToNote e.1.txns) (λ e. conn + 1 ≤ e.0 → EachIn HasRoomToNote e.1.txns) (λ e apart h above. h (omega arith)) (λ never. absurd (omega arith)) rows rising room

pub room_absent : (low conn : ℕ) → low ≤ conn → (rows : List (ℕ × Row)) → RoomFrom low rows → RoomFrom (conn + 1) rows
room_absent low conn le rows room =
    all_weaker (λ e. low ≤ e.0 → EachIn HasRoomToNote e.1.txns) (λ e. conn + 1 ≤ e.0 → EachIn HasRoomToNote e.1.txns) (λ e h above. h (omega arith)) rows room

pub room_all : (rows : List (ℕ × Row)) → HaveRoom (txns_in rows) → RoomFrom 0 rows
room_all [] room = tt
room_all (e ∷ rows) room = ((λ _. room.0), room_all rows room.1)

pub finished_none : (rows : List (ℕ × Row)) → finished_rows 0 rows ≡ applied_all (txns_in rows)
finished_none [] = refl
finished_none (e ∷ rows) = ap₂ ◌∷◌ (ap (λ b. (e.0, cond b (opens_in e.1.txns) (applied_in e.1.txns))) (not_lower e.0 0 (omega arith))) (finished_none rows)

pub finished_all : (busy : List (ℕ × Unit {0})) (low : ℕ) → ((k : ℕ) → low ≤ k → find nat_cmp k busy ≡ None) → (rows : List (ℕ × Row)) → AreQuietOrBusy busy rows → finished_rows low rows ≡ opens_of (txns_in rows)
finished_all busy low none rows quiet = map_alike (finished_row low) (λ e. (e.0, opens_in e.1.txns)) (IsQuietOrBusy busy) by rows quiet ∙ sym (joined rows)
  where
    by : (e : ℕ × Row) → IsQuietOrBusy busy e → finished_row low e ≡ (e.0, opens_in e.1.txns)
    by e (inl empty) = ap (λ (o : Opens). (e.0, o)) (either_is (nat_lt e.0 low) true (opens_in e.1.txns) (applied_in e.1.txns) (same_none e.1.txns empty))
    by e (inr some) = ap (λ b. (e.0, cond b (opens_in e.1.txns) (applied_in e.1.txns))) (lower e.0 low (below_it busy low none e.0 some))

-- WHAT WAS PLANNED is what the definition notes
module _ (tree : Tree) (changed : List Path) where
  noted_one : (t : Txn) → Plans tree changed t → applied t ≡ (record { marks = note_all tree changed t.marks; count = t.count })
  noted_one t plans = λ i. record { marks = plans.noted i; count = t.count }

  noted_row : (txns : Txns) → EachIn (Plans tree changed) txns → applied_in txns ≡ noted tree changed (opens_in txns)
  noted_row [] plans = refl
  noted_row (e ∷ txns) plans = ap₂ ◌∷◌ (ap (λ (t : KeptTransaction). (e.0, t)) (noted_one e.1 plans.0)) (noted_row txns plans.1)

  noted_each : (txns : List (ℕ × Txns)) → ArePlanned tree changed txns → applied_all txns ≡ map (λ e. (e.0, noted tree changed e.1)) (opens_of txns)
  noted_each [] plans = refl
  noted_each (e ∷ txns) plans = ap₂ ◌∷◌ (ap (λ (o : Opens). (e.0, o)) (noted_row e.1 plans.0)) (noted_each txns plans.1)

noted_nothing : (tree : Tree) (opens : Opens) → noted tree [] opens ≡ opens
noted_nothing tree [] = refl
noted_nothing tree (e ∷ opens) = ap (λ l. e ∷ l) (noted_nothing tree opens)

nothing_noted : (tree : Tree) (opens : List (ℕ × Opens)) → map (λ e. (e.0, noted tree [] e.1)) opens ≡ opens
nothing_noted tree [] = refl
nothing_noted tree (e ∷ opens) = ap₂ ◌∷◌ (ap (λ (o : Opens). (e.0, o)) (noted_nothing tree e.1)) (nothing_noted tree opens)

pub noted_as_planned : (tree : Tree) (changed : List Path) (txns : List (ℕ × Txns)) → ArePlanned tree changed txns → applied_all txns ≡ noted_all tree changed (opens_of txns)
noted_as_planned tree [] txns plans = noted_each tree [] txns plans ∙ nothing_noted tree (opens_of txns)
noted_as_planned tree (p ∷ ps) txns plans = noted_each tree (p ∷ ps) txns plans
