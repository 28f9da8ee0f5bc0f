-- Rows by the ids of their connections, and the connections that have transactions open.
use Rattle.std.proofs.Common.{◌≡◌, ◌≢◌, ◌⊎◌, ℕ, ◌==◌, not, Bool, true, false, cond, List, [], ◌∷◌, length, map, Some, None, is_some, inl, inr, refl, sym, ap, subst, ◌∙◌, arith, eqb-true, ne_eqb}
use Rattle.std.specs.List.{AllByRecursion}
use Rattle.std.specs.Option.{option_map}
use Rattle.std.specs.declared.cmp.Ordering.TheVariants.{Less, Equal, Greater}
use Rattle.std.specs.Ordering.{nat_cmp, eq_by_cmp}
use Rattle.std.specs.Cmp.{nat_cmp_total, unsigned_tied}
use Rattle.std.proofs.lemmas.Bool.Decides.{nat_tests}
use Rattle.std.specs.FinMap.{find, put, is_sorted, nat_cmp-IsAntisymmetric}
use Rattle.std.specs.FinMap.Entries.{where_key, by_order}
use Rattle.xs_model.proofs.Maps.{not_Some, found_map, found_without}
use Rattle.out_queues.specs.Queues.{Queue}
use Rattle.txn_access.specs.Txns.{Txn}
use Rattle.conn_rows.specs.Rows.{Txns, Row, Rows, opens_in, opens_of, or_no_txns, txns_of}
use Rattle.conn_rows.proofs.IdEntries.{put_map, found_at, found_itself}
use Rattle.conn_rows.proofs.WalkLemmas.{all_there, all_weaker, all_changed, map_changed, all_at}

-- THE TWO PARTS of rows
abbrev pub queues_in : List (ℕ × Row) → List (ℕ × Queue)
queues_in rows = map (λ e. (e.0, e.1.queue)) rows

abbrev pub txns_in : List (ℕ × Row) → List (ℕ × Txns)
txns_in rows = map (λ e. (e.0, e.1.txns)) rows

-- whoever has a transaction open is busy
abbrev pub IsQuietOrBusy : List (ℕ × Unit {0}) → ℕ × Row → Type 0
IsQuietOrBusy busy e = (e.1.txns ≡ []) ⊎ (is_some (find nat_cmp e.0 busy) ≡ true)

abbrev pub AreQuietOrBusy : List (ℕ × Unit {0}) → List (ℕ × Row) → Type 0
AreQuietOrBusy busy rows = AllByRecursion (IsQuietOrBusy busy) rows

pub found_queue : (c : ℕ) (rows : List (ℕ × Row)) → find nat_cmp c (queues_in rows) ≡ option_map (λ (row : Row). row.queue) (find nat_cmp c rows)
found_queue c rows = found_map nat_cmp (λ (row : Row). row.queue) c rows

pub found_txns : (c : ℕ) (rows : List (ℕ × Row)) → find nat_cmp c (txns_in rows) ≡ option_map (λ (row : Row). row.txns) (find nat_cmp c rows)
found_txns c rows = found_map nat_cmp (λ (row : Row). row.txns) c rows

-- the transactions of a row that is there, or not
pub txns_there : (c : ℕ) (row : Row) (rows : List (ℕ × Row)) → Some row ≡ find nat_cmp c rows → txns_of c (txns_in rows) ≡ row.txns
txns_there c row rows there = ap or_no_txns (found_txns c rows ∙ ap (option_map (λ (row : Row). row.txns)) (sym there))

pub txns_absent : (c : ℕ) (rows : List (ℕ × Row)) → None ≡ find nat_cmp c rows → txns_of c (txns_in rows) ≡ []
txns_absent c rows absent = ap or_no_txns (found_txns c rows ∙ ap (option_map (λ (row : Row). row.txns)) (sym absent))

-- what is open, row by row
pub joined : (rows : List (ℕ × Row)) → opens_of (txns_in rows) ≡ map (λ e. (e.0, opens_in e.1.txns)) rows
joined [] = refl
joined (e ∷ rows) = ap (λ l. (e.0, opens_in e.1.txns) ∷ l) (joined rows)

-- A ROW in its place
pub put_queues : (c : ℕ) (row : Row) (rows : List (ℕ × Row)) → queues_in (put nat_cmp c row rows) ≡ put nat_cmp c row.queue (queues_in rows)
put_queues c row rows = put_map (λ (row : Row). row.queue) c row rows

pub put_txns : (c : ℕ) (row : Row) (rows : List (ℕ × Row)) → txns_in (put nat_cmp c row rows) ≡ put nat_cmp c row.txns (txns_in rows)
put_txns c row rows = put_map (λ (row : Row). row.txns) c row rows

module _ (c : ℕ) (old new : Row) (rows : List (ℕ × Row)) (rising : is_sorted nat_cmp rows ≡ true) (there : Some old ≡ find nat_cmp c rows) where
  pub same_txns : new.txns ≡ old.txns → txns_in (put nat_cmp c new rows) ≡ txns_in rows
  same_txns same =
      map_changed c new old (λ e. (e.0, e.1.txns)) (λ e. (e.0, e.1.txns)) (λ e. is_some (find nat_cmp e.0 rows) ≡ true) (λ e apart h. refl) (ap (λ (t : Txns). (c, t)) same) rows rising (all_there rows) (sym there)

  pub same_opens : opens_in new.txns ≡ opens_in old.txns → opens_of (txns_in (put nat_cmp c new rows)) ≡ opens_of (txns_in rows)
  same_opens same =
      joined (put nat_cmp c new rows)
      ∙ map_changed c new old (λ e. (e.0, opens_in e.1.txns)) (λ e. (e.0, opens_in e.1.txns)) (λ e. is_some (find nat_cmp e.0 rows) ≡ true) (λ e apart h. refl) (ap (λ t. (c, t)) same) rows rising (all_there rows) (sym there)
      ∙ sym (joined rows)

  pub same_queues : new.queue ≡ old.queue → queues_in (put nat_cmp c new rows) ≡ queues_in rows
  same_queues same =
      map_changed c new old (λ e. (e.0, e.1.queue)) (λ e. (e.0, e.1.queue)) (λ e. is_some (find nat_cmp e.0 rows) ≡ true) (λ e apart h. refl) (ap (λ (q : Queue). (c, q)) same) rows rising (all_there rows) (sym there)

-- WHO IS BUSY
pub all_entry : {X : Type 0} (P : ℕ × X → Type 0) (k : ℕ) (x : X) → P (k, x) → (es : List (ℕ × X)) → AllByRecursion P es → AllByRecursion P (put nat_cmp k x es)
all_entry P k x p [] h = (p, tt)
all_entry P k x p (e ∷ es) h =
    elim (nat_cmp k e.0) as (λ o. nat_cmp k e.0 ≡ o → AllByRecursion P (by_order o ((k, x) ∷ e ∷ es) ((e.0, x) ∷ es) (e ∷ put nat_cmp k x es))) [
      | Less ↦ λ t. (p, h)
      | Equal ↦ λ t. (subst (λ i. P (i, x)) (nat_cmp-IsAntisymmetric k e.0 t) p, h.1)
      | Greater ↦ λ t. (h.0, all_entry P k x p es h.1)
    ] refl

all_left : {X : Type 0} (p : ℕ → Bool) (P Q : ℕ × X → Type 0) → ((e : ℕ × X) → p e.0 ≡ true → P e → Q e) → (es : List (ℕ × X)) → AllByRecursion P es → AllByRecursion Q (where_key nat_cmp p es)
all_left p P Q f [] h = tt
all_left {X} p P Q f (e ∷ es) h =
    elim (p e.0) as (λ b. p e.0 ≡ b → AllByRecursion Q (cond b (e ∷ where_key nat_cmp p es) (where_key nat_cmp p es))) [
      | true ↦ λ t. (f e t h.0, all_left p P Q f es h.1)
      | false ↦ λ t. all_left p P Q f es h.1
    ] refl

without_found : {X : Type 0} (q k : ℕ) (es : List (ℕ × X)) → find nat_cmp q (where_key nat_cmp (λ key. not (k == key)) es) ≡ cond (q == k) None (find nat_cmp q es)
without_found q k es =
    sym (ap (λ (p : ℕ → Bool). find nat_cmp q (where_key nat_cmp p es)) (λ i key. not (unsigned_tied k key i)))
    ∙ found_without nat_cmp nat_cmp_total q k es ∙ ap (λ b. cond b None (find nat_cmp q es)) (unsigned_tied q k)

-- one more, or one less
busy_found : (q k : ℕ) (busy : List (ℕ × Unit {0})) → is_some (find nat_cmp q busy) ≡ true → is_some (find nat_cmp q (put nat_cmp k tt busy)) ≡ true
busy_found q k busy h = ap is_some (found_at q k tt busy) ∙ elim (q == k) as (λ b. is_some (cond b (Some tt) (find nat_cmp q busy)) ≡ true) [
  | true ↦ refl
  | false ↦ h
]

pub busy_more : (k : ℕ) (busy : List (ℕ × Unit {0})) (e : ℕ × Row) → IsQuietOrBusy busy e → IsQuietOrBusy (put nat_cmp k tt busy) e
busy_more k busy e (inl none) = inl none
busy_more k busy e (inr some) = inr (busy_found e.0 k busy some)

apart_found : (q k : ℕ) (busy : List (ℕ × Unit {0})) → (q == k) ≡ false → is_some (find nat_cmp q busy) ≡ true → is_some (find nat_cmp q (where_key nat_cmp (λ key. not (k == key)) busy)) ≡ true
apart_found q k busy apart h = ap is_some (without_found q k busy ∙ ap (λ b. cond b None (find nat_cmp q busy)) apart) ∙ h

pub busy_less : (k : ℕ) (busy : List (ℕ × Unit {0})) (e : ℕ × Row) → (e.0 == k) ≡ false → IsQuietOrBusy busy e → IsQuietOrBusy (where_key nat_cmp (λ key. not (k == key)) busy) e
busy_less k busy e apart (inl none) = inl none
busy_less k busy e apart (inr some) = inr (apart_found e.0 k busy apart some)

-- the queue of a row that is there
pub queue_there : (c : ℕ) (row : Row) (rows : List (ℕ × Row)) → Some row ≡ find nat_cmp c rows → find nat_cmp c (queues_in rows) ≡ Some row.queue
queue_there c row rows there = found_queue c rows ∙ ap (option_map (λ (row : Row). row.queue)) (sym there)

pub queue_absent : (c : ℕ) (rows : List (ℕ × Row)) → None ≡ find nat_cmp c rows → find nat_cmp c (queues_in rows) ≡ None
queue_absent c rows absent = found_queue c rows ∙ ap (option_map (λ (row : Row). row.queue)) (sym absent)

-- a row that has the same transactions
quiet_as : (busy : List (ℕ × Unit {0})) (c : ℕ) (old new : Row) → new.txns ≡ old.txns → IsQuietOrBusy busy (c, old) → IsQuietOrBusy busy (c, new)
quiet_as busy c old new same (inl none) = inl (same ∙ none)
quiet_as busy c old new same (inr some) = inr some

pub quiet_put : (busy : List (ℕ × Unit {0})) (c : ℕ) (old new : Row) (rows : List (ℕ × Row)) → Some old ≡ find nat_cmp c rows → new.txns ≡ old.txns → AreQuietOrBusy busy rows → AreQuietOrBusy busy (put nat_cmp c new rows)
quiet_put busy c old new rows there same quiet =
    all_entry (IsQuietOrBusy busy) c new (quiet_as busy c old new same (all_at c old (IsQuietOrBusy busy) rows quiet (sym there))) rows quiet

-- a row that is not there any more
is_not : (c k : ℕ) → not (c == k) ≡ true → (k == c) ≡ false
is_not c k h = grind (arith, nat_tests)

pub quiet_without : (busy : List (ℕ × Unit {0})) (c : ℕ) (rows : List (ℕ × Row)) → AreQuietOrBusy busy rows → AreQuietOrBusy (where_key nat_cmp (λ key. not (c == key)) busy) (where_key nat_cmp (λ key. not (c == key)) rows)
quiet_without busy c rows quiet =
    all_left (λ key. not (c == key)) (IsQuietOrBusy busy) (IsQuietOrBusy (where_key nat_cmp (λ key. not (c == key)) busy)) (λ e t h. busy_less c busy e (is_not c e.0 t) h) rows quiet

-- a row with a transaction more
pub quiet_opened : (busy : List (ℕ × Unit {0})) (c : ℕ) (new : Row) (rows : List (ℕ × Row)) → AreQuietOrBusy busy rows → AreQuietOrBusy (put nat_cmp c tt busy) (put nat_cmp c new rows)
quiet_opened busy c new rows quiet =
    all_entry (IsQuietOrBusy (put nat_cmp c tt busy)) c new (inr (ap is_some (found_itself c tt busy))) rows
    (all_weaker (IsQuietOrBusy busy) (IsQuietOrBusy (put nat_cmp c tt busy)) (λ e h. busy_more c busy e h) rows quiet)

-- or one less
empty : {X : Type 0} (xs : List X) → (length xs == 0) ≡ true → xs ≡ []
empty [] h = refl
empty (x ∷ xs) h = absurd (omega (arith, eqb-true (length (x ∷ xs)) 0 h))

busy_there : (busy : List (ℕ × Unit {0})) (c : ℕ) (old : Row) (tx : ℕ) (txn : Txn) → find nat_cmp tx old.txns ≡ Some txn → IsQuietOrBusy busy (c, old) → is_some (find nat_cmp c busy) ≡ true
busy_there busy c old tx txn found (inl none) = not_Some (sym (ap (find nat_cmp tx) none) ∙ found)
busy_there busy c old tx txn found (inr some) = some

pub is_busy : (busy : List (ℕ × Unit {0})) (c : ℕ) (old : Row) (rows : List (ℕ × Row)) (tx : ℕ) (txn : Txn) → Some old ≡ find nat_cmp c rows → find nat_cmp tx old.txns ≡ Some txn → AreQuietOrBusy busy rows → is_some (find nat_cmp c busy) ≡ true
is_busy busy c old rows tx txn there found quiet = busy_there busy c old tx txn found (all_at c old (IsQuietOrBusy busy) rows quiet (sym there))

pub quiet_taken : (busy : List (ℕ × Unit {0})) (c : ℕ) (new : Row) (rows : List (ℕ × Row)) → is_sorted nat_cmp rows ≡ true → is_some (find nat_cmp c busy) ≡ true → AreQuietOrBusy busy rows
    → AreQuietOrBusy (cond (length new.txns == 0) (where_key nat_cmp (λ key. not (c == key)) busy) busy) (put nat_cmp c new rows)
quiet_taken busy c new rows rising there quiet = by (length new.txns == 0) refl
  where
    apart : (e : ℕ × Row) → e.0 ≢ c → (e.0 == c) ≡ false
    apart e h = ne_eqb e.0 c h

    by : (b : Bool) → (length new.txns == 0) ≡ b → AreQuietOrBusy (cond b (where_key nat_cmp (λ key. not (c == key)) busy) busy) (put nat_cmp c new rows)
    by true t =
        all_changed c new (IsQuietOrBusy busy) (IsQuietOrBusy (where_key nat_cmp (λ key. not (c == key)) busy)) (λ e h q. busy_less c busy e (apart e h) q) (inl (empty new.txns t)) rows rising quiet
    by false t = all_entry (IsQuietOrBusy busy) c new (inr there) rows quiet

-- nothing is left out where nothing is found
pub where_absent : {X : Type 0} (k : ℕ) (es : List (ℕ × X)) → find nat_cmp k es ≡ None → where_key nat_cmp (λ key. not (k == key)) es ≡ es
where_absent k [] none = refl
where_absent {X} k (e ∷ es) none =
    elim (eq_by_cmp nat_cmp k e.0) as (λ b. eq_by_cmp nat_cmp k e.0 ≡ b → cond b (Some e.1) (find nat_cmp k es) ≡ None → where_key nat_cmp (λ key. not (k == key)) (e ∷ es) ≡ e ∷ es) [
      | true ↦ λ t is. not_Some (sym is)
      | false ↦ λ t is. ap (λ b. cond (not b) (e ∷ where_key nat_cmp (λ key. not (k == key)) es) (where_key nat_cmp (λ key. not (k == key)) es)) (sym (unsigned_tied k e.0) ∙ t)
          ∙ ap (λ l. e ∷ l) (where_absent k es is)
    ] refl none

-- A LOAN of one transaction
abbrev pub view_of : List (ℕ × Row) → ℕ → Rows
view_of rows spare = record { queues = queues_in rows; txns = txns_in rows; spare = spare }

abbrev pub with_txn : ℕ → Txn → Row → Row
with_txn tx txn row = record { queue = row.queue; txns = put nat_cmp tx txn row.txns }

pub lent_row : (c tx : ℕ) (row : Row) (rows : List (ℕ × Row)) (spare : ℕ) (now : Rows) → view_of rows spare ≡ now → is_sorted nat_cmp rows ≡ true → Some row ≡ find nat_cmp c rows
    → (w : Txn) → view_of (put nat_cmp c (with_txn tx w row) rows) spare ≡ record now { txns = put nat_cmp c (put nat_cmp tx w (txns_of c now.txns)) now.txns }
lent_row c tx row rows spare now is rising there w =
    let new : Row = with_txn tx w row in
    let txns : txns_in (put nat_cmp c new rows) ≡ put nat_cmp c (put nat_cmp tx w (txns_of c (txns_in rows))) (txns_in rows) =
    put_txns c new rows ∙ ap (λ (t : Txns). put nat_cmp c (put nat_cmp tx w t) (txns_in rows)) (sym (txns_there c row rows there)) in
    let queues : queues_in (put nat_cmp c new rows) ≡ queues_in rows = same_queues c row new rows rising there refl in
    (λ i. record { queues = queues i; txns = txns i; spare = spare })
    ∙ ap (λ (r : Rows). record r { txns = put nat_cmp c (put nat_cmp tx w (txns_of c r.txns)) r.txns }) is
