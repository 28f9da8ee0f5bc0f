-- The open transactions in memory, and what is kept of them.
use Rattle.std.proofs.Common.{◌≡◌, ℕ, ◌==◌, ◌≤◌, true, not, List, [], ◌∷◌, map, length, Option, Some, None, refl, sym, ap, ◌∙◌}
use Rattle.std.specs.List.{AllByRecursion}
use Rattle.std.specs.Option.{option_map}
use Rattle.std.specs.Ordering.{nat_cmp}
use Rattle.std.specs.FinMap.{find, put, is_sorted}
use Rattle.std.specs.FinMap.Entries.{where_key}
use Rattle.xs_model.specs.Paths.{Path}
use Rattle.xs_model.specs.Trees.{Tree}
use Rattle.xs_model.proofs.Maps.{from_Some, not_Some, found_map, all_found, all_put, all_where}
use Rattle.machine_model.specs.declared.ConnSpec.{ConnSpec}
use Rattle.mark_model.specs.Stores.{KeptTransaction, IsKeptTransaction, Opens, opens_of as opens_at, or_no_opens, without_open, noted, noted_all}
use Rattle.conn_table.specs.Tables.{Specs}
use Rattle.txn_access.specs.Txns.{Txn, Plans}
use Rattle.conn_rows.specs.Rows.{Txns, kept_txn, opens_in, opens_of, or_no_txns, txns_of, EachTxn, ArePlanned, HaveRoom}
use Rattle.conn_rows.proofs.IdEntries.{put_map, where_map, keys_map, same_put, put_again}

-- without one of them
abbrev pub without : ℕ → Txns → Txns
without tx txns = where_key nat_cmp (λ key. not (tx == key)) txns

-- FOUND by connection and number
pub opens_found : (c : ℕ) (txns : List (ℕ × Txns)) → opens_at c (opens_of txns) ≡ opens_in (txns_of c txns)
opens_found c txns = ap or_no_opens (found_map nat_cmp opens_in c txns) ∙ by (find nat_cmp c txns)
  where
    by : (o : Option Txns) → or_no_opens (option_map opens_in o) ≡ opens_in (or_no_txns o)
    by None = refl
    by (Some ts) = refl

pub open_found : (c tx : ℕ) (txns : List (ℕ × Txns)) → find nat_cmp tx (opens_at c (opens_of txns)) ≡ option_map kept_txn (find nat_cmp tx (txns_of c txns))
open_found c tx txns = ap (λ (os : Opens). find nat_cmp tx os) (opens_found c txns) ∙ found_map nat_cmp kept_txn tx (txns_of c txns)

-- the same is kept of two lists, so of a transaction of theirs
module _ (c tx : ℕ) (old new : List (ℕ × Txns)) (same : opens_of new ≡ opens_of old) where
  both_found : option_map kept_txn (find nat_cmp tx (txns_of c new)) ≡ option_map kept_txn (find nat_cmp tx (txns_of c old))
  both_found = sym (open_found c tx new) ∙ ap (λ os. find nat_cmp tx (opens_at c os)) same ∙ open_found c tx old

  pub same_open : (t u : Txn) → find nat_cmp tx (txns_of c old) ≡ Some t → find nat_cmp tx (txns_of c new) ≡ Some u → kept_txn u ≡ kept_txn t
  same_open t u before after = from_Some (sym (ap (option_map kept_txn) after) ∙ both_found ∙ ap (option_map kept_txn) before)

  pub still_open : {A : Type 0} (t : Txn) → find nat_cmp tx (txns_of c old) ≡ Some t → find nat_cmp tx (txns_of c new) ≡ None → A
  still_open t before gone = not_Some (sym (ap (option_map kept_txn) gone) ∙ both_found ∙ ap (option_map kept_txn) before)

-- what holds of each that is kept
pub kept_found : (tree : Tree) (opens : List (ℕ × Opens)) → AllByRecursion (λ e. AllByRecursion (λ f. IsKeptTransaction tree f.1) e.1) opens
    → (c tx : ℕ) (t : KeptTransaction) → find nat_cmp tx (opens_at c opens) ≡ Some t → IsKeptTransaction tree t
kept_found tree opens each c tx t there = by (find nat_cmp c opens) refl there
  where
    by : (o : Option Opens) → find nat_cmp c opens ≡ o → find nat_cmp tx (or_no_opens o) ≡ Some t → IsKeptTransaction tree t
    by None e found = not_Some found
    by (Some ts) e found =
        all_found nat_cmp (IsKeptTransaction tree) tx ts t (all_found nat_cmp (λ (ts : Opens). AllByRecursion (λ f. IsKeptTransaction tree f.1) ts) c opens ts each e) found

-- CHANGED: another one at a number, and one less
pub opens_put : (c tx : ℕ) (t : Txn) (txns : List (ℕ × Txns)) → opens_of (put nat_cmp c (put nat_cmp tx t (txns_of c txns)) txns) ≡ put nat_cmp c (put nat_cmp tx (kept_txn t) (opens_at c (opens_of txns))) (opens_of txns)
opens_put c tx t txns =
    put_map opens_in c (put nat_cmp tx t (txns_of c txns)) txns
    ∙ ap (λ (os : Opens). put nat_cmp c os (opens_of txns)) (put_map kept_txn tx t (txns_of c txns) ∙ ap (λ (os : Opens). put nat_cmp tx (kept_txn t) os) (sym (opens_found c txns)))

pub opens_closed : (c tx : ℕ) (txns : List (ℕ × Txns)) → opens_of (put nat_cmp c (without tx (txns_of c txns)) txns) ≡ put nat_cmp c (without_open tx (opens_at c (opens_of txns))) (opens_of txns)
opens_closed c tx txns =
    put_map opens_in c (without tx (txns_of c txns)) txns
    ∙ ap (λ (os : Opens). put nat_cmp c os (opens_of txns)) (where_map kept_txn (λ key. not (tx == key)) (txns_of c txns) ∙ ap (λ (os : Opens). where_key nat_cmp (λ key. not (tx == key)) os) (sym (opens_found c txns)))

-- one less of what is kept alike
pub same_closed : (c tx : ℕ) (old new : List (ℕ × Txns)) → opens_of new ≡ opens_of old → opens_of (put nat_cmp c (without tx (txns_of c new)) new) ≡ opens_of (put nat_cmp c (without tx (txns_of c old)) old)
same_closed c tx old new same =
    opens_closed c tx new
    ∙ ap (λ os. put nat_cmp c (without_open tx (opens_at c os)) os) same
    ∙ sym (opens_closed c tx old)

-- THE IDS of the connections stay
pub ids_put : {X : Type 0} (c : ℕ) (x : X) (es : List (ℕ × X)) (spec : ConnSpec) (specs : Specs) → is_sorted nat_cmp specs ≡ true → find nat_cmp c specs ≡ Some spec → map (λ e. e.0) es ≡ map (λ e. e.0) specs → map (λ e. e.0) (put nat_cmp c x es) ≡ map (λ e. e.0) specs
ids_put c x es spec specs rising there ids = same_put es specs ids c x spec ∙ ap (λ (ss : Specs). map (λ e. e.0) ss) (put_again c spec specs rising there)

pub ids_noted : (tree : Tree) (changed : List Path) (opens : List (ℕ × Opens)) → map (λ e. e.0) (noted_all tree changed opens) ≡ map (λ e. e.0) opens
ids_noted tree [] opens = refl
ids_noted tree (p ∷ ps) opens = keys_map (noted tree (p ∷ ps)) opens

-- PLANNED: those of one connection, those that are left, and their room
module _ (P : Txn → Type 0) where
  each_of : (c : ℕ) (txns : List (ℕ × Txns)) → EachTxn P txns → AllByRecursion (λ f. P f.1) (txns_of c txns)
  each_of c txns h = by (find nat_cmp c txns) refl
    where
      by : (o : Option Txns) → find nat_cmp c txns ≡ o → AllByRecursion (λ (f : ℕ × Txn). P f.1) (or_no_txns o)
      by None e = tt
      by (Some ts) e = all_found nat_cmp (λ (ts : Txns). AllByRecursion (λ f. P f.1) ts) c txns ts h e

  pub each_closed : (c tx : ℕ) (txns : List (ℕ × Txns)) → EachTxn P txns → EachTxn P (put nat_cmp c (without tx (txns_of c txns)) txns)
  each_closed c tx txns h =
      all_put nat_cmp (λ (ts : Txns). AllByRecursion (λ f. P f.1) ts) c (without tx (txns_of c txns)) txns
      (all_where nat_cmp P (λ key. not (tx == key)) (txns_of c txns) (each_of c txns h)) h

room_in : (tree : Tree) (changed : List Path) (ts : Txns) → AllByRecursion (λ f. Plans tree changed f.1) ts → AllByRecursion (λ f. length f.1.pending ≤ f.1.spare) ts
room_in tree changed [] h = tt
room_in tree changed (t ∷ ts) h = (h.0.room, room_in tree changed ts h.1)

pub planned_room : (tree : Tree) (changed : List Path) (txns : List (ℕ × Txns)) → ArePlanned tree changed txns → HaveRoom txns
planned_room tree changed [] h = tt
planned_room tree changed (e ∷ es) h = (room_in tree changed e.1 h.0, planned_room tree changed es h.1)
