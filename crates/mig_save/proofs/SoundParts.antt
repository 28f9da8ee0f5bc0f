-- What soundness of a state says of the parts that it is made from.
use Rattle.std.proofs.Common.{◌≡◌, ℕ, List, [], ◌∷◌, map, Option, Some, None, refl, ap, subst, ◌∙◌}
use Rattle.std.specs.List.{AllByRecursion}
use Rattle.std.specs.Option.{option_map}
use Rattle.std.specs.Ordering.{nat_cmp}
use Rattle.std.specs.FinMap.{find}
use Rattle.xs_model.proofs.Maps.{found_map}
use Rattle.mark_model.specs.Stores.{KeptTransaction, Opens, or_no_opens, opens_of}
use Rattle.kept_model.specs.States.{TransactionOf, ConnectionOf, kept_transaction, opens_in}
use Rattle.kept_model.specs.Sound.{MarksFit, OpensFit, BytesFit}
use Rattle.conn_table.specs.Tables.{Specs}
use Rattle.conn_rows.specs.Rows.{Txns, or_no_txns, txns_of, opens_in as kept_in, opens_of as kept_of}
use Rattle.machine_model.specs.declared.ConnSpec.{ConnSpec}
use Rattle.machine_model.specs.declared.Globals.{Globals}
use Rattle.mark_model.specs.Marks.{Mark}
use Rattle.node_tree.specs.KeptTree.{KeptTree}
use Rattle.watchers.specs.Watched.{Watched}
use Rattle.store_parts.specs.Kept.{Kept, kept_by}
use Rattle.store_parts.specs.States.{Inboxes, transactions_of, connection_of}
use Rattle.conn_rows.specs.Rows.{Rows}
use Rattle.mig_save.specs.Texts.{ConnectionsFit, TxnsFit, AllTxnsFit}

-- the transactions of a connection
found_opens : (found : Option Txns) → or_no_opens (option_map kept_in found) ≡ kept_in (or_no_txns found)
found_opens None = refl
found_opens (Some txns) = refl

pub opens_are : (c : ℕ) (txns : List (ℕ × Txns)) → opens_of c (kept_of txns) ≡ kept_in (txns_of c txns)
opens_are c txns = ap or_no_opens (found_map nat_cmp kept_in c txns) ∙ found_opens (find nat_cmp c txns)

txns_fit : (txns : Txns) → AllByRecursion (λ (e : ℕ × KeptTransaction). MarksFit e.1.marks) (map (λ (e : ℕ × TransactionOf Mark). (e.0, kept_transaction e.1)) (transactions_of (kept_in txns))) → TxnsFit txns
txns_fit [] h = tt
txns_fit (e ∷ txns) h = (h.0, txns_fit txns h.1)

module _ (watched : Watched) (rows : Rows) (tree : KeptTree) (globals : Globals) (ins : Inboxes) (all : Specs) where
  abbrev kept : Kept
  kept = kept_by all watched rows tree globals

  -- those of all connections
  pub all_txns_fit : (specs : Specs) → AllByRecursion (λ (e : ℕ × Opens). OpensFit e.1) (map (λ (e : ℕ × ConnectionOf Mark). (e.0, opens_in e.1)) (map (λ (e : ℕ × ConnSpec). (e.0, connection_of kept ins e.0 e.1)) specs)) → AllTxnsFit specs rows.txns
  all_txns_fit [] h = tt
  all_txns_fit (e ∷ specs) h = (
    txns_fit (txns_of e.0 rows.txns)
        (subst (λ (ts : Opens). AllByRecursion (λ (f : ℕ × KeptTransaction). MarksFit f.1.marks) (map (λ (f : ℕ × TransactionOf Mark). (f.0, kept_transaction f.1)) (transactions_of ts))) (opens_are e.0 rows.txns) h.0.marks),
    all_txns_fit specs h.1,
  )

  -- and their bytes
  pub conns_fit : (specs : Specs) → AllByRecursion (λ (e : ℕ × ConnectionOf Mark). BytesFit e.1) (map (λ (e : ℕ × ConnSpec). (e.0, connection_of kept ins e.0 e.1)) specs) → ConnectionsFit specs rows.queues ins
  conns_fit [] h = tt
  conns_fit (e ∷ specs) h = (record { inbox = h.0.inbox; unsent = h.0.unsent; whole = h.0.whole }, conns_fit specs h.1)
