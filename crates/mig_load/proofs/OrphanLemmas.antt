-- The first path that leaves a node without its parent, in the rows and in the state that they are.
use Rattle.std.proofs.Common.{◌≡◌, ℕ, true, false, cond, List, [], ◌∷◌, map, Option, Some, None, is_some, Result, Ok, Err, refl, sym, ap, ◌∙◌}
use Rattle.std.specs.Option.{option_map}
use Rattle.std.specs.Ordering.{nat_cmp}
use Rattle.std.specs.FinMap.{find}
use Rattle.xs_model.proofs.Maps.{found_map}
use Rattle.machine_model.specs.declared.ConnSpec.{ConnSpec}
use Rattle.mark_model.specs.Marks.{overlay}
use Rattle.mark_model.specs.Stores as store
use Rattle.stream_model.specs.declared.fault.StreamFault.{StreamFault}
use Rattle.stream_model.specs.Record.{StreamRecord}
use Rattle.stream_model.specs.Reading.{stream_of}
use Rattle.kept_model.specs.declared.fault.LoadFault.{LoadFault}
use Rattle.kept_model.specs.declared.fault.LoadFault.TheVariants.{Orphan}
use Rattle.kept_model.specs.States.{State}
use Rattle.kept_model.specs.Loading.{Loading, Pending, none_came, load_from, ◌>>=◌}
use Rattle.kept_model.specs.Normal.{normal_state, is_orphan_in, marks_in, is_orphan, unless_orphans, state_of_bytes, state_by}
use Rattle.kept_model.specs.Normal as normal
use Rattle.txn_access.specs.Txns.{Txn}
use Rattle.conn_rows.specs.Rows.{Txns, or_no_txns, txns_of, kept_txn, opens_in, opens_of}
use Rattle.conn_rows.proofs.IdEntries.{same_there, none_there}
use Rattle.store_parts.specs.Kept.{Kept}
use Rattle.store_parts.specs.States.{Inboxes, transaction_of, transactions_of, connection_of, state_of}
use Rattle.mig_load.specs.Settled.{marks_or_none, leaves_orphan, first_orphan}
use Rattle.mig_load.specs.Told.{told_by, told_by_bytes}
use Rattle.mig_load.proofs.CameLemmas.{at_found}

-- ONE PATH. The marks of a transaction are those of the state
marks_of_txn : (o : Option Txn) → normal.marks_or_none (option_map transaction_of (option_map kept_txn o)) ≡ marks_or_none o
marks_of_txn None = refl
marks_of_txn (Some t) = refl

marks_of_txns : (tx : ℕ) (txns : Txns) → normal.marks_or_none (find nat_cmp tx (transactions_of (opens_in txns))) ≡ marks_or_none (find nat_cmp tx txns)
marks_of_txns tx txns =
    ap normal.marks_or_none (found_map nat_cmp transaction_of tx (opens_in txns) ∙ ap (option_map transaction_of) (found_map nat_cmp kept_txn tx txns))
    ∙ marks_of_txn (find nat_cmp tx txns)

opens_or_none : (o : Option Txns) → store.or_no_opens (option_map opens_in o) ≡ opens_in (or_no_txns o)
opens_or_none None = refl
opens_or_none (Some txns) = refl

opens_at : (c : ℕ) (txns : List (ℕ × Txns)) → store.opens_of c (opens_of txns) ≡ opens_in (txns_of c txns)
opens_at c txns = ap store.or_no_opens (found_map nat_cmp opens_in c txns) ∙ opens_or_none (find nat_cmp c txns)

-- the state, unless there is one
abbrev or_orphan : State → Option ℕ → Result State LoadFault
or_orphan s None = Ok s
or_orphan s (Some rec) = Err (Orphan rec)

module _ (kept : Kept) (ins : Inboxes) (txns : List (ℕ × Txns)) (opens : kept.opens ≡ opens_of txns) (ids : map (λ e. e.0) txns ≡ map (λ e. e.0) kept.specs) where
  marks_at : (c tx : ℕ) (o : Option ConnSpec) → find nat_cmp c kept.specs ≡ o → marks_in tx (option_map (connection_of kept ins c) o) ≡ marks_or_none (find nat_cmp tx (txns_of c txns))
  marks_at c tx None e = ap (λ o. marks_or_none (find nat_cmp tx (or_no_txns o))) (sym (none_there (find nat_cmp c txns) (same_there txns kept.specs ids c ∙ ap is_some e)))
  marks_at c tx (Some spec) e = ap (λ os. normal.marks_or_none (find nat_cmp tx (transactions_of os))) (ap (store.opens_of c) opens ∙ opens_at c txns) ∙ marks_of_txns tx (txns_of c txns)

  one_orphan : (p : Pending) → is_orphan (state_of kept ins) p ≡ leaves_orphan kept.tree txns p
  one_orphan p =
      ap (λ marks. is_orphan_in (overlay kept.tree marks) p.path)
      (ap (marks_in p.tx) (at_found (connection_of kept ins) p.conn kept.specs) ∙ marks_at p.conn p.tx (find nat_cmp p.conn kept.specs) refl)

  -- all of them
  pub orphans : (pending : List Pending) → unless_orphans pending (state_of kept ins) ≡ or_orphan (state_of kept ins) (first_orphan kept.tree txns pending)
  orphans [] = refl
  orphans (p ∷ rest) =
      let s : State = state_of kept ins in
      ap (λ b. cond b (Err (Orphan p.rec)) (unless_orphans rest s)) (one_orphan p)
      ∙ elim (leaves_orphan kept.tree txns p) as (λ b. cond b (Err (Orphan p.rec)) (unless_orphans rest s) ≡ or_orphan s (cond b (Some p.rec) (first_orphan kept.tree txns rest))) [
        | true ↦ refl
        | false ↦ orphans rest
      ]

-- WHAT BYTES TELL
abbrev made : Result Loading LoadFault → Result State LoadFault
made (Ok l) = unless_orphans l.pending (normal_state l.state)
made (Err fault) = Err fault

told_state : (records : Result (List StreamRecord) StreamFault) → state_by records ≡ made (told_by records)
told_state (Ok records) = by (load_from 0 none_came records)
  where
    by : (told : Result Loading LoadFault) → (told >>= (λ l. unless_orphans l.pending (normal_state l.state))) ≡ made told
    by (Ok l) = refl
    by (Err fault) = refl
told_state (Err fault) = refl

-- a fault of the records is one of the bytes
pub fault_told : (bytes : List ℕ) (fault : LoadFault) → told_by_bytes bytes ≡ Err fault → state_of_bytes bytes ≡ Err fault
fault_told bytes fault e = told_state (stream_of bytes) ∙ ap made e

module _ (bytes : List ℕ) (l : Loading) (kept : Kept) (ins : Inboxes) (txns : List (ℕ × Txns)) (pending : List Pending) (told : told_by_bytes bytes ≡ Ok l)
    (state : state_of kept ins ≡ normal_state l.state) (same : pending ≡ l.pending) (opens : kept.opens ≡ opens_of txns) (ids : map (λ e. e.0) txns ≡ map (λ e. e.0) kept.specs) where
  told_whole : state_of_bytes bytes ≡ or_orphan (state_of kept ins) (first_orphan kept.tree txns pending)
  told_whole = told_state (stream_of bytes) ∙ ap made told ∙ (λ i. unless_orphans (sym same i) (sym state i)) ∙ orphans kept ins txns opens ids pending

  pub state_told : first_orphan kept.tree txns pending ≡ None → state_of_bytes bytes ≡ Ok (state_of kept ins)
  state_told none = told_whole ∙ ap (or_orphan (state_of kept ins)) none

  pub orphan_told : (rec : ℕ) → first_orphan kept.tree txns pending ≡ Some rec → state_of_bytes bytes ≡ Err (Orphan rec)
  orphan_told rec some = told_whole ∙ ap (or_orphan (state_of kept ins)) some
