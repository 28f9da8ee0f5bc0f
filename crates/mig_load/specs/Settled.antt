-- What is kept of the open transactions once what is said of them is joined to the tree, and which of their paths leaves a
-- node without its parent. This project's own.
use Rattle.std.specs.Prelude.{ℕ, List, [], ◌∷◌, map, if◌then◌else◌, Bool, Option, Some, None}
use Rattle.std.specs.Ordering.{nat_cmp}
use Rattle.std.specs.FinMap.{find}
use Rattle.xs_model.specs.Trees.{Tree}
use Rattle.mark_model.specs.Marks.{Marks, overlay}
use Rattle.mark_model.specs.Stores.{KeptTransaction}
use Rattle.mark_model.specs.Stores as store
use Rattle.kept_model.specs.States.{TransactionOf}
use Rattle.kept_model.specs.Said.{Said}
use Rattle.kept_model.specs.Loading.{Pending}
use Rattle.kept_model.specs.Normal.{normal, is_orphan_in}
use Rattle.txn_access.specs.Txns.{Txn}
use Rattle.conn_rows.specs.Rows.{Txns, txns_of}
use Rattle.mig_load.specs.Came.{Opens, Saids, said_of}

abbrev pub kept_of : Tree → TransactionOf Said → KeptTransaction
kept_of tree t = record { marks = normal tree t.marks; count = t.count }

abbrev pub kept_opens : Tree → Opens → store.Opens
kept_opens tree opens = map (λ e. (e.0, kept_of tree e.1)) opens

-- by the ids of the connections; one of which nothing is said has none
abbrev pub settled_opens : Tree → Saids → List (ℕ × Txns) → List (ℕ × store.Opens)
settled_opens tree saids txns = map (λ e. (e.0, kept_opens tree (said_of e.0 saids))) txns

-- the marks of a transaction, none where it is not there
abbrev pub marks_or_none : Option Txn → Marks
marks_or_none None = []
marks_or_none (Some t) = t.marks

abbrev pub leaves_orphan : Tree → List (ℕ × Txns) → Pending → Bool
leaves_orphan tree txns pending =
    is_orphan_in (overlay tree (marks_or_none (find nat_cmp pending.tx (txns_of pending.conn txns)))) pending.path

-- the record of the first of these paths that leaves one
abbrev pub first_orphan : Tree → List (ℕ × Txns) → List Pending → Option ℕ
first_orphan tree txns [] = None
first_orphan tree txns (pending ∷ rest) = if leaves_orphan tree txns pending then Some pending.rec else first_orphan tree txns rest
