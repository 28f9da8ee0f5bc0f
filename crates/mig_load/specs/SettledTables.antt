-- The tables of connections that came, once what is said of their transactions is joined to the tree.
use Rattle.std.specs.Prelude.{◌≡◌, ℕ, List, map}
use Rattle.xs_model.specs.Trees.{Tree}
use Rattle.mark_model.specs.Marks.{Mark}
use Rattle.kept_model.specs.States.{ConnectionOf}
use Rattle.kept_model.specs.Said.{Said}
use Rattle.kept_model.specs.Normal.{normal_connection}
use Rattle.conn_table.specs.Tables.{Specs}
use Rattle.out_queues.specs.Queues.{Queue}
use Rattle.watchers.specs.Watched.{Watched, AreOwn}
use Rattle.conn_rows.specs.Rows.{Txns, opens_of}
use Rattle.conn_rows.specs.Queued.{unsent_of, rests_of}
use Rattle.store_parts.specs.Kept.{Kept}
use Rattle.store_parts.specs.States.{Inboxes, connection_of}
use Rattle.mig_load.specs.Came.{AreOf}

-- the connections are those of a store with these tables, whatever its nodes are; and the tables fit
pub record IsSettled (tree : Tree) (conns : List (ℕ × ConnectionOf Said)) (specs : Specs) (watched : Watched) (queues : List (ℕ × Queue)) (txns : List (ℕ × Txns)) (ins : Inboxes) : Type 0 where
  pub connections : (kept : Kept) → kept.specs ≡ specs → kept.watched ≡ watched → kept.opens ≡ opens_of txns → kept.unsent ≡ unsent_of queues → kept.rests ≡ rests_of queues
      → map {B = ℕ × ConnectionOf Mark} (λ e. (e.0, connection_of kept ins e.0 e.1)) specs ≡ map (λ e. (e.0, normal_connection tree e.1)) conns
  pub own : AreOwn specs watched
  pub named : AreOf specs watched
  pub queued : map (λ e. e.0) queues ≡ map (λ e. e.0) specs
  pub opened : map (λ e. e.0) txns ≡ map (λ e. e.0) specs
  pub read : map (λ e. e.0) ins ≡ map (λ e. e.0) specs
