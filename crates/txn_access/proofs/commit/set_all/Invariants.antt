use Rattle.std.proofs.Common.{◌≡◌, ◌≤◌, ◌+◌, ◌++◌, length, vec_len, vec_capacity}
use Rattle.xs_model.specs.Trees.{edited}
use Rattle.mark_model.specs.Marks.{edits_by, written_paths}
use Rattle.node_tree.specs.Numbers.{renumbered}
use Rattle.txn_access.specs.Plans.{wrote, gone_paths, FitsSets}
use Rattle.txn_access.proofs.commit.set_all.Given as goal

-- what is left to set completes the whole
abbrev pub invariant-left : goal.invariant-left
invariant-left l = record {
  nodes : edited l.tree.nodes (edits_by wrote l.left.entries) ≡ edited l.fn.tree.nodes (edits_by wrote l.fn.map.entries);
  gens : renumbered l.tree.gens (edits_by wrote l.left.entries) ≡ renumbered l.fn.tree.gens (edits_by wrote l.fn.map.entries);
  counter : l.tree.counter ≡ l.fn.tree.counter;
  fits : FitsSets l.tree.nodes (edits_by wrote l.left.entries);
  spare : length (written_paths l.left.entries) ≤ l.tree.spare;
  room : vec_len l.gone + length (written_paths l.left.entries) ≤ vec_capacity l.gone;
  gone : l.gone.items ++ gone_paths l.left.entries ≡ gone_paths l.fn.map.entries;
}

abbrev pub decreases-left : goal.decreases-left
decreases-left l = length l.left.entries
