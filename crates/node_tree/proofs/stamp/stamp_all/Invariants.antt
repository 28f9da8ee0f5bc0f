use Rattle.std.proofs.Common.{◌≡◌, ◌||◌, true, drop}
use Rattle.std.specs.FinMap.{is_sorted}
use Rattle.xs_model.specs.Paths.{path_cmp}
use Rattle.node_tree.specs.KeptTree.{gens_of}
use Rattle.node_tree.specs.Numbers.{one_has, with_numbers}
use Rattle.node_tree.proofs.stamp.stamp_all.Given as goal

-- what the paths that are left do completes the whole
abbrev pub invariant-loop-path : goal.invariant-loop-path
invariant-loop-path l = record {
  map : record l.map { entries = with_numbers (drop l.path-index l.changed) l.number l.map.entries } ≡ record l.initial.map { entries = with_numbers l.changed l.number l.initial.map.entries };
  found : (l.found || one_has (drop l.path-index l.changed) (gens_of l.map.entries)) ≡ one_has l.changed (gens_of l.initial.map.entries);
}
