use Rattle.std.specs.Prelude.{◌∷◌}
use Rattle.node_tree.proofs.Renumbered.{edits_stamped}
use Rattle.node_tree.proofs.laws.edits_and_stamp_are_stamped.Goals as goal

pub returns : goal.returns
returns c = λ before gens edits p ps changed s keys wrote all. edits_stamped before gens edits (p ∷ ps) changed s keys wrote all
