-- What a mark shows, or a commit leaves, in the place of the tree's node. This project's own.
use Rattle.std.specs.Prelude.{Option, Some, None}
use Rattle.xs_model.specs.Trees.{Node}
use Rattle.mark_model.specs.Marks.{Mark, shown, written}

abbrev pub shown_over : Option (Option Node) → Option Node → Option Node
shown_over None under = under
shown_over (Some node) under = node

-- the node that is seen at a path, by its mark and by the node that stands in the tree
abbrev pub seen_by : Option Mark → Option Node → Option Node
seen_by None under = under
seen_by (Some mark) under = shown_over (shown mark) under

-- the node that a commit leaves at a path, by its mark and by the node that stands in the tree
abbrev pub left_by : Option Mark → Option Node → Option Node
left_by None under = under
left_by (Some mark) under = shown_over (written mark) under
