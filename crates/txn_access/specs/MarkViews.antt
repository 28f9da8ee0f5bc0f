-- Marks in memory are those of the definitions.
use Rattle.mark_model.specs.Marks as model
use Rattle.txn_access.specs.declared.mark.Mark.{Mark}
use Rattle.txn_access.specs.declared.mark.Mark.TheVariants as held

abbrev pub mark_of : Mark → model.Mark
mark_of held.Seen = model.Seen
mark_of (held.Changed old) = model.Changed old
mark_of (held.Wrote others node) = model.Wrote others node
mark_of (held.Gone others) = model.Gone others
mark_of (held.Kept old) = model.Kept old
