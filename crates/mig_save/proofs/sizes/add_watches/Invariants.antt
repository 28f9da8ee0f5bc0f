use Rattle.std.proofs.Common.{◌≡◌, ◌+◌, length, take}
use Rattle.mig_save.specs.Texts.{all_watches_text}
use Rattle.mig_save.proofs.sizes.add_watches.Given as goal

abbrev pub invariant-loop-entry : goal.invariant-loop-entry
invariant-loop-entry l = l.total ≡ l.fn.count + length (all_watches_text (take l.entry-index l.conns) l.watchers)
