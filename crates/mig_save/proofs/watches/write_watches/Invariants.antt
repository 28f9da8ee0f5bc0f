use Rattle.std.proofs.Common.{◌≡◌, ◌++◌, take}
use Rattle.mig_save.specs.Texts.{all_watches_text}
use Rattle.mig_save.proofs.watches.write_watches.Given as goal

abbrev pub invariant-loop-entry : goal.invariant-loop-entry
invariant-loop-entry l = l.out ≡ l.fn.out ++ all_watches_text (take l.entry-index l.conns) l.watchers
