use Rattle.std.proofs.Common.{◌≡◌, ◌++◌, take}
use Rattle.std.specs.Prelude.{codes}
use Rattle.std.specs.List.{flat_map}
use Rattle.stream_model.specs.View.{field, entry_text}
use Rattle.stream_view.proofs.lines.push_others.Given as goal

abbrev pub invariant-loop-entry : goal.invariant-loop-entry
invariant-loop-entry l = l.line ≡ l.fn.line ++ flat_map (λ q. field (codes ",") (entry_text q)) (take l.entry-index l.entries)
