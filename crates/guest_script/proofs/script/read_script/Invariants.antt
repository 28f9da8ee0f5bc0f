use Rattle.std.proofs.Common.{◌≡◌, ◌+◌, ◌≤◌, length}
use Rattle.world_model.specs.Lines.{lines_of}
use Rattle.world_model.specs.Scripts.{script_of}
use Rattle.guest_script.specs.Drafts.{rest_of_script}
use Rattle.guest_script.proofs.script.read_script.Given as goal

-- each line has a byte, and the lines to come make the script out of that so far
abbrev pub invariant-loop-text : goal.invariant-loop-text
invariant-loop-text l = record {
  counted : l.line + length l.rest ≤ length l.bytes;
  left : rest_of_script l.draft (l.line + 1) (lines_of l.rest) ≡ script_of l.bytes;
}

abbrev pub decreases-loop-text : goal.decreases-loop-text
decreases-loop-text l = length l.rest
