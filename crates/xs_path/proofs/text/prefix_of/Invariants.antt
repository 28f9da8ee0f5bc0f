use Rattle.std.proofs.Common.{◌≡◌, ◌+◌, ◌<◌, take}
use Rattle.xs_path.proofs.Splitting.{slashes}
use Rattle.xs_path.proofs.text.prefix_of.Given as goal

-- each slash behind the first takes one off
abbrev pub invariant-loop-place : goal.invariant-loop-place
invariant-loop-place l = record {
  more : 0 < l.left;
  counted : l.left + slashes (take l.place l.text) ≡ l.names + 1;
}
