use Rattle.std.proofs.Common.{◌≡◌, ◌+◌, ◌<◌, false, length, drop}
use Rattle.std.specs.List.{list_any}
use Rattle.xs_path.proofs.Splitting.{is_slash}
use Rattle.xs_path.proofs.text.last_slash.Given as goal

-- behind the place there is no slash
abbrev pub invariant-loop-place : goal.invariant-loop-place
invariant-loop-place l = record {
  within : l.place < length l.text;
  behind : list_any is_slash (drop (l.place + 1) l.text) ≡ false;
}

abbrev pub decreases-loop-place : goal.decreases-loop-place
decreases-loop-place l = l.place
