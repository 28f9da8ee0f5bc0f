use Rattle.std.proofs.Common.{◌≡◌, ◌+◌, ◌-◌, ◌++◌}
use Rattle.guest_script.specs.Made.{operations_lines, made_script}
use Rattle.guest_script.proofs.made.make.Given as goal

-- the lines so far before those of the operations to come
abbrev pub invariant-loop-before : goal.invariant-loop-before
invariant-loop-before l = l.lines ++ operations_lines (l.count - l.before) (l.before + 1) l.generator ≡ made_script l.seed l.count
