use Rattle.std.proofs.Common.{◌≡◌, ℕ, List, ◌+◌, ◌-◌, ◌<◌, ◌++◌, sym, ap, ◌∙◌, append_assoc, arith}
use Rattle.guest_script.specs.Made.{Generator, past, operation_lines, operations_lines}
use Rattle.guest_script.proofs.MadeLemmas.{operations_more}
use Rattle.guest_script.proofs.made.make.Goals as goal

pub loop-before-preserved : goal.loop-before-preserved
loop-before-preserved c =
    let l = c.loop-before in
    let g = l.generator in
    let left = c.args.count - (l.before + 1) in
    let more : l.before < c.args.count = omega arith in
    let lines : c.push_operation.new.lines ≡ l.lines ++ operation_lines (l.before + 1) g = c.in_ok-push_operation.ensures.lines in
    ap (λ (h : Generator). c.push_operation.new.lines ++ operations_lines left (l.before + 1 + 1) h) c.push_operation.ensures.past
    ∙ ap (λ (t : List ℕ). t ++ operations_lines left (l.before + 1 + 1) (past g)) lines
    ∙ append_assoc l.lines (operation_lines (l.before + 1) g) (operations_lines left (l.before + 1 + 1) (past g))
    ∙ ap (λ (t : List ℕ). l.lines ++ t) (sym (operations_more c.args.count l.before g more))
    ∙ l.invariant
