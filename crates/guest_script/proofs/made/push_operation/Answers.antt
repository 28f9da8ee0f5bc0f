use Rattle.std.proofs.Common.{◌≡◌, ℕ, List, ◌++◌, ap, ◌∙◌}
use Rattle.guest_script.specs.Made.{domid_in, drawn, known_to, choice_in, request_for, request_lines, handover_lines}
use Rattle.guest_script.proofs.MadeLemmas.{pushed_both, drawn_request}
use Rattle.guest_script.proofs.made.push_operation.Goals as goal

pub returns-clause-lines : goal.returns-clause-lines
returns-clause-lines c =
    let g = c.args.generator.now in
    let v = drawn g in
    let request : List ℕ = request_lines (domid_in v) (request_for (choice_in v) c.args.number v (known_to g (domid_in v))) in
    let is = drawn_request g c.args.number c.draw-drawn.result.0 c.draw-drawn.result.1 c.choice_in.result c.request_text-request.result c.draw-drawn.ensures.drawn c.draw-drawn.ensures.known c.choice_in.ensures c.request_text-request.ensures in
    let first : c.push_request.new.lines ≡ c.args.lines.now ++ request = c.in_ok-push_request.ensures ∙ ap (λ (t : List ℕ). c.args.lines.now ++ t) is in
    pushed_both c.push_handover.result c.args.lines.now request c.push_request.new.lines (handover_lines c.args.number) c.push_handover.new.lines first c.push_handover.ensures
