use Rattle.std.proofs.Common.{◌≡◌, ℕ, List, ◌++◌, OnOk, ap, subst, ◌∙◌}
use Rattle.guest_script.specs.Made.{domain_lines, sent_lines, request_lines, make_bulk, open_bulk}
use Rattle.guest_script.proofs.MadeLemmas.{pushed_both}
use Rattle.guest_script.proofs.made.push_first.Goals as goal

pub returns : goal.returns
returns c =
    let r = c.push_request-2.result in
    let old = c.args.lines.now in
    let front = c.push.new.self in
    let new = c.push_request-2.new.lines in
    let made : List ℕ = request_lines 0 make_bulk in
    let first : c.push_request.new.lines ≡ front ++ made = c.in_ok-push_request.ensures ∙ ap (λ (b : List ℕ). front ++ sent_lines 0 b) c.make_bulk.ensures in
    let second : OnOk r (new ≡ c.push_request.new.lines ++ request_lines 0 open_bulk) =
    subst (λ (b : List ℕ). OnOk r (new ≡ c.push_request.new.lines ++ sent_lines 0 b)) c.open_bulk.ensures c.push_request-2.ensures
    in
    pushed_both r old domain_lines front (made ++ request_lines 0 open_bulk) new c.in_ok-push.ensures.ok (pushed_both r front made c.push_request.new.lines (request_lines 0 open_bulk) new first second)
