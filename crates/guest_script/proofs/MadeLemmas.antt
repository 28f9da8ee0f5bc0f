-- The text of a made script, piece by piece.
use Rattle.std.proofs.Common.{◌≡◌, ℕ, suc, ◌+◌, ◌-◌, ◌<◌, List, ◌++◌, Result, OnOk, ap, ◌∙◌, append_assoc, arith}
use Rattle.std.proofs.lemmas.Result.{on_ok_weaker}
use Rattle.xs_model.specs.Messages.{message_bytes}
use Rattle.guest_script.specs.declared.generator.Choice.{Choice}
use Rattle.guest_script.specs.declared.generator.Known.{Known}
use Rattle.guest_script.specs.Made.{Generator, domid_in, choice_in, request_for, drawn, known_to, past, sent_lines, request_lines, operation_lines, operations_lines}

-- one piece behind another
pub pushed_both : {T E : Type 0} (r : Result T E) (old first mid second new : List ℕ) → mid ≡ old ++ first → OnOk r (new ≡ mid ++ second) → OnOk r (new ≡ old ++ (first ++ second))
pushed_both r old first mid second new is then = on_ok_weaker r (λ e. e ∙ ap (λ text. text ++ second) is ∙ append_assoc old first second) then

-- the request of what was drawn
pub drawn_request : (g : Generator) (i v : ℕ) (known : Known) (choice : Choice) (bytes : List ℕ) → v ≡ drawn g → known ≡ known_to g (domid_in (drawn g)) → choice ≡ choice_in v → bytes ≡ message_bytes (request_for choice i v known)
    → sent_lines (domid_in v) bytes ≡ request_lines (domid_in (drawn g)) (request_for (choice_in (drawn g)) i (drawn g) (known_to g (domid_in (drawn g))))
drawn_request g i v known choice bytes at before kind are =
    ap (sent_lines (domid_in v)) are ∙ ap (λ (c : Choice). request_lines (domid_in v) (request_for c i v known)) kind
    ∙ ap (λ (k : Known). request_lines (domid_in v) (request_for (choice_in v) i v k)) before
    ∙ ap (λ (w : ℕ). request_lines (domid_in w) (request_for (choice_in w) i w (known_to g (domid_in (drawn g))))) at

-- what is left, one operation later
pub operations_more : (count before : ℕ) (g : Generator) → before < count → operations_lines (count - before) (before + 1) g ≡ operation_lines (before + 1) g ++ operations_lines (count - (before + 1)) (before + 1 + 1) (past g)
operations_more count before g more =
    let left : count - before ≡ suc (count - (before + 1)) = omega arith in
    ap (λ n. operations_lines n (before + 1) g) left
