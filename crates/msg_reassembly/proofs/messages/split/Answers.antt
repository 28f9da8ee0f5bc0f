use Rattle.std.proofs.Common.{◌≡◌, ℕ, List, [], ◌∷◌, ◌++◌, take, drop, sym, ap, ap₂, ◌∙◌}
use Rattle.std.proofs.lemmas.List.{append_assoc}
use Rattle.world_model.specs.Fronts.{Whole, front}
use Rattle.msg_reassembly.specs.Inboxes.{front_view, messages_of}
use Rattle.msg_reassembly.proofs.CutLemmas.{messages-first}
use Rattle.msg_reassembly.proofs.messages.split.Goals as goal

-- one more message is the first of those that are left
one_more : (so_far : List (List ℕ)) (left : List ℕ) (n : ℕ) → front left ≡ Whole n → (so_far ++ take n left ∷ []) ++ messages_of (drop n left) ≡ so_far ++ messages_of left
one_more so_far left n whole =
    append_assoc so_far (take n left ∷ []) (messages_of (drop n left)) ∙ ap (λ ms. so_far ++ ms) (sym (messages-first left n whole))

pub loop-len-preserved : goal.loop-len-preserved
loop-len-preserved c =
    let left = c.loop-len.left.now in
    let n = c.in-Whole.len in
    let whole : front left ≡ Whole n = sym c.front_of.ensures ∙ ap front_view c.in-Whole.is in
    let more : c.push.new.self ≡ c.loop-len.messages ++ take n left ∷ [] =
    c.in_ok-push.ensures.ok ∙ ap (λ m. c.loop-len.messages ++ m ∷ []) c.in_ok-copy.ensures in
    ap₂ (λ ms bs. ms ++ messages_of bs) more c.from-left.ensures ∙ one_more c.loop-len.messages left n whole ∙ c.loop-len.invariant
