use Rattle.std.proofs.Common.{◌≡◌, ◌+◌, ◌++◌, ◌∷◌, [], get_or, drop, ap, ◌∙◌, arith, List}
use Rattle.std.proofs.lemmas.List.{get_or_read}
use Rattle.xs_model.specs.Paths.{Path}
use Rattle.xs_model.specs.Trees.{Node}
use Rattle.xs_model.specs.Commands.{creation}
use Rattle.tree_ops.specs.Answers.{sets, value_before}
use Rattle.tree_ops.proofs.CreationLemmas.{created_more}
use Rattle.tree_ops.proofs.writing.new_nodes.Goals as goal

pub loop-place-preserved : goal.loop-place-preserved
loop-place-preserved c =
    let absent = c.args.absent.now in
    let place = c.loop-place.place in
    let value = c.args.value.now in
    let perms = c.args.perms.now in
    let made : Node = record { value = value_before value (drop (place + 1) absent); perms = perms } in
    let node : c.new-node.result ≡ made =
    c.new-node.ensures
    ∙ (λ i. record { value = (c.in_ok-copy.ensures ∙ c.value_before-value.ensures ∙ ap (value_before value) c.from_place.ensures) i; perms = c.in_ok-copy-2.ensures i })
    in
    let p : c.in_ok-copy-3.field-0 ≡ get_or absent place [] = c.in_ok-copy-3.ensures ∙ get_or_read absent place _ (omega arith) c.index-absent-place.is [] in
    let more = created_more perms value absent place [] c.loop-place.entries.items (omega arith) c.loop-place.invariant in
    ap (λ (items : List (Path × Node)). sets items ++ creation perms value (drop (place + 1) absent))
    (c.in_ok-push.ensures.items ∙ λ i. c.loop-place.entries.items ++ (p i, node i) ∷ [])
    ∙ more
