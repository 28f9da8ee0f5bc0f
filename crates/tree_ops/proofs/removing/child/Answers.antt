use Rattle.std.proofs.Common.{◌≡◌, ◌++◌, ◌∷◌, [], List, ℕ, sym, ap, ◌∙◌}
use Rattle.xs_model.specs.Paths.{child, text, path_of}
use Rattle.tree_ops.proofs.RemovalLemmas.{text_of_child, from_ok}
use Rattle.tree_ops.proofs.removing.child.Goals as goal

pub returns-in-Ok : goal.returns-in-Ok
returns-in-Ok c =
    let path = c.args.path.now in
    let name = c.args.name.now in
    let bytes : c.as_slice.result.now ≡ text (child path name) =
    c.as_slice.ensures ∙ c.in_ok-push-2.ensures.ok
    ∙ ap (λ (b : List ℕ). b ++ name) (c.in_ok-push.ensures.ok ∙ ap (λ (b : List ℕ). b ++ 47 ∷ []) (c.in_ok-bytes.ensures ∙ c.names_text.ensures))
    ∙ text_of_child path name
    in
    from_ok c.in-Ok.made (child path name) (sym c.in-Ok.ensures.gives ∙ ap (λ (t : List ℕ). path_of t 0) bytes ∙ c.requires)
