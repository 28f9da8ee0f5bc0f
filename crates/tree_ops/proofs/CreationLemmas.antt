-- Creating nodes on a way down, one after the other.
use Rattle.std.proofs.Common.{◌≡◌, ℕ, ◌+◌, ◌<◌, List, [], ◌∷◌, ◌++◌, length, get_or, drop, refl, sym, ap, ◌∙◌, append_assoc, Some}
use Rattle.std.proofs.lemmas.List.{drop_more}
use Rattle.xs_model.specs.declared.perm.Perm.{Perm}
use Rattle.xs_model.specs.Paths.{Path}
use Rattle.xs_model.specs.Trees.{Node}
use Rattle.xs_model.specs.Commands.{creation}
use Rattle.tree_ops.specs.Answers.{sets, value_before}

pub creation_on : (perms : List Perm) (value : List ℕ) (p : Path) (ps : List Path) → creation perms value (p ∷ ps) ≡ (p, Some (record { value = value_before value ps; perms = perms })) ∷ creation perms value ps
creation_on perms value p [] = refl
creation_on perms value p (q ∷ ps) = refl

sets_more : (entries : List (Path × Node)) (e : Path × Node) → sets (entries ++ e ∷ []) ≡ sets entries ++ (e.0, Some e.1) ∷ []
sets_more [] e = refl
sets_more (f ∷ entries) e = ap (λ es. (f.0, Some f.1) ∷ es) (sets_more entries e)

pub created_more : (perms : List Perm) (value : List ℕ) (absent : List Path) (place : ℕ) (d : Path) (entries : List (Path × Node)) → place < length absent
    → sets entries ++ creation perms value (drop place absent) ≡ creation perms value absent
    → sets (entries ++ (get_or absent place d, record { value = value_before value (drop (place + 1) absent); perms = perms }) ∷ []) ++ creation perms value (drop (place + 1) absent) ≡ creation perms value absent
created_more perms value absent place d entries h so_far =
    let p = get_or absent place d in
    let node : Node = record { value = value_before value (drop (place + 1) absent); perms = perms } in
    ap (λ es. es ++ creation perms value (drop (place + 1) absent)) (sets_more entries (p, node))
    ∙ append_assoc (sets entries) ((p, Some node) ∷ []) (creation perms value (drop (place + 1) absent))
    ∙ ap (λ es. sets entries ++ es) (sym (ap (creation perms value) (drop_more absent place d h) ∙ creation_on perms value p (drop (place + 1) absent)))
    ∙ so_far
