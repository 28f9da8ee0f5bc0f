-- What an honest vault gives back.
use Rattle.std.proofs.Common.{◌≡◌, Bool, true, false, ◌++◌, List, [], ◌∷◌, ℕ, Option, Some, None, IfSome, IsSome, sym, refl, subst, ◌∙◌}
use Rattle.std.proofs.lemmas.Bool.{false≢true}
use Rattle.std.specs.Bool.{OnTrue}
use Rattle.xs_base.specs.Vault.{Gains, last_after, last_put}
use Rattle.handover.specs.declared.change.Change.{Change}
use Rattle.handover.specs.Changes.{IsFirstChange}

-- the string that was put last
last_after_push : (before : List ℕ) (strings : List (List ℕ)) (string : List ℕ) → last_after before (strings ++ string ∷ []) ≡ string
last_after_push before [] string = refl
last_after_push before (first ∷ strings) string = last_after_push first strings string

-- that is what it gives back
got_last : (image got : List ℕ) (puts puts_new : Option (List (List ℕ))) → IsSome puts → Gains puts puts_new image → IfSome puts_new (λ strings. got ≡ last_put strings) → got ≡ image
got_last image got None puts_new told gains last = absurd (false≢true told)
got_last image got (Some strings) puts_new told gains last =
    subst (λ (o : Option (List (List ℕ))). IfSome o (λ all. got ≡ last_put all)) gains last ∙ last_after_push [] strings image

-- so one that gives back another string is not honest
pub dishonest : (image got : List ℕ) (change : Change) (honest mid : Bool) (puts puts_new gets : Option (List (List ℕ)))
    → IsFirstChange image got change → (honest ≡ true → IsSome puts × IsSome gets) → Gains puts puts_new image → mid ≡ honest
    → OnTrue mid (IfSome puts_new (λ strings. got ≡ last_put strings)) → honest ≡ false
dishonest image got change false mid puts puts_new gets first tells gains same last = refl
dishonest image got change true mid puts puts_new gets first tells gains same last =
    let is : got ≡ image = got_last image got puts puts_new (tells refl).0 gains (subst (λ (b : Bool). OnTrue b (IfSome puts_new (λ strings. got ≡ last_put strings))) same last) in
    let unchanged : IsFirstChange image image change = subst (λ (string : List ℕ). IsFirstChange image string change) is first in
    absurd (unchanged.differ (unchanged.put_byte ∙ sym unchanged.got_byte))
