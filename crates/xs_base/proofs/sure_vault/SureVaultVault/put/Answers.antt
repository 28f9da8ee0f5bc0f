-- The string at the end of the list is the one that was put last.
use Rattle.std.proofs.Common.{◌≡◌, ℕ, List, [], ◌∷◌, ◌++◌, refl, ap, sym, ◌∙◌}
use Rattle.xs_base.specs.Vault.{last_after, last_put}
use Rattle.xs_base.proofs.sure_vault.SureVaultVault.put.Goals as goal

last_after_push : (before : List ℕ) (strings : List (List ℕ)) (string : List ℕ) → last_after before (strings ++ string ∷ []) ≡ string
last_after_push before [] string = refl
last_after_push before (first ∷ strings) string = last_after_push first strings string

pub invariant_of-self : goal.invariant_of-self
invariant_of-self c = record {
  keeps_last = c.in_ok-copied.ensures ∙ sym (ap last_put c.note.ensures ∙ last_after_push [] c.args.self.now.put.strings c.args.bytes.now);
}
