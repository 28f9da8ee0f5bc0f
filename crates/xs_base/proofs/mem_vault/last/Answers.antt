-- The string that was put last stands at the end of the list.
use Rattle.std.proofs.Common.{◌≡◌, ℕ, zero, suc, ◌+◌, ◌-◌, List, [], ◌∷◌, length, Option, Some, None, arith, sym, ap, subst, ◌∙◌, slice_get}
use Rattle.std.specs.Option.{option_copied}
use Rattle.xs_base.specs.Vault.{last_after, last_put}
use Rattle.xs_base.proofs.mem_vault.last.Goals as goal

abbrev value_or : List ℕ → Option (List ℕ) → List ℕ
value_or before None = before
value_or before (Some string) = string

last_at : (before : List ℕ) (strings : List (List ℕ)) (n : ℕ) (string : List ℕ) → length strings ≡ n + 1 → slice_get strings n ≡ Some string → string ≡ last_after before strings
last_at before [] n string count at = absurd (omega arith)
last_at before (first ∷ []) zero string count at = sym (ap (value_or before) at)
last_at before (first ∷ []) (suc n) string count at = absurd (omega arith)
last_at before (first ∷ second ∷ strings) zero string count at = absurd (omega arith)
last_at before (first ∷ second ∷ strings) (suc n) string count at = last_at first (second ∷ strings) n string (omega arith) at

last_of : (strings : List (List ℕ)) (string : List ℕ) → slice_get strings (length strings - 1) ≡ Some string → string ≡ last_put strings
last_of [] string at = sym (ap (value_or []) at)
last_of (first ∷ strings) string at =
    last_at [] (first ∷ strings) (length strings) string (omega arith)
    (subst (λ n. slice_get (first ∷ strings) n ≡ Some string) (omega arith) at)

pub returns-in-Some : goal.returns-in-Some
returns-in-Some c =
    c.as_slice-in-Some.ensures
    ∙ last_of c.args.puts.now c.in-Some.bytes.now
    (sym (ap (λ (strings : List (List ℕ)). slice_get strings (length strings - 1)) c.as_slice.ensures)
    ∙ sym c.last.ensures.value ∙ ap option_copied c.in-Some.is)
