-- A vault in memory, some of whose calls fail, and some of whose answers are other bytes. This project's own, for tests.
use Rattle.std.specs.Prelude.{ℕ, ◌+◌, ◌==◌, Bool, true, false, ◌&&◌, List, [], ◌∷◌, take, drop, ◌++◌, length, nat_lt, if◌then◌else◌, Option, Some, None}
use Rattle.xs_base.specs.Tally.{Tally}
use Rattle.xs_base.specs.Vault.{last_put}
use Rattle.xs_base.specs.declared.mem_vault.Alter.{Alter}

-- the strings that were put and those that were given, the tallies of both kinds of calls, the bytes that gets alter, and a
-- string that one of them gives in place of all
pub record VaultState : Type 0 where
  pub puts : List (List ℕ)
  pub gets : List (List ℕ)
  pub put_tally : Tally
  pub get_tally : Tally
  pub alters : List Alter
  pub other : Option (ℕ × List ℕ)

-- what the get of this number makes of a string by one alter, where that has such a place, and by all of them: of two of one
-- place the later one counts
abbrev pub altered_by : ℕ → Alter → List ℕ → List ℕ
altered_by number alter bytes =
    if alter.get == number && nat_lt alter.at (length bytes) then take alter.at bytes ++ alter.byte ∷ drop (alter.at + 1) bytes
    else bytes

abbrev pub altered : ℕ → List Alter → List ℕ → List ℕ
altered number [] bytes = bytes
altered number (alter ∷ alters) bytes = altered number alters (altered_by number alter bytes)

-- the string that it gives in the place of another, where it is its number
abbrev pub in_place : ℕ → Option (ℕ × List ℕ) → List ℕ → List ℕ
in_place number None bytes = bytes
in_place number (Some other) bytes = if other.0 == number then other.1 else bytes

-- what the next get gives
abbrev pub next_given : VaultState → List ℕ
next_given vault =
    in_place vault.get_tally.calls vault.other (altered vault.get_tally.calls vault.alters (last_put vault.puts))

-- it gives back what was put last where nothing is altered and no other string is set
abbrev pub is_empty_list : {A : Type 0} → List A → Bool
is_empty_list [] = true
is_empty_list (x ∷ xs) = false

abbrev pub is_none : {A : Type 0} → Option A → Bool
is_none None = true
is_none (Some x) = false

abbrev pub gives_back : VaultState → Bool
gives_back vault = is_empty_list vault.alters && is_none vault.other
