-- The forms of the program: which words are one. This project's own.
use Rattle.std.specs.Prelude.{ℕ, ◌^◌, ◌-◌, ◌==◌, if◌then◌else◌, List, [], ◌∷◌, Option, Some, None, Result, Ok, Err, codes}
use Rattle.std.specs.Str.{bytes_eq}
use Rattle.text_model.specs.Decimal.{number_of}
use Rattle.text_model.specs.declared.NumFault.{NumFault}
use Rattle.xs_drive.specs.declared.form.Form.{Form}
use Rattle.xs_drive.specs.declared.form.Form.TheVariants.{Run, Make, Bulk}

-- a decimal number, as those of scripts
abbrev pub number_or_none : Result ℕ NumFault → Option ℕ
number_or_none (Ok n) = Some n
number_or_none (Err fault) = None

abbrev pub seed_in : List ℕ → Option ℕ
seed_in word = number_or_none (number_of (2 ^ 64 - 1) word)

-- how many operations: 1 to 20000
abbrev pub some_or_none : Option ℕ → Option ℕ
some_or_none None = None
some_or_none (Some n) = if n == 0 then None else Some n

abbrev pub count_in : List ℕ → Option ℕ
count_in word = some_or_none (number_or_none (number_of 20000 word))

-- a form with both numbers
abbrev pub numbered : (ℕ → ℕ → Form) → Option ℕ → Option ℕ → Option Form
numbered form None count = None
numbered form (Some seed) None = None
numbered form (Some seed) (Some count) = Some (form seed count)

abbrev pub one_word : List ℕ → Option Form
one_word word = if bytes_eq word (codes "run") then Some Run else None

abbrev pub three_words : List ℕ → List ℕ → List ℕ → Option Form
three_words word seed count =
    if bytes_eq word (codes "make") then numbered Make (seed_in seed) (count_in count)
    else (if bytes_eq word (codes "bulk") then numbered Bulk (seed_in seed) (count_in count) else None)

-- `run`, `make SEED N`, `bulk SEED N`, and no other
abbrev pub form_of : List (List ℕ) → Option Form
form_of [] = None
form_of (word ∷ []) = one_word word
form_of (word ∷ seed ∷ []) = None
form_of (word ∷ seed ∷ count ∷ []) = three_words word seed count
form_of (word ∷ seed ∷ count ∷ more ∷ words) = None
