-- What programs say of their ends. This project's own.
use Rattle.std.specs.Prelude.{◌≡◌, ℕ, List, ◌++◌, take, Option}
use Rattle.std.specs.Io.KnownBytes.{Appends, Consumes}

-- the most bytes that an input may have
abbrev pub input_limit : ℕ
input_limit = 16777216

-- so many bytes of lines are not kept back
abbrev pub buffer_limit : ℕ
buffer_limit = 16384

-- known bytes grew by a front of the text, maybe by none or by all of it
abbrev pub AppendsFront : Option (List ℕ) → Option (List ℕ) → List ℕ → Type 0
AppendsFront old new text = (n : ℕ) × Appends old new (take n text)

-- known bytes grew by a front of the text, of which the rest is still to come
abbrev pub AppendsBut : Option (List ℕ) → Option (List ℕ) → List ℕ → List ℕ → Type 0
AppendsBut old new text rest = (front : List ℕ) × Appends old new front × (text ≡ front ++ rest)

-- known bytes lost a front, maybe nothing or all of them
abbrev pub ConsumesFront : Option (List ℕ) → Option (List ℕ) → Type 0
ConsumesFront old new = (front : List ℕ) × Consumes old new front
