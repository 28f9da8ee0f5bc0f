-- Which fault is the first: what stands in front of it, in the words of the grammar (this project's own).
use Rattle.std.specs.Prelude.{ℕ, ◌+◌, ◌-◌, ◌≡◌, ◌≢◌, ◌⊎◌, List, [], ◌∷◌, length, drop, Some, None, Err, MatchBool}
use Rattle.stream_model.specs.declared.fault.StreamFault.{StreamFault}
use Rattle.stream_model.specs.declared.fault.StreamFault.TheVariants.{AfterEnd}
use Rattle.stream_model.specs.Record.{StreamRecord, is_end}
use Rattle.stream_model.specs.Spelling.{BeginsWith}
use Rattle.stream_model.specs.Reading.{header_fault, record_at}

-- the place behind the first bytes of `bytes`, which begin at `at`, where `rest` is left
abbrev pub place_behind : ℕ → List ℕ → List ℕ → ℕ
place_behind at bytes rest = at + (length bytes - length rest)

-- from the place `at` on these records are spelled, and where they end is the fault: bytes behind END, or no record
abbrev pub FailsBehind : List StreamRecord → ℕ → List ℕ → StreamFault → Type 0
FailsBehind [] at bytes fault = record_at at bytes ≡ Err fault
FailsBehind (r ∷ rs) at bytes fault =
    (rest : List ℕ) × BeginsWith bytes r rest × MatchBool (is_end r) ((rs ≡ []) × (rest ≢ []) × (fault ≡ AfterEnd (place_behind at bytes rest))) (FailsBehind rs (place_behind at bytes rest) rest fault)

-- the header has the fault, or a header without one and some records stand in front of it
abbrev pub IsFirstFault : List ℕ → StreamFault → Type 0
IsFirstFault bytes fault =
    (header_fault bytes ≡ Some fault) ⊎ ((header_fault bytes ≡ None) × ((front : List StreamRecord) × FailsBehind front 16 (drop 16 bytes) fault))
