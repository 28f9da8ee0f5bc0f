-- The indices of a ring (xenstore-ring.txt): they run freely as numbers of 32 bits.
use Rattle.std.specs.Prelude.{ℕ, ◌+◌, ◌-◌, ◌%◌, ◌^◌, Bool, nat_lt, Result, Ok, Err, if◌then◌else◌}
use Rattle.ring_words.specs.declared.index.BadIndex.{BadIndex}

-- the index of the byte that has n bytes before it, in a ring that began at `start`
abbrev pub index_of : ℕ → ℕ → ℕ
index_of start n = (start + n) % 2 ^ 32

-- how many bytes a ring with these indices, PROD and CONS, holds
abbrev pub held : ℕ → ℕ → ℕ
held prod cons = (prod + (2 ^ 32 - cons)) % 2 ^ 32

-- more than it has room for
abbrev pub is_bad : ℕ → ℕ → Bool
is_bad prod cons = nat_lt 1024 (held prod cons)

abbrev pub bad_index : ℕ → ℕ → BadIndex
bad_index prod cons = record { prod = prod; cons = cons }

abbrev pub used_unless_bad : ℕ → ℕ → Result ℕ BadIndex
used_unless_bad prod cons = if is_bad prod cons then Err (bad_index prod cons) else Ok (held prod cons)
