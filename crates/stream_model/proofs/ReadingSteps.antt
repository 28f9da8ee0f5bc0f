-- Reading record by record: a step at each place.
use Rattle.std.proofs.Common.{◌≡◌, ℕ, zero, suc, ◌+◌, ◌-◌, ◌<◌, ◌≤◌, List, [], ◌∷◌, length, drop, Err, refl, ap, ◌∙◌, arith}
use Rattle.stream_model.specs.declared.fault.StreamFault.{StreamFault}
use Rattle.stream_model.specs.Fields.{u32_at}
use Rattle.stream_model.specs.Spelling.{whole_size}
use Rattle.stream_model.specs.Reading.{record_at, joined, records_from}

-- bytes that belong to a record that was read are passed over
pub records_from-skip : (skip at : ℕ) (bytes : List ℕ) → skip ≤ length bytes → records_from at skip bytes ≡ records_from (at + skip) 0 (drop skip bytes)
records_from-skip zero at bytes le = let e : at + 0 ≡ at = omega arith in rw e refl
records_from-skip (suc skip) at [] le = absurd (omega arith)
records_from-skip (suc skip) at (b ∷ bytes) le =
    let e : at + 1 + skip ≡ at + suc skip = omega arith in
    records_from-skip skip (at + 1) bytes (omega arith) ∙ ap (λ (p : ℕ). records_from p 0 (drop skip bytes)) e

skip_one : (n at b : ℕ) (bytes : List ℕ) → 0 < n → n ≤ length bytes + 1 → records_from (at + 1) (n - 1) bytes ≡ records_from (at + n) 0 (drop n (b ∷ bytes))
skip_one zero at b bytes lt le = absurd (omega arith)
skip_one (suc n) at b bytes lt le =
    let one : suc n - 1 ≡ n = omega arith in
    let e : at + 1 + n ≡ at + suc n = omega arith in
    rw one (records_from-skip n (at + 1) bytes (omega arith) ∙ ap (λ (p : ℕ). records_from p 0 (drop n bytes)) e)

-- the record here, and then what is behind it
pub records_from-here : (at : ℕ) (bytes : List ℕ) → whole_size (u32_at 4 bytes) ≤ length bytes
    → records_from at 0 bytes ≡ joined at (whole_size (u32_at 4 bytes)) bytes (record_at at bytes) (records_from (at + whole_size (u32_at 4 bytes)) 0 (drop (whole_size (u32_at 4 bytes)) bytes))
records_from-here at [] le = absurd (omega arith)
records_from-here at (b ∷ bytes) le =
    ap (joined at (whole_size (u32_at 4 (b ∷ bytes))) (b ∷ bytes) (record_at at (b ∷ bytes)))
    (skip_one (whole_size (u32_at 4 (b ∷ bytes))) at b bytes (omega arith) (omega arith))

-- a fault here is the first one
pub records_from-fault : (at : ℕ) (bytes : List ℕ) (fault : StreamFault) → record_at at bytes ≡ Err fault → records_from at 0 bytes ≡ Err fault
records_from-fault at [] fault e = cc
records_from-fault at (b ∷ bytes) fault e = rw e refl
