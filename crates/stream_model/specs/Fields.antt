-- The fields of a stream: numbers of two and four bytes, the lowest byte first, and parts of a body
-- (xenstore-migration.md).
use Rattle.std.specs.Prelude.{ℕ, ℤ, ◌<◌, List, take, drop, slice_index}
use Rattle.std.specs.Int.{w32, cast_signed, cast_unsigned}
use Rattle.byteorder.specs.Endian.{little_bytes, little_number}

-- a row of bytes: numbers below 256
abbrev pub AreBytes : List ℕ → Type 0
AreBytes bytes = (place : ℕ) → slice_index bytes place < 256

-- a number in two bytes, and in four
unfoldable pub u16_bytes : ℕ → List ℕ
u16_bytes n = little_bytes 2 n

unfoldable pub u32_bytes : ℕ → List ℕ
u32_bytes n = little_bytes 4 n

-- a signed number in four bytes, by two's complement
abbrev pub i32_bytes : ℤ → List ℕ
i32_bytes z = u32_bytes (cast_unsigned w32 z)

-- the number in the two bytes from a place on, and in the four
unfoldable pub u16_at : ℕ → List ℕ → ℕ
u16_at place bytes = little_number 2 (drop place bytes)

unfoldable pub u32_at : ℕ → List ℕ → ℕ
u32_at place bytes = little_number 4 (drop place bytes)

-- the signed number in the four bytes from a place on
abbrev pub i32_at : ℕ → List ℕ → ℤ
i32_at place bytes = cast_signed w32 (u32_at place bytes)

-- the byte at a place
abbrev pub u8_at : ℕ → List ℕ → ℕ
u8_at place bytes = slice_index bytes place

-- so many bytes from a place on
abbrev pub part : ℕ → ℕ → List ℕ → List ℕ
part place len bytes = take len (drop place bytes)
