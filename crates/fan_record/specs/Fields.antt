-- Numbers of more than one byte, the lowest byte first, each at its place in some bytes.
use Rattle.std.specs.Prelude.{ℕ, ℤ, List, drop}
use Rattle.std.specs.Int.{cast_signed, w32}
use Rattle.byteorder.specs.Endian.{little_number}

-- the number of two bytes at a place
abbrev pub u16_at : ℕ → List ℕ → ℕ
u16_at place bytes = little_number 2 (drop place bytes)

-- the number of four bytes at a place
abbrev pub u32_at : ℕ → List ℕ → ℕ
u32_at place bytes = little_number 4 (drop place bytes)

-- the number of eight bytes at a place
abbrev pub u64_at : ℕ → List ℕ → ℕ
u64_at place bytes = little_number 8 (drop place bytes)

-- the signed number of four bytes at a place, in two's complement
abbrev pub i32_at : ℕ → List ℕ → ℤ
i32_at place bytes = cast_signed w32 (u32_at place bytes)
