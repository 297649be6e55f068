-- What is printed for bytes, of which the last part may still wait to be put.
use Rattle.std.specs.Prelude.{ℕ, List, Option}
use Rattle.fan_blocks.specs.Gathers.{Gathers, GathersFront}
use Rattle.fan_dump.specs.Dump.{Dump}

-- all of it was put, but for what is gathered
pub record GathersDump (old now : Option (List ℕ)) (gathered bytes : List ℕ) (bad : Option ℕ) : Type 0 where
  pub text : List ℕ
  pub dump : Dump bytes text bad
  pub gathers : Gathers old now gathered text

-- the same of a front of it
abbrev pub GathersDumpFront : Option (List ℕ) → Option (List ℕ) → List ℕ → List ℕ → Type 0
GathersDumpFront old now gathered bytes =
    (text : List ℕ) (bad : Option ℕ) → Dump bytes text bad → GathersFront old now gathered text
