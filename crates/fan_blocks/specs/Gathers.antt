-- Texts of which a front was put into a sink, while the rest waits.
use Rattle.std.specs.Prelude.{◌≡◌, ℕ, List, ◌++◌, Option}
use Rattle.std.specs.Io.KnownBytes.{Appends}

-- of the text a front was put into the sink, and what is gathered is the rest
pub record Gathers (old now : Option (List ℕ)) (gathered text : List ℕ) : Type 0 where
  pub put : List ℕ
  pub whole : put ++ gathered ≡ text
  pub appended : Appends old now put

-- the same of a front of the text
pub record GathersFront (old now : Option (List ℕ)) (gathered text : List ℕ) : Type 0 where
  pub front : List ℕ
  pub rest : List ℕ
  pub whole : front ++ rest ≡ text
  pub gathers : Gathers old now gathered front
