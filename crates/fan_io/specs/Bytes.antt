-- What several calls together took from a source or put into a sink, where their bytes are told.
use Rattle.std.specs.Prelude.{◌≡◌, ℕ, ◌<◌, ◌≤◌, List, ◌++◌, length, Option}
use Rattle.std.specs.Io.KnownBytes.{Appends, Consumes}

-- the source gave more than limit bytes
pub record GaveMore (old new : Option (List ℕ)) (limit : ℕ) : Type 0 where
  pub given : List ℕ
  pub consumed : Consumes old new given
  pub more : limit < length given

-- the source gave limit bytes at most
pub record GaveAtMost (old new : Option (List ℕ)) (limit : ℕ) : Type 0 where
  pub given : List ℕ
  pub consumed : Consumes old new given
  pub most : length given ≤ limit

-- a front of the text was put into the sink, and nothing else
pub record AppendsFront (old new : Option (List ℕ)) (text : List ℕ) : Type 0 where
  pub put : List ℕ
  pub rest : List ℕ
  pub whole : put ++ rest ≡ text
  pub appended : Appends old new put
