-- What is gathered before it is put, and how much.
use Rattle.std.specs.Prelude.{ℕ, ◌*◌, min, List, length}

-- the text that is gathered, and the length at which the block is full
pub record BlocksState : Type 0 where
  pub gathered : List ℕ
  pub size : ℕ

-- the most bytes at which a block is full
abbrev pub most_size : ℕ
most_size = 65536

-- the size of the next block, behind one of this text: twice its length, if that is not too much
abbrev pub next_size : List ℕ → ℕ
next_size text = min (length text * 2) most_size
