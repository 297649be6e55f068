-- What a source or a sink in memory is, and what its next call does.
use Rattle.std.specs.Prelude.{ℕ, List}

-- the bytes that are left; the numbers of the calls that are to fail; how many were made and failed
pub record MemSourceState : Type 0 where
  pub left : List ℕ
  pub failing : List ℕ
  pub calls : ℕ
  pub faults : ℕ

-- the bytes that were put; for how many bytes in all there is room without more memory; the numbers of
-- the calls that are to fail; how many were made and failed
pub record MemSinkState : Type 0 where
  pub held : List ℕ
  pub room : ℕ
  pub failing : List ℕ
  pub calls : ℕ
  pub faults : ℕ
