-- The ten files, one after another.
use Rattle.std.proofs.Common.{◌≡◌, ℕ, suc, ◌+◌, ◌-◌, ◌<◌, ◌∷◌, refl, arith}
use Rattle.std.specs.List.{range_with_len}

-- the digits from one on are that one, and those behind it
pub files_from : (file : ℕ) → file < 10
    → range_with_len file (10 - file) ≡ file ∷ range_with_len (file + 1) (10 - (file + 1))
files_from file some =
    let left : 10 - file ≡ suc (10 - (file + 1)) = omega arith in
    rw left refl
