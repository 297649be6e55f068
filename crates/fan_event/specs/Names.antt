-- Names of entries of directories.
use Rattle.std.specs.Prelude.{◌≢◌, ℕ, ◌≤◌, ◌==◌, ◌&&◌, Bool, not, List, length, nat_le, All}
use Rattle.std.specs.List.{list_any}

-- the bytes are a name, as a test
abbrev pub is_name : List ℕ → Bool
is_name bytes =
    nat_le 1 (length bytes) && nat_le (length bytes) 255 && not (list_any (λ byte. byte == 0) bytes)

-- a name: 1 to 255 bytes, none of them 0
pub record IsName (bytes : List ℕ) : Type 0 where
  pub some : 1 ≤ length bytes
  pub most : length bytes ≤ 255
  pub each : All (λ byte. byte ≢ 0) bytes
