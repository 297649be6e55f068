-- What is written of a record before its information records: fanotify(7).
use Rattle.std.specs.Prelude.{◌≡◌, ℕ, ℤ, ◌+◌, ◌^◌, ◌<◌, List, [], ◌∷◌, ◌++◌, length, FitsSigned}
use Rattle.std.specs.Int.{to_le_bytes, cast_unsigned, w16, w32, w64}
use Rattle.fan_record.specs.Infos.{AreInfos}

-- the bytes of a record: its length with its information records, version 3, a zero, the length of
-- this part, the mask, the descriptor and the process
unfoldable pub record_bytes : ℕ → ℕ → ℤ → ℕ → List ℕ
record_bytes event_len mask fd pid =
    to_le_bytes w32 event_len ++ (3 ∷ 0 ∷ []) ++ to_le_bytes w16 24 ++ to_le_bytes w64 mask
    ++ to_le_bytes w32 (cast_unsigned w32 fd) ++ to_le_bytes w32 pid

-- these parts can be written: the length is that of all, each number has the range of its field, and
-- the rest is information records
pub record IsWritable (event_len : ℕ) (mask : ℕ) (fd : ℤ) (pid : ℕ) (infos : List ℕ) : Type 0 where
  pub whole : event_len ≡ 24 + length infos
  pub len_fits : event_len < 2 ^ 32
  pub mask_fits : mask < 2 ^ 64
  pub fd_fits : FitsSigned w32 fd
  pub pid_fits : pid < 2 ^ 31
  pub are_infos : AreInfos infos
