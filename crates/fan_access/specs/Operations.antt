-- What each operation asks about and tells of, and at which spots: fanotify(7), fanotify_mark(2).
use Rattle.std.specs.Prelude.{◌≡◌, ℕ, ◌+◌, Bool, true, false, List, [], ◌∷◌, All, length}
use Rattle.fan_access.specs.declared.op.Op.{Op}
use Rattle.fan_access.specs.declared.op.Op.TheVariants as ops
use Rattle.fan_access.specs.declared.report.Report.{Report}
use Rattle.fan_access.specs.declared.report.Report.TheVariants.{Itself, OfEntry}
use Rattle.fan_access.specs.declared.spot.Spot.{Spot}
use Rattle.fan_bits.specs.MarkWords.{access, access_perm, attrib, close_nowrite, close_write, create, delete, delete_self, modify, move_self, moved_from, moved_to, open_exec, open_exec_perm, open_perm, opened}
use Rattle.fan_bits.specs.Places.{IsPlace}
use Rattle.fan_bits.specs.Words.{bit}

-- the permission events that an operation asks for at its first spot, in order
abbrev pub asked_events : Op → List ℕ
asked_events ops.Opens = bit open_perm ∷ []
asked_events ops.Execs = bit open_exec_perm ∷ bit open_perm ∷ []
asked_events ops.Reads = bit access_perm ∷ []
asked_events _ = []

-- what an operation tells of, in order, each at a spot of its own: of an entry at its directory, and of an object
-- at its place, which is the new one for a rename
abbrev pub told_events : Op → List Report
told_events ops.Opens = Itself (bit opened) ∷ []
told_events ops.Execs = Itself (bit opened + bit open_exec) ∷ []
told_events ops.Reads = Itself (bit access) ∷ []
told_events ops.Writes = Itself (bit modify) ∷ []
told_events ops.ClosesWrite = Itself (bit close_write) ∷ []
told_events ops.ClosesRead = Itself (bit close_nowrite) ∷ []
told_events ops.Attribs = Itself (bit attrib) ∷ []
told_events ops.Creates = OfEntry (bit create) ∷ []
told_events ops.MakesDir = OfEntry (bit create) ∷ []
told_events ops.Unlinks = OfEntry (bit delete) ∷ Itself (bit delete_self) ∷ []
told_events ops.RemovesDir = OfEntry (bit delete) ∷ Itself (bit delete_self) ∷ []
told_events ops.Renames = OfEntry (bit moved_from) ∷ OfEntry (bit moved_to) ∷ Itself (bit move_self) ∷ []

-- the object of a rename, which has the third spot, is a directory
abbrev pub is_third_dir : List Spot → Bool
is_third_dir (old ∷ new ∷ object ∷ more) = object.place.dir
is_third_dir _ = false

-- the entry that an operation makes, removes or renames is a directory
abbrev pub is_dir_entry : Op → List Spot → Bool
is_dir_entry ops.MakesDir spots = true
is_dir_entry ops.RemovesDir spots = true
is_dir_entry ops.Renames spots = is_third_dir spots
is_dir_entry _ spots = false

-- an operation is done at these spots, one for each event that it tells of
pub record IsSpots (op : Op) (spots : List Spot) : Type 0 where
  pub each : All (λ spot. IsPlace spot.place) spots
  pub count : length spots ≡ length (told_events op)

-- the mount through which an operation is done: that of its first spot
abbrev pub first_mount : List Spot → ℕ
first_mount [] = 0
first_mount (spot ∷ more) = spot.place.mount
