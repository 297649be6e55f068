-- What a group is told of a happening: fanotify(7), "Reading fanotify events".
use Rattle.std.specs.Prelude.{◌≡◌, ⊤, ℕ, Bool, true, false, not, ◌&&◌, ◌||◌, List, [], ◌∷◌, Option, Some, None, is_some, if◌then◌else◌}
use Rattle.std.specs.Int.RustNames.{bit_or}
use Rattle.fan_bits.specs.declared.place.Happening.{Happening}
use Rattle.fan_bits.specs.declared.place.Place.{Place}
use Rattle.fan_bits.specs.MarkWords.{self_events}
use Rattle.fan_bits.specs.Words.{has_any, has_handles, occurs, report_dir_fid, report_fid, report_name, report_tid}
use Rattle.fan_event.specs.declared.event.Event.{Event}
use Rattle.fan_event.specs.declared.target.Target.{Target}
use Rattle.fan_event.specs.declared.target.Target.TheVariants.{Fd, Handle}

-- an object as it is reported: a name stands only beside a directory
abbrev pub IsTarget : Target → Type 0
IsTarget (Fd mount inode) = ⊤
IsTarget (Handle fs object dir name) = is_some name ≡ true → is_some dir ≡ true

-- the object is reported by a descriptor, and not by handles
abbrev pub has_fd : Target → Bool
has_fd (Fd mount inode) = true
has_fd (Handle fs object dir name) = false

-- `.`, the name by which a directory is reported in itself
abbrev pub dot : List ℕ
dot = 46 ∷ []

-- a value, if a test holds
abbrev pub if_so : {A : Type 0} → Bool → A → Option A
if_so test value = if test then Some value else None

-- a file was itself removed or renamed
abbrev pub is_of_file_itself : Happening → ℕ → Bool
is_of_file_itself happening bits = not happening.place.dir && has_any self_events bits

-- a directory is reported: with FAN_REPORT_DIR_FID, unless a file was itself removed or renamed
abbrev pub reports_dir : ℕ → Happening → ℕ → Bool
reports_dir flags happening bits = occurs flags report_dir_fid && not (is_of_file_itself happening bits)

-- the object is reported: where no directory is, and with FAN_REPORT_FID beside the directory of a file
abbrev pub reports_object : ℕ → Happening → ℕ → Bool
reports_object flags happening bits =
    not (reports_dir flags happening bits) || (occurs flags report_fid && not happening.place.dir)

-- the directory that is reported: the place itself, if it is one, or else the one that it is an entry of
abbrev pub directory_of : Place → Option ℕ
directory_of place = if place.dir then Some place.inode else place.parent

-- the name that is reported: `.` of an event on a directory itself, and else that of the entry
abbrev pub name_of : Happening → List ℕ → List ℕ
name_of happening name = if happening.place.dir && not happening.entry then dot else name

-- an object by handles
abbrev pub handles_of : ℕ → Happening → List ℕ → ℕ → Target
handles_of flags happening name bits =
    let with_dir = reports_dir flags happening bits in
    Handle happening.place.fs
    (if_so (reports_object flags happening bits) happening.place.inode)
    (if with_dir then directory_of happening.place else None)
    (if_so (with_dir && occurs flags report_name) (name_of happening name))

-- an object: by handles if the group reports them, else by its mount and its inode
abbrev pub target_of : ℕ → Happening → List ℕ → ℕ → Target
target_of flags happening name bits =
    if has_handles flags then handles_of flags happening name bits
    else Fd happening.place.mount happening.place.inode

-- an event of the happening with these bits, for a group with these flags: the thread with
-- FAN_REPORT_TID, else the process; and the object, which was reached by this name, or whose entry has it
abbrev pub event_for : ℕ → Happening → List ℕ → ℕ → ℕ → ℕ → Bool → Event
event_for flags happening name bits pid tid perm = record {
  bits = bits;
  ondir = happening.ondir;
  who = if occurs flags report_tid then tid else pid;
  perm = perm;
  target = target_of flags happening name bits;
}

-- an event with further bits
abbrev pub with_bits : ℕ → Event → Event
with_bits bits event = record event { bits = bit_or event.bits bits }
