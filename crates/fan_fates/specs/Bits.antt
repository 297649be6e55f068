-- The bits of entries, and their records, by the events whose fates name them.
use Rattle.std.specs.Prelude.{◌≡◌, ◌≢◌, ℕ, ℤ, pos, negsuc, ◌+◌, not, ◌&&◌, if◌then◌else◌, List, [], ◌∷◌, ◌++◌, length, All}
use Rattle.std.specs.Int.RustNames.{bit_or}
use Rattle.fan_bits.specs.MarkWords.{ondir, overflow_bit}
use Rattle.fan_bits.specs.Words.{bit}
use Rattle.fan_fates.specs.Calls.{Deed}
use Rattle.fan_fates.specs.Fates.{lost, told}
use Rattle.fan_event.specs.declared.event.Event.{Event}
use Rattle.fan_queue.specs.declared.entry.Body.{Body}
use Rattle.fan_queue.specs.declared.entry.Body.TheVariants as bodies
use Rattle.fan_queue.specs.declared.entry.Entry.{Entry}
use Rattle.fan_fid.specs.Written.{infos_of}
use Rattle.fan_listener.specs.Records.{has_fd}
use Rattle.fan_record.specs.Written.{record_bytes}

-- bits together with those of events
abbrev pub with_all : ℕ → List Event → ℕ
with_all bits [] = bits
with_all bits (event ∷ more) = with_all (bit_or bits event.bits) more

-- an event is another one but for its bits
abbrev pub IsLike : Event → Event → Type 0
IsLike event other = other ≡ record event { bits = other.bits }

-- an event that is queued stands for some events like it, with the bits of all, and for none that was lost
pub record StandsFor (event : Event) (told lost : List Event) : Type 0 where
  pub some : told ≢ []
  pub alike : All (IsLike event) told
  pub bits : event.bits ≡ with_all 0 told
  pub none_lost : lost ≡ []

-- the lost entry stands for some events that were lost, and for no other
abbrev pub HasBits : List Event → List Event → Body → Type 0
HasBits told lost (bodies.Told event) = StandsFor event told lost
HasBits told lost bodies.Lost = (told ≡ []) × (lost ≢ [])

-- an entry stands for the events whose fates name it
abbrev pub HasBitsIn : List Deed → Entry → Type 0
HasBitsIn deeds entry = HasBits (told deeds entry.number) (lost deeds entry.number) entry.body

-- FAN_ONDIR, for an event on a directory that is reported by handles
abbrev pub dir_bit : Event → ℕ
dir_bit event = if event.ondir && not (has_fd event.target) then bit ondir else 0

-- the mask of an entry's record: the bits of all events that were queued as it or merged into it, and FAN_ONDIR
-- for a directory exactly beside handles; without any of them, FAN_Q_OVERFLOW alone
abbrev pub mask_of : List Event → ℕ
mask_of [] = overflow_bit
mask_of (event ∷ more) = bit_or (with_all 0 (event ∷ more)) (dir_bit event)

-- the information records of an entry's record: those of the object of its events
abbrev pub infos_for : List Event → List ℕ
infos_for [] = []
infos_for (event ∷ more) = infos_of event.target

-- the process or thread in an entry's record: that of its events, and none of lost ones
abbrev pub who_for : List Event → ℕ
who_for [] = 0
who_for (event ∷ more) = event.who

-- the descriptor in an entry's record, if its object is reported by one; else FAN_NOFD
abbrev pub fd_for : ℕ → List Event → ℤ
fd_for fd [] = negsuc 0
fd_for fd (event ∷ more) = if has_fd event.target then pos fd else negsuc 0

-- the record of an entry that stands for some events
abbrev pub record_for : ℕ → List Event → List ℕ
record_for fd events =
    let infos = infos_for events in
    record_bytes (24 + length infos) (mask_of events) (fd_for fd events) (who_for events) ++ infos

-- some bytes are the records of entries that stand for these events, in order, with some descriptors
abbrev pub AreRecords : List (List Event) → List ℕ → Type 0
AreRecords [] bytes = bytes ≡ []
AreRecords (events ∷ more) bytes =
    (fd : ℕ) × (rest : List ℕ) × (bytes ≡ record_for fd events ++ rest) × AreRecords more rest
