-- Which record some bytes spell at a place: `struct fanotify_event_metadata` and the information
-- records behind it, fanotify(7). docs/FORMATS.md has the places.
use Rattle.std.specs.Prelude.{◌≡◌, ℕ, ℤ, ◌+◌, ◌≤◌, List, [], ◌∷◌, length, slice_index, slice_range}
use Rattle.fan_record.specs.declared.parts.Record.{Record}
use Rattle.fan_record.specs.Fields.{u16_at, u32_at, u64_at, i32_at}
use Rattle.fan_record.specs.Infos.{AreInfos}

-- what is read of a record
pub record RecordParts : Type 0 where
  pub mask : ℕ
  pub fd : ℤ
  pub pid : ℤ
  pub infos : List ℕ

-- what a record that was read says
abbrev pub parts_of : Record → RecordParts
parts_of event =
    record { mask = event.mask; fd = event.fd; pid = event.pid; infos = event.infos.now }

-- where a record ends that begins at a place
abbrev pub record_end : List ℕ → ℕ → ℕ
record_end bytes at = at + u32_at at bytes

-- the metadata of a record stands at a place: 24 bytes, with a length that the input has, version 3
-- and its own length; the byte at 5 may be any
pub record HasMetadata (bytes : List ℕ) (at : ℕ) : Type 0 where
  pub whole : at + 24 ≤ length bytes
  pub least : 24 ≤ u32_at at bytes
  pub within : record_end bytes at ≤ length bytes
  pub version : slice_index bytes (at + 4) ≡ 3
  pub metadata_len : u16_at (at + 6) bytes ≡ 24

-- the bytes spell this record at this place: its information part is the rest of it, and information
-- records fill that
pub record SpellsRecord (bytes : List ℕ) (at : ℕ) (parts : RecordParts) : Type 0 where
  pub metadata : HasMetadata bytes at
  pub mask : parts.mask ≡ u64_at (at + 8) bytes
  pub fd : parts.fd ≡ i32_at (at + 16) bytes
  pub pid : parts.pid ≡ i32_at (at + 20) bytes
  pub infos : parts.infos ≡ slice_range bytes (at + 24) (record_end bytes at)
  pub filled : AreInfos parts.infos

-- no record is spelled at this place
abbrev pub NoRecord : List ℕ → ℕ → Type 0
NoRecord bytes at = (parts : RecordParts) → SpellsRecord bytes at parts → ⊥

-- from a place up to an end the bytes spell these records, one after the other
abbrev pub SpellsRecords : List ℕ → ℕ → ℕ → List RecordParts → Type 0
SpellsRecords bytes at end [] = at ≡ end
SpellsRecords bytes at end (parts ∷ rest) =
    SpellsRecord bytes at parts × SpellsRecords bytes (record_end bytes at) end rest

-- all records of an input, and the place where none is spelled any more
pub record ReadsRecords (bytes : List ℕ) (all : List RecordParts) (stop : ℕ) : Type 0 where
  pub spelled : SpellsRecords bytes 0 stop all
  pub none : NoRecord bytes stop

-- a reader of records: its input, and the place where the next record is to begin
pub record Reading : Type 0 where
  pub bytes : List ℕ
  pub at : ℕ
