-- What is printed for bytes that are to be records: the lines of the records, up to the first place where
-- none stands.
use Rattle.std.specs.Prelude.{◌≡◌, ℕ, ◌<◌, List, [], ◌∷◌, ◌++◌, length, Option, Some, None}
use Rattle.std.specs.Io.KnownBytes.{Appends}
use Rattle.fan_dump.specs.Texts.{event_text, infos_text, bad_text}
use Rattle.fan_fid.specs.Infos.{SpellsInfos}
use Rattle.fan_fid.specs.Infos.{InfoParts}
use Rattle.fan_io.specs.Bytes.{AppendsFront}
use Rattle.fan_record.specs.Records.{RecordParts, SpellsRecord, record_end}

-- a record, and the information records behind it
pub record Event : Type 0 where
  pub metadata : RecordParts
  pub infos : List InfoParts

-- the bytes spell this at this place, and the information records fill their part of it
pub record SpellsEvent (bytes : List ℕ) (at : ℕ) (event : Event) : Type 0 where
  pub whole : SpellsRecord bytes at event.metadata
  pub infos : SpellsInfos event.metadata.infos 0 (length event.metadata.infos) event.infos

-- Records are spelled from a place on, one after the other: to the end, or to a place before it at which
-- no record is.
abbrev pub SpellEvents : List ℕ → ℕ → List Event → Option ℕ → Type 0
SpellEvents bytes at [] None = at ≡ length bytes
SpellEvents bytes at [] (Some bad) =
    (bad ≡ at) × (at < length bytes) × ((parts : RecordParts) → SpellsRecord bytes at parts → ⊥)
SpellEvents bytes at (event ∷ events) bad =
    SpellsEvent bytes at event × SpellEvents bytes (record_end bytes at) events bad

-- the lines of a record and of its information records
abbrev pub lines_text : Event → List ℕ
lines_text event = event_text event.metadata ++ infos_text event.infos

-- the lines of all, and the bad place if there is one
abbrev pub dump_text : List Event → Option ℕ → List ℕ
dump_text [] None = []
dump_text [] (Some bad) = bad_text bad
dump_text (event ∷ events) bad = lines_text event ++ dump_text events bad

-- what is printed for bytes, and the first place where no record is
pub record Dump (bytes text : List ℕ) (bad : Option ℕ) : Type 0 where
  pub events : List Event
  pub spelled : SpellEvents bytes 0 events bad
  pub printed : text ≡ dump_text events bad

-- all of it was put
pub record Dumps (old new : Option (List ℕ)) (bytes : List ℕ) (bad : Option ℕ) : Type 0 where
  pub text : List ℕ
  pub dump : Dump bytes text bad
  pub put : Appends old new text

-- a front of it was put, and nothing else
abbrev pub DumpsFront : Option (List ℕ) → Option (List ℕ) → List ℕ → Type 0
DumpsFront old new bytes = (text : List ℕ) (bad : Option ℕ) → Dump bytes text bad → AppendsFront old new text
