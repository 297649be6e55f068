-- What was put at the end for a record and for its information records.
use Rattle.std.specs.Prelude.{◌≡◌, ℕ, List, ◌++◌, length}
use Rattle.fan_dump.specs.Texts.{event_text, infos_text}
use Rattle.fan_fid.specs.Infos.{SpellsInfos}
use Rattle.fan_fid.specs.Infos.{InfoParts}
use Rattle.fan_record.specs.Records.{RecordParts}

-- the lines of the information records that fill a part of a record
pub record PutsInfos (part before now : List ℕ) : Type 0 where
  pub infos : List InfoParts
  pub spelled : SpellsInfos part 0 (length part) infos
  pub put : now ≡ before ++ infos_text infos

-- the line of a record, and those of its information records
pub record PutsEvent (event : RecordParts) (before now : List ℕ) : Type 0 where
  pub infos : List InfoParts
  pub spelled : SpellsInfos event.infos 0 (length event.infos) infos
  pub put : now ≡ before ++ (event_text event ++ infos_text infos)
