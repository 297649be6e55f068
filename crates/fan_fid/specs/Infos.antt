-- Which information record some bytes spell at a place: `struct fanotify_event_info_fid` and `struct
-- file_handle`, fanotify(7) and open_by_handle_at(2). docs/FORMATS.md has the places.
use Rattle.std.specs.Prelude.{◌≡◌, ℕ, ℤ, ◌+◌, List, [], ◌∷◌, ◌++◌, take, drop, slice_range, Contains}
use Rattle.fan_record.specs.Fields.{u16_at, i32_at}
use Rattle.fan_record.specs.Infos.{BeginsWithInfo, HasHandle, handle_end, info_type}
use Rattle.fan_fid.specs.declared.info.Ident.{Ident}
use Rattle.fan_fid.specs.declared.info.Info.{Info}
use Rattle.fan_fid.specs.declared.info.Info.TheVariants.{Fid, Dfid, DfidName, Other}

-- what is read of a file or directory
pub record IdentParts : Type 0 where
  pub fsid : List ℕ
  pub handle_type : ℤ
  pub handle : List ℕ

-- what is read of an information record: with a DFID_NAME its name, of another type the bytes behind
-- its first four
pub data InfoParts : Type 0 where
  fid : IdentParts → InfoParts
  dfid : IdentParts → InfoParts
  dfid_name : IdentParts → List ℕ → InfoParts
  other : ℕ → List ℕ → InfoParts

-- what a file or directory that was read says
abbrev pub ident_of : Ident → IdentParts
ident_of ident = record {
  fsid = ident.fsid.now;
  handle_type = ident.handle_type;
  handle = ident.handle.now;
}

-- what an information record that was read says
abbrev pub parts_of : Info → InfoParts
parts_of (Fid ident) = fid (ident_of ident)
parts_of (Dfid ident) = dfid (ident_of ident)
parts_of (DfidName ident name) = dfid_name (ident_of ident) name.now
parts_of (Other kind bytes) = other kind bytes.now

-- the fsid stands at 4, the type of the handle at 16, the handle from 20 to its end
pub record SpellsIdent (info : List ℕ) (ident : IdentParts) : Type 0 where
  pub fsid : ident.fsid ≡ slice_range info 4 12
  pub handle_type : ident.handle_type ≡ i32_at 16 info
  pub handle : ident.handle ≡ slice_range info 20 (handle_end info)

-- a name ends before the first 0
pub record SpellsName (text name : List ℕ) : Type 0 where
  pub rest : List ℕ
  pub ends : text ≡ name ++ 0 ∷ rest
  pub first : Contains name 0 → ⊥

-- The bytes of one information record spell these parts. FAN_EVENT_INFO_TYPE_FID is 1, DFID_NAME 2
-- and DFID 3.
abbrev pub SpellsParts : List ℕ → InfoParts → Type 0
SpellsParts info (fid ident) = (info_type info ≡ 1) × SpellsIdent info ident
SpellsParts info (dfid ident) = (info_type info ≡ 3) × SpellsIdent info ident
SpellsParts info (dfid_name ident name) =
    (info_type info ≡ 2) × SpellsIdent info ident × SpellsName (drop (handle_end info) info) name
SpellsParts info (other kind bytes) =
    (info_type info ≡ kind) × (HasHandle kind → ⊥) × (bytes ≡ drop 4 info)

-- how long the information record at a place says that it is
abbrev pub len_at : List ℕ → ℕ → ℕ
len_at bytes at = u16_at 2 (drop at bytes)

-- where the information record ends that begins at a place
abbrev pub info_end : List ℕ → ℕ → ℕ
info_end bytes at = at + len_at bytes at

-- the bytes spell this information record at this place
pub record SpellsInfo (bytes : List ℕ) (at : ℕ) (parts : InfoParts) : Type 0 where
  pub whole : BeginsWithInfo (drop at bytes) (len_at bytes at)
  pub spelled : SpellsParts (take (len_at bytes at) (drop at bytes)) parts

-- no information record is spelled at this place
abbrev pub NoInfo : List ℕ → ℕ → Type 0
NoInfo bytes at = (parts : InfoParts) → SpellsInfo bytes at parts → ⊥

-- from a place up to an end the bytes spell these information records, one after the other
abbrev pub SpellsInfos : List ℕ → ℕ → ℕ → List InfoParts → Type 0
SpellsInfos bytes at end [] = at ≡ end
SpellsInfos bytes at end (parts ∷ rest) =
    SpellsInfo bytes at parts × SpellsInfos bytes (info_end bytes at) end rest

-- all information records of an input, and the place where none is spelled any more
pub record ReadsInfos (bytes : List ℕ) (all : List InfoParts) (stop : ℕ) : Type 0 where
  pub spelled : SpellsInfos bytes 0 stop all
  pub none : NoInfo bytes stop
