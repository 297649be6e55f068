-- What is read of the information records that are written.
use Rattle.std.specs.Prelude.{⊤, ℕ, pos, List, [], ◌∷◌, ◌++◌, Option, Some, None, IfSome}
use Rattle.std.specs.Int.{to_le_bytes, w32}
use Rattle.fan_event.specs.Names.{IsName}
use Rattle.fan_event.specs.declared.target.Target.{Target}
use Rattle.fan_event.specs.declared.target.Target.TheVariants.{Fd, Handle}
use Rattle.fan_fid.specs.Infos.{IdentParts, InfoParts}
use Rattle.fan_fid.specs.Infos.InfoParts.{fid, dfid, dfid_name}

-- a file or directory: two numbers in the fsid, two in the handle, of type 1
abbrev pub ident_parts : ℕ → ℕ → IdentParts
ident_parts fs inode = record {
  fsid = to_le_bytes w32 fs ++ to_le_bytes w32 0;
  handle_type = pos 1;
  handle = to_le_bytes w32 inode ++ to_le_bytes w32 0;
}

-- a directory, with the name where there is one
abbrev pub dir_parts : ℕ → Option ℕ → Option (List ℕ) → List InfoParts
dir_parts fs None name = []
dir_parts fs (Some dir) None = dfid (ident_parts fs dir) ∷ []
dir_parts fs (Some dir) (Some name) = dfid_name (ident_parts fs dir) name ∷ []

-- an object
abbrev pub object_parts : ℕ → Option ℕ → List InfoParts
object_parts fs None = []
object_parts fs (Some object) = fid (ident_parts fs object) ∷ []

-- the object of an event: its directory, then itself
abbrev pub target_parts : Target → List InfoParts
target_parts (Fd mount inode) = []
target_parts (Handle fs object dir name) = dir_parts fs dir name ++ object_parts fs object

-- what can be written: where there is a name, it is one
abbrev pub IsWritable : Target → Type 0
IsWritable (Fd mount inode) = ⊤
IsWritable (Handle fs object dir name) = IfSome name IsName
