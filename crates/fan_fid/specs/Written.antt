-- What is written of the file or directory of an event: fanotify(7).
use Rattle.std.specs.Prelude.{ℕ, ◌+◌, ◌-◌, ◌%◌, List, [], ◌∷◌, ◌++◌, length, replicate, Option, Some, None}
use Rattle.std.specs.Int.{to_le_bytes, w16, w32}
use Rattle.fan_event.specs.declared.target.Target.{Target}
use Rattle.fan_event.specs.declared.target.Target.TheVariants.{Fd, Handle}

-- an information record up to its handle's end: the type, a 0, its length, the fsid of two numbers,
-- the length of the handle, its type, and the handle of two numbers
unfoldable pub ident_bytes : ℕ → ℕ → ℕ → ℕ → List ℕ
ident_bytes kind len fs inode =
    (kind ∷ 0 ∷ []) ++ to_le_bytes w16 len ++ to_le_bytes w32 fs ++ to_le_bytes w32 0
    ++ to_le_bytes w32 8 ++ to_le_bytes w32 1 ++ to_le_bytes w32 inode ++ to_le_bytes w32 0

-- how many bytes come up to the next multiple of four
abbrev pub padding : ℕ → ℕ
padding len = (4 - len % 4) % 4

-- the name, a 0, and further ones up to a multiple of four
abbrev pub name_bytes : List ℕ → List ℕ
name_bytes name = name ++ (0 ∷ replicate (padding (length name + 1)) 0)

-- FAN_EVENT_INFO_TYPE_FID
abbrev pub fid_bytes : ℕ → ℕ → List ℕ
fid_bytes fs inode = ident_bytes 1 28 fs inode

-- FAN_EVENT_INFO_TYPE_DFID
abbrev pub dfid_bytes : ℕ → ℕ → List ℕ
dfid_bytes fs inode = ident_bytes 3 28 fs inode

-- FAN_EVENT_INFO_TYPE_DFID_NAME
abbrev pub dfid_name_bytes : ℕ → ℕ → List ℕ → List ℕ
dfid_name_bytes fs inode name =
    ident_bytes 2 (28 + length (name_bytes name)) fs inode ++ name_bytes name

-- the directory, with the name where there is one
abbrev pub dir_bytes : ℕ → Option ℕ → Option (List ℕ) → List ℕ
dir_bytes fs None name = []
dir_bytes fs (Some dir) None = dfid_bytes fs dir
dir_bytes fs (Some dir) (Some name) = dfid_name_bytes fs dir name

-- the object
abbrev pub object_bytes : ℕ → Option ℕ → List ℕ
object_bytes fs None = []
object_bytes fs (Some object) = fid_bytes fs object

-- the information records of an event: its directory, then its object; none for a descriptor
abbrev pub infos_of : Target → List ℕ
infos_of (Fd mount inode) = []
infos_of (Handle fs object dir name) = dir_bytes fs dir name ++ object_bytes fs object
