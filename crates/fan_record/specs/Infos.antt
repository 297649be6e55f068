-- Information records as the bytes between them: `struct fanotify_event_info_header` and what follows
-- it, fanotify(7). docs/FORMATS.md has the places.
use Rattle.std.specs.Prelude.{◌≡◌, ℕ, ◌+◌, ◌≤◌, List, length, take, drop, slice_index, Contains}
use Rattle.std.specs.List.{AllByRecursion, concat}
use Rattle.fan_record.specs.Fields.{u16_at, u32_at}

-- the type of an information record
abbrev pub info_type : List ℕ → ℕ
info_type info = slice_index info 0

-- FAN_EVENT_INFO_TYPE_FID is 1, DFID_NAME 2 and DFID 3: these have a handle
pub record HasHandle (kind : ℕ) : Type 0 where
  pub least : 1 ≤ kind
  pub most : kind ≤ 3

-- where the handle ends: it begins at 20, and its length stands at 12
abbrev pub handle_end : List ℕ → ℕ
handle_end info = 20 + u32_at 12 info

-- these bytes are one information record: its type at 0, its length at 2, the handle whole where it
-- has one, and behind the handle of a DFID_NAME a name that ends with a 0
pub record IsInfo (info : List ℕ) : Type 0 where
  pub header : 4 ≤ length info
  pub len : u16_at 2 info ≡ length info
  pub handle : HasHandle (info_type info) → handle_end info ≤ length info
  pub name : info_type info ≡ 2 → Contains (drop (handle_end info) info) 0

-- an information record of so many bytes stands at the front
pub record BeginsWithInfo (bytes : List ℕ) (len : ℕ) : Type 0 where
  pub within : len ≤ length bytes
  pub info : IsInfo (take len bytes)

-- these bytes are information records, one after the other
pub record AreInfos (bytes : List ℕ) : Type 0 where
  pub infos : List (List ℕ)
  pub each : AllByRecursion IsInfo infos
  pub joined : concat infos ≡ bytes
