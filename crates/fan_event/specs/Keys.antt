-- Which events are merged, and a hash of what they have in common.
use Rattle.std.specs.Prelude.{ℕ, ◌+◌, ◌*◌, ◌%◌, ◌^◌, ◌<◌, ◌==◌, nat_eq, Bool, false, ◌&&◌, if◌then◌else◌, List, fold, Option, Some, None}
use Rattle.std.specs.Bool.{beq}
use Rattle.std.specs.Cmp.Lexicographic.{pointwise}
use Rattle.std.specs.Int.RustNames.{bit_xor}
use Rattle.std.specs.Option.{option_eq, unwrap_or}
use Rattle.fan_event.specs.declared.event.Event.{Event}
use Rattle.fan_event.specs.declared.target.Target.{Target}
use Rattle.fan_event.specs.declared.target.Target.TheVariants.{Fd, Handle}

-- both have the same bytes, or neither is there
abbrev pub same_name : Option (List ℕ) → Option (List ℕ) → Bool
same_name = option_eq (pointwise nat_eq)

-- the same object as reported, with the same name
abbrev pub same_target : Target → Target → Bool
same_target (Fd mount inode) (Fd mount' inode') = (mount == mount') && (inode == inode')
same_target (Handle fs object dir name) (Handle fs' object' dir' name') =
    (fs == fs') && option_eq nat_eq object object' && option_eq nat_eq dir dir' && same_name name name'
same_target _ _ = false

-- the same process or thread, the same directory bit and the same object
abbrev pub same_key : Event → Event → Bool
same_key a b = (a.who == b.who) && beq a.ondir b.ondir && same_target a.target b.target

-- a round of FNV-1a with 64 bits
abbrev pub fnv_round : ℕ → ℕ → ℕ
fnv_round hash byte = (bit_xor hash byte * 1099511628211) % 2 ^ 64

-- FNV-1a: a round for each byte
unfoldable pub name_hash : List ℕ → ℕ
name_hash bytes = fold fnv_round 14695981039346656037 bytes

-- the hash of a name, or 0
abbrev pub optional_name_hash : Option (List ℕ) → ℕ
optional_name_hash None = 0
optional_name_hash (Some name) = name_hash name

-- the process or thread with the directory bit
abbrev pub who_number : ℕ → Bool → ℕ
who_number who ondir = who * 2 + (if ondir then 1 else 0)

-- the object in a hash. The filesystem is left out: numbers of objects are those of the whole machine
abbrev pub target_hash : Target → ℕ
target_hash (Fd mount inode) = mount * 2 ^ 48 + inode * 2 ^ 32
target_hash (Handle fs object dir name) =
    unwrap_or object 0 * 2 ^ 48 + unwrap_or dir 0 * 2 ^ 32 + optional_name_hash name

-- the hash of a key
unfoldable pub key_hash : Event → ℕ
key_hash event = (target_hash event.target + who_number event.who event.ondir) % 2 ^ 64

-- the numbers of a mount and of an inode are below 2^16
abbrev pub HasDescriptor : Target → Type 0
HasDescriptor (Fd mount inode) = (mount < 2 ^ 16) × (inode < 2 ^ 16)
HasDescriptor (Handle fs object dir name) = ⊥

-- the event is reported by a descriptor, and its process or thread is below 2^31
abbrev pub IsDescriptorKey : Event → Type 0
IsDescriptorKey event = (event.who < 2 ^ 31) × HasDescriptor event.target
