-- What holds of the machine after any steps.
use Rattle.std.specs.Prelude.{◌≡◌, ◌≢◌, ℕ, ◌+◌, ◌*◌, ◌<◌, ◌≤◌, true, List, Some, All, count_by, is_some, length, map, slice_get}
use Rattle.std.specs.List.{AllPairs}
use Rattle.std.specs.List.Sorted.{IsStrictlyIncreasing}
use Rattle.std.specs.Map.{keys_of, values_of}
use Rattle.fan_access.specs.Access.{AccessState, Waiting, asks, tells}
use Rattle.fan_access.specs.Operations.{first_mount, told_events}
use Rattle.fan_access.specs.Rounds.{Turn}
use Rattle.fan_bits.specs.declared.class.Class.{Class}
use Rattle.fan_bits.specs.declared.mark.Mark.{Mark}
use Rattle.fan_bits.specs.Marks.{Rises, stands}
use Rattle.fan_bits.specs.Words.{class_of}
use Rattle.fan_queue.specs.declared.entry.Entry.{Entry}
use Rattle.fan_listener.specs.Groups.{is_open, open_listener}
use Rattle.fan_listener.specs.ListenerState.{ListenerState}
use Rattle.fan_machine.specs.Groups.{max_open_groups}
use Rattle.fan_machine.specs.World.{WorldState}
use Rattle.fan_mounts.specs.declared.mount.Mount.{Mount}
use Rattle.fan_mounts.specs.Mounts.{mount_of}

-- a group is open, and this is the class that its flags name
pub record IsOpenOf (groups : List ListenerState) (group : ℕ) (class : Class) : Type 0 where
  pub listener : ListenerState
  pub found : open_listener groups group ≡ Some listener
  pub named : class_of listener.flags ≡ class

-- two marks are not of one group and on one object
abbrev pub AreApart : Mark → Mark → Type 0
AreApart mark other = mark.group ≡ other.group → mark.object ≢ other.object

-- the numbers of the entries in a queue
abbrev pub numbers_in : List Entry → List ℕ
numbers_in queue = map (λ (entry : Entry). entry.number) queue

-- the entries in a queue are in the order of their numbers, which are below the next one
pub record IsQueue (listener : ListenerState) : Type 0 where
  pub rises : IsStrictlyIncreasing (numbers_in listener.queue)
  pub made : All (λ number. number < listener.next_entry) (numbers_in listener.queue)

-- an access asks two rounds of groups at most, and asks and tells three at most; it has a spot for each event
-- that its operation tells; it waits for the group of the turn of its asks where it stands; and the mount
-- through which it was begun is there
pub record IsAccess (mounts : List Mount) (access : AccessState) : Type 0 where
  pub few_asks : length (asks access) ≤ 2 * max_open_groups
  pub few : length (asks access) + length (tells access) ≤ 3 * max_open_groups
  pub spots : length access.spots ≡ length (told_events access.op)
  pub waits : (at group entry : ℕ) → access.phase ≡ Waiting at group entry
      → (turn : Turn) × (slice_get (asks access) at ≡ Some turn) × (turn.interest.group ≡ group)
  pub mounted : is_some (mount_of mounts (first_mount access.spots)) ≡ true

-- what holds of every world that steps make of the first one
pub record IsWhole (world : WorldState) : Type 0 where
  pub order : Rises world.marks
  pub apart : AllPairs AreApart world.marks
  pub stand : All (λ mark. stands mark ≡ true) world.marks
  pub of_groups : All (λ mark. IsOpenOf world.groups mark.group mark.class) world.marks
  pub few : count_by is_open world.groups ≤ max_open_groups
  pub queues : All IsQueue world.groups
  pub rising : IsStrictlyIncreasing (keys_of world.accesses)
  pub used : All (λ number. number ≤ world.last_access) (keys_of world.accesses)
  pub accesses : All (IsAccess world.mounts) (values_of world.accesses)
