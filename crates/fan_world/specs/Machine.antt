-- The machine as it is kept, and the state that it stands for.
use Rattle.std.specs.Prelude.{◌≡◌, ℕ, ◌≤◌, List, Option, Some, None, All, length, map, nat_le}
use Rattle.std.specs.List.{AllZip}
use Rattle.std.specs.Map.{keys_of}
use Rattle.fan_access.specs.Access.{AccessState}
use Rattle.fan_access.specs.Kept.{IsAccess}
use Rattle.fan_bits.specs.declared.mark.Mark.{Mark}
use Rattle.fan_bits.specs.Words.{is_among}
use Rattle.fan_grace.specs.declared.section.Section.{Section}
use Rattle.fan_grace.specs.Tables.{Shows, TableState}
use Rattle.fan_listener.specs.ListenerState.{ListenerState}
use Rattle.fan_machine.specs.Outcome.{Outcome}
use Rattle.fan_machine.specs.World.{Batch, WorldState}
use Rattle.fan_mounts.specs.declared.mount.Mount.{Mount}
use Rattle.fan_script.specs.declared.reply.Reply.{Reply}
use Rattle.fan_tree.specs.Tree.{TreeState}
use Rattle.fan_world.specs.declared.open_accesses.OpenAccess.{OpenAccess}
use Rattle.fan_world.specs.declared.retirement.KeptBatch.{KeptBatch}

-- the parts of the machine over a table of marks with sections; of the retired marks just their count is kept
pub record PartsOver (S : Type 0) : Type 0 where
  pub tree : TreeState
  pub mounts : List Mount
  pub groups : List ListenerState
  pub sections : S
  pub marks : List Mark
  pub waiting : ℕ
  pub batch : Option KeptBatch
  pub accesses : List (ℕ × OpenAccess)
  pub last_access : ℕ
  pub limit : ℕ
  pub steps : ℕ

-- the sections by which open accesses go
abbrev pub sections_of : List (ℕ × OpenAccess) → List Section
sections_of accesses = map (λ access. access.1.section) accesses

-- an open access is kept at its number, with a section of a table that shows its view
pub record IsOpen {S : Type 0} (shows : S → Section → List Mark → Type 0) (table : S) (kept : ℕ × OpenAccess)
    (access : ℕ × AccessState) : Type 0 where
  pub number : kept.0 ≡ access.0
  pub shown : shows table kept.1.section access.1.view
  pub goes_on : IsAccess access.1.view kept.1.access access.1

-- a batch is kept by a count and a number: of the open accesses just those up to that number are its own
pub record IsBatch (kept : KeptBatch) (batch : Batch) (world : WorldState) : Type 0 where
  pub count : kept.marks ≡ length batch.retired
  pub begun : kept.last_access ≤ world.last_access
  pub own : All (λ number. number ≤ kept.last_access) batch.accesses
  pub held : All
      (λ number. is_among number batch.accesses ≡ nat_le number kept.last_access)
      (keys_of world.accesses)

-- the batch under way, if there is one, is kept so
abbrev pub IsBatchIn : Option KeptBatch → Option Batch → WorldState → Type 0
IsBatchIn None None world = Unit {0}
IsBatchIn (Some kept) (Some batch) world = IsBatch kept batch world
IsBatchIn _ _ world = ⊥

-- the parts stand for a state of the machine, where the table is honest: each section shows the marks as they stood
pub record IsMachineOver {S : Type 0} (shows : S → Section → List Mark → Type 0) (honest : S → Type 0)
    (parts : PartsOver S) (world : WorldState) : Type 0 where
  pub tree : parts.tree ≡ world.tree
  pub mounts : parts.mounts ≡ world.mounts
  pub groups : parts.groups ≡ world.groups
  pub marks : parts.marks ≡ world.marks
  pub is_honest : honest parts.sections
  pub waiting : parts.waiting ≡ length world.waiting
  pub batch : IsBatchIn parts.batch world.batch world
  pub accesses : AllZip (IsOpen shows parts.sections) parts.accesses world.accesses
  pub last_access : parts.last_access ≡ world.last_access
  pub limit : parts.limit ≡ world.limit

-- the parts stand for the state after a step, and this is its reply
pub record IsStepOver {S : Type 0} (shows : S → Section → List Mark → Type 0) (honest : S → Type 0)
    (parts : PartsOver S) (reply : Reply) (outcome : Outcome) : Type 0 where
  pub answers : reply ≡ outcome.reply
  pub machine : IsMachineOver shows honest parts outcome.world

-- ---- over the table of marks in rows, which is honest

-- the parts of the machine
abbrev pub Parts : Type 0
Parts = PartsOver TableState

-- each section of it shows the marks as they stood
abbrev pub IsHonest : TableState → Type 0
IsHonest table = Unit {0}

-- the parts stand for a state of the machine
abbrev pub IsMachine : Parts → WorldState → Type 0
IsMachine = IsMachineOver Shows IsHonest

-- the parts stand for the state after a step, and this is its reply
abbrev pub IsStep : Parts → Reply → Outcome → Type 0
IsStep = IsStepOver Shows IsHonest
