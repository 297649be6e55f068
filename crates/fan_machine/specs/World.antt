-- The state of the machine.
use Rattle.std.specs.Prelude.{ℕ, List, [], ◌++◌, Option, Some, None, map}
use Rattle.fan_access.specs.Access.{AccessState}
use Rattle.fan_bits.specs.declared.change.Change.{Change}
use Rattle.fan_bits.specs.declared.mark.Mark.{Mark}
use Rattle.fan_bits.specs.Marks.{changed, retired}
use Rattle.fan_listener.specs.ListenerState.{ListenerState}
use Rattle.fan_mounts.specs.declared.mount.Mount.{Mount}
use Rattle.fan_mounts.specs.Mounts.{initial_mounts}
use Rattle.fan_tree.specs.Tree.{TreeState, initial_tree}

-- a mark that a step removed or replaced, and the greatest number that an access had after that step
pub record RetiredMark : Type 0 where
  pub mark : Mark
  pub last_access : ℕ

-- retired marks that are reclaimed together, and the numbers of the accesses that were open at its start
pub record Batch : Type 0 where
  pub retired : List RetiredMark
  pub accesses : List ℕ

-- the file tree and its mounts; the listeners of the groups, from group 1 on, closed ones among them; the
-- marks; the retired marks that wait for a batch, and the batch under way; the open accesses by their numbers,
-- and the greatest number that an access had; the limit of the queues of groups that are made from now on
pub record WorldState : Type 0 where
  pub tree : TreeState
  pub mounts : List Mount
  pub groups : List ListenerState
  pub marks : List Mark
  pub waiting : List RetiredMark
  pub batch : Option Batch
  pub accesses : List (ℕ × AccessState)
  pub last_access : ℕ
  pub limit : ℕ

-- how many entries fill a queue at most
abbrev pub max_limit : ℕ
max_limit = 16384

-- at the start: filesystem 1 with its root, mounted at `/`, no group, and the greatest limit
abbrev pub initial_world : WorldState
initial_world = record {
  tree = initial_tree;
  mounts = initial_mounts;
  groups = [];
  marks = [];
  waiting = [];
  batch = None;
  accesses = [];
  last_access = 0;
  limit = max_limit;
}

-- marks that are retired now
abbrev pub retired_now : ℕ → List Mark → List RetiredMark
retired_now last_access marks = map (λ mark. record { mark = mark; last_access = last_access }) marks

-- the marks after a change, if there is one
abbrev pub changed_if : Option Change → List Mark → List Mark
changed_if None marks = marks
changed_if (Some change) marks = changed marks change

-- the marks change, and what the change retires waits for a batch
abbrev pub with_change : Change → WorldState → WorldState
with_change change world = record world {
  marks = changed world.marks change;
  waiting = world.waiting ++ retired_now world.last_access (retired world.marks change);
}

-- the same of a change that may be none
abbrev pub with_change_if : Option Change → WorldState → WorldState
with_change_if None world = world
with_change_if (Some change) world = with_change change world
