-- What a step answers and makes of the world, by its form; and that each step is of one.
use Rattle.std.proofs.Common.{◌≡◌, ℕ, ◌+◌, Bool, true, false, List, [], ◌∷◌, ◌++◌, Option, Some, None, Ok, Err, refl, subst, sym}
use Rattle.std.specs.Prelude.{IfOk, length, not, count_by, nat_lt, reverse}
use Rattle.std.specs.List.{list_any}
use Rattle.std.specs.BTreeMap.{insert_entry}
use Rattle.std.specs.Ordering.{nat_cmp}
use Rattle.fan_access.specs.Access.{AccessState, Stepped, access_step, new_access}
use Rattle.fan_access.specs.declared.op.Op.{Op}
use Rattle.fan_access.specs.declared.spot.Spot.{Spot}
use Rattle.fan_bits.specs.declared.change.Change.{Change}
use Rattle.fan_bits.specs.declared.change.Change.TheVariants.{DropGroup, DropObject}
use Rattle.fan_bits.specs.declared.errno.Errno.{Errno}
use Rattle.fan_bits.specs.declared.place.Place.{Place}
use Rattle.fan_bits.specs.declared.mark.Mark.{Mark}
use Rattle.fan_bits.specs.Marks.{retired}
use Rattle.fan_listener.specs.Groups.{closed_in, is_open, read_from, written_to}
use Rattle.fan_listener.specs.ListenerState.{ListenerState, new_listener}
use Rattle.fan_listener.specs.declared.answers.Answered.{Answered}
use Rattle.fan_machine.specs.Accesses.{accesses_after, access_of, advanced, begins, begun, op_of}
use Rattle.fan_machine.specs.Batches.{batch_of, graced, held, reclaimed, started}
use Rattle.fan_machine.specs.Deeds.{Deed, deed_of}
use Rattle.fan_machine.specs.Files.{entry_made, fs_made, fs_mounted, fs_unmounted, goes_through, made_by}
use Rattle.fan_machine.specs.Groups.{group_closed, group_made, group_read, group_written, limit_set, max_open_groups}
use Rattle.fan_machine.specs.Marking.{change_for, marked}
use Rattle.fan_machine.specs.Next.{attempted, next}
use Rattle.fan_machine.specs.Outcome.{Attempt, Outcome, settled}
use Rattle.fan_machine.specs.World.{Batch, RetiredMark, WorldState, changed_if, retired_now, with_change}
use Rattle.fan_mounts.specs.declared.mount.Mount.{Mount}
use Rattle.fan_mounts.specs.Mounts.{mounted, unmounted}
use Rattle.fan_mounts.specs.Reaches.{names_of}
use Rattle.fan_script.specs.declared.reply.Reply.{Reply}
use Rattle.fan_script.specs.declared.reply.Reply.TheVariants as replies
use Rattle.fan_script.specs.declared.step.OpWord.{OpWord}
use Rattle.fan_script.specs.declared.step.Step.{Step}
use Rattle.fan_script.specs.declared.step.Step.TheVariants as steps
use Rattle.fan_tree.specs.Tree.{TreeState, made, made_fs}
use Rattle.fan_laws.proofs.Attempts.{done_does, found_does, unless_does}
use Rattle.fan_laws.proofs.Deeds.{ChangesOnce, changes_none, clears, deed_is, drops}

-- an outcome by its parts
abbrev pub told : Reply → WorldState → Outcome
told reply world = record { reply = reply; world = world }

-- the world after a single step of an access
abbrev pub stepped_world : ℕ → Stepped → WorldState → WorldState
stepped_world number stepped world =
    record world { groups = stepped.groups; accesses = accesses_after number stepped world.accesses }

-- the only change of the marks, if there is one
abbrev pub only : Option Change → Option Change → Option Change
only None last = last
only (Some first) last = Some first

-- the marks that wait then
abbrev pub waiting_after : Option Change → ℕ → List Mark → List RetiredMark → List RetiredMark
waiting_after None last marks waiting = waiting
waiting_after (Some change) last marks waiting = waiting ++ retired_now last (retired marks change)

-- the world after the begin of an access, part by part
abbrev pub world_begun : ℕ → Op → Deed → ℕ → ℕ → WorldState → WorldState
world_begun number op deed pid tid world =
    let change = only deed.first deed.last in
    let view = changed_if deed.first world.marks in
    record world {
      tree = deed.tree;
      marks = changed_if change world.marks;
      waiting = waiting_after change number world.marks world.waiting;
      accesses = insert_entry nat_cmp world.accesses number (new_access op deed.spots pid tid view);
      last_access = number;
    }

begins_parts : (number : ℕ) (op : Op) (spots : List Spot) (first : Option Change) (tree : TreeState)
    (last : Option Change) (pid tid : ℕ) (world : WorldState)
    → ChangesOnce first last →
    let deed : Deed = record { spots = spots; first = first; tree = tree; last = last } in
    world_begun number op deed pid tid world ≡ begins number op deed pid tid world
begins_parts number op spots first tree last pid tid world changes_none = refl
begins_parts number op spots first tree last pid tid world (clears object) = refl
begins_parts number op spots first tree last pid tid world (drops object) = refl

-- what waits once a grace went on with a batch, or started one
abbrev pub waiting_beside : Option Batch → List RetiredMark → List RetiredMark
waiting_beside None waiting = []
waiting_beside (Some batch) waiting = waiting

-- the batch under way then
abbrev pub batch_beside : Option Batch → WorldState → Option Batch
batch_beside None world = batch_of world world.waiting
batch_beside (Some batch) world = Some batch

-- the world after a grace, part by part
abbrev pub graced_world : WorldState → WorldState
graced_world world =
    let left = held world world.batch in
    record world { waiting = waiting_beside left world.waiting; batch = batch_beside left world }

started_parts : (world : WorldState) (left : Option Batch)
    → record world { waiting = waiting_beside left world.waiting; batch = batch_beside left world }
    ≡ started world left
started_parts world None = refl
started_parts world (Some batch) = refl

-- the outcome of a step of a world, and what is known of one that was done
pub data Form (world : WorldState) : Step → Outcome → Type 0 where
  refused : (step : Step) (errno : Errno) → attempted world step ≡ Err errno
      → Form world step (told (replies.Refused errno) world)
  file_made : (path : List ℕ) (dir : Place) (name : List ℕ) (new : ℕ × TreeState)
      → made world.tree dir.inode name false ≡ Ok new
      → Form world (steps.MkFile path) (told (replies.Inode new.0) (record world { tree = new.1 }))
  dir_made : (path : List ℕ) (dir : Place) (name : List ℕ) (new : ℕ × TreeState)
      → made world.tree dir.inode name true ≡ Ok new
      → Form world (steps.MkDir path) (told (replies.Inode new.0) (record world { tree = new.1 }))
  fs_was_made : (new : ℕ × TreeState) → made_fs world.tree ≡ Ok new
      → Form world steps.MkFs (told (replies.Fs new.0) (record world { tree = new.1 }))
  was_mounted : (fs : ℕ) (path : List ℕ) (at : Place) (new : ℕ × TreeState × List Mount)
      → mounted world.tree world.mounts fs at ≡ Ok new
      → Form world (steps.Mount fs path) (told (replies.Mount new.0)
      (record world { tree = new.1; mounts = new.2 }))
  was_unmounted : (path : List ℕ) (at : Place) (left : List Mount)
      → list_any (goes_through at.mount) world.accesses ≡ false → unmounted world.mounts at.mount ≡ Ok left
      → Form world (steps.Umount path)
      (told replies.Done (with_change (DropObject at.mount) (record world { mounts = left })))
  limit_was_set : (entries : ℕ)
      → Form world (steps.Limit entries) (told replies.Done (record world { limit = entries }))
  was_made : (flags : ℕ) → nat_lt (count_by is_open world.groups) max_open_groups ≡ true
      → Form world (steps.Init flags)
      (told (replies.Group (length world.groups + 1))
      (record world { groups = world.groups ++ new_listener flags world.limit ∷ [] }))
  was_marked : (group flags mask : ℕ) (path : List ℕ) (change : Change)
      → change_for world group flags mask path ≡ Ok change
      → Form world (steps.Mark group flags mask path) (told replies.Done (with_change change world))
  has_begun : (number pid tid : ℕ) (word : OpWord) (path : List ℕ) (second : Option (List ℕ)) (deed : Deed)
      → nat_lt world.last_access number ≡ true → deed_of world (op_of word) path second ≡ Ok deed
      → Form world (steps.Begin number pid tid word path second)
      (told replies.Done (world_begun number (op_of word) deed pid tid world))
  has_stepped : (number : ℕ) (access : AccessState) → access_of world number ≡ Some access
      → Form world (steps.Advance number)
      (told (replies.Out ((access_step world.groups access).outcome ∷ []))
      (stepped_world number (access_step world.groups access) world))
  was_read : (group size : ℕ) (read : List ℕ × List ListenerState) → read_from world.groups group size
      ≡ Ok read
      → Form world (steps.Read group size) (told (replies.Bytes read.0) (record world { groups = read.1 }))
  was_written : (group : ℕ) (bytes : List ℕ) (written : Answered × List ListenerState)
      → written_to world.groups group bytes ≡ Ok written
      → Form world (steps.Write group bytes) (told replies.Done (record world { groups = written.1 }))
  was_closed : (group : ℕ) (closed : List ListenerState) → closed_in world.groups group ≡ Some closed
      → Form world (steps.Close group) (told replies.Done (with_change (DropGroup group)
      (record world { groups = closed })))
  batch_ended : Form world steps.Grace
      (told (replies.Reclaimed (length (reclaimed world world.batch))) (graced_world world))

-- an attempt at a step is refused, or its outcome is of the step's form
abbrev Attempts : WorldState → Step → Attempt → Type 0
Attempts world step attempt = IfOk attempt (Form world step)

file_form : (world : WorldState) (path : List ℕ) (names : List (List ℕ))
    → Attempts world (steps.MkFile path) (made_by world names false)
file_form world path [] = tt
file_form world path (last ∷ before) = search (done_does, file_made)

dir_form : (world : WorldState) (path : List ℕ) (names : List (List ℕ))
    → Attempts world (steps.MkDir path) (made_by world names true)
dir_form world path [] = tt
dir_form world path (last ∷ before) = search (done_does, dir_made)

not_true : (b : Bool) → not b ≡ true → b ≡ false
not_true true is = absurd cc
not_true false is = refl

-- a begin and a grace, part by part
begin_form : (world : WorldState) (number pid tid : ℕ) (word : OpWord) (path : List ℕ)
    (second : Option (List ℕ)) (deed : Deed)
    → nat_lt world.last_access number ≡ true → deed_of world (op_of word) path second ≡ Ok deed
    → Form world (steps.Begin number pid tid word path second)
    (told replies.Done (begins number (op_of word) deed pid tid world))
begin_form world number pid tid word path second deed free does =
    let once = (deed_is world (op_of word) path second deed does).once in
    let same = begins_parts number (op_of word) deed.spots deed.first deed.tree deed.last pid tid world once in
    subst (λ new. Form world (steps.Begin number pid tid word path second) (told replies.Done new)) same
    (has_begun number pid tid word path second deed free does)

grace_form : (world : WorldState) → Form world steps.Grace
    (told (replies.Reclaimed (length (reclaimed world world.batch))) (started world (held world world.batch)))
grace_form world =
    let reply = replies.Reclaimed (length (reclaimed world world.batch)) in
    subst (λ new. Form world steps.Grace (told reply new)) (started_parts world
    (held world world.batch)) batch_ended

-- an attempt at a step is of the step's form
attempt_form : (world : WorldState) (step : Step) → Attempts world step (attempted world step)
unfolding attempted entry_made fs_made fs_mounted fs_unmounted limit_set group_made marked begun advanced group_read
    group_written group_closed graced
attempt_form world (steps.MkFile path) = file_form world path (reverse (names_of path))
attempt_form world (steps.MkDir path) = dir_form world path (reverse (names_of path))
attempt_form world steps.MkFs = search (done_does, fs_was_made)
attempt_form world (steps.Mount fs path) = search (unless_does, done_does, was_mounted) depth 9
attempt_form world (steps.Umount path) = search (unless_does, done_does, not_true, was_unmounted) depth 9
attempt_form world (steps.Limit entries) = search (unless_does, limit_was_set)
attempt_form world (steps.Init flags) = search (unless_does, was_made) depth 9
attempt_form world (steps.Mark group flags mask path) = search (done_does, was_marked)
attempt_form world (steps.Begin number pid tid word path second) =
    search (unless_does, done_does, begin_form) depth 9
attempt_form world (steps.Advance number) = search (found_does, has_stepped)
attempt_form world (steps.Read group size) = search (done_does, was_read)
attempt_form world (steps.Write group bytes) = search (done_does, was_written)
attempt_form world (steps.Close group) = search (found_does, was_closed)
attempt_form world steps.Grace = grace_form world

settled_form : (world : WorldState) (step : Step) (attempt : Attempt) → attempted world step ≡ attempt
    → Attempts world step attempt → Form world step (settled world attempt)
settled_form world step (Ok outcome) is form = form
settled_form world step (Err errno) is form = refused step errno is

-- each step is of its form
pub step_form : (world : WorldState) (step : Step) → Form world step (next world step)
unfolding next
step_form world step = settled_form world step (attempted world step) refl (attempt_form world step)

-- a refused step leaves the world as it was
same_refused : (world : WorldState) (step : Step) (errno : Errno) (outcome : Outcome)
    → Form world step outcome
    → outcome.reply ≡ replies.Refused errno → outcome.world ≡ world
same_refused world step errno outcome (refused _ other _) is = refl
same_refused world step errno outcome form is = absurd cc

pub refused_same : (world : WorldState) (step : Step) (errno : Errno)
    → (next world step).reply ≡ replies.Refused errno → (next world step).world ≡ world
refused_same world step errno is = same_refused world step errno (next world step) (step_form world step) is

-- the world after a grace, part by part
pub graced_is : (world : WorldState) → (next world steps.Grace).world ≡ graced_world world
unfolding next attempted graced
graced_is world = sym (started_parts world (held world world.batch))
