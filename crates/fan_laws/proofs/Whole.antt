-- What holds of every world: of the first one, and of any after a step.
use Rattle.std.proofs.Common.{◌≡◌, ℕ, ◌+◌, ◌<◌, ◌≤◌, Bool, true, false, List, [], ◌∷◌, ◌++◌, Option, Some, refl, sym, subst, arith, not, get_or}
use Rattle.std.proofs.lemmas.Bool.{cond_both, eq-eqb}
use Rattle.std.proofs.lemmas.List.Elements.{All-contains, All-map, All-nil, All-weaker, filter_passes}
use Rattle.std.proofs.lemmas.List.Folds.{list_any_at}
use Rattle.std.specs.List.{AllPairs, list_any}
use Rattle.std.specs.List.Sorted.{IsStrictlyIncreasing}
use Rattle.std.specs.Map.{keys_of, lookup, remove_entry, set_value}
use Rattle.std.specs.Prelude.{◌==◌, All, count_by, filter, is_some, slice_get}
use Rattle.fan_access.specs.Access.{AccessState, Phase, Waiting, access_step, asks, new_access}
use Rattle.fan_access.specs.declared.op.Op.{Op}
use Rattle.fan_access.specs.Operations.{first_mount}
use Rattle.fan_access.specs.Rounds.{Turn}
use Rattle.fan_bits.specs.declared.change.Change.{Change}
use Rattle.fan_bits.specs.declared.change.Change.TheVariants.{Clear, DropGroup, DropObject}
use Rattle.fan_bits.specs.declared.mark.Mark.{Mark}
use Rattle.fan_bits.specs.Marks.{Rises, changed, stands}
use Rattle.fan_bits.specs.Outcomes.{ends_access}
use Rattle.fan_lists.proofs.Pairs.{AllPairs-map}
use Rattle.fan_listener.specs.Groups.{is_open}
use Rattle.fan_listener.specs.ListenerState.{ListenerState, new_listener}
use Rattle.fan_listener.specs.Responses.{closed_of}
use Rattle.fan_machine.specs.Accesses.{op_of}
use Rattle.fan_machine.specs.Deeds.{Deed}
use Rattle.fan_machine.specs.Files.{goes_through}
use Rattle.fan_machine.specs.Groups.{max_open_groups}
use Rattle.fan_machine.specs.Next.{after, next}
use Rattle.fan_machine.specs.Outcome.{Outcome}
use Rattle.fan_machine.specs.World.{WorldState, changed_if, initial_world}
use Rattle.fan_mounts.specs.declared.mount.Mount.{Mount}
use Rattle.fan_mounts.specs.Mounts.{mount_of}
use Rattle.fan_script.specs.declared.step.Step.{Step}
use Rattle.fan_laws.specs.Whole.{IsAccess, IsOpenOf, IsQueue, IsWhole}
use Rattle.fan_laws.proofs.Ahead.{IsSteady, in_phase, step_goes, step_same}
use Rattle.fan_laws.proofs.Entries.{All-inserted, All-removed, All-set, at, found_contained}
use Rattle.fan_laws.proofs.Deeds.{ChangesOnce, IsDeed, changes_none, clears, deed_is, drops}
use Rattle.fan_laws.proofs.Few.{few_rounds}
use Rattle.fan_laws.proofs.Forms.{Form, has_begun, has_stepped, only, step_form, was_closed, was_made, was_marked, was_mounted, was_read, was_unmounted, was_written}
use Rattle.fan_laws.proofs.Listeners.{Numbered, moves_few, moves_numbered, open_beside, open_called, open_pushed, queue_is}
use Rattle.fan_laws.proofs.Marked.{AreOpenOf, IsAllowed, allowed_class, apart, change_allowed, changed_open, changed_rises, changed_stand}
use Rattle.fan_laws.proofs.Mounted.{mounted_stay, unmounted_stay}
use Rattle.fan_laws.proofs.Moves.{Calls, closed_is, read_calls, step_calls, step_moves, written_calls}
use Rattle.fan_laws.proofs.Numbers.{AreNumbered, numbered_at_first, numbered_form}

-- what a step does to the marks: nothing, or one change that may be made
data Changes (groups : List ListenerState) (old : List Mark) : List Mark → Type 0 where
  none : Changes groups old old
  one_change : (change : Change) → IsAllowed groups change → Changes groups old (changed old change)

-- what an operation does to them is so, and so is what it does before its access takes its view
once_allowed : (groups : List ListenerState) (first last : Option Change) (marks : List Mark)
    → ChangesOnce first last → Changes groups marks (changed_if (only first last) marks)
unfolding IsAllowed
once_allowed groups first last marks changes_none = none
once_allowed groups first last marks (clears object) = one_change (Clear object) tt
once_allowed groups first last marks (drops object) = one_change (DropObject object) tt

first_allowed : (groups : List ListenerState) (first last : Option Change) (marks : List Mark)
    → ChangesOnce first last → Changes groups marks (changed_if first marks)
unfolding IsAllowed
first_allowed groups first last marks changes_none = none
first_allowed groups first last marks (clears object) = one_change (Clear object) tt
first_allowed groups first last marks (drops object) = none

step_changes : (world : WorldState) (step : Step) (outcome : Outcome) → Form world step outcome
    → Changes world.groups world.marks outcome.world.marks
unfolding IsAllowed
step_changes world step outcome (was_unmounted path at left unused is) = one_change (DropObject at.mount) tt
step_changes world step outcome (was_marked group flags mask path change is) =
    one_change change (change_allowed world group flags mask path change is)
step_changes world step outcome (has_begun number pid tid word path second deed free does) =
    once_allowed world.groups deed.first deed.last world.marks
    (deed_is world (op_of word) path second deed does).once
step_changes world step outcome (was_closed group closed is) = one_change (DropGroup group) tt
step_changes world step outcome form = none

-- what holds of the marks beside the groups
pub record AreMarks (groups : List ListenerState) (marks : List Mark) : Type 0 where
  pub order : Rises marks
  pub stand : All (λ mark. stands mark ≡ true) marks
  pub of_groups : AreOpenOf groups marks

changes_marks : (groups : List ListenerState) (old new : List Mark) → Changes groups old new
    → AreMarks groups old
    → AreMarks groups new
changes_marks groups old new none marks = marks
changes_marks groups old new (one_change change allowed) marks = record {
  order = changed_rises old change (allowed_class groups old change allowed marks.of_groups) marks.order;
  stand = changed_stand old change marks.stand;
  of_groups = changed_open groups old change allowed marks.of_groups;
}

-- a call of a listener leaves the groups open
marks_called : (groups new : List ListenerState) (marks : List Mark) → Calls groups new
    → AreMarks groups marks
    → AreMarks new marks
marks_called groups new marks call its = record {
  order = its.order;
  stand = its.stand;
  of_groups = All-weaker (λ mark. IsOpenOf groups mark.group mark.class)
      (λ mark. IsOpenOf new mark.group mark.class)
      (λ mark is. open_called groups new mark.group mark.class call is) marks its.of_groups;
}

-- the marks of a group that is closed are gone
marks_closed : (groups : List ListenerState) (group : ℕ) (new : List ListenerState) (marks : List Mark)
    → ((mark : Mark) → (mark.group ≡ group → ⊥) → IsOpenOf groups mark.group mark.class
    → IsOpenOf new mark.group mark.class)
    → AreMarks groups (changed marks (DropGroup group)) → AreMarks new (changed marks (DropGroup group))
unfolding changed
marks_closed groups group new marks stays its =
    let left = filter (λ mark. not (mark.group == group)) marks in
    let others = filter_passes (λ (mark : Mark). not (mark.group == group)) marks in record {
      order = its.order;
      stand = its.stand;
      of_groups = λ k d within.
          let mark = get_or left k d in
          stays mark (λ same. let kept = others k d within in
          let shown = eq-eqb mark.group group same in absurd (contrary shown kept))
          (its.of_groups k d within);
    }
  where
    contrary : {b : Bool} → b ≡ true → not b ≡ true → ⊥
    contrary is kept = let never : not true ≡ true = subst (λ b. not b ≡ true) is kept in absurd cc

marks_form : (world : WorldState) (step : Step) (outcome : Outcome) → Form world step outcome
    → AreMarks world.groups world.marks → AreMarks outcome.world.groups outcome.world.marks
marks_form world step outcome (was_made flags few) marks = record {
  order = marks.order;
  stand = marks.stand;
  of_groups = All-weaker (λ mark. IsOpenOf world.groups mark.group mark.class)
      (λ mark. IsOpenOf (world.groups ++ new_listener flags world.limit ∷ []) mark.group mark.class)
      (λ mark is. open_pushed world.groups (new_listener flags world.limit) mark.group mark.class is)
      world.marks marks.of_groups;
}
marks_form world step outcome (has_stepped number access is) marks =
    marks_called world.groups (access_step world.groups access).groups world.marks
    (step_calls world.groups access) marks
marks_form world step outcome (was_read group size read is) marks =
    marks_called world.groups read.1 world.marks (read_calls world.groups group size read is) marks
marks_form world step outcome (was_written group bytes given is) marks =
    marks_called world.groups given.1 world.marks (written_calls world.groups group bytes given is) marks
marks_form world step outcome (was_closed group closed is) marks =
    let form = was_closed group closed is in
    let its = closed_is world.groups group closed is in
    marks_closed world.groups group closed world.marks
    (λ mark differ open_of. subst (λ new. IsOpenOf new mark.group mark.class) its.is
    (open_beside world.groups group its.listener
    (closed_of its.listener) mark.group mark.class its.was.there differ open_of))
    (changes_marks world.groups world.marks _ (step_changes world step outcome form) marks)
marks_form world step outcome form marks =
    changes_marks world.groups world.marks outcome.world.marks (step_changes world step outcome form) marks

-- ---- accesses

access_steady : (access : AccessState) (phase : Phase) → IsSteady access phase → (at group entry : ℕ)
    → phase ≡ Waiting at group entry
    → (turn : Turn) × (slice_get (asks access) at ≡ Some turn) × (turn.interest.group ≡ group)
access_steady access phase steady at group entry is = subst (IsSteady access) is steady

steady_access : (access : AccessState) (phase : Phase)
    → ((at group entry : ℕ) → phase ≡ Waiting at group entry
    → (turn : Turn) × (slice_get (asks access) at ≡ Some turn) × (turn.interest.group ≡ group))
    → IsSteady access phase
steady_access access (Waiting at group entry) waits = waits at group entry refl
steady_access access other waits = tt

-- an access that is open waits for the group of its turn
pub steady : (mounts : List Mount) (access : AccessState) → IsAccess mounts access
    → IsSteady access access.phase
steady mounts access its = steady_access access access.phase its.waits

-- its single step leaves it so
access_stepped : (mounts : List Mount) (groups : List ListenerState) (access : AccessState)
    → IsAccess mounts access
    → IsAccess mounts (access_step groups access).access
access_stepped mounts groups access its =
    let left = (access_step groups access).access.phase in
    let goes = step_goes access groups access.phase (steady mounts access its) in
    let new : IsAccess mounts (in_phase access left) = record {
      few_asks = its.few_asks;
      few = its.few;
      spots = its.spots;
      waits = access_steady access left goes.steady;
      mounted = its.mounted;
    } in
    subst (IsAccess mounts) (sym (step_same access groups access.phase)) new

-- and other mounts, if its own is there
access_mounted : (old new : List Mount) (access : AccessState) → IsAccess old access
    → is_some (mount_of new (first_mount access.spots)) ≡ true → IsAccess new access
access_mounted old new access its there = record {
  few_asks = its.few_asks;
  few = its.few;
  spots = its.spots;
  waits = its.waits;
  mounted = there;
}

-- what holds of every world, in the form in which a step keeps it
pub record IsSound (world : WorldState) : Type 0 where
  pub marks : AreMarks world.groups world.marks
  pub few : count_by is_open world.groups ≤ max_open_groups
  pub queues : All Numbered world.groups
  pub numbered : AreNumbered world
  pub accesses : All (λ e. IsAccess world.mounts e.1) world.accesses

-- an access that is found is one of them
pub found_each : (mounts : List Mount) (number : ℕ) (access : AccessState) (accesses : List (ℕ × AccessState))
    → All (λ e. IsAccess mounts e.1) accesses → lookup (at number) accesses ≡ Some access
    → IsAccess mounts access
found_each mounts number access accesses each is =
    All-contains (λ e. IsAccess mounts e.1) accesses (number, access) each
    (found_contained number access accesses is)

-- no open access goes through a mount that is taken away
unused_differs : (accesses : List (ℕ × AccessState)) (mount : ℕ) → list_any (goes_through mount) accesses
    ≡ false
    → All (λ e. first_mount e.1.spots ≡ mount → ⊥) accesses
unused_differs accesses mount unused k d within same =
    let entry = get_or accesses k d in
    let used = list_any_at (goes_through mount) accesses k d within
    (eq-eqb (first_mount entry.1.spots) mount same) in absurd cc

-- an access at its begin
access_begun : (world : WorldState) (op : Op) (deed : Deed) (pid tid : ℕ) → IsSound world → IsDeed world op deed
    → IsAccess world.mounts (new_access op deed.spots pid tid (changed_if deed.first world.marks))
access_begun world op deed pid tid sound its =
    let view = changed_if deed.first world.marks in
    let marks = changes_marks world.groups world.marks view
    (first_allowed world.groups deed.first deed.last world.marks its.once) sound.marks in
    let few = few_rounds world.groups view marks.of_groups op deed.spots sound.few in
    record {
      few_asks = few.0;
      few = few.1;
      spots = its.spots;
      waits = λ at group entry is. absurd cc;
      mounted = its.mounted;
    }

accesses_form : (world : WorldState) (step : Step) (outcome : Outcome) → Form world step outcome
    → IsSound world → All (λ e. IsAccess outcome.world.mounts e.1) outcome.world.accesses
accesses_form world step outcome (was_mounted fs path at new is) sound =
    All-weaker (λ e. IsAccess world.mounts e.1) (λ e. IsAccess new.2 e.1)
    (λ e its. access_mounted world.mounts new.2 e.1 its
    (mounted_stay world.tree world.mounts fs at new is (first_mount e.1.spots) its.mounted)) world.accesses
    sound.accesses
accesses_form world step outcome (was_unmounted path at left unused is) sound =
    λ k d within.
    let e = get_or world.accesses k d in
    let its = sound.accesses k d within in
    let differs = unused_differs world.accesses at.mount unused k d within in
    access_mounted world.mounts left e.1 its
    (rw (unmounted_stay world.mounts left at.mount is (first_mount e.1.spots) differs) its.mounted)
accesses_form world step outcome (has_begun number pid tid word path second deed free does) sound =
    All-inserted (λ e. IsAccess world.mounts e.1) number _ world.accesses sound.accesses
    (access_begun world (op_of word) deed pid tid sound (deed_is world (op_of word) path second deed does))
accesses_form world step outcome (has_stepped number access is) sound =
    let stepped = access_step world.groups access in
    let P : ℕ × AccessState → Type 0 = λ e. IsAccess world.mounts e.1 in
    let new = access_stepped world.mounts world.groups access
    (found_each world.mounts number access world.accesses sound.accesses is) in
    cond_both (ends_access stepped.outcome) (remove_entry (at number) world.accesses)
    (set_value (at number) world.accesses stepped.access) (All P)
    (λ ends. All-removed P number world.accesses sound.accesses)
    (λ goes. All-set P number stepped.access world.accesses sound.accesses (λ e same its. new))
accesses_form world step outcome form sound = sound.accesses

sound_form : (world : WorldState) (step : Step) (outcome : Outcome) → Form world step outcome → IsSound world
    → IsSound outcome.world
sound_form world step outcome form sound =
    let moves = step_moves world step outcome form in record {
      marks = marks_form world step outcome form sound.marks;
      few = moves_few world.groups outcome.world.groups moves sound.few;
      queues = moves_numbered world.groups outcome.world.groups moves sound.queues;
      numbered = numbered_form world step outcome form sound.numbered;
      accesses = accesses_form world step outcome form sound;
    }

sound_after : (steps : List Step) (world : WorldState) → IsSound world → IsSound (after world steps)
sound_after [] world sound = sound
sound_after (step ∷ more) world sound =
    sound_after more (next world step).world (sound_form world step (next world step)
    (step_form world step) sound)

-- whatever steps come
pub sound_from_first : (steps : List Step) → IsSound (after initial_world steps)
sound_from_first steps = sound_after steps initial_world (record {
  marks = record {
    order = tt;
    stand = All-nil (λ mark. stands mark ≡ true);
    of_groups = All-nil (λ (mark : Mark). IsOpenOf [] mark.group mark.class);
  };
  few = omega arith;
  queues = All-nil Numbered;
  numbered = numbered_at_first;
  accesses = All-nil (λ (e : ℕ × AccessState). IsAccess initial_world.mounts e.1);
})

pub whole_from_first : (steps : List Step) → IsWhole (after initial_world steps)
whole_from_first steps =
    let world = after initial_world steps in
    let sound = sound_from_first steps in record {
      order = sound.marks.order;
      apart = apart world.groups world.marks sound.marks.of_groups sound.marks.order;
      stand = sound.marks.stand;
      of_groups = sound.marks.of_groups;
      few = sound.few;
      queues = All-weaker Numbered IsQueue queue_is world.groups sound.queues;
      rising = increasing world.accesses sound.numbered.rise;
      used = All-map (λ number. number ≤ world.last_access) (λ (e : ℕ
          × AccessState). e.0) world.accesses sound.numbered.used;
      accesses = All-map (IsAccess world.mounts) (λ (e : ℕ × AccessState). e.1) world.accesses sound.accesses;
    }
  where
    increasing : (accesses : List (ℕ × AccessState)) → AllPairs (λ a b. a.0 < b.0) accesses
        → IsStrictlyIncreasing (keys_of accesses)
    increasing accesses rise =
        let pairs = AllPairs-map (λ (a b : ℕ × AccessState). a.0 < b.0) (λ (a b : ℕ). a < b) (λ e. e.0)
        (λ a b below. below)
        accesses rise in
        λ k within. pairs k (k + 1) 0 (omega arith) within
