-- What a step does to the marks: nothing, or one change; and what each mark keeps.
use Rattle.std.proofs.Common.{◌≡◌, ◌∙◌, ℕ, Bool, true, false, cond, List, [], ◌∷◌, ◌++◌, Option, Some, None, Ok, map, refl, sym, ap, subst, arith, not, get_or}
use Rattle.std.proofs.lemmas.Bool.{and_parts, cond_both, eqb-true}
use Rattle.std.proofs.lemmas.Bool.Decides.{nat_tests}
use Rattle.std.proofs.lemmas.List.Elements.{All-append, All-filter, All-head, All-map, All-tail, All-weaker, filter_passes}
use Rattle.std.proofs.lemmas.List.Kept.{AllPairs-cons}
use Rattle.std.proofs.lemmas.Option.{IfSome_then}
use Rattle.std.specs.List.{AllPairs}
use Rattle.std.specs.Prelude.{◌&&◌, ◌==◌, All, IfOk, IfSome, filter}
use Rattle.fan_bits.specs.declared.change.Change.{Change}
use Rattle.fan_bits.specs.declared.change.Change.TheVariants.{Clear, DropGroup, DropObject, Flush, Put}
use Rattle.fan_bits.specs.declared.class.Class.{Class}
use Rattle.fan_bits.specs.declared.mark.Mark.{Mark}
use Rattle.fan_bits.specs.declared.mark_call.MarkWords.{MarkWords}
use Rattle.fan_bits.specs.Marks.{Rises, changed, cleared, is_before, is_behind, listed, mark_of, or_blank, order_number, order_of, put_mark, put_on, same_kind, standing, stands}
use Rattle.fan_bits.specs.Words.{class_of}
use Rattle.fan_bits.proofs.MarkLists.{IsAt, Rises-filter, Rises-map, Rises-put, cleared_keeps, listed_all, listed_rises}
use Rattle.fan_bits.proofs.Updates.{Keeps, put_mark_keeps}
use Rattle.fan_lists.proofs.Finds.{All-find, find_passes}
use Rattle.fan_lists.proofs.Pairs.{AllPairs-nil}
use Rattle.fan_listener.specs.Groups.{open_listener}
use Rattle.fan_listener.specs.ListenerState.{ListenerState}
use Rattle.fan_machine.specs.Marking.{allowed, change_by, change_for, is_flush, put_on as put_at}
use Rattle.fan_machine.specs.World.{WorldState}
use Rattle.fan_laws.specs.Whole.{AreApart, IsOpenOf}
use Rattle.fan_laws.proofs.Attempts.{done_does, found_does, unless_does}

-- ---- one change

-- what holds of a new mark that a change puts holds of all that it puts
abbrev pub PutsOnly : (Mark → Type 0) → Change → Type 0
PutsOnly P (Put group class words object) =
    (mark : Mark) → mark.group ≡ group → mark.class ≡ class → mark.object ≡ object → P mark
PutsOnly P _ = Unit {0}

found_each : (P : Mark → Type 0) (marks : List Mark) (group object : ℕ) → All P marks
    → IfSome (mark_of marks group object) P
found_each P marks group object each = go (mark_of marks group object) refl
  where
    go : (found : Option Mark) → mark_of marks group object ≡ found → IfSome found P
    go None is = tt
    go (Some mark) is = All-find (λ mark. mark.group == group && mark.object == object) P marks mark each is

module _ (P : Mark → Type 0) (keeps : (old new : Mark) → Keeps old new → P old → P new) where
  put_each : (old : Option Mark) (group : ℕ) (class : Class) (words : MarkWords) (object : ℕ)
      → IfSome old P → PutsOnly P (Put group class words object)
      → IfSome (put_mark old group class words object) P
  put_each None group class words object was new =
      IfSome_then (put_mark None group class words object) (put_mark_keeps None group class words object)
      (λ mark kept. new mark kept.group kept.class kept.object)
  put_each (Some old) group class words object was new =
      IfSome_then (put_mark (Some old) group class words object) (put_mark_keeps
      (Some old) group class words object)
      (λ mark kept. keeps old mark kept was)

  -- what a mark keeps as its bits change holds of all marks after a change
  pub changed_each : (marks : List Mark) (change : Change) → PutsOnly P change → All P marks
      → All P (changed marks change)
  unfolding changed
  changed_each marks (Put group class words object) new each =
      let order = order_number class group in
      let front = filter (is_before object order) marks in
      let put = put_mark (mark_of marks group object) group class words object in
      All-append P (front ++ listed put) (filter (is_behind object order) marks)
      (All-append P front (listed put) (All-filter (is_before object order) P marks each)
      (listed_all P put (put_each (mark_of marks group object) group class words object
      (found_each P marks group object each) new)))
      (All-filter (is_behind object order) P marks each)
  changed_each marks (Flush group kind) new each =
      All-filter (λ mark. not (mark.group == group && same_kind mark.kind kind)) P marks each
  changed_each marks (Clear object) new each =
      All-filter stands P (map (cleared object) marks) (All-map P (cleared object) marks
      (All-weaker P (λ mark. P (cleared object mark)) (λ mark is. keeps mark (cleared object mark)
      (cleared_keeps object mark) is)
      marks each))
  changed_each marks (DropGroup group) new each = All-filter (λ mark. not (mark.group == group)) P marks each
  changed_each marks (DropObject object) new each = All-filter (λ mark. not
      (mark.object == object)) P marks each

-- each mark stands
standing_is : (mark : Mark) → IfSome (standing mark) (λ left. stands left ≡ true)
standing_is mark =
    (elim (stands mark) as (λ b. stands mark ≡ b → IfSome (cond {A = Option Mark} b (Some mark) None)
    (λ left. stands left ≡ true)) [
      | true ↦ λ is. is
      | false ↦ λ not. tt
    ]) refl

put_stands : (old : Option Mark) (group : ℕ) (class : Class) (words : MarkWords) (object : ℕ)
    → IfSome (put_mark old group class words object) (λ left. stands left ≡ true)
unfolding put_mark
put_stands old group class words object =
    standing_is (put_on words.verb words (or_blank old group class words.kind object))

pub changed_stand : (marks : List Mark) (change : Change) → All (λ mark. stands mark ≡ true) marks
    → All (λ mark. stands mark ≡ true) (changed marks change)
unfolding changed
changed_stand marks (Put group class words object) each =
    let P : Mark → Type 0 = λ mark. stands mark ≡ true in
    let order = order_number class group in
    let front = filter (is_before object order) marks in
    let put = put_mark (mark_of marks group object) group class words object in
    All-append P (front ++ listed put) (filter (is_behind object order) marks)
    (All-append P front (listed put) (All-filter (is_before object order) P marks each)
    (listed_all P put (put_stands (mark_of marks group object) group class words object)))
    (All-filter (is_behind object order) P marks each)
changed_stand marks (Flush group kind) each =
    All-filter (λ mark. not (mark.group == group && same_kind mark.kind kind)) (λ mark. stands mark
    ≡ true) marks each
changed_stand marks (Clear object) each = filter_passes stands (map (cleared object) marks)
changed_stand marks (DropGroup group) each =
    All-filter (λ mark. not (mark.group == group)) (λ mark. stands mark ≡ true) marks each
changed_stand marks (DropObject object) each =
    All-filter (λ mark. not (mark.object == object)) (λ mark. stands mark ≡ true) marks each

-- all marks of a group have the class with which a change puts a mark of it
unfoldable pub HasClass : List Mark → Change → Type 0
HasClass marks (Put group class words object) = All (λ mark. mark.group ≡ group → mark.class ≡ class) marks
HasClass marks _ = Unit {0}

-- the mark of a group that is found on an object
record IsFound (group object : ℕ) (class : Class) (mark : Mark) : Type 0 where
  of_group : mark.group ≡ group
  on_object : mark.object ≡ object
  of_class : mark.class ≡ class

found_is : (marks : List Mark) (group object : ℕ) (class : Class) (mark : Mark)
    → All (λ mark. mark.group ≡ group → mark.class ≡ class) marks → mark_of marks group object ≡ Some mark
    → IsFound group object class mark
found_is marks group object class mark each is =
    let test : Mark → Bool = λ mark. mark.group == group && mark.object == object in
    let both = and_parts (mark.group == group) (mark.object == object) (find_passes test marks mark is) in
    let its = eqb-true mark.group group both.0 in record {
      of_group = its;
      on_object = eqb-true mark.object object both.1;
      of_class = All-find test (λ mark. mark.group ≡ group → mark.class ≡ class) marks mark each is its;
    }

-- so a mark that is put has its place
put_at_place : (marks : List Mark) (group : ℕ) (class : Class) (words : MarkWords) (object : ℕ)
    (old : Option Mark)
    → All (λ mark. mark.group ≡ group → mark.class ≡ class) marks → mark_of marks group object ≡ old
    → IfSome (put_mark old group class words object) (IsAt object (order_number class group))
put_at_place marks group class words object None each is =
    IfSome_then (put_mark None group class words object) (put_mark_keeps None group class words object)
    (λ mark kept. (kept.object, rw (kept.class, kept.group) refl))
put_at_place marks group class words object (Some old) each is =
    let found = found_is marks group object class old each is in
    IfSome_then (put_mark (Some old) group class words object) (put_mark_keeps
    (Some old) group class words object)
    (λ mark kept. (
      kept.object ∙ found.on_object,
      rw (kept.class, kept.group, found.of_class, found.of_group) refl,
    ))

-- the marks stay in order
pub changed_rises : (marks : List Mark) (change : Change) → HasClass marks change → Rises marks
    → Rises (changed marks change)
unfolding changed HasClass
changed_rises marks (Put group class words object) each rises =
    let order = order_number class group in
    let put = put_mark (mark_of marks group object) group class words object in
    Rises-put object order marks (listed put) rises (listed_rises put)
    (listed_all (IsAt object order) put (put_at_place marks group class words object
    (mark_of marks group object) each refl))
changed_rises marks (Flush group kind) each rises =
    Rises-filter (λ mark. not (mark.group == group && same_kind mark.kind kind)) marks rises
changed_rises marks (Clear object) each rises =
    Rises-filter stands (map (cleared object) marks) (Rises-map (cleared object)
    (cleared_keeps object) marks rises)
changed_rises marks (DropGroup group) each rises = Rises-filter (λ mark. not
    (mark.group == group)) marks rises
changed_rises marks (DropObject object) each rises = Rises-filter (λ mark. not
    (mark.object == object)) marks rises

-- ---- marks of open groups

-- a change that a call makes puts a mark of a group that is open, by its class
unfoldable pub IsAllowed : List ListenerState → Change → Type 0
IsAllowed groups (Put group class words object) = IsOpenOf groups group class
IsAllowed groups _ = Unit {0}

allowed_put : (world : WorldState) (group flags : ℕ) (words : MarkWords) (path : List ℕ) (object : ℕ)
    → IsOpenOf world.groups group (class_of flags)
    → IfOk (allowed world flags (Put group (class_of flags) words object)) (IsAllowed world.groups)
unfolding IsAllowed
allowed_put world group flags words path object its = search (done_does)

put_allowed : (world : WorldState) (group flags : ℕ) (words : MarkWords) (path : List ℕ)
    → IsOpenOf world.groups group (class_of flags)
    → IfOk (put_at world group flags words path) (IsAllowed world.groups)
put_allowed world group flags words path its = search (done_does, unless_does, allowed_put) depth 9

by_allowed : (world : WorldState) (group flags : ℕ) (words : MarkWords) (path : List ℕ)
    → IsOpenOf world.groups group (class_of flags)
    → IfOk (change_by world group flags words path) (IsAllowed world.groups)
unfolding IsAllowed
by_allowed world group flags words path its =
    cond_both (is_flush words.verb) (Ok (Flush group words.kind)) (put_at world group flags words path)
    (λ change. IfOk change (IsAllowed world.groups)) (λ is. tt)
    (λ not. put_allowed world group flags words path its)

opened_of : (groups : List ListenerState) (group : ℕ) (listener : ListenerState)
    → open_listener groups group ≡ Some listener → IsOpenOf groups group (class_of listener.flags)
opened_of groups group listener found = record { listener = listener; found = found; named = refl }

for_allowed : (world : WorldState) (group flags mask : ℕ) (path : List ℕ)
    → IfOk (change_for world group flags mask path) (IsAllowed world.groups)
unfolding change_for
for_allowed world group flags mask path = search (found_does, unless_does, by_allowed, opened_of) depth 9

pub change_allowed : (world : WorldState) (group flags mask : ℕ) (path : List ℕ) (change : Change)
    → change_for world group flags mask path ≡ Ok change → IsAllowed world.groups change
change_allowed world group flags mask path change is =
    subst (λ tried. IfOk tried (IsAllowed world.groups)) is (for_allowed world group flags mask path)

-- all marks are of open groups, by their classes
abbrev pub AreOpenOf : List ListenerState → List Mark → Type 0
AreOpenOf groups marks = All (λ mark. IsOpenOf groups mark.group mark.class) marks

pub of_class : (groups : List ListenerState) (group : ℕ) (class other : Class) → IsOpenOf groups group class
    → IsOpenOf groups group other → class ≡ other
of_class groups group class other one its =
    let same : one.listener ≡ its.listener = some_same (sym one.found ∙ its.found) in
    sym one.named ∙ ap (λ (l : ListenerState). class_of l.flags) same ∙ its.named
  where
    some_same : {A : Type 0} {x y : A} → Some x ≡ Some y → x ≡ y
    some_same is = cc

-- so an allowed change has the class of its group
pub allowed_class : (groups : List ListenerState) (marks : List Mark) (change : Change)
    → IsAllowed groups change
    → AreOpenOf groups marks → HasClass marks change
unfolding IsAllowed HasClass
allowed_class groups marks (Put group class words object) its each =
    All-weaker (λ mark. IsOpenOf groups mark.group mark.class) (λ mark. mark.group ≡ group → mark.class
    ≡ class)
    (λ mark one same. of_class groups group mark.class class (subst
    (λ g. IsOpenOf groups g mark.class) same one) its)
    marks each
allowed_class groups marks (Flush group kind) its each = tt
allowed_class groups marks (Clear object) its each = tt
allowed_class groups marks (DropGroup group) its each = tt
allowed_class groups marks (DropObject object) its each = tt

puts_open : (groups : List ListenerState) (change : Change) → IsAllowed groups change
    → PutsOnly (λ mark. IsOpenOf groups mark.group mark.class) change
unfolding IsAllowed
puts_open groups (Put group class words object) its =
    λ mark same_group same_class same_object. rw (same_group, same_class) its
puts_open groups (Flush group kind) its = tt
puts_open groups (Clear object) its = tt
puts_open groups (DropGroup group) its = tt
puts_open groups (DropObject object) its = tt

-- and leaves marks of open groups
pub changed_open : (groups : List ListenerState) (marks : List Mark) (change : Change)
    → IsAllowed groups change
    → AreOpenOf groups marks → AreOpenOf groups (changed marks change)
changed_open groups marks change its each =
    changed_each (λ mark. IsOpenOf groups mark.group mark.class)
    (λ old new kept is. rw (kept.group, kept.class) is) marks change (puts_open groups change its) each

-- marks in order, of one class for a group, are apart
pub apart : (groups : List ListenerState) (marks : List Mark) → AreOpenOf groups marks → Rises marks
    → AllPairs AreApart marks
apart groups [] each rises = AllPairs-nil AreApart
apart groups (mark ∷ more) each rises =
    let P : Mark → Type 0 = λ mark. IsOpenOf groups mark.group mark.class in
    let first = All-head P mark more each in
    let rest = All-tail P mark more each in
    AllPairs-cons AreApart mark more
    (λ k d within same_group same_object.
    let other = get_or more k d in
    let class : mark.class ≡ other.class =
    of_class groups other.group mark.class other.class (subst
    (λ g. IsOpenOf groups g mark.class) same_group first) (rest k d within) in
    let order : order_of mark ≡ order_of other = rw (class, same_group) refl in
    let before = rises.0 k d within in
    grind (arith, nat_tests))
    (apart groups more rest rises.1)
