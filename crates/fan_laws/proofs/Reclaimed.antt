-- Each mark that a step retires waits, and is reclaimed once.
use Rattle.std.proofs.Common.{◌≡◌, ◌∙◌, ℕ, Bool, true, false, cond, not, List, [], ◌∷◌, ◌++◌, Option, Some, None, Err, length, refl, sym, ap, get_or}
use Rattle.std.specs.Prelude.{All, is_some}
use Rattle.std.specs.Bool.{beq}
use Rattle.std.specs.List.{list_any}
use Rattle.std.proofs.lemmas.Bool.{eq-eqb, or_parts}
use Rattle.std.proofs.lemmas.List.Elements.{All-cons, All-head, All-nil, All-tail}
use Rattle.std.proofs.lemmas.List.{append-nil, append_assoc}
use Rattle.std.proofs.lemmas.List.Folds.{list_any_at}
use Rattle.fan_bits.specs.declared.change.Change.{Change}
use Rattle.fan_bits.specs.declared.change.Change.TheVariants.{DropGroup, DropObject}
use Rattle.fan_bits.specs.declared.errno.Errno.{Errno}
use Rattle.fan_bits.specs.declared.kind.Kind.{Kind}
use Rattle.fan_bits.specs.declared.kind.Kind.TheVariants as kinds
use Rattle.fan_bits.specs.declared.mark.Mark.{Mark}
use Rattle.fan_bits.specs.Marks.{changed, gone, retired, same_kind, same_mark}
use Rattle.fan_bits.specs.Words.{rank_of}
use Rattle.fan_lists.proofs.Filters.{filter_none}
use Rattle.fan_machine.specs.Accesses.{access_of}
use Rattle.fan_machine.specs.Batches.{batch_of, graced, held, is_held, reclaimed, started}
use Rattle.fan_machine.specs.Next.{after, attempted, next}
use Rattle.fan_machine.specs.Outcome.{Outcome}
use Rattle.fan_machine.specs.World.{Batch, RetiredMark, WorldState, changed_if, retired_now}
use Rattle.fan_script.specs.declared.reply.Reply.TheVariants as replies
use Rattle.fan_script.specs.declared.step.Step.{Step}
use Rattle.fan_script.specs.declared.step.Step.TheVariants as steps
use Rattle.fan_laws.specs.Reclaiming.{marks_in, pending, reclaimed_in, reclaims, retired_in, retirements}
use Rattle.fan_laws.proofs.Forms.{Form, batch_beside, batch_ended, graced_is, graced_world, has_begun, only, refused, step_form, waiting_after, waiting_beside, was_closed, was_marked, was_unmounted}

kind_itself : (kind : Kind) → same_kind kind kind ≡ true
kind_itself kinds.Inode = refl
kind_itself kinds.Mount = refl
kind_itself kinds.Filesystem = refl

beq_itself : (b : Bool) → beq b b ≡ true
beq_itself true = refl
beq_itself false = refl

-- a mark is the same as itself
mark_itself : (mark : Mark) → same_mark mark mark ≡ true
unfolding same_mark
mark_itself mark =
    rw (
      eq-eqb mark.group mark.group refl,
      eq-eqb (rank_of mark.class) (rank_of mark.class) refl,
      eq-eqb mark.object mark.object refl,
      kind_itself mark.kind,
      eq-eqb mark.mask mark.mask refl,
      eq-eqb mark.ignored mark.ignored refl,
      beq_itself mark.survives,
    ) refl

-- nothing is gone where nothing changed
gone_none : (marks : List Mark) → gone marks marks ≡ []
gone_none marks =
    filter_none (λ mark. not (list_any (same_mark mark) marks)) marks
    (λ k d within. let mark = get_or marks k d in
    rw (list_any_at (same_mark mark) marks k d within (mark_itself mark)) refl)

-- a step that leaves the marks retires nothing
nothing_waits : (old : List RetiredMark) (marks : List Mark) (last : ℕ)
    → old ++ retired_now last (gone marks marks) ≡ old
nothing_waits old marks last = rw (gone_none marks) (append-nil old)

-- what a change retires waits behind what was pending
change_waits : (front waiting : List RetiredMark) (marks : List Mark) (change : Change) (last : ℕ)
    → (front ++ waiting) ++ retired_now last (gone marks (changed marks change))
    ≡ front ++ (waiting ++ retired_now last (retired marks change))
unfolding retired
change_waits front waiting marks change last =
    append_assoc front waiting (retired_now last (gone marks (changed marks change)))

-- so does what the change at the begin of an access retires, if there is one
begin_waits : (front waiting : List RetiredMark) (marks : List Mark) (change : Option Change) (last : ℕ)
    → (front ++ waiting) ++ retired_now last (gone marks (changed_if change marks))
    ≡ front ++ waiting_after change last marks waiting
begin_waits front waiting marks None last = nothing_waits (front ++ waiting) marks last
begin_waits front waiting marks (Some change) last = change_waits front waiting marks change last

-- what waits is pending once a batch of it starts
starts : (world : WorldState) (waiting : List RetiredMark) → waiting ≡ marks_in (batch_of world waiting) ++ []
starts world [] = refl
starts world (retired ∷ more) = sym (append-nil (retired ∷ more))

-- what was pending before a grace is reclaimed, stays in the batch, or waits in the next one
reclaims_batch : (world : WorldState) (batch : Option Batch)
    → marks_in batch ++ world.waiting
    ≡ reclaimed world batch ++ (marks_in (batch_beside (held world batch) world)
    ++ waiting_beside (held world batch) world.waiting)
reclaims_batch world None = starts world world.waiting
reclaims_batch world (Some batch) =
    elim (is_held world batch) as (λ held. batch.retired ++ world.waiting
    ≡ cond held [] batch.retired ++ (marks_in (batch_beside (cond held (Some batch) None) world)
    ++ waiting_beside (cond held (Some batch) None) world.waiting)) [
      | true ↦ refl
      | false ↦ ap (λ more. batch.retired ++ more) (starts world world.waiting)
    ]

-- a refused step reclaims nothing: `grace` is never refused
refused_reclaims : (world : WorldState) (step : Step) (errno : Errno) → attempted world step ≡ Err errno
    → reclaimed_in world step ≡ []
unfolding attempted graced
refused_reclaims world steps.Grace errno is = absurd cc
refused_reclaims world other errno is = refl

-- what was pending and what a step retires is reclaimed by it, or is pending then
reclaims_form : (world : WorldState) (step : Step) (outcome : Outcome) → Form world step outcome
    → pending world ++ retired_now outcome.world.last_access (gone world.marks outcome.world.marks)
    ≡ reclaimed_in world step ++ pending outcome.world
reclaims_form world step outcome (refused _ errno is) =
    nothing_waits (pending world) world.marks world.last_access
    ∙ sym (ap (λ front. front ++ pending world) (refused_reclaims world step errno is))
reclaims_form world step outcome (was_unmounted path at left unused is) =
    change_waits (marks_in world.batch) world.waiting world.marks (DropObject at.mount) world.last_access
reclaims_form world step outcome (was_marked group flags mask path change is) =
    change_waits (marks_in world.batch) world.waiting world.marks change world.last_access
reclaims_form world step outcome (has_begun number pid tid word path second deed free does) =
    begin_waits (marks_in world.batch) world.waiting world.marks (only deed.first deed.last) number
reclaims_form world step outcome (was_closed group closed is) =
    change_waits (marks_in world.batch) world.waiting world.marks (DropGroup group) world.last_access
reclaims_form world step outcome batch_ended =
    nothing_waits (pending world) world.marks world.last_access ∙ reclaims_batch world world.batch
reclaims_form world step outcome form = nothing_waits (pending world) world.marks world.last_access

-- what was pending and all that steps retire is reclaimed, in its order, or is pending then
pub reclaims_all : (steps : List Step) (world : WorldState)
    → pending world ++ retirements world steps ≡ reclaims world steps ++ pending (after world steps)
unfolding retirements reclaims
reclaims_all [] world = append-nil (pending world)
reclaims_all (step ∷ more) world =
    let new = (next world step).world in
    sym (append_assoc (pending world) (retired_in world step) (retirements new more))
    ∙ ap (λ front. front ++ retirements new more) (reclaims_form world step (next world step)
    (step_form world step))
    ∙ append_assoc (reclaimed_in world step) (pending new) (retirements new more)
    ∙ ap (λ rest. reclaimed_in world step ++ rest) (reclaims_all more new)
    ∙ sym (append_assoc (reclaimed_in world step) (reclaims new more) (pending (after new more)))

-- `grace` says how many marks it reclaims
pub counts_reclaimed : (world : WorldState)
    → (next world steps.Grace).reply ≡ replies.Reclaimed (length (reclaimed_in world steps.Grace))
unfolding next attempted graced
counts_reclaimed world = refl

-- a batch is reclaimed whole or not at all, and what waits before a grace is pending after it
waits_beside : (world : WorldState) (batch : Option Batch)
    → (left : List RetiredMark) × (reclaimed world batch ++ left ≡ marks_in batch)
    × (pending (started world (held world batch)) ≡ left ++ world.waiting)
waits_beside world None = ([], refl, sym (starts world world.waiting))
waits_beside world (Some batch) =
    elim (is_held world batch) as (λ held. (left : List RetiredMark)
    × (cond held [] batch.retired ++ left ≡ batch.retired)
    × (pending (started world (cond held (Some batch) None)) ≡ left ++ world.waiting)) [
      | true ↦ (batch.retired, refl, refl)
      | false ↦ ([], append-nil batch.retired, sym (starts world world.waiting))
    ]

pub waits_on : (world : WorldState)
    → (left : List RetiredMark) × (reclaimed_in world steps.Grace ++ left ≡ marks_in world.batch)
    × (pending (next world steps.Grace).world ≡ left ++ world.waiting)
unfolding next attempted graced
waits_on world = waits_beside world world.batch

not_some : {A : Type 0} (found : Option A) → is_some found ≡ false → found ≡ None
not_some None is = refl
not_some (Some x) is = absurd cc

-- a batch is not held where none of its accesses is open
pub none_held : (world : WorldState) (numbers : List ℕ) → All (λ number. access_of world number
    ≡ None) numbers
    → list_any (λ number. is_some (access_of world number)) numbers ≡ false
none_held world [] none = refl
none_held world (number ∷ more) none =
    let P : ℕ → Type 0 = λ number. access_of world number ≡ None in
    rw (All-head P number more none) (none_held world more (All-tail P number more none))

-- and where it is not held none of them is open
pub none_open : (world : WorldState) (numbers : List ℕ)
    → list_any (λ number. is_some (access_of world number)) numbers ≡ false
    → All (λ number. access_of world number ≡ None) numbers
none_open world [] free = All-nil (λ (number : ℕ). access_of world number ≡ None)
none_open world (number ∷ more) free =
    let P : ℕ → Type 0 = λ number. access_of world number ≡ None in
    let both = or_parts (is_some (access_of world number))
    (list_any (λ number. is_some (access_of world number)) more) free in
    All-cons P number more (not_some (access_of world number) both.0) (none_open world more both.1)

-- a batch that is not held is reclaimed
pub free_reclaimed : (world : WorldState) (batch : Batch) → world.batch ≡ Some batch
    → All (λ number. access_of world number ≡ None) batch.accesses
    → reclaimed_in world steps.Grace ≡ batch.retired
free_reclaimed world batch is none =
    ap (λ (b : Option Batch). reclaimed world b) is
    ∙ ap (λ (held : Bool). cond held [] batch.retired) (none_held world batch.accesses none)

nothing_held : (world : WorldState) (batch : Option Batch) → world.accesses ≡ [] → held world batch ≡ None
nothing_held world None none = refl
nothing_held world (Some batch) none =
    ap (λ (held : Bool). cond {A = Option Batch} held (Some batch) None)
    (none_held world batch.accesses (λ k d within. rw none refl))

-- where nothing is held, no mark waits after a grace
none_waits : (world : WorldState) → world.accesses ≡ [] → (graced_world world).waiting ≡ []
none_waits world none = rw (nothing_held world world.batch none) refl

-- and none is pending after a second one
none_pending : (world : WorldState) → world.accesses ≡ [] → world.waiting ≡ []
    → pending (graced_world world) ≡ []
none_pending world none waits = rw (nothing_held world world.batch none, waits) refl

pub nothing_pending : (world : WorldState) →
    let first = (next world steps.Grace).world in
    let second = (next first steps.Grace).world in
    world.accesses ≡ [] → pending second ≡ []
nothing_pending world none =
    rw (graced_is world, graced_is (graced_world world))
    (none_pending (graced_world world) none (none_waits world none))
