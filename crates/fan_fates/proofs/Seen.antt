-- The groups that an open access asks and tells: each is there.
use Rattle.std.proofs.Common.{◌≡◌, ℕ, Bool, true, false, List, [], ◌∷◌, ◌++◌, Option, Some, refl, ap, sym, subst}
use Rattle.std.proofs.lemmas.Bool.{cond_both}
use Rattle.std.proofs.lemmas.List.Elements.{All-append, All-contains, All-map, All-nil, All-weaker}
use Rattle.std.specs.Map.{remove_entry, set_value}
use Rattle.std.specs.Prelude.{All}
use Rattle.fan_access.specs.Access.{AccessState, access_step, asks, tells}
use Rattle.fan_access.specs.Rounds.{Round, Turn, asked_rounds, told_rounds, turns, turns_of}
use Rattle.fan_bits.specs.declared.change.Change.{Change}
use Rattle.fan_bits.specs.declared.change.Change.TheVariants.{Clear}
use Rattle.fan_bits.specs.declared.mark.Mark.{Mark}
use Rattle.fan_bits.specs.declared.place.Interest.{Interest}
use Rattle.fan_bits.specs.Interest.{interests}
use Rattle.fan_bits.specs.Outcomes.{ends_access}
use Rattle.fan_bits.proofs.Interests.{IsWish, wishes-interests}
use Rattle.fan_fates.proofs.Lifted.{lifted}
use Rattle.fan_laws.specs.Causes.{HasNext}
use Rattle.fan_laws.specs.Whole.{IsOpenOf}
use Rattle.fan_laws.proofs.Ahead.{step_same}
use Rattle.fan_laws.proofs.Entries.{All-inserted, All-removed, All-set, at, found_contained}
use Rattle.fan_laws.proofs.Deeds.{ChangesOnce, changes_none, clears, deed_is, drops}
use Rattle.fan_laws.proofs.Forms.{Form, has_begun, has_stepped, step_form}
use Rattle.fan_laws.proofs.Marked.{changed_each}
use Rattle.fan_laws.proofs.Moves.{opened_is}
use Rattle.fan_laws.proofs.Whole.{whole_from_first}
use Rattle.fan_lists.proofs.Places.{All-slice_get}
use Rattle.fan_listener.specs.Groups.{listener_at}
use Rattle.fan_listener.specs.ListenerState.{ListenerState}
use Rattle.fan_machine.specs.Accesses.{access_of, op_of}
use Rattle.fan_machine.specs.Next.{after, next}
use Rattle.fan_machine.specs.Outcome.{Outcome}
use Rattle.fan_machine.specs.World.{WorldState, changed_if, initial_world}
use Rattle.fan_script.specs.declared.step.Step.{Step}

-- a group is there, closed or not
pub record There (groups : List ListenerState) (group : ℕ) : Type 0 where
  pub listener : ListenerState
  pub found : listener_at groups group ≡ Some listener

-- the groups of all marks by which an access goes are there
abbrev pub Sees : List ListenerState → AccessState → Type 0
Sees groups access = All (λ (mark : Mark). There groups mark.group) access.view

abbrev Seen : List ListenerState → List (ℕ × AccessState) → Type 0
Seen groups accesses = All (λ (entry : ℕ × AccessState). Sees groups entry.1) accesses

-- ---- whom an access asks and tells

turn_there : (groups : List ListenerState) (marks : List Mark) (round : Round)
    → All (λ (mark : Mark). There groups mark.group) marks
    → All (λ (turn : Turn). There groups turn.interest.group) (turns_of round (interests marks round.happening))
turn_there groups marks round each =
    All-map (λ (turn : Turn). There groups turn.interest.group)
    (λ (interest : Interest). record { happening = round.happening; name = round.name; interest = interest })
    (interests marks round.happening)
    (All-weaker (IsWish marks round.happening) (λ interest. There groups interest.group)
    (λ interest wish. subst (λ (group : ℕ). There groups group)
    (sym (ap (λ (one : Interest). one.group) wish.whole))
    (All-contains (λ (mark : Mark). There groups mark.group) marks wish.mark each wish.among))
    (interests marks round.happening) (wishes-interests marks round.happening))

turns_there : (groups : List ListenerState) (marks : List Mark) (rounds : List Round)
    → All (λ (mark : Mark). There groups mark.group) marks
    → All (λ (turn : Turn). There groups turn.interest.group) (turns marks rounds)
turns_there groups marks [] each = All-nil (λ (turn : Turn). There groups turn.interest.group)
turns_there groups marks (round ∷ more) each =
    All-append (λ (turn : Turn). There groups turn.interest.group)
    (turns_of round (interests marks round.happening)) (turns marks more)
    (turn_there groups marks round each) (turns_there groups marks more each)

-- the group of the next turn is there
pub next_there : (groups : List ListenerState) (access : AccessState) (perm : Bool) (turn : Turn)
    → Sees groups access → HasNext perm access turn → There groups turn.interest.group
next_there groups access true turn sees (at, asking, is) =
    All-slice_get (λ (turn : Turn). There groups turn.interest.group) (asks access) at turn
    (turns_there groups access.view (asked_rounds access.op access.spots) sees) is
next_there groups access false turn sees (at, telling, is) =
    All-slice_get (λ (turn : Turn). There groups turn.interest.group) (tells access) at turn
    (turns_there groups access.view (told_rounds access.op access.spots) sees) is

-- ---- each step

there_later : (world : WorldState) (step : Step) (marks : List Mark)
    → All (λ (mark : Mark). There world.groups mark.group) marks
    → All (λ (mark : Mark). There (next world step).world.groups mark.group) marks
there_later world step marks each =
    All-weaker (λ (mark : Mark). There world.groups mark.group)
    (λ (mark : Mark). There (next world step).world.groups mark.group)
    (λ mark its. record { listener = _; found = lifted world step mark.group its.listener its.found })
    marks each

-- a single step of an access leaves its view
same_view : (groups : List ListenerState) (access : AccessState)
    → (access_step groups access).access.view ≡ access.view
same_view groups access = ap (λ (one : AccessState). one.view) (step_same access groups access.phase)

-- what an operation does to the marks before its access takes its view leaves marks of groups that are there
view_there : (groups : List ListenerState) (first last : Option Change) (marks : List Mark)
    → ChangesOnce first last → All (λ (mark : Mark). There groups mark.group) marks
    → All (λ (mark : Mark). There groups mark.group) (changed_if first marks)
view_there groups first last marks changes_none each = each
view_there groups first last marks (clears object) each =
    changed_each (λ (mark : Mark). There groups mark.group) (λ old new kept its. rw (kept.group) its) marks
    (Clear object) tt each
view_there groups first last marks (drops object) each = each

seen_form : (world : WorldState) (step : Step) (outcome : Outcome) → Form world step outcome
    → All (λ (mark : Mark). There outcome.world.groups mark.group) world.marks
    → Seen outcome.world.groups world.accesses → Seen outcome.world.groups outcome.world.accesses
seen_form world step outcome (has_begun number pid tid word path second deed free does) marks seen =
    let once = (deed_is world (op_of word) path second deed does).once in
    All-inserted (λ (entry : ℕ × AccessState). Sees outcome.world.groups entry.1) number _ world.accesses
    seen (view_there world.groups deed.first deed.last world.marks once marks)
seen_form world step outcome (has_stepped number access is) marks seen =
    let stepped = access_step world.groups access in
    let groups = stepped.groups in
    let P : ℕ × AccessState → Type 0 = λ entry. Sees groups entry.1 in
    let its : Sees groups access =
    All-contains P world.accesses (number, access) seen (found_contained number access world.accesses is) in
    let new : Sees groups stepped.access =
    subst (All (λ (mark : Mark). There groups mark.group)) (sym (same_view world.groups access)) its in
    cond_both (ends_access stepped.outcome) (remove_entry (at number) world.accesses)
    (set_value (at number) world.accesses stepped.access) (All P)
    (λ ends. All-removed P number world.accesses seen)
    (λ goes. All-set P number stepped.access world.accesses seen (λ entry same was. new))
seen_form world step outcome form marks seen = seen

seen_next : (world : WorldState) (step : Step)
    → All (λ (mark : Mark). There world.groups mark.group) world.marks
    → Seen world.groups world.accesses → Seen (next world step).world.groups (next world step).world.accesses
seen_next world step marks seen =
    seen_form world step (next world step) (step_form world step)
    (there_later world step world.marks marks)
    (All-weaker (λ (entry : ℕ × AccessState). Sees world.groups entry.1)
    (λ (entry : ℕ × AccessState). Sees (next world step).world.groups entry.1)
    (λ entry its. there_later world step entry.1.view its) world.accesses seen)

-- the groups of the marks are there, since they are open
marks_there : (steps : List Step) → let world = after initial_world steps in
    All (λ (mark : Mark). There world.groups mark.group) world.marks
marks_there steps =
    let world = after initial_world steps in
    All-weaker (λ (mark : Mark). IsOpenOf world.groups mark.group mark.class)
    (λ (mark : Mark). There world.groups mark.group)
    (λ mark its. let was = opened_is world.groups mark.group its.listener its.found in
    record { listener = its.listener; found = was.there }) world.marks (whole_from_first steps).of_groups

-- one step after others
after_push : (before : List Step) (step : Step) (world : WorldState)
    → after world (before ++ step ∷ []) ≡ (next (after world before) step).world
after_push [] step world = refl
after_push (other ∷ before) step world = after_push before step (next world other).world

seen_after : (later before : List Step) → let world = after initial_world before in
    Seen world.groups world.accesses
    → Seen (after world later).groups (after world later).accesses
seen_after [] before seen = seen
seen_after (step ∷ later) before seen =
    let world = after initial_world before in
    let same : after initial_world (before ++ step ∷ []) ≡ (next world step).world =
    after_push before step initial_world in
    let now = seen_next world step (marks_there before) seen in
    subst (λ (w : WorldState). Seen (after w later).groups (after w later).accesses) same
    (seen_after later (before ++ step ∷ [])
    (subst (λ (w : WorldState). Seen w.groups w.accesses) (sym same) now))

-- each open access sees groups that are there
pub sees_from_first : (steps : List Step) (number : ℕ) (access : AccessState)
    → access_of (after initial_world steps) number ≡ Some access
    → Sees (after initial_world steps).groups access
sees_from_first steps number access is =
    let world = after initial_world steps in
    All-contains (λ (entry : ℕ × AccessState). Sees world.groups entry.1) world.accesses (number, access)
    (seen_after steps [] (All-nil (λ (entry : ℕ × AccessState). Sees [] entry.1)))
    (found_contained number access world.accesses is)
