-- Calls of listeners keep all groups with their flags, and so each mark keeps the class of its group.
use Rattle.std.proofs.Common.{◌≡◌, ◌∙◌, ℕ, zero, suc, ◌-◌, List, [], ◌∷◌, ◌++◌, Bool, true, false, cond, Option, Some, None, Result, Ok, Err, refl, sym, ap, arith, inl, inr}
use Rattle.std.specs.Prelude.{IfSome, option_map, slice_get, slice_set}
use Rattle.std.specs.Option.{IsSomeAnd}
use Rattle.std.proofs.lemmas.List.Elements.{All-weaker}
use Rattle.fan_bits.specs.declared.class.Class.{Class}
use Rattle.fan_bits.specs.declared.errno.Errno.{Errno}
use Rattle.fan_bits.specs.declared.mark.Mark.{Mark}
use Rattle.fan_bits.specs.Words.{class_of}
use Rattle.fan_listener.specs.declared.answers.Answer.TheVariants as answers
use Rattle.fan_listener.specs.declared.answers.Answered.{Answered}
use Rattle.fan_event.specs.declared.event.Event.{Event}
use Rattle.fan_queue.specs.declared.entry.Put.TheVariants as puts
use Rattle.fan_listener.proofs.Bounds.{makes-answer_of, makes-closed_of, makes-put, makes-read_of, makes-written}
use Rattle.fan_listener.specs.Groups.{IsCalledOnce, answer_from, called_at, closed_in, if_open, is_open, listener_at, outcome_in, put_to, read_from, tried_at, with_listener, written_to}
use Rattle.fan_listener.specs.ListenerState.{ListenerState}
use Rattle.fan_listener.specs.Queue.{put}
use Rattle.fan_listener.specs.Records.{read_of}
use Rattle.fan_listener.specs.Responses.{answer_of, closed_of, written}
use Rattle.fan_world.specs.Bounds.{AreClassed, HasClass, KeepsFlags}

-- a group is there afterwards, with its flags
abbrev Stays : Option ListenerState → Option ListenerState → Type 0
Stays one other = IfSome one (λ listener. IsSomeAnd other (λ later. later.flags ≡ listener.flags))

stays_itself : (one : Option ListenerState) → Stays one one
stays_itself None = tt
stays_itself (Some listener) = refl

stays_set : (groups : List ListenerState) (index place : ℕ) (old new : ListenerState)
    → slice_get groups index ≡ Some old → new.flags ≡ old.flags
    → Stays (slice_get groups place) (slice_get (slice_set groups index new) place)
stays_set [] index place old new here same = absurd cc
stays_set (group ∷ more) zero zero old new here same =
    let is : group ≡ old = cc in same ∙ ap (λ (l : ListenerState). l.flags) (sym is)
stays_set (group ∷ more) zero (suc place) old new here same = stays_itself (slice_get more place)
stays_set (group ∷ more) (suc index) zero old new here same = refl
stays_set (group ∷ more) (suc index) (suc place) old new here same =
    stays_set more index place old new here same

stays_push : (groups : List ListenerState) (place : ℕ) (new : ListenerState)
    → Stays (slice_get groups place) (slice_get (groups ++ new ∷ []) place)
stays_push [] place new = tt
stays_push (group ∷ more) zero new = refl
stays_push (group ∷ more) (suc place) new = stays_push more place new

-- nothing changes
pub keeps_itself : (groups : List ListenerState) → KeepsFlags groups groups
keeps_itself groups group = stays_itself (listener_at groups group)

keeps_pushed : (groups : List ListenerState) (new : ListenerState) → KeepsFlags groups (groups ++ new ∷ [])
keeps_pushed groups new zero = tt
keeps_pushed groups new (suc place) = stays_push groups place new

-- there is one group more
pub keeps_more : (groups new : List ListenerState) (added : ListenerState) → new ≡ groups ++ added ∷ []
    → KeepsFlags groups new
keeps_more groups new added is = rw is (keeps_pushed groups added)

-- one listener becomes another with the same flags
keeps_called : (groups : List ListenerState) (group : ℕ) (old new : ListenerState)
    → listener_at groups group ≡ Some old → new.flags ≡ old.flags
    → KeepsFlags groups (with_listener groups group new)
keeps_called groups zero old new here same query = absurd cc
keeps_called groups (suc index) old new here same zero = tt
keeps_called groups (suc index) old new here same (suc place) =
    let less : suc index - 1 ≡ index = omega arith in
    rw less (stays_set groups index place old new here same)

-- a call of a listener that keeps its flags
module _ {A : Type 0} (absent : A) (call : ListenerState → A × ListenerState)
    (each : (listener : ListenerState) → (call listener).1.flags ≡ listener.flags)
    (groups : List ListenerState) (group : ℕ) where
  keeps_call : (found : Option ListenerState) → listener_at groups group ≡ found
      → KeepsFlags groups (called_at absent call groups group found).1
  keeps_call None here = keeps_itself groups
  keeps_call (Some old) here = keeps_called groups group old (call old).1 here (each old)

-- one that may be refused
module _ {A : Type 0} (call : ListenerState → Result (A × ListenerState) Errno)
    (each : (listener : ListenerState) (done : A) (after : ListenerState) → call listener ≡ Ok (done, after)
    → after.flags ≡ listener.flags)
    (groups : List ListenerState) (group : ℕ) (done : A) (new : List ListenerState) where
  keeps_outcome : (old : ListenerState) (outcome : Result (A × ListenerState) Errno)
      → listener_at groups group ≡ Some old → call old ≡ outcome
      → outcome_in groups group outcome ≡ Ok (done, new) → KeepsFlags groups new
  keeps_outcome old (Err errno) here is given = absurd cc
  keeps_outcome old (Ok more) here is given =
      let both : (more.0, with_listener groups group more.1) ≡ (done, new) = cc in
      let same = ap (λ (r : A × List ListenerState). r.1) both in
      rw (← same) (keeps_called groups group old more.1 here (each old more.0 more.1 is))

  keeps_tried : (found : Option ListenerState) → listener_at groups group ≡ found
      → tried_at call groups group found ≡ Ok (done, new) → KeepsFlags groups new
  keeps_tried None here given = absurd cc
  keeps_tried (Some old) here given = keeps_outcome old (call old) here refl given

pub keeps_read : (groups new : List ListenerState) (group size : ℕ) (bytes : List ℕ)
    → read_from groups group size ≡ Ok (bytes, new) → KeepsFlags groups new
unfolding read_from
keeps_read groups new group size bytes given =
    keeps_tried (λ listener. read_of listener size)
    (λ listener done after is. (makes-read_of listener size done after is).same_flags)
    groups group bytes new (listener_at groups group) refl given

pub keeps_written : (groups new : List ListenerState) (group : ℕ) (bytes : List ℕ) (done : Answered)
    → written_to groups group bytes ≡ Ok (done, new) → KeepsFlags groups new
unfolding written_to
keeps_written groups new group bytes done given =
    keeps_tried (λ listener. written listener bytes)
    (λ listener done after is. (makes-written listener bytes done after is).same_flags)
    groups group done new (listener_at groups group) refl given

pub keeps_put : (groups : List ListenerState) (group : ℕ) (event : ℕ → Event)
    → KeepsFlags groups (put_to groups group event).1
unfolding put_to
keeps_put groups group event =
    keeps_call puts.Closed (λ listener. put listener (event listener.flags))
    (λ listener. (makes-put listener (event listener.flags)).same_flags)
    groups group (listener_at groups group) refl

pub keeps_answer : (groups : List ListenerState) (group entry : ℕ)
    → KeepsFlags groups (answer_from groups group entry).1
unfolding answer_from
keeps_answer groups group entry =
    keeps_call answers.Closed (λ listener. answer_of listener entry)
    (λ listener. (makes-answer_of listener entry).same_flags)
    groups group (listener_at groups group) refl

-- one listener is called once at most
pub keeps_once : (old new : List ListenerState) → IsCalledOnce old new → KeepsFlags old new
keeps_once old new (inl same) = rw same (keeps_itself old)
keeps_once old new (inr (inl call)) = rw call.2 (keeps_put old call.0 call.1)
keeps_once old new (inr (inr call)) = rw call.2 (keeps_answer old call.0 call.1)

-- a group is closed
pub keeps_closed : (groups new : List ListenerState) (group : ℕ) → closed_in groups group ≡ Some new
    → KeepsFlags groups new
unfolding closed_in
keeps_closed groups new group given = by (listener_at groups group) refl given
  where
    open_one : (old : ListenerState) (b : Bool) → listener_at groups group ≡ Some old
        → option_map (λ listener. with_listener groups group (closed_of listener)) (cond b (Some old) None)
        ≡ Some new
        → KeepsFlags groups new
    open_one old false here given = absurd cc
    open_one old true here given =
        let same : with_listener groups group (closed_of old) ≡ new = cc in
        rw (← same) (keeps_called groups group old (closed_of old) here (makes-closed_of old).same_flags)

    by : (found : Option ListenerState) → listener_at groups group ≡ found
        → option_map (λ listener. with_listener groups group (closed_of listener)) (if_open found) ≡ Some new
        → KeepsFlags groups new
    by None here given = absurd cc
    by (Some old) here given = open_one old (is_open old) here given

has_class_kept : (one other : Option ListenerState) (class : Class) → Stays one other
    → IsSomeAnd one (λ listener. class ≡ class_of listener.flags)
    → IsSomeAnd other (λ listener. class ≡ class_of listener.flags)
has_class_kept None other class stays has = absurd has
has_class_kept (Some listener) None class stays has = absurd stays
has_class_kept (Some listener) (Some later) class stays has =
    has ∙ ap (λ flags. class_of flags) (sym stays)

-- marks keep the class of their group
pub classed_kept : (old new : List ListenerState) (marks : List Mark) → KeepsFlags old new
    → AreClassed old marks → AreClassed new marks
classed_kept old new marks keeps classed =
    All-weaker (λ mark. HasClass old mark.group mark.class) (λ mark. HasClass new mark.group mark.class)
    (λ mark has. has_class_kept (listener_at old mark.group) (listener_at new mark.group) mark.class
    (keeps mark.group) has) marks classed
