-- A step adds a listener, an entry of one, or fewer than 2^32 retired marks.
use Rattle.std.proofs.Common.{◌≡◌, ℕ, zero, suc, ◌+◌, ◌-◌, ◌<◌, ◌≤◌, ◌^◌, List, Option, Some, None, length, refl, arith, inl, inr}
use Rattle.std.specs.Prelude.{All}
use Rattle.fan_bits.specs.declared.change.Change.{Change}
use Rattle.fan_bits.specs.declared.mark.Mark.{Mark}
use Rattle.fan_grace.specs.declared.section.Section.{Section}
use Rattle.fan_groups.specs.Bounds.{AreBounded}
use Rattle.fan_groups.proofs.Bounded.{bounded_call, bounded_later, makes_less}
use Rattle.fan_listener.specs.declared.answers.Answer.TheVariants as answers
use Rattle.fan_event.specs.declared.event.Event.{Event}
use Rattle.fan_queue.specs.declared.entry.Put.TheVariants as puts
use Rattle.fan_listener.proofs.Bounds.{makes-answer_of, makes-put}
use Rattle.fan_listener.specs.Bounds.{Makes}
use Rattle.fan_listener.specs.Groups.{IsCalledOnce, answer_from, called_at, listener_at, put_to, with_listener}
use Rattle.fan_listener.specs.ListenerState.{ListenerState}
use Rattle.fan_listener.specs.Queue.{put}
use Rattle.fan_listener.specs.Responses.{answer_of}
use Rattle.fan_world.specs.Bounds.{AreClassed, IsClassedIf, IsSafe, KeepsFlags}
use Rattle.fan_world.specs.Machine.{PartsOver, sections_of}
use Rattle.fan_machine.specs.World.{changed_if}
use Rattle.fan_world.specs.Marks.{retired_if}
use Rattle.fan_world.proofs.Classed.{classed_changed}
use Rattle.fan_world.proofs.Flags.{classed_kept}

bounded_called : (calls : ℕ) (groups : List ListenerState) (group : ℕ) (old new : ListenerState)
    → AreBounded calls groups → listener_at groups group ≡ Some old → Makes 1 old new
    → AreBounded (calls + 1) (with_listener groups group new)
bounded_called calls groups zero old new bounded here makes = absurd cc
bounded_called calls groups (suc index) old new bounded here makes =
    let less : suc index - 1 ≡ index = omega arith in
    rw less (bounded_call calls index groups old new bounded here makes)

bounded_put : (calls : ℕ) (groups : List ListenerState) (group : ℕ) (event : ℕ → Event)
    → AreBounded calls groups
    → AreBounded (calls + 1) (put_to groups group event).1
unfolding put_to
bounded_put calls groups group event bounded = by (listener_at groups group) refl
  where
    by : (found : Option ListenerState) → listener_at groups group ≡ found
        → AreBounded (calls + 1)
        (called_at puts.Closed (λ listener. put listener (event listener.flags)) groups group found).1
    by None here = bounded_later calls groups bounded
    by (Some old) here =
        bounded_called calls groups group old (put old (event old.flags)).1 bounded here
        (makes-put old (event old.flags))

bounded_answer : (calls : ℕ) (groups : List ListenerState) (group entry : ℕ) → AreBounded calls groups
    → AreBounded (calls + 1) (answer_from groups group entry).1
unfolding answer_from
bounded_answer calls groups group entry bounded = by (listener_at groups group) refl
  where
    by : (found : Option ListenerState) → listener_at groups group ≡ found
        → AreBounded (calls + 1)
        (called_at answers.Closed (λ listener. answer_of listener entry) groups group found).1
    by None here = bounded_later calls groups bounded
    by (Some old) here =
        bounded_called calls groups group old (answer_of old entry).1 bounded here
        (makes_less old (answer_of old entry).1 (makes-answer_of old entry))

-- a call of one listener
pub bounded_once : (calls : ℕ) (old new : List ListenerState) → AreBounded calls old → IsCalledOnce old new
    → AreBounded (calls + 1) new
bounded_once calls old new bounded (inl same) = rw same (bounded_later calls old bounded)
bounded_once calls old new bounded (inr (inl call)) = rw call.2 (bounded_put calls old call.0 call.1 bounded)
bounded_once calls old new bounded (inr (inr call)) =
    rw call.2 (bounded_answer calls old call.0 call.1 bounded)

-- the entries of bounded listeners have room
pub few_entries : (calls : ℕ) (groups : List ListenerState) → calls < 2 ^ 30 → AreBounded calls groups
    → All (λ listener. listener.next_entry ≤ 2 ^ 31) groups
few_entries calls groups few bounded =
    λ index other within. omega (arith, (bounded.each index other within).entries)

classed_changed_if : (groups : List ListenerState) (marks : List Mark) (change : Option Change)
    → IsClassedIf groups change → AreClassed groups marks → AreClassed groups (changed_if change marks)
classed_changed_if groups marks None has classed = classed
classed_changed_if groups marks (Some change) has classed = classed_changed groups marks change has classed

-- the sections of the open accesses are in, as parts are kept
pub kept_there : (S : Type 0) (inside : S → List Section → Type 0) (calls : ℕ) (kept parts : PartsOver S)
    → kept ≡ parts → IsSafe inside calls parts → inside kept.sections (sections_of kept.accesses)
kept_there S inside calls kept parts is safe = rw is safe.there

-- parts as they are in a method, of which what is known is known at its entry
module _ (S : Type 0) (inside : S → List Section → Type 0) (calls : ℕ) (old entry new : PartsOver S)
    (is : old ≡ entry) (safe : IsSafe inside calls entry)
    (bounded : AreBounded calls old.groups → AreBounded (calls + 1) new.groups)
    (keeps : KeepsFlags old.groups new.groups) (batch : new.batch ≡ old.batch) where
  pub old_safe : IsSafe inside calls old
  old_safe = rw is safe

  -- groups changed, and no marks; an access may have ended
  pub safe_groups : new.marks ≡ old.marks → new.waiting ≡ old.waiting
      → length new.accesses ≤ length old.accesses → inside new.sections (sections_of new.accesses)
      → IsSafe inside (calls + 1) new
  safe_groups marks waiting few there = record {
    bounded = bounded old_safe.bounded;
    classed = rw marks (classed_kept old.groups new.groups old.marks keeps old_safe.classed);
    counted = rw (waiting, batch) (let counted = old_safe.counted in omega (arith, counted));
    opened = let opened = old_safe.opened in omega (arith, opened, few);
    there = there;
  }

  -- and no access either
  pub safe_others : new.marks ≡ old.marks → new.waiting ≡ old.waiting → new.accesses ≡ old.accesses
      → new.sections ≡ old.sections → IsSafe inside (calls + 1) new
  safe_others marks waiting accesses sections =
      safe_groups marks waiting (rw accesses (omega arith)) (rw (sections, accesses) old_safe.there)

  -- marks changed, if there is a change; an access may have begun
  pub safe_marks : (change : Option Change) → IsClassedIf entry.groups change
      → new.marks ≡ changed_if change old.marks
      → new.waiting ≡ old.waiting + length (retired_if change old.marks)
      → length (retired_if change old.marks) < 2 ^ 32
      → length new.accesses ≤ length old.accesses + 1 → inside new.sections (sections_of new.accesses)
      → IsSafe inside (calls + 1) new
  safe_marks change has marks waiting few one_more there =
      let old_has : IsClassedIf old.groups change = rw is has in record {
        bounded = bounded old_safe.bounded;
        classed = rw marks (classed_kept old.groups new.groups (changed_if change old.marks) keeps
            (classed_changed_if old.groups old.marks change old_has old_safe.classed));
        counted = rw (waiting, batch) (let counted = old_safe.counted in omega (arith, counted, few));
        opened = let opened = old_safe.opened in omega (arith, opened, one_more);
        there = there;
      }
