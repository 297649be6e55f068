-- The numbers of accesses: one that was used, and is open no more, is never open again.
use Rattle.std.proofs.Common.{◌≡◌, ◌∙◌, ℕ, ◌<◌, ◌≤◌, Bool, true, false, cond, List, [], ◌∷◌, None, refl, arith}
use Rattle.std.proofs.lemmas.Bool.{cond_both, ltb-true}
use Rattle.std.specs.Map.{lookup, remove_entry, set_value}
use Rattle.std.specs.Prelude.{All}
use Rattle.std.proofs.lemmas.List.Elements.{All-nil, All-weaker}
use Rattle.fan_lists.proofs.Pairs.{AllPairs-nil}
use Rattle.fan_access.specs.Access.{AccessState, access_step}
use Rattle.fan_bits.specs.declared.errno.Errno.TheVariants as errno
use Rattle.fan_bits.specs.Outcomes.{ends_access}
use Rattle.fan_machine.specs.Accesses.{access_of, advanced}
use Rattle.fan_machine.specs.Next.{after, attempted, next}
use Rattle.fan_machine.specs.Outcome.{Outcome}
use Rattle.fan_machine.specs.World.{WorldState, initial_world}
use Rattle.fan_script.specs.declared.reply.Reply.TheVariants as replies
use Rattle.fan_script.specs.declared.step.Step.{Step}
use Rattle.fan_script.specs.declared.step.Step.TheVariants as steps
use Rattle.fan_laws.proofs.Entries.{All-inserted, All-removed, All-set, Rise, Rise-inserted, Rise-removed, Rise-set, at, none_removed, none_set, other_inserted}
use Rattle.fan_laws.proofs.Forms.{Form, has_begun, has_stepped, step_form}

-- what is open under another number, or is not open, after a single step of an access
none_stepped : (number other : ℕ) (ends : Bool) (access : AccessState) (accesses : List (ℕ × AccessState))
    → lookup (at number) accesses ≡ None
    → lookup (at number) (cond ends (remove_entry (at other) accesses) (set_value
    (at other) accesses access)) ≡ None
none_stepped number other true access accesses none = none_removed number other accesses none
none_stepped number other false access accesses none = none_set number other access accesses none

-- the greatest number of an access never falls
pub last_form : (world : WorldState) (step : Step) (outcome : Outcome) → Form world step outcome
    → world.last_access ≤ outcome.world.last_access
last_form world step outcome (has_begun number pid tid word path second deed free does) =
    let above : world.last_access < number = ltb-true world.last_access number free in omega arith
last_form world step outcome form = omega arith

-- a number up to it, that is not open, stays so
pub none_form : (number : ℕ) (world : WorldState) (step : Step) (outcome : Outcome) → Form world step outcome
    → number ≤ world.last_access → access_of world number ≡ None → access_of outcome.world number ≡ None
none_form number world step outcome
    (has_begun other pid tid word path second deed free does) upto none =
    let above : world.last_access < other = ltb-true world.last_access other free in
    other_inserted number other _ world.accesses (λ same. omega arith) ∙ none
none_form number world step outcome (has_stepped other access is) upto none =
    let stepped = access_step world.groups access in
    none_stepped number other (ends_access stepped.outcome) stepped.access world.accesses none
none_form number world step outcome form upto none = none

-- whatever comes
pub none_after : (steps : List Step) (number : ℕ) (world : WorldState) → number ≤ world.last_access
    → access_of world number ≡ None → access_of (after world steps) number ≡ None
none_after [] number world upto none = none
none_after (step ∷ more) number world upto none =
    let form = step_form world step in
    let rises = last_form world step (next world step) form in
    none_after more number (next world step).world (omega (arith, upto, rises))
    (none_form number world step (next world step) form upto none)

-- a single step of an access that is not open is refused
pub none_refused : (number : ℕ) (world : WorldState) → access_of world number ≡ None
    → (next world (steps.Advance number)).reply ≡ replies.Refused errno.Esrch
unfolding next attempted advanced
none_refused number world none = rw none refl

-- the numbers of the open accesses rise, and none is above the greatest that one had
pub record AreNumbered (world : WorldState) : Type 0 where
  pub rise : Rise world.accesses
  pub used : All (λ e. e.0 ≤ world.last_access) world.accesses

pub numbered_form : (world : WorldState) (step : Step) (outcome : Outcome) → Form world step outcome
    → AreNumbered world → AreNumbered outcome.world
numbered_form world step outcome
    (has_begun number pid tid word path second deed free does) numbered =
    let above : world.last_access < number = ltb-true world.last_access number free in record {
      rise = Rise-inserted number _ world.accesses
          (All-weaker (λ (e : ℕ × AccessState). e.0 ≤ world.last_access) (λ e. e.0 < number)
          (λ e upto. omega (arith, upto, above)) world.accesses numbered.used) numbered.rise;
      used = All-inserted (λ (e : ℕ × AccessState). e.0 ≤ number) number _ world.accesses
          (All-weaker (λ (e : ℕ × AccessState). e.0 ≤ world.last_access) (λ e. e.0 ≤ number)
          (λ e upto. omega (arith, upto, above)) world.accesses numbered.used) (omega arith);
    }
numbered_form world step outcome (has_stepped number access is) numbered =
    let stepped = access_step world.groups access in
    let P : ℕ × AccessState → Type 0 = λ e. e.0 ≤ world.last_access in record {
      rise = cond_both (ends_access stepped.outcome) (remove_entry (at number) world.accesses)
          (set_value (at number) world.accesses stepped.access) Rise
          (λ ends. Rise-removed number world.accesses numbered.rise)
          (λ goes. Rise-set number stepped.access world.accesses numbered.rise);
      used = cond_both (ends_access stepped.outcome) (remove_entry (at number) world.accesses)
          (set_value (at number) world.accesses stepped.access) (All P)
          (λ ends. All-removed P number world.accesses numbered.used)
          (λ goes. All-set P number stepped.access world.accesses numbered.used (λ e same upto. upto));
    }
numbered_form world step outcome form numbered = record { rise = numbered.rise; used = numbered.used }

-- whatever comes
pub numbered_after : (steps : List Step) (world : WorldState) → AreNumbered world
    → AreNumbered (after world steps)
numbered_after [] world numbered = numbered
numbered_after (step ∷ more) world numbered =
    numbered_after more (next world step).world (numbered_form world step (next world step)
    (step_form world step) numbered)

pub numbered_at_first : AreNumbered initial_world
numbered_at_first = record {
  rise = AllPairs-nil (λ (a b : ℕ × AccessState). a.0 < b.0);
  used = All-nil (λ (e : ℕ × AccessState). e.0 ≤ 0);
}
