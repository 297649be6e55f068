-- The listener of each group, as a run of the machine from its first world on made it.
use Rattle.std.proofs.Common.{◌≡◌, ◌∙◌, ℕ, List, [], Some, None, refl, ap, sym, subst}
use Rattle.fan_fates.specs.Calls.{after_calls, deeds}
use Rattle.fan_fates.specs.Steps.{calls_in, deeds_in, queue_in, queue_of}
use Rattle.fan_fates.specs.Turns.{IsMadeBy}
use Rattle.fan_fates.proofs.History.{History, history_new}
use Rattle.fan_fates.proofs.Lifted.{Ran, absent, ran_first, since}
use Rattle.fan_fates.proofs.Limits.{same_after}
use Rattle.fan_listener.specs.Groups.{listener_at}
use Rattle.fan_listener.specs.ListenerState.{ListenerState, new_listener}
use Rattle.fan_machine.specs.Next.{after}
use Rattle.fan_machine.specs.World.{initial_world}
use Rattle.fan_script.specs.declared.step.Step.{Step}

-- a group's deeds so far are the past of a listener with its queue, which is its own if it has one
pub record Lived (run : List Step) (group : ℕ) : Type 0 where
  pub listener : ListenerState
  pub history : History (deeds_in group initial_world run) listener
  pub queue : queue_in (after initial_world run) group ≡ listener.queue
  pub own : (found : ListenerState) → listener_at (after initial_world run).groups group ≡ Some found
      → found ≡ listener

empty_queue : (new_listener 0 0).queue ≡ []
unfolding new_listener
empty_queue = refl

new_limit : (flags limit : ℕ) → (new_listener flags limit).limit ≡ limit
unfolding new_listener
new_limit flags limit = refl

new_flags : (flags limit : ℕ) → (new_listener flags limit).flags ≡ flags
unfolding new_listener
new_flags flags limit = refl

lived_by : (run : List Step) (group : ℕ) → Ran group initial_world run → Lived run group
unfolding deeds after_calls
lived_by run group (absent still no_calls no_deeds) = record {
  listener = new_listener 0 0;
  history = subst (λ past. History past (new_listener 0 0)) (sym no_deeds) (history_new 0 0 []);
  queue = ap queue_of still ∙ sym empty_queue;
  own = λ found is. absurd (let clash : Some found ≡ None = sym is ∙ still in cc);
}
lived_by run group (since flags limit its) =
    let calls = calls_in group initial_world run in
    let listener = after_calls (new_listener flags limit) calls in record {
      listener = listener;
      history = subst (λ past. History past listener) (sym its.does) (history_new flags limit calls);
      queue = ap queue_of its.becomes;
      own = λ found is. let same : Some found ≡ Some listener = sym is ∙ its.becomes in cc;
    }

pub lived : (run : List Step) (group : ℕ) → Lived run group
lived run group = lived_by run group (ran_first run group)

-- each listener is what the calls of the run made of a new one
made_by : (run : List Step) (group : ℕ) → Ran group initial_world run
    → IsMadeBy (calls_in group initial_world run) (listener_at (after initial_world run).groups group)
made_by run group (absent still no_calls no_deeds) =
    subst (IsMadeBy (calls_in group initial_world run)) (sym still) no_calls
made_by run group (since flags limit its) =
    let calls = calls_in group initial_world run in
    let listener = after_calls (new_listener flags limit) calls in
    let same = same_after calls (new_listener flags limit) in
    let its_flags : listener.flags ≡ flags = same.flags ∙ new_flags flags limit in
    let its_limit : listener.limit ≡ limit = same.limit ∙ new_limit flags limit in
    subst (IsMadeBy calls) (sym its.becomes)
    (ap (λ (its : ℕ). after_calls (new_listener its limit) calls) (sym its_flags)
    ∙ ap (λ (its : ℕ). after_calls (new_listener listener.flags its) calls) (sym its_limit))

pub is_made_by : (run : List Step) (group : ℕ)
    → IsMadeBy (calls_in group initial_world run) (listener_at (after initial_world run).groups group)
is_made_by run group = made_by run group (ran_first run group)
