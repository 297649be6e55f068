-- What a listener answers when it is closed, and what a close keeps: for the layers above.
use Rattle.std.proofs.Common.{◌≡◌, ℕ, true, None, refl, ap}
use Rattle.fan_event.specs.declared.event.Event.{Event}
use Rattle.fan_queue.specs.declared.entry.Put.TheVariants as puts
use Rattle.fan_listener.specs.declared.answers.Answer.TheVariants as answers
use Rattle.fan_listener.specs.ListenerState.{ListenerState}
use Rattle.fan_listener.specs.Queue.{put}
use Rattle.fan_listener.specs.Responses.{answer_of, verdict_on, answer_or_closed, closed_of}

-- a closed listener takes no event and stays
pub put-closed : (state : ListenerState) (event : Event) → state.closed ≡ true
    → put state event ≡ (puts.Closed, state)
unfolding put
put-closed state event closed = rw closed refl

-- an event without an answer counts as closed after the close
pub answer_of-closed_of : (state : ListenerState) (entry : ℕ)
    → verdict_on entry state.answers ≡ None
    → (answer_of (closed_of state) entry).0 ≡ answers.Closed
unfolding answer_of closed_of
answer_of-closed_of state entry none = ap (answer_or_closed true) none

-- an answer that was given stays over the close
pub answers-closed_of : (state : ListenerState) → (closed_of state).answers ≡ state.answers
unfolding closed_of
answers-closed_of state = refl

-- a listener that was closed is closed
pub closed-closed_of : (state : ListenerState) → (closed_of state).closed ≡ true
unfolding closed_of
closed-closed_of state = refl
