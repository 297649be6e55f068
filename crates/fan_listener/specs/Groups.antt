-- The listeners of all groups, closed ones among them. Groups are numbered from 1.
use Rattle.std.specs.Prelude.{◌≡◌, ◌⊎◌, ℕ, zero, suc, ◌-◌, Bool, not, if◌then◌else◌, List, Option, Some, None, option_map, slice_get, slice_set, Result, Ok, Err}
use Rattle.fan_bits.specs.declared.errno.Errno.{Errno}
use Rattle.fan_bits.specs.declared.errno.Errno.TheVariants as errno
use Rattle.fan_listener.specs.declared.answers.Answer.{Answer}
use Rattle.fan_listener.specs.declared.answers.Answer.TheVariants as answers
use Rattle.fan_listener.specs.declared.answers.Answered.{Answered}
use Rattle.fan_event.specs.declared.event.Event.{Event}
use Rattle.fan_queue.specs.declared.entry.Put.{Put}
use Rattle.fan_queue.specs.declared.entry.Put.TheVariants as puts
use Rattle.fan_listener.specs.ListenerState.{ListenerState}
use Rattle.fan_listener.specs.Queue.{put}
use Rattle.fan_listener.specs.Records.{read_of}
use Rattle.fan_listener.specs.Responses.{written, answer_of, closed_of}

-- the listener of a group, closed or not
abbrev pub listener_at : List ListenerState → ℕ → Option ListenerState
listener_at listeners zero = None
listener_at listeners (suc index) = slice_get listeners index

-- a group that isn't closed
abbrev pub is_open : ListenerState → Bool
is_open listener = not listener.closed

-- the listener, if there is one and it is open
abbrev pub if_open : Option ListenerState → Option ListenerState
if_open None = None
if_open (Some listener) = if is_open listener then Some listener else None

-- the listener of a group that is open
abbrev pub open_listener : List ListenerState → ℕ → Option ListenerState
open_listener listeners group = if_open (listener_at listeners group)

-- the listeners with that of a group changed
abbrev pub with_listener : List ListenerState → ℕ → ListenerState → List ListenerState
with_listener listeners group listener = slice_set listeners (group - 1) listener

-- what a call of a group's listener gives, or what stands for it if there is no such group; and
-- the listeners after it
abbrev pub called_at : {A : Type 0} → A → (ListenerState → A × ListenerState)
    → List ListenerState → ℕ → Option ListenerState → A × List ListenerState
called_at absent call listeners group None = (absent, listeners)
called_at absent call listeners group (Some listener) =
    let r = call listener in (r.0, with_listener listeners group r.1)

-- an event that is made by a group's flags is put on its queue; a group that isn't there counts as
-- closed
unfoldable pub put_to : List ListenerState → ℕ → (ℕ → Event) → Put × List ListenerState
put_to listeners group event =
    called_at puts.Closed (λ listener. put listener (event listener.flags)) listeners group
    (listener_at listeners group)

-- the answer of a group to one of its entries; a group that isn't there counts as closed
unfoldable pub answer_from : List ListenerState → ℕ → ℕ → Answer × List ListenerState
answer_from listeners group entry =
    called_at answers.Closed (λ listener. answer_of listener entry) listeners group
    (listener_at listeners group)

-- what a call gave, and the listeners after it; a refusal stays
abbrev pub outcome_in : {A : Type 0} → List ListenerState → ℕ → Result (A × ListenerState) Errno
    → Result (A × List ListenerState) Errno
outcome_in listeners group (Err refusal) = Err refusal
outcome_in listeners group (Ok given) = Ok (given.0, with_listener listeners group given.1)

-- a call that can be refused: EBADF if there is no such group
abbrev pub tried_at : {A : Type 0} → (ListenerState → Result (A × ListenerState) Errno)
    → List ListenerState → ℕ → Option ListenerState → Result (A × List ListenerState) Errno
tried_at call listeners group None = Err errno.Ebadf
tried_at call listeners group (Some listener) = outcome_in listeners group (call listener)

-- `read`: EBADF, EAGAIN, EINVAL in this order
unfoldable pub read_from : List ListenerState → ℕ → ℕ → Result (List ℕ × List ListenerState) Errno
read_from listeners group size =
    tried_at (λ listener. read_of listener size) listeners group (listener_at listeners group)

-- `write`: EBADF, EINVAL, ENOENT in this order
unfoldable pub written_to : List ListenerState → ℕ → List ℕ
    → Result (Answered × List ListenerState) Errno
written_to listeners group bytes =
    tried_at (λ listener. written listener bytes) listeners group (listener_at listeners group)

-- `close`: the listeners after it, if the group was open
unfoldable pub closed_in : List ListenerState → ℕ → Option (List ListenerState)
closed_in listeners group =
    option_map (λ listener. with_listener listeners group (closed_of listener))
    (open_listener listeners group)

-- one listener was called once at most: an event was put on its queue, or an answer was looked for
abbrev pub IsCalledOnce : List ListenerState → List ListenerState → Type 0
IsCalledOnce old new =
    (new ≡ old)
    ⊎ (((group : ℕ) × (event : ℕ → Event) × (new ≡ (put_to old group event).1))
    ⊎ ((group : ℕ) × (entry : ℕ) × (new ≡ (answer_from old group entry).1)))
