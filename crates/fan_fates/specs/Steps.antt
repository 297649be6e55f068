-- What each step of the machine does to the listener of one group.
use Rattle.std.specs.Prelude.{ℕ, ◌==◌, Bool, true, false, List, [], ◌∷◌, ◌++◌, Option, Some, None, slice_get, if◌then◌else◌}
use Rattle.fan_access.specs.Access.{AccessState, Asking, Phase, Telling, Waiting, asks, event_of, tells}
use Rattle.fan_access.specs.Rounds.{Turn}
use Rattle.fan_fates.specs.Calls.{Call, Closes, Deed, Looks, Puts, Reads, Writes, deeds}
use Rattle.fan_queue.specs.declared.entry.Entry.{Entry}
use Rattle.fan_listener.specs.Groups.{is_open, listener_at}
use Rattle.fan_listener.specs.ListenerState.{ListenerState}
use Rattle.fan_machine.specs.Accesses.{access_of}
use Rattle.fan_machine.specs.Next.{next}
use Rattle.fan_machine.specs.World.{WorldState}
use Rattle.fan_script.specs.declared.step.Step.{Step}
use Rattle.fan_script.specs.declared.step.Step.TheVariants as steps

-- a call, if it is of this group
abbrev pub only_of : ℕ → ℕ → Call → List Call
only_of group other call = if other == group then call ∷ [] else []

-- the group of a turn is asked or told; its flags make the event
abbrev pub turn_calls : ℕ → ListenerState → AccessState → Bool → Option Turn → List Call
turn_calls group listener access perm None = []
turn_calls group listener access perm (Some turn) =
    only_of group turn.interest.group (Puts (event_of perm turn access listener.flags))

-- the turn that is asked next; after the last one the first that is told
abbrev pub ask_calls : ℕ → ListenerState → AccessState → Option Turn → List Call
ask_calls group listener access None = turn_calls group listener access false (slice_get (tells access) 0)
ask_calls group listener access (Some turn) = turn_calls group listener access true (Some turn)

-- a single step of an access calls the group whose turn it is, or the one that it waits for
abbrev pub phase_calls : ℕ → ListenerState → AccessState → Phase → List Call
phase_calls group listener access (Asking at) = ask_calls group listener access (slice_get (asks access) at)
phase_calls group listener access (Waiting at other entry) = only_of group other (Looks entry)
phase_calls group listener access (Telling at) =
    turn_calls group listener access false (slice_get (tells access) at)

-- one of an access that is not open calls none
abbrev pub access_calls : ℕ → ListenerState → Option AccessState → List Call
access_calls group listener None = []
access_calls group listener (Some access) = phase_calls group listener access access.phase

-- the call that a step makes of the listener of a group, if it makes one; only an open group is closed
abbrev pub step_calls : WorldState → Step → ℕ → ListenerState → List Call
step_calls world (steps.Advance number) group listener =
    access_calls group listener (access_of world number)
step_calls world (steps.Read other size) group listener = only_of group other (Reads size)
step_calls world (steps.Write other bytes) group listener = only_of group other (Writes bytes)
step_calls world (steps.Close other) group listener =
    if is_open listener then only_of group other Closes else []
step_calls world _ group listener = []

-- the same of a group that may have no listener yet
abbrev pub calls_at : WorldState → Step → ℕ → Option ListenerState → List Call
calls_at world step group None = []
calls_at world step group (Some listener) = step_calls world step group listener

-- what calls do in a group: nothing if it has no listener
abbrev pub deeds_at : Option ListenerState → List Call → List Deed
deeds_at None calls = []
deeds_at (Some listener) calls = deeds listener calls

-- the call that a step makes in a group
abbrev pub calls_by : WorldState → Step → ℕ → List Call
calls_by world step group = calls_at world step group (listener_at world.groups group)

-- what a step does to the events and entries of a group
abbrev pub deeds_by : WorldState → Step → ℕ → List Deed
deeds_by world step group = deeds_at (listener_at world.groups group) (calls_by world step group)

-- the calls of any steps from a world on, in their order
unfoldable pub calls_in : ℕ → WorldState → List Step → List Call
calls_in group world [] = []
calls_in group world (step ∷ more) = calls_by world step group ++ calls_in group (next world step).world more

-- and what they do
unfoldable pub deeds_in : ℕ → WorldState → List Step → List Deed
deeds_in group world [] = []
deeds_in group world (step ∷ more) = deeds_by world step group ++ deeds_in group (next world step).world more

-- the queue of a group; none is queued in a group that isn't there
abbrev pub queue_of : Option ListenerState → List Entry
queue_of None = []
queue_of (Some listener) = listener.queue

-- the queue of a group in a world
abbrev pub queue_in : WorldState → ℕ → List Entry
queue_in world group = queue_of (listener_at world.groups group)
