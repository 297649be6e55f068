-- The calls of one listener, and what becomes of its events and entries by them.
use Rattle.std.specs.Prelude.{ℕ, ◌-◌, List, [], ◌∷◌, ◌++◌, Result, Ok, Err, length, take}
use Rattle.fan_bits.specs.declared.errno.Errno.{Errno}
use Rattle.fan_event.specs.declared.event.Event.{Event}
use Rattle.fan_queue.specs.declared.entry.Entry.{Entry}
use Rattle.fan_queue.specs.declared.entry.Put.{Put}
use Rattle.fan_listener.specs.declared.answers.Answered.{Answered}
use Rattle.fan_listener.specs.ListenerState.{ListenerState}
use Rattle.fan_listener.specs.Queue.{put}
use Rattle.fan_listener.specs.Records.{read_of}
use Rattle.fan_listener.specs.Responses.{answer_of, closed_of, written}

-- an event is put on the queue; so many bytes are read, or some are written; the answer to an entry is looked
-- for; or the listener is closed
pub data Call : Type 0 where
  Puts : Event → Call
  Reads : ℕ → Call
  Writes : List ℕ → Call
  Looks : ℕ → Call
  Closes : Call

-- a call that is refused leaves the listener as it is
abbrev pub left_by : {A : Type 0} → ListenerState → Result (A × ListenerState) Errno → ListenerState
left_by listener (Ok given) = given.1
left_by listener (Err refusal) = listener

-- the listener after a call
abbrev pub called : ListenerState → Call → ListenerState
called listener (Puts event) = (put listener event).1
called listener (Reads size) = left_by listener (read_of listener size)
called listener (Writes bytes) = left_by listener (written listener bytes)
called listener (Looks entry) = (answer_of listener entry).1
called listener Closes = closed_of listener

-- and after a list of them
unfoldable pub after_calls : ListenerState → List Call → ListenerState
after_calls listener [] = listener
after_calls listener (call ∷ more) = after_calls (called listener call) more

-- an event came, and this is its fate; entries left the queue by a read; or they were freed by the close
pub data Deed : Type 0 where
  Came : Event → Put → Deed
  Left : List Entry → Deed
  Freed : List Entry → Deed

-- the entries at the front of a queue that are not there any more
abbrev pub gone : List Entry → List Entry → List Entry
gone old new = take (length old - length new) old

-- what a call does to events and entries
abbrev pub deeds_of : ListenerState → Call → List Deed
deeds_of listener (Puts event) = Came event (put listener event).0 ∷ []
deeds_of listener (Reads size) = Left (gone listener.queue (called listener (Reads size)).queue) ∷ []
deeds_of listener (Writes bytes) = []
deeds_of listener (Looks entry) = []
deeds_of listener Closes = Freed (gone listener.queue (closed_of listener).queue) ∷ []

-- and a list of them
unfoldable pub deeds : ListenerState → List Call → List Deed
deeds listener [] = []
deeds listener (call ∷ more) = deeds_of listener call ++ deeds (called listener call) more

-- the entry that a response answers, if it is taken
abbrev pub answered_by : Result (Answered × ListenerState) Errno → List ℕ
answered_by (Ok given) = given.0.entry ∷ []
answered_by (Err refusal) = []

-- the entry that a call answers, if it answers one
abbrev pub answers_of : ListenerState → Call → List ℕ
answers_of listener (Writes bytes) = answered_by (written listener bytes)
answers_of listener _ = []

-- the entries that a list of calls answers, in their order
unfoldable pub answers : ListenerState → List Call → List ℕ
answers listener [] = []
answers listener (call ∷ more) = answers_of listener call ++ answers (called listener call) more
