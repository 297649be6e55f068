-- What a group's listener is: its queue, the events that wait for an answer, and their answers.
use Rattle.std.specs.Prelude.{ℕ, Bool, false, List, []}
use Rattle.fan_queue.specs.declared.entry.Entry.{Entry}
use Rattle.fan_listener.specs.declared.answers.Pending.{Pending}
use Rattle.fan_listener.specs.declared.answers.Verdict.{Verdict}

-- the flags and the limit with which it was made; the queued entries; the permission events that
-- were read and wait; the verdicts that weren't taken yet, in the order of their entries; the next numbers
-- of an entry and of a descriptor
pub record ListenerState : Type 0 where
  pub flags : ℕ
  pub limit : ℕ
  pub queue : List Entry
  pub pending : List Pending
  pub answers : List (ℕ × Verdict)
  pub next_entry : ℕ
  pub next_fd : ℕ
  pub closed : Bool

-- a listener with nothing queued
unfoldable pub new_listener : ℕ → ℕ → ListenerState
new_listener flags limit = record {
  flags = flags;
  limit = limit;
  queue = [];
  pending = [];
  answers = [];
  next_entry = 1;
  next_fd = 0;
  closed = false;
}
