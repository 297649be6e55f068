-- A listener by what is kept of it. No public clause cites this module.
use Rattle.std.specs.Prelude.{true, []}
use Rattle.std.specs.Box.{box_value}
use Rattle.fan_listener.specs.declared.listener.State.{State}
use Rattle.fan_listener.specs.declared.listener.State.TheVariants as states
use Rattle.fan_listener.specs.declared.shut.Shut.{Shut}
use Rattle.fan_listener.specs.ListenerState.{ListenerState}

-- closed, with nothing queued, nothing that waits and no verdict left
abbrev pub shut_state : Shut → ListenerState
shut_state shut = record {
  flags = shut.init.bits;
  limit = shut.limit;
  queue = [];
  pending = [];
  answers = [];
  next_entry = shut.next_entry;
  next_fd = shut.next_fd;
  closed = true;
}

-- the listener itself
abbrev pub state_of : State → ListenerState
state_of (states.Kept kept) = box_value kept
state_of (states.Shut shut) = shut_state shut
