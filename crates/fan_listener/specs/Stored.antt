-- What a listener keeps beside what callers see. No public clause cites this module.
use Rattle.std.specs.Prelude.{◌≡◌, ℕ, ◌<◌, ◌≤◌, ◌^◌, nat_lt, Bool, List, [], ◌∷◌, ◌++◌, filter, All, Option, Some, None}
use Rattle.std.specs.BTreeMap.{is_at}
use Rattle.std.specs.List.{AllPairs}
use Rattle.std.specs.List.Sorted.{IsStrictlySortedBy}
use Rattle.std.specs.Map.{keys_of, lookup}
use Rattle.std.specs.Ordering.{nat_cmp}
use Rattle.fan_queue.specs.QueueState.{QueueState}
use Rattle.fan_listener.specs.declared.answers.Pending.{Pending}
use Rattle.fan_listener.specs.declared.answers.Verdict.{Verdict}
use Rattle.fan_listener.specs.Queue.{limit_of}
use Rattle.fan_listener.specs.Records.{next_fd_after, pendings}

-- an event whose descriptor is below that of the next read was read
abbrev pub is_read : ℕ → Pending → Bool
is_read next_fd pending = nat_lt pending.fd next_fd

-- the room for the verdict on an entry, if there is one, and the verdict in it, if it was given
abbrev pub rooms_of : List (ℕ × Option Verdict) → ℕ → Option (Option Verdict)
rooms_of rooms entry = lookup (is_at (nat_cmp entry)) rooms

-- the verdict on an entry, if it stands in its room
abbrev pub given_in : ℕ → Option Verdict → List (ℕ × Verdict)
given_in entry None = []
given_in entry (Some verdict) = (entry, verdict) ∷ []

-- the verdicts that stand in rooms
abbrev pub answers_in : List (ℕ × Option Verdict) → List (ℕ × Verdict)
answers_in [] = []
answers_in (room ∷ rooms) = given_in room.0 room.1 ++ answers_in rooms

-- one permission event came before another
abbrev pub CameBefore : Pending → Pending → Type 0
CameBefore one later = one.entry < later.entry

-- the queue has the limit; the permission events without a verdict are those that were read and wait, and
-- then those that are queued, under the descriptors that they will get; each has a room for its verdict
pub record IsStored (flags limit : ℕ) (queue : QueueState) (ahead next_fd : ℕ) (asked : List Pending)
    (rooms : List (ℕ × Option Verdict)) : Type 0 where
  pub limited : queue.limit ≡ limit_of flags limit
  pub follows : ahead ≡ next_fd_after next_fd queue.entries
  pub waits : asked ≡ filter (is_read next_fd) asked ++ pendings next_fd queue.entries
  pub ordered : AllPairs CameBefore asked
  pub sorted : IsStrictlySortedBy nat_cmp (keys_of rooms)
  pub roomy : All (λ pending. rooms_of rooms pending.entry ≡ Some None) asked
  pub unused : (entry : ℕ) → queue.next_entry ≤ entry → rooms_of rooms entry ≡ None
  pub few : ahead < queue.next_entry
  pub small : next_fd < 2 ^ 31
