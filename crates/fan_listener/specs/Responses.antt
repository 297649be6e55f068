-- How permission events get their answers: fanotify(7).
use Rattle.std.specs.Prelude.{ℕ, ◌==◌, ◌^◌, nat_lt, Bool, true, not, if◌then◌else◌, List, [], length, find, take, drop, Option, Some, None, option_map, Result, Ok, Err}
use Rattle.std.specs.BTreeMap.{insert_entry, is_at}
use Rattle.std.specs.Int.{from_le_bytes, w32}
use Rattle.std.specs.Map.{lookup, remove_entry}
use Rattle.std.specs.Ordering.{nat_cmp}
use Rattle.fan_bits.specs.declared.errno.Errno.{Errno}
use Rattle.fan_bits.specs.declared.errno.Errno.TheVariants as errno
use Rattle.fan_listener.specs.declared.answers.Answer.{Answer}
use Rattle.fan_listener.specs.declared.answers.Answer.TheVariants as answers
use Rattle.fan_listener.specs.declared.answers.Answered.{Answered}
use Rattle.fan_listener.specs.declared.answers.Pending.{Pending}
use Rattle.fan_listener.specs.declared.answers.Verdict.{Verdict}
use Rattle.fan_listener.specs.declared.answers.Verdict.TheVariants.{Allow, Deny}
use Rattle.fan_lists.specs.First.{without_first}
use Rattle.fan_listener.specs.ListenerState.{ListenerState}

-- FAN_ALLOW is 1 and FAN_DENY is 2
unfoldable pub verdict : ℕ → Option Verdict
verdict value = if value == 1 then Some Allow else if value == 2 then Some Deny else None

-- the answer by a verdict
abbrev pub answer_by : Verdict → Answer
answer_by Allow = answers.Allowed
answer_by Deny = answers.Denied

-- the event waits under this descriptor
abbrev pub is_under : ℕ → Pending → Bool
is_under fd pending = pending.fd == fd

-- the answer by a verdict, if one was given; without one it is Closed once the group is closed
abbrev pub answer_or_closed : Bool → Option Verdict → Answer
answer_or_closed closed (Some given) = answer_by given
answer_or_closed closed None = if closed then answers.Closed else answers.Waiting

-- the entry of an event that waits
abbrev pub entry_of : Pending → ℕ
entry_of pending = pending.entry

-- the entry that waits under a descriptor; this is a signed number, and none waits under a
-- negative one
unfoldable pub waiting_under : ℕ → List Pending → Option ℕ
waiting_under fd pending =
    if nat_lt fd (2 ^ 31) then option_map entry_of (find (is_under fd) pending) else None

-- the verdict on an entry, if it was given
abbrev pub verdict_on : ℕ → List (ℕ × Verdict) → Option Verdict
verdict_on entry answers = lookup (is_at (nat_cmp entry)) answers

-- the verdicts with that on an entry, which comes to its place in the order
abbrev pub with_verdict : ℕ → Verdict → List (ℕ × Verdict) → List (ℕ × Verdict)
with_verdict entry verdict answers = insert_entry nat_cmp answers entry verdict

-- the verdicts without that on an entry
abbrev pub without_verdict : ℕ → List (ℕ × Verdict) → List (ℕ × Verdict)
without_verdict entry answers = remove_entry (is_at (nat_cmp entry)) answers

-- the entry that waits under a descriptor has its verdict
abbrev pub answered : ListenerState → ℕ → ℕ → Verdict → ListenerState
answered state fd entry verdict = record state {
  pending = without_first (is_under fd) state.pending;
  answers = with_verdict entry verdict state.answers;
}

-- a response with a descriptor, what its value stands for, and the entry that waits: EINVAL, ENOENT
abbrev pub responded : ListenerState → ℕ → Option Verdict → Option ℕ
    → Result (Answered × ListenerState) Errno
responded state fd None waiting = Err errno.Einval
responded state fd (Some verdict) None = Err errno.Enoent
responded state fd (Some verdict) (Some entry) =
    Ok (record { entry = entry }, answered state fd entry verdict)

-- the descriptor in a response
abbrev pub fd_in : List ℕ → ℕ
fd_in bytes = from_le_bytes w32 (take 4 bytes)

-- the value in a response
abbrev pub value_in : List ℕ → ℕ
value_in bytes = from_le_bytes w32 (drop 4 bytes)

-- a response: EBADF, EINVAL, ENOENT in this order, else the entry that it answers and the listener
-- after it
unfoldable pub written : ListenerState → List ℕ → Result (Answered × ListenerState) Errno
written state bytes =
    if state.closed then Err errno.Ebadf
    else if not (length bytes == 8) then Err errno.Einval
    else responded state (fd_in bytes) (verdict (value_in bytes))
    (waiting_under (fd_in bytes) state.pending)

-- the answer to the permission event of an entry, and the listener after it was taken
unfoldable pub answer_of : ListenerState → ℕ → Answer × ListenerState
answer_of state entry = (
  answer_or_closed state.closed (verdict_on entry state.answers),
  record state { answers = without_verdict entry state.answers },
)

-- closing frees the queue; events without a verdict wait no more, and verdicts that were given stay
unfoldable pub closed_of : ListenerState → ListenerState
closed_of state = record state { queue = []; pending = []; closed = true }
