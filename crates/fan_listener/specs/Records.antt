-- What a read gives, and what it leaves: fanotify(7), "Reading fanotify events".
use Rattle.std.specs.Prelude.{ℕ, ℤ, pos, negsuc, ◌+◌, ◌-◌, ◌==◌, ◌&&◌, Bool, false, nat_lt, nat_le, if◌then◌else◌, List, [], ◌∷◌, ◌++◌, length, drop, Result, Ok, Err}
use Rattle.std.specs.Int.RustNames.{bit_or}
use Rattle.fan_bits.specs.declared.errno.Errno.{Errno}
use Rattle.fan_bits.specs.declared.errno.Errno.TheVariants as errno
use Rattle.fan_bits.specs.MarkWords.{ondir, overflow_bit}
use Rattle.fan_bits.specs.Words.{bit}
use Rattle.fan_event.specs.declared.event.Event.{Event}
use Rattle.fan_event.specs.declared.target.Target.{Target}
use Rattle.fan_event.specs.declared.target.Target.TheVariants.{Fd, Handle}
pub use Rattle.fan_event.specs.Events.{has_fd}
use Rattle.fan_fid.specs.Written.{infos_of}
use Rattle.fan_queue.specs.declared.entry.Body.{Body}
use Rattle.fan_queue.specs.declared.entry.Body.TheVariants.{Told, Lost}
use Rattle.fan_queue.specs.declared.entry.Entry.{Entry}
use Rattle.fan_listener.specs.declared.answers.Pending.{Pending}
use Rattle.fan_listener.specs.ListenerState.{ListenerState}
use Rattle.fan_record.specs.Written.{record_bytes}

-- how many bytes a record has before its information records
abbrev pub metadata_len : ℕ
metadata_len = 24

-- the mask of an event's record: beside handles it tells with FAN_ONDIR of a directory
abbrev pub mask_field : Event → ℕ
mask_field event =
    if event.ondir then (if has_fd event.target then event.bits else bit_or event.bits (bit ondir))
    else event.bits

-- the descriptor in an event's record: beside handles it is FAN_NOFD
abbrev pub fd_field : ℕ → Target → ℤ
fd_field fd (Fd mount inode) = pos fd
fd_field fd (Handle fs object dir name) = negsuc 0

-- the information records of an entry
abbrev pub infos_in : Body → List ℕ
infos_in (Told event) = infos_of event.target
infos_in Lost = []

-- how many bytes the record of an entry has
abbrev pub record_len : Body → ℕ
record_len body = metadata_len + length (infos_in body)

-- the record of an entry up to its information records; that of the overflow has FAN_Q_OVERFLOW, FAN_NOFD and
-- no process
abbrev pub metadata_of : ℕ → Body → List ℕ
metadata_of fd (Told event) =
    record_bytes (record_len (Told event)) (mask_field event) (fd_field fd event.target) event.who
metadata_of fd Lost = record_bytes (record_len Lost) overflow_bit (negsuc 0) 0

-- the record of an entry, whose event would have this descriptor
abbrev pub record_of : ℕ → Body → List ℕ
record_of fd body = metadata_of fd body ++ infos_in body

-- a record takes a descriptor
abbrev pub takes_fd : Body → Bool
takes_fd (Told event) = has_fd event.target
takes_fd Lost = false

-- the next descriptor after a record
abbrev pub fd_after : ℕ → Body → ℕ
fd_after fd body = if takes_fd body then fd + 1 else fd

-- a permission event waits for its answer under its descriptor
abbrev pub pending_of : ℕ → ℕ → Body → List Pending
pending_of fd number (Told event) =
    if event.perm && has_fd event.target then (record { fd = fd; entry = number; event = event }) ∷ []
    else []
pending_of fd number Lost = []

-- the records of entries, the first of which would have this descriptor
abbrev pub records : ℕ → List Entry → List ℕ
records fd [] = []
records fd (entry ∷ rest) = record_of fd entry.body ++ records (fd_after fd entry.body) rest

-- the events of entries that wait for an answer once they were read
abbrev pub pendings : ℕ → List Entry → List Pending
pendings fd [] = []
pendings fd (entry ∷ rest) =
    pending_of fd entry.number entry.body ++ pendings (fd_after fd entry.body) rest

-- the next descriptor after entries were read
abbrev pub next_fd_after : ℕ → List Entry → ℕ
next_fd_after fd [] = fd
next_fd_after fd (entry ∷ rest) = next_fd_after (fd_after fd entry.body) rest

-- the first record has more than these bytes
abbrev pub first_is_longer : ℕ → List Entry → Bool
first_is_longer size [] = false
first_is_longer size (entry ∷ rest) = nat_lt size (record_len entry.body)

-- the longest front of a queue whose records together have no more than these bytes
unfoldable pub front_within : ℕ → List Entry → List Entry
front_within size [] = []
front_within size (entry ∷ rest) =
    if nat_le (record_len entry.body) size then entry ∷ front_within (size - record_len entry.body) rest
    else []

-- the entries of a front leave the queue
unfoldable pub read_front : ListenerState → List Entry → ListenerState
read_front state front = record state {
  queue = drop (length front) state.queue;
  pending = state.pending ++ pendings state.next_fd front;
  next_fd = next_fd_after state.next_fd front;
}

-- the bytes of a front, and the listener without it
abbrev pub front_read : ListenerState → List Entry → List ℕ × ListenerState
front_read state front = (records state.next_fd front, read_front state front)

-- a read of at most this many bytes: EBADF, EAGAIN, EINVAL in this order, else the bytes and the
-- listener after it
unfoldable pub read_of : ListenerState → ℕ → Result (List ℕ × ListenerState) Errno
read_of state size =
    if state.closed then Err errno.Ebadf
    else if length state.queue == 0 then Err errno.Eagain
    else if first_is_longer size state.queue then Err errno.Einval
    else Ok (front_read state (front_within size state.queue))
