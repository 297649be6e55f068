-- Steps of groups and their listeners: fanotify_init(2), read(2), write(2), close(2).
use Rattle.std.specs.Prelude.{ℕ, ◌+◌, ◌&&◌, nat_le, nat_lt, List, [], ◌∷◌, ◌++◌, length, count_by}
use Rattle.fan_bits.specs.declared.change.Change.TheVariants.{DropGroup}
use Rattle.fan_bits.specs.declared.errno.Errno.TheVariants as errno
use Rattle.fan_bits.specs.Words.{is_init_flags}
use Rattle.fan_listener.specs.Groups.{closed_in, is_open, read_from, written_to}
use Rattle.fan_listener.specs.ListenerState.{new_listener}
use Rattle.fan_machine.specs.Outcome.{Attempt, answers, refuse_unless, found_or, ◌>>=◌}
use Rattle.fan_machine.specs.World.{WorldState, max_limit, with_change}
use Rattle.fan_script.specs.declared.reply.Reply.TheVariants as replies

-- how many groups may be open
abbrev pub max_open_groups : ℕ
max_open_groups = 128

-- `limit`: how many entries fill the queue of a group that is made later; EINVAL for a limit that no line has
unfoldable pub limit_set : WorldState → ℕ → Attempt
limit_set world entries = do
  valid ← refuse_unless (nat_le 1 entries && nat_le entries max_limit) errno.Einval
  answers replies.Done (record world { limit = entries })

-- `init`: EINVAL if the flags are no word, EMFILE if 128 groups are open
unfoldable pub group_made : WorldState → ℕ → Attempt
group_made world flags = do
  valid ← refuse_unless (is_init_flags flags) errno.Einval
  few ← refuse_unless (nat_lt (count_by is_open world.groups) max_open_groups) errno.Emfile
  answers
      (replies.Group (length world.groups + 1))
      (record world { groups = world.groups ++ new_listener flags world.limit ∷ [] })

-- `read`: EBADF, EAGAIN, EINVAL
unfoldable pub group_read : WorldState → ℕ → ℕ → Attempt
group_read world group size = do
  read ← read_from world.groups group size
  answers (replies.Bytes read.0) (record world { groups = read.1 })

-- `write`: EBADF, EINVAL, ENOENT
unfoldable pub group_written : WorldState → ℕ → List ℕ → Attempt
group_written world group bytes = do
  written ← written_to world.groups group bytes
  answers replies.Done (record world { groups = written.1 })

-- `close`: EBADF; the queue of the group is freed, and its marks go
unfoldable pub group_closed : WorldState → ℕ → Attempt
group_closed world group = do
  closed ← found_or errno.Ebadf (closed_in world.groups group)
  answers replies.Done (with_change (DropGroup group) (record world { groups = closed }))
