-- `mark`: fanotify_mark(2).
use Rattle.std.specs.Prelude.{ℕ, ◌||◌, Bool, true, false, not, List, Result, Ok, if◌then◌else◌}
use Rattle.fan_bits.specs.declared.change.Change.{Change}
use Rattle.fan_bits.specs.declared.change.Change.TheVariants.{Put, Flush}
use Rattle.fan_bits.specs.declared.errno.Errno.{Errno}
use Rattle.fan_bits.specs.declared.errno.Errno.TheVariants as errno
use Rattle.fan_bits.specs.declared.kind.Verb.{Verb}
use Rattle.fan_bits.specs.declared.kind.Verb.TheVariants as verbs
use Rattle.fan_bits.specs.declared.mark_call.MarkWords.{MarkWords}
use Rattle.fan_bits.specs.MarkWords.{is_mark_call, mark_words_of}
use Rattle.fan_bits.specs.Places.{object_of}
use Rattle.fan_bits.specs.Refusals.{refusal_of}
use Rattle.fan_bits.specs.Words.{class_of, occurs, unlimited_marks}
use Rattle.fan_listener.specs.Groups.{open_listener}
use Rattle.fan_machine.specs.Files.{place_in}
use Rattle.fan_machine.specs.Outcome.{Attempt, answers, refuse_if, refuse_unless, found_or, ◌>>=◌}
use Rattle.fan_machine.specs.World.{WorldState, with_change}
use Rattle.fan_script.specs.declared.reply.Reply.TheVariants as replies

-- a change of a group made with these flags, unless it is refused: ENOENT, ENOSPC
abbrev pub allowed : WorldState → ℕ → Change → Result Change Errno
allowed world flags change = do
  free ← refuse_if (refusal_of world.marks change (occurs flags unlimited_marks))
  Ok change

-- bits are put on the mark of a group, made with these flags, or taken from it: the walk, ENOTDIR if a directory is
-- wanted, ENOENT if there is no mark to take from, ENOSPC if a new one is one too many
abbrev pub put_on : WorldState → ℕ → ℕ → MarkWords → List ℕ → Result Change Errno
put_on world group flags words path = do
  at ← place_in world path
  wanted ← refuse_unless (not words.only_dir || at.dir) errno.Enotdir
  allowed world flags (Put group (class_of flags) words (object_of words.kind at))

-- FAN_MARK_FLUSH
abbrev pub is_flush : Verb → Bool
is_flush verbs.Flush = true
is_flush _ = false

-- the same by what is to be done; FAN_MARK_FLUSH looks at no path
abbrev pub change_by : WorldState → ℕ → ℕ → MarkWords → List ℕ → Result Change Errno
change_by world group flags words path =
    if is_flush words.verb then Ok (Flush group words.kind) else put_on world group flags words path

-- the change of marks that a call asks for: EBADF, EINVAL, the walk, ENOTDIR, ENOENT, ENOSPC
unfoldable pub change_for : WorldState → ℕ → ℕ → ℕ → List ℕ → Result Change Errno
change_for world group flags mask path = do
  listener ← found_or errno.Ebadf (open_listener world.groups group)
  valid ← refuse_unless (is_mark_call flags mask listener.flags) errno.Einval
  change_by world group listener.flags (mark_words_of flags mask) path

-- `mark`
unfoldable pub marked : WorldState → ℕ → ℕ → ℕ → List ℕ → Attempt
marked world group flags mask path = do
  change ← change_for world group flags mask path
  answers replies.Done (with_change change world)
