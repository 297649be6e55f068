-- The errors of read(2) and write(2) on a group: fanotify(7).
use Rattle.std.specs.Prelude.{Option, Some, None}
use Rattle.fan_bits.specs.declared.errno.Errno.{Errno}
use Rattle.fan_bits.specs.declared.errno.Errno.TheVariants as errno
use Rattle.fan_listener.specs.declared.answers.ReadRefused.{ReadRefused}
use Rattle.fan_listener.specs.declared.answers.ReadRefused.TheVariants as reads
use Rattle.fan_listener.specs.declared.answers.WriteRefused.{WriteRefused}
use Rattle.fan_listener.specs.declared.answers.WriteRefused.TheVariants as writes

-- the error of a refused read; want of memory is none of the machine's
abbrev pub read_errno : ReadRefused → Option Errno
read_errno reads.Closed = Some errno.Ebadf
read_errno reads.Again = Some errno.Eagain
read_errno reads.Small = Some errno.Einval
read_errno reads.NoMemory = None

-- the error of a refused response
abbrev pub write_errno : WriteRefused → Errno
write_errno writes.Closed = errno.Ebadf
write_errno writes.Length = errno.Einval
write_errno writes.Value = errno.Einval
write_errno writes.NotPending = errno.Enoent
