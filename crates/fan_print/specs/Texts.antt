-- The texts of replies, without their LF.
use Rattle.std.specs.Prelude.{ℕ, List, [], ◌∷◌, ◌++◌, codes}
use Rattle.std.specs.Fmt.{decimal}
use Rattle.fan_bits.specs.declared.errno.Errno.{Errno}
use Rattle.fan_bits.specs.declared.errno.Errno.TheVariants as errno
use Rattle.fan_bits.specs.declared.outcome.StepOutcome.{StepOutcome}
use Rattle.fan_bits.specs.declared.outcome.StepOutcome.TheVariants as outcomes
use Rattle.fan_script.specs.declared.reply.Reply.{Reply}
use Rattle.fan_script.specs.declared.reply.Reply.TheVariants as replies
use Rattle.fan_text.specs.Spelling.{hex_text}

-- a refusal is the name of its errno
unfoldable pub errno_text : Errno → List ℕ
errno_text errno.Ebadf = codes "EBADF"
errno_text errno.Einval = codes "EINVAL"
errno_text errno.Enoent = codes "ENOENT"
errno_text errno.Enotdir = codes "ENOTDIR"
errno_text errno.Eisdir = codes "EISDIR"
errno_text errno.Eexist = codes "EEXIST"
errno_text errno.Enotempty = codes "ENOTEMPTY"
errno_text errno.Ebusy = codes "EBUSY"
errno_text errno.Exdev = codes "EXDEV"
errno_text errno.Enospc = codes "ENOSPC"
errno_text errno.Emfile = codes "EMFILE"
errno_text errno.Eagain = codes "EAGAIN"
errno_text errno.Esrch = codes "ESRCH"
errno_text errno.Eacces = codes "EACCES"

-- what a single step of an access did
unfoldable pub outcome_text : StepOutcome → List ℕ
outcome_text (outcomes.Asked group) = codes "asked " ++ decimal group
outcome_text (outcomes.Blocked group) = codes "blocked " ++ decimal group
outcome_text (outcomes.Allowed group) = codes "allowed " ++ decimal group
outcome_text (outcomes.Denied group) = codes "denied " ++ decimal group
outcome_text (outcomes.Closed group) = codes "closed " ++ decimal group
outcome_text (outcomes.Full group) = codes "full " ++ decimal group
outcome_text (outcomes.Queued group) = codes "told " ++ decimal group ++ codes " queued"
outcome_text (outcomes.Merged group) = codes "told " ++ decimal group ++ codes " merged"
outcome_text (outcomes.Overflow group) = codes "told " ++ decimal group ++ codes " overflow"
outcome_text outcomes.Done = codes "done"

-- single steps behind another, each after a comma and a space
abbrev pub later_text : List StepOutcome → List ℕ
later_text [] = []
later_text (outcome ∷ more) = codes ", " ++ outcome_text outcome ++ later_text more

-- what single steps of an access did, with a comma and a space between each two
abbrev pub outcomes_text : List StepOutcome → List ℕ
outcomes_text [] = []
outcomes_text (outcome ∷ more) = outcome_text outcome ++ later_text more

-- what is printed for a reply
unfoldable pub reply_text : Reply → List ℕ
reply_text replies.Done = codes "ok"
reply_text (replies.Inode object) = codes "inode " ++ decimal object
reply_text (replies.Fs fs) = codes "fs " ++ decimal fs
reply_text (replies.Mount mount) = codes "mount " ++ decimal mount
reply_text (replies.Group group) = codes "group " ++ decimal group
reply_text (replies.Bytes bytes) = codes "bytes " ++ hex_text bytes
reply_text (replies.Refused refusal) = errno_text refusal
reply_text (replies.Reclaimed marks) = codes "reclaimed " ++ decimal marks
reply_text (replies.Out outs) = outcomes_text outs

-- answers behind another, each after a comma and a space
abbrev pub more_text : List Reply → List ℕ
more_text [] = []
more_text (answer ∷ more) = codes ", " ++ reply_text answer ++ more_text more

-- the answers of a run, with a comma and a space between each two
abbrev pub answers_text : List Reply → List ℕ
answers_text [] = []
answers_text (answer ∷ more) = reply_text answer ++ more_text more
