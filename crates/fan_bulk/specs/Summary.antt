-- What is counted in the replies to a script, and how it is written.
use Rattle.std.specs.Prelude.{ℕ, ◌+◌, ◌*◌, ◌^◌, ◌≤◌, Bool, true, false, List, [], ◌∷◌, ◌++◌, length, codes}
use Rattle.std.specs.Fmt.{decimal}
use Rattle.std.specs.List.{count_by, sum_by}
use Rattle.fan_bits.specs.declared.outcome.StepOutcome.{StepOutcome}
use Rattle.fan_bits.specs.declared.outcome.StepOutcome.TheVariants.{Asked, Allowed, Denied, Queued, Merged, Overflow}
use Rattle.fan_bulk.specs.declared.summary.Counts.{Counts}
use Rattle.fan_script.specs.declared.reply.Reply.{Reply}
use Rattle.fan_script.specs.declared.reply.Reply.TheVariants as replies

-- a group is asked
abbrev pub is_asked : StepOutcome → Bool
is_asked (Asked group) = true
is_asked _ = false

-- a group allowed
abbrev pub is_allowed : StepOutcome → Bool
is_allowed (Allowed group) = true
is_allowed _ = false

-- a group denied
abbrev pub is_denied : StepOutcome → Bool
is_denied (Denied group) = true
is_denied _ = false

-- a group was told: the answer begins with `told`
abbrev pub is_told : StepOutcome → Bool
is_told (Queued group) = true
is_told (Merged group) = true
is_told (Overflow group) = true
is_told _ = false

-- how many answers of single steps in a reply pass a test
abbrev pub answers_in : (StepOutcome → Bool) → Reply → ℕ
answers_in test (replies.Out outcomes) = count_by test outcomes
answers_in test _ = 0

-- how many bytes a reply gives
abbrev pub bytes_in : Reply → ℕ
bytes_in (replies.Bytes bytes) = length bytes
bytes_in _ = 0

-- how many marks a reply tells as reclaimed
abbrev pub marks_in : Reply → ℕ
marks_in (replies.Reclaimed marks) = marks
marks_in _ = 0

-- a reply that is an errno
abbrev pub is_refused : Reply → Bool
is_refused (replies.Refused errno) = true
is_refused _ = false

-- the counts of so many lines with these replies
unfoldable pub summary : ℕ → List Reply → Counts
summary lines replies = record {
  lines = lines;
  asked = sum_by (answers_in is_asked) replies;
  allowed = sum_by (answers_in is_allowed) replies;
  denied = sum_by (answers_in is_denied) replies;
  told = sum_by (answers_in is_told) replies;
  read = sum_by bytes_in replies;
  reclaimed = sum_by marks_in replies;
  refused = count_by is_refused replies;
  replies = length replies;
}

-- the counts with one more line
abbrev pub with_line : Counts → Counts
with_line counts = record counts { lines = counts.lines + 1 }

-- the counts with one more reply
unfoldable pub with_reply : Counts → Reply → Counts
with_reply counts reply = record {
  lines = counts.lines;
  asked = counts.asked + answers_in is_asked reply;
  allowed = counts.allowed + answers_in is_allowed reply;
  denied = counts.denied + answers_in is_denied reply;
  told = counts.told + answers_in is_told reply;
  read = counts.read + bytes_in reply;
  reclaimed = counts.reclaimed + marks_in reply;
  refused = counts.refused + count_by is_refused (reply ∷ []);
  replies = counts.replies + 1;
}

-- the counts with what single steps did
abbrev pub with_outcomes : Counts → List StepOutcome → Counts
with_outcomes counts outcomes = record counts {
  asked = counts.asked + count_by is_asked outcomes;
  allowed = counts.allowed + count_by is_allowed outcomes;
  denied = counts.denied + count_by is_denied outcomes;
  told = counts.told + count_by is_told outcomes;
}

-- none of the counts is more than numbers below 2^64 sum up to, one for each reply
pub record AreSmall (counts : Counts) : Type 0 where
  pub asked : counts.asked ≤ counts.replies * 2 ^ 64
  pub allowed : counts.allowed ≤ counts.replies * 2 ^ 64
  pub denied : counts.denied ≤ counts.replies * 2 ^ 64
  pub told : counts.told ≤ counts.replies * 2 ^ 64
  pub read : counts.read ≤ counts.replies * 2 ^ 64
  pub reclaimed : counts.reclaimed ≤ counts.replies * 2 ^ 64
  pub refused : counts.refused ≤ counts.replies * 2 ^ 64

-- a line of the summary: a word, a space and a number
abbrev pub count_text : List ℕ → ℕ → List ℕ
count_text word number = word ++ 32 ∷ decimal number ++ 10 ∷ []

-- what is written of the counts
unfoldable pub summary_text : Counts → List ℕ
summary_text counts =
    count_text (codes "lines") counts.lines
    ++ count_text (codes "asked") counts.asked
    ++ count_text (codes "allowed") counts.allowed
    ++ count_text (codes "denied") counts.denied
    ++ count_text (codes "told") counts.told
    ++ count_text (codes "read") counts.read
    ++ count_text (codes "reclaimed") counts.reclaimed
    ++ count_text (codes "refused") counts.refused
