-- What `bulk` plays and writes.
use Rattle.std.specs.Prelude.{◌≡◌, ℕ, Bool, List, [], ◌∷◌, ◌++◌, length}
use Rattle.std.specs.List.{join_with_byte}
use Rattle.fan_bulk.specs.declared.summary.Counts.{Counts}
use Rattle.fan_bulk.specs.Lines.{bulk_lines}
use Rattle.fan_bulk.specs.Summary.{summary, summary_text, with_reply}
use Rattle.fan_machine.specs.Next.{after}
use Rattle.fan_machine.specs.Outcome.{Outcome}
use Rattle.fan_machine.specs.Run.{is_last}
use Rattle.fan_machine.specs.World.{WorldState, initial_world}
use Rattle.fan_script.specs.declared.line.Line.{Line}
use Rattle.fan_script.specs.declared.reply.Reply.{Reply}
use Rattle.fan_script.specs.Lines.{words_of}
use Rattle.fan_shell.specs.Steps.{all_steps, replies_to}
use Rattle.fan_world.specs.Machine.{IsMachine, Parts}

-- the most rounds that are played
abbrev pub most_rounds : ℕ
most_rounds = 100000

-- the text of lines: the words of each with a space between each two, and an LF
abbrev pub script_text : List Line → List ℕ
script_text [] = []
script_text (line ∷ more) = join_with_byte 32 (words_of line) ++ 10 ∷ script_text more

-- what is counted for lines that are played from the start on: the lines, and the replies to their steps
unfoldable pub counts_of : List Line → Counts
counts_of lines = summary (length lines) (replies_to initial_world (all_steps initial_world lines))

-- what `bulk` writes: the summary of its script
unfoldable pub bulk_text : ℕ → ℕ → List ℕ
bulk_text seed count = summary_text (counts_of (bulk_lines seed count))

-- these lines were played from the start on, and counted
pub record IsPlayed (parts : Parts) (counts : Counts) (lines : List Line) : Type 0 where
  pub counted : counts ≡ counts_of lines
  pub machine : IsMachine parts (after initial_world (all_steps initial_world lines))

-- the counts with more replies, one after another
abbrev pub with_replies : Counts → List Reply → Counts
with_replies counts [] = counts
with_replies counts (reply ∷ more) = with_replies (with_reply counts reply) more

-- these replies were counted, and the parts stand for this world
pub record IsCounted (parts : Parts) (old new : Counts) (replies : List Reply) (world : WorldState) : Type 0
  where
    pub counts : new ≡ with_replies old replies
    pub machine : IsMachine parts world

-- the reply to one step was counted, and the parts stand for the world after it; with a test for whether the
-- reply ends a run
pub record IsCountedStep (parts : Parts) (old new : Counts) (ends : Bool) (outcome : Outcome) : Type 0 where
  pub counts : new ≡ with_reply old outcome.reply
  pub machine : IsMachine parts outcome.world
  pub last : ends ≡ is_last outcome.reply
