-- What a function of the player has done, once it has put a text at the end of what is to be written.
use Rattle.std.specs.Prelude.{◌≡◌, ℕ, Bool, true, false, List, ◌++◌, Option, Some, None}
use Rattle.fan_machine.specs.Outcome.{Outcome}
use Rattle.fan_machine.specs.Run.{is_last}
use Rattle.fan_machine.specs.World.{WorldState}
use Rattle.fan_shell.specs.Playing.{Turn}
use Rattle.fan_print.specs.Texts.{reply_text}
use Rattle.fan_world.specs.Machine.{IsMachine, Parts}

-- this text was put at the end, and the parts stand for this world
pub record IsAnswered (parts : Parts) (before now text : List ℕ) (world : WorldState) : Type 0 where
  pub put : now ≡ before ++ text
  pub machine : IsMachine parts world

-- the same of the outcome of one single step, with a test for whether it ends the run
pub record IsSingleStep (parts : Parts) (before now : List ℕ) (ends : Bool) (outcome : Outcome) : Type 0 where
  pub put : now ≡ before ++ reply_text outcome.reply
  pub machine : IsMachine parts outcome.world
  pub last : ends ≡ is_last outcome.reply

-- the parts stand for the world that the next line starts from; a bad line leaves none
abbrev pub IsStart : Parts → Bool → Option WorldState → Type 0
IsStart parts true (Some world) = IsMachine parts world
IsStart parts false None = Unit {0}
IsStart _ _ _ = ⊥

-- the text of one line was put at the end, and the next line can start, if the line was good
pub record IsTurn (parts : Parts) (before now : List ℕ) (good : Bool) (turn : Turn) : Type 0 where
  pub put : now ≡ before ++ turn.text
  pub start : IsStart parts good turn.start
