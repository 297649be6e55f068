-- Playing a script line by line, one function for each function of the player. No caller has to believe it.
use Rattle.std.specs.Prelude.{ℕ, ◌+◌, List, [], ◌∷◌, Option, Some, None}
use Rattle.fan_script.specs.declared.line.Line.{Line}
use Rattle.fan_script.specs.Reading.{line_at}
use Rattle.fan_machine.specs.World.{WorldState, initial_world}
use Rattle.fan_shell.specs.declared.status.Status.TheVariants as statuses
use Rattle.fan_shell.specs.Script.{Printed, answered, bad_line_text, behind, lines_of}

-- the text of one line, and the world that the next line starts from, if there is one
pub record Turn : Type 0 where
  pub text : List ℕ
  pub start : Option WorldState

-- the turn of a line with this number; none is a bad line
abbrev pub turn_by : Option Line → WorldState → ℕ → Turn
turn_by None world number = record { text = bad_line_text number; start = None }
turn_by (Some line) world number =
    let r = answered world line in record { text = r.text; start = Some r.world }

-- the same of the bytes of a line
unfoldable pub turn : WorldState → ℕ → List ℕ → Turn
turn world number bytes = turn_by (line_at bytes) world number

-- a text, and then what the lines print that follow it, if there is a world to start from
abbrev pub after_turn : List ℕ → Option WorldState → (WorldState → Printed) → Printed
after_turn text None go_on = record { text = text; status = statuses.BadLine }
after_turn text (Some start) go_on = behind text (go_on start)

-- what is printed for pieces, of which the first has this number
abbrev pub played : List (List ℕ) → WorldState → ℕ → Printed
played [] world number = record { text = []; status = statuses.Ok }
played (bytes ∷ more) world number =
    let r = turn world number bytes in
    after_turn r.text r.start (λ start. played more start (number + 1))

-- what is printed for a script
unfoldable pub play : List ℕ → Printed
play bytes = played (lines_of bytes) initial_world 1
