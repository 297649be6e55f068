-- An access from its begin on: it asks groups in order, and then tells groups in order.
use Rattle.std.specs.Prelude.{◌≡◌, ℕ, ◌==◌, ◌++◌, Bool, true, false, MatchBool, List, [], ◌∷◌, Option, Some, Ok, filter, if◌then◌else◌}
use Rattle.fan_access.specs.Access.{AccessState, asks, new_access, tells}
use Rattle.fan_access.specs.Rounds.{Turn}
use Rattle.fan_bits.specs.declared.outcome.StepOutcome.{StepOutcome}
use Rattle.fan_bits.specs.Outcomes.{asked_by, is_denial, settles, told_by}
use Rattle.fan_machine.specs.Accesses.{op_of}
use Rattle.fan_machine.specs.Deeds.{Deed, deed_of}
use Rattle.fan_machine.specs.Next.{next}
use Rattle.fan_machine.specs.World.{WorldState, changed_if}
use Rattle.fan_script.specs.declared.reply.Reply.{Reply}
use Rattle.fan_script.specs.declared.reply.Reply.TheVariants as replies
use Rattle.fan_script.specs.declared.step.OpWord.{OpWord}
use Rattle.fan_script.specs.declared.step.Step.{Step}
use Rattle.fan_script.specs.declared.step.Step.TheVariants as steps

-- a `begin` that a world answers by `done`: the word of its operation, its paths, and what it does by them
pub record Begin (world : WorldState) (number : ℕ) : Type 0 where
  pub pid : ℕ
  pub tid : ℕ
  pub word : OpWord
  pub path : List ℕ
  pub second : Option (List ℕ)
  pub deed : Deed
  pub done : (next world (steps.Begin number pid tid word path second)).reply ≡ replies.Done
  pub does : deed_of world (op_of word) path second ≡ Ok deed

-- the world after it
abbrev pub begun_world : (world : WorldState) (number : ℕ) → Begin world number → WorldState
begun_world world number begin =
    (next world (steps.Begin number begin.pid begin.tid begin.word begin.path begin.second)).world

-- the access that begins: it goes by the marks as they stand once a write has emptied its sets, and before
-- those on a removed file go
abbrev pub begun_access : (world : WorldState) (number : ℕ) → Begin world number → AccessState
begun_access world number begin =
    let view = changed_if begin.deed.first world.marks in
    new_access (op_of begin.word) begin.deed.spots begin.pid begin.tid view

-- one access is another one, in whichever phase
abbrev pub IsStill : AccessState → AccessState → Type 0
IsStill access now = now ≡ record access { phase = now.phase }

-- the outcomes in a reply that settle an ask or tell a group
abbrev pub settled_in : Reply → List StepOutcome
settled_in (replies.Out outcomes) = filter settles outcomes
settled_in _ = []

-- the same, of a single step of one access
abbrev pub settled_by : ℕ → Step → Reply → List StepOutcome
settled_by number (steps.Advance access) reply = if access == number then settled_in reply else []
settled_by number _ reply = []

-- what the single steps of an access settle and tell, among any steps from a world on, in their order
unfoldable pub outcomes_of : ℕ → WorldState → List Step → List StepOutcome
outcomes_of number world [] = []
outcomes_of number world (step ∷ more) =
    let after = next world step in settled_by number step after.reply ++ outcomes_of number after.world more

-- the group of each of these turns is told, in order, by one outcome; of all, if the access is finished
abbrev pub TellsInOrder : List Turn → List StepOutcome → Bool → Type 0
TellsInOrder turns [] finished = finished ≡ true → turns ≡ []
TellsInOrder [] (outcome ∷ more) finished = ⊥
TellsInOrder (turn ∷ turns) (outcome ∷ more) finished =
    (told_by outcome ≡ Some turn.interest.group) × TellsInOrder turns more finished

-- the group of each of the first turns is asked, in order, and settled by one outcome; a denial is the last one
-- and finishes the access, and after all the others the groups of the second turns are told
abbrev pub AsksThenTells : List Turn → List Turn → List StepOutcome → Bool → Type 0
AsksThenTells [] tells outcomes finished = TellsInOrder tells outcomes finished
AsksThenTells (turn ∷ asks) tells [] finished = finished ≡ false
AsksThenTells (turn ∷ asks) tells (outcome ∷ more) finished =
    (asked_by outcome ≡ Some turn.interest.group)
    × MatchBool (is_denial outcome) ((more ≡ []) × (finished ≡ true)) (AsksThenTells asks tells more finished)

-- an access asks and tells those that it has to, in order
abbrev pub GoesInOrder : AccessState → List StepOutcome → Bool → Type 0
GoesInOrder access outcomes finished = AsksThenTells (asks access) (tells access) outcomes finished
