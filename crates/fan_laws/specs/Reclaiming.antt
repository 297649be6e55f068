-- Retired marks: those that a step retires, those that it reclaims, and those that are pending in between.
use Rattle.std.specs.Prelude.{List, [], ◌∷◌, ◌++◌, Option, Some, None}
use Rattle.fan_bits.specs.Marks.{gone}
use Rattle.fan_machine.specs.Batches.{reclaimed}
use Rattle.fan_machine.specs.Next.{next}
use Rattle.fan_machine.specs.World.{Batch, RetiredMark, WorldState, retired_now}
use Rattle.fan_script.specs.declared.step.Step.{Step}
use Rattle.fan_script.specs.declared.step.Step.TheVariants as steps

-- the marks before a step that are not there after it, with the greatest number that an access had by then
abbrev pub retired_in : WorldState → Step → List RetiredMark
retired_in world step =
    let after = (next world step).world in retired_now after.last_access (gone world.marks after.marks)

-- only `grace` reclaims marks: those of the batch that was under way, if it ends
abbrev pub reclaimed_in : WorldState → Step → List RetiredMark
reclaimed_in world steps.Grace = reclaimed world world.batch
reclaimed_in world _ = []

-- the marks of a batch, if there is one
abbrev pub marks_in : Option Batch → List RetiredMark
marks_in None = []
marks_in (Some batch) = batch.retired

-- the retired marks that are not reclaimed yet: those of the batch under way, and those that wait
abbrev pub pending : WorldState → List RetiredMark
pending world = marks_in world.batch ++ world.waiting

-- all that steps retire, in their order
unfoldable pub retirements : WorldState → List Step → List RetiredMark
retirements world [] = []
retirements world (step ∷ more) = retired_in world step ++ retirements (next world step).world more

-- all that steps reclaim, in their order
unfoldable pub reclaims : WorldState → List Step → List RetiredMark
reclaims world [] = []
reclaims world (step ∷ more) = reclaimed_in world step ++ reclaims (next world step).world more
