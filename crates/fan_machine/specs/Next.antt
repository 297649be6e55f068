-- What one step makes of the machine, and a list of steps.
use Rattle.std.specs.Prelude.{true, false, List, [], ◌∷◌}
use Rattle.fan_machine.specs.Accesses.{advanced, begun}
use Rattle.fan_machine.specs.Batches.{graced}
use Rattle.fan_machine.specs.Files.{entry_made, fs_made, fs_mounted, fs_unmounted}
use Rattle.fan_machine.specs.Groups.{group_closed, group_made, group_read, group_written, limit_set}
use Rattle.fan_machine.specs.Marking.{marked}
use Rattle.fan_machine.specs.Outcome.{Attempt, Outcome, settled}
use Rattle.fan_machine.specs.World.{WorldState}
use Rattle.fan_script.specs.declared.step.Step.{Step}
use Rattle.fan_script.specs.declared.step.Step.TheVariants as steps

-- each step, by its form
unfoldable pub attempted : WorldState → Step → Attempt
attempted world (steps.MkFile path) = entry_made world path false
attempted world (steps.MkDir path) = entry_made world path true
attempted world steps.MkFs = fs_made world
attempted world (steps.Mount fs path) = fs_mounted world fs path
attempted world (steps.Umount path) = fs_unmounted world path
attempted world (steps.Limit entries) = limit_set world entries
attempted world (steps.Init flags) = group_made world flags
attempted world (steps.Mark group flags mask path) = marked world group flags mask path
attempted world (steps.Begin access pid tid op path second) =
    begun world access pid tid op path second
attempted world (steps.Advance access) = advanced world access
attempted world (steps.Read group size) = group_read world group size
attempted world (steps.Write group bytes) = group_written world group bytes
attempted world (steps.Close group) = group_closed world group
attempted world steps.Grace = graced world

-- the reply to a step and the world after it
unfoldable pub next : WorldState → Step → Outcome
next world step = settled world (attempted world step)

-- the world after a list of steps
abbrev pub after : WorldState → List Step → WorldState
after world [] = world
after world (step ∷ more) = after (next world step).world more
