use Rattle.std.proofs.Common.{◌-◌, ◌+◌, ◌≤◌}
use Rattle.fan_machine.specs.Run.{ran}
use Rattle.fan_machine.specs.World.{WorldState}
use Rattle.fan_shell.proofs.RunLemmas.{RunsOn}
use Rattle.fan_world.specs.Machine.{IsMachine}
use Rattle.fan_shell.proofs.run.push_more.Given as goal

-- the answers so far and those of the single steps that are left are all answers of the run
abbrev pub invariant-loop : goal.invariant-loop
invariant-loop l = record {
  runs : (state : WorldState) → IsMachine l.fn.world state
      → RunsOn l.world l.fn.out.items l.out.items (l.left - l.counter) l.access (ran l.left state l.access);
  steps : l.world.steps ≤ l.fn.world.steps + l.counter;
}
