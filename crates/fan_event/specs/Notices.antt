-- Events with borrowed names. No public clause cites this module.
use Rattle.fan_event.specs.declared.target.Target.{Target}
use Rattle.fan_event.specs.declared.target.Target.TheVariants as targets
use Rattle.fan_event.specs.declared.target_ref.TargetRef.{TargetRef}
use Rattle.fan_event.specs.declared.target_ref.TargetRef.TheVariants as refs

-- the object, with its name
abbrev pub target_seen : TargetRef → Target
target_seen (refs.Fd mount inode) = targets.Fd mount inode
target_seen (refs.Handle fs object dir name) = targets.Handle fs object dir name
