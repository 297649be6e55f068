-- Whether all is information records depends on what is left.
use Rattle.std.proofs.Common.{◌↔◌, length}
use Rattle.fan_record.specs.Infos.{AreInfos}
use Rattle.fan_record.proofs.infos.are_infos.Given as goal

abbrev pub invariant-loop-rest : goal.invariant-loop-rest
invariant-loop-rest l = AreInfos l.fn.bytes ↔ AreInfos l.rest

abbrev pub decreases-loop-rest : goal.decreases-loop-rest
decreases-loop-rest l = length l.rest
