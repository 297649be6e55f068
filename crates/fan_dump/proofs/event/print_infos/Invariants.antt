use Rattle.std.proofs.Common.{◌≡◌, ◌-◌, ◌++◌, List, length, drop}
use Rattle.fan_dump.specs.Texts.{infos_text}
use Rattle.fan_fid.specs.Infos.{SpellsInfos}
use Rattle.fan_fid.specs.Infos.{InfoParts}
use Rattle.fan_record.specs.Infos.{AreInfos}
use Rattle.fan_dump.proofs.event.print_infos.Given as goal

-- the lines of the information records before a place were put, and from it on others fill the part
abbrev pub invariant-loop-answer : goal.invariant-loop-answer
invariant-loop-answer l = record {
  before : List InfoParts;
  spelled : SpellsInfos l.part 0 l.infos.at before;
  put : l.out.items ≡ l.fn.out.items ++ infos_text before;
  input : l.infos.bytes ≡ l.part;
  filled : AreInfos (drop l.infos.at l.part);
}

abbrev pub decreases-loop-answer : goal.decreases-loop-answer
decreases-loop-answer l = length l.part - l.infos.at
