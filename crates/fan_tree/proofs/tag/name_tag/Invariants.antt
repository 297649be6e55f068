use Rattle.std.proofs.Common.{◌≡◌, drop}
use Rattle.std.specs.Prelude.{fold}
use Rattle.fan_tree.specs.Tags.{name_hash, name_round}
use Rattle.fan_tree.proofs.tag.name_tag.Given as goal

abbrev pub invariant-loop-byte : goal.invariant-loop-byte
invariant-loop-byte l = fold name_round l.hash (drop l.byte-index l.name) ≡ name_hash l.dir l.name
