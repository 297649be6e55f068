use Rattle.std.proofs.Common.{◌≡◌, take, fold}
use Rattle.fan_event.specs.Keys.{fnv_round}
use Rattle.fan_event.proofs.key.name_hash.Given as goal

abbrev pub invariant-loop-byte : goal.invariant-loop-byte
invariant-loop-byte l = l.hash ≡ fold fnv_round 14695981039346656037 (take l.byte-index l.bytes)
