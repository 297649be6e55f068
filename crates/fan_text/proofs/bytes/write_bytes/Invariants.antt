use Rattle.std.proofs.Common.{◌≡◌, ◌+◌, ◌*◌, ◌≤◌, ◌++◌, length, drop, vec_len}
use Rattle.std.specs.Vec.{vec_capacity}
use Rattle.fan_text.specs.Spelling.{hex_text}
use Rattle.fan_text.proofs.bytes.write_bytes.Given as goal

-- the digits so far, and those of what is left, are those of all; and what is left has room
abbrev pub invariant-loop-byte : goal.invariant-loop-byte
invariant-loop-byte l = record {
  whole : l.out.items ++ hex_text (drop l.byte-index l.bytes) ≡ l.fn.out.items ++ hex_text l.bytes;
  room : vec_len l.out + 2 * length l.bytes ≤ vec_capacity l.out + 2 * l.byte-index;
}
