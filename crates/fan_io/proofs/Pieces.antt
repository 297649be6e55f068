-- Lists that are taken or put piece by piece.
use Rattle.std.proofs.Common.{◌≡◌, ℕ, ◌+◌, ◌<◌, ◌≤◌, List, ◌++◌, Option, length, take, drop, sym, arith, length-append, length-take}
use Rattle.std.proofs.lemmas.List.{take-append-drop, drop-drop}
use Rattle.std.proofs.Math.Seq.{take-add}
use Rattle.std.specs.Io.KnownBytes.{Appends, Consumes, Keeps}
use Rattle.std.proofs.KnownBytes.{Appends-trans, Appends-kept, Consumes-trans}
use Rattle.fan_io.specs.Bytes.{GaveMore, GaveAtMost, AppendsFront}

-- what was read at a place, and what is left behind it, are what was left there
pub read_at_place : (at count : ℕ) (bytes into : List ℕ) → take count into ≡ take count (drop at bytes) → drop at bytes ≡ take count into ++ drop (at + count) bytes
read_at_place at count bytes into copied =
    sym (rw (copied, ← drop-drop count at bytes) (take-append-drop count (drop at bytes)))

-- a piece that was put behind the bytes before a place makes the place rise
pub put_more : (old mid new : Option (List ℕ)) (bytes : List ℕ) (at count : ℕ) → Appends old mid (take at bytes) → Appends mid new (take count (drop at bytes)) → Appends old new (take (at + count) bytes)
put_more old mid new bytes at count before here = rw take-add (Appends-trans old mid new _ _ before here)

-- where the next piece failed, the bytes before the place are a front
pub front_at_failure : (old mid new : Option (List ℕ)) (bytes : List ℕ) (at : ℕ) → Appends old mid (take at bytes) → Keeps mid new → AppendsFront old new bytes
front_at_failure old mid new bytes at before kept = record {
  put = take at bytes;
  rest = drop at bytes;
  whole = take-append-drop at bytes;
  appended = Appends-kept old mid new _ before kept;
}

-- a piece past the room that was left makes more than the limit
pub more_given : (old mid new : Option (List ℕ)) (all piece : List ℕ) (limit count : ℕ) → Consumes old mid all → Consumes mid new (take count piece) → length all ≤ limit → count ≤ length piece → limit < length all + count → GaveMore old new limit
more_given old mid new all piece limit count before here within fits past = record {
  given = all ++ take count piece;
  consumed = Consumes-trans old mid new _ _ before here;
  more = simp (length-append, length-take) (omega arith);
}

-- a piece within the room that was left makes no more than the limit
pub most_given : (old mid new : Option (List ℕ)) (all piece : List ℕ) (limit count : ℕ) → Consumes old mid all → Consumes mid new (take count piece) → length all ≤ limit → count ≤ length piece → length all + count ≤ limit → GaveAtMost old new limit
most_given old mid new all piece limit count before here within fits past = record {
  given = all ++ take count piece;
  consumed = Consumes-trans old mid new _ _ before here;
  most = simp (length-append, length-take) (omega arith);
}
