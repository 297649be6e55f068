-- The lines of the script fit the grammar, and are few.
use Rattle.std.proofs.Common.{◌≡◌, ℕ, zero, suc, ◌+◌, ◌*◌, ◌%◌, ◌^◌, ◌<◌, ◌≤◌, List, [], ◌∷◌, ◌++◌, All, Bool, true, false, None, length, map, refl, arith, lit<, length-append}
use Rattle.std.specs.Prelude.{codes}
use Rattle.std.proofs.Math.Dec.{lit≤}
use Rattle.std.proofs.lemmas.List.Elements.{All-append, All-from_recursion, All-map, All-nil, All-weaker}
use Rattle.std.proofs.lemmas.Nat.{mod_below}
use Rattle.fan_bulk.specs.Generator.{drawn}
use Rattle.fan_bulk.specs.Lines.{Round, allowed_lines, answer_lines, begin_lines, bulk_lines, dir_mark, draws, file_line, file_path, files, first_round, group_lines, is_allowed, is_opening, mark_line, next_round, one_more_if, opening, response, round_at, round_lines, rounds}
use Rattle.fan_bulk.proofs.RoundLemmas.{by_kind, few_lines}
use Rattle.fan_script.specs.declared.line.Line.{Line}
use Rattle.fan_script.specs.declared.line.Line.TheVariants.{One}
use Rattle.fan_script.specs.declared.step.OpWord.{OpWord}
use Rattle.fan_script.specs.declared.step.OpWord.TheVariants as ops
use Rattle.fan_script.specs.declared.step.Step.TheVariants as steps
use Rattle.fan_script.specs.Lines.{Fits, FitsOp, IsNumber, IsPid}
use Rattle.fan_text.specs.Spelling.{IsName, IsNameByte, IsPath, IsResponse}

-- a name of one byte
one_byte : (byte : ℕ) → 48 ≤ byte → byte < 127 → IsName (byte ∷ [])
one_byte byte low high = record {
  some = lit≤ tt;
  most = lit≤ tt;
  bytes = All-from_recursion IsNameByte (byte ∷ []) ((omega arith, omega arith, omega arith), tt);
  not_dot = λ same. let is : byte ≡ 46 = cc in omega (arith, is);
  not_dots = λ same. absurd cc;
}

-- the path of a file is a path
file_is_path : (file : ℕ) → file < 10 → IsPath (file_path file)
file_is_path file some = record {
  names = (100 ∷ []) ∷ ((48 + file) ∷ []) ∷ [];
  each = All-from_recursion IsName ((100 ∷ []) ∷ ((48 + file) ∷ []) ∷ [])
      (one_byte 100 (lit≤ tt) (lit< tt), (one_byte (48 + file) (omega arith) (omega arith), tt));
  spelled = refl;
  most = lit≤ tt;
}

-- the path of the directory is a path
dir_is_path : IsPath (47 ∷ 100 ∷ [])
dir_is_path = record {
  names = (100 ∷ []) ∷ [];
  each = All-from_recursion IsName ((100 ∷ []) ∷ []) (one_byte 100 (lit≤ tt) (lit< tt), tt);
  spelled = refl;
  most = lit≤ tt;
}

-- a response has eight bytes
is_response : (fd value : ℕ) → IsResponse (response fd value)
unfolding response
is_response fd value = record {
  some = lit≤ tt;
  most = lit≤ tt;
  each =
      let low : (n : ℕ) → n % 256 < 256 = λ n. mod_below n 256 (lit< tt) in
      All-from_recursion (λ byte. byte < 256) (response fd value)
      (low _, (low _, (low _, (low _, (low _, (low _, (low _, (low _, tt))))))));
}

-- the ten digits are below ten
digits_below : All (λ file. file < 10) files
digits_below =
    All-from_recursion (λ file. file < 10) files (
      lit< tt,
      (
        lit< tt,
        (
          lit< tt,
          (
            lit< tt,
            (
              lit< tt,
              (lit< tt, (lit< tt, (lit< tt, (lit< tt, (lit< tt, tt))))),
            ),
          ),
        ),
      ),
    )

-- the two lines before those of the files
abbrev first_lines : List Line
first_lines = One (steps.Limit 64) ∷ One (steps.MkDir (codes "/d")) ∷ []

-- the lines of the opening fit
opening_fits : All Fits opening
unfolding opening
opening_fits =
    let made =
    All-map Fits file_line files
    (All-weaker (λ file. file < 10) (λ file. Fits (file_line file)) file_is_path files digits_below) in
    let marked : (group mask : ℕ) → IsNumber group → mask < 2 ^ 64 → Fits (dir_mark group mask) =
    λ group mask number small. (number, lit< tt, small, dir_is_path) in
    let grouped =
    All-from_recursion Fits group_lines (
      lit< tt,
      (
        lit< tt,
        (
          lit< tt,
          (
            marked 1 0x8010000 (lit≤ tt, lit≤ tt) (lit< tt),
            (
              marked 2 0x8010000 (lit≤ tt, lit≤ tt) (lit< tt),
              (marked 3 0x800003a (lit≤ tt, lit≤ tt) (lit< tt), tt),
            ),
          ),
        ),
      ),
    ) in
    let first = All-from_recursion Fits first_lines ((lit≤ tt, lit≤ tt), (dir_is_path, tt)) in
    All-append Fits first_lines (map file_line files ++ group_lines) first
    (All-append Fits (map file_line files) group_lines made grouped)

module _ (access : ℕ) (is : IsNumber access) where
  -- the lines by which an access begins fit
  begin_fits : (op : OpWord) (file : ℕ) → file < 10 → FitsOp op None → All Fits (begin_lines access op file)
  unfolding begin_lines
  begin_fits op file some one =
      let pid : IsPid (100 + file) = (omega arith, omega arith) in
      All-from_recursion Fits (begin_lines access op file) ((is, pid, pid, file_is_path file some, one), (is, tt))

  -- the lines by which a group answers fit
  answer_fits : (group fd value : ℕ) → IsNumber group → All Fits (answer_lines access group fd value)
  unfolding answer_lines
  answer_fits group fd value number =
      All-from_recursion Fits (answer_lines access group fd value)
      ((number, lit≤ tt), ((number, is_response fd value), (is, tt)))

-- a line by which a group marks a file fits
mark_fits : (flags file : ℕ) → flags < 2 ^ 32 → file < 10 → All Fits (mark_line flags file ∷ [])
mark_fits flags file small some =
    All-from_recursion Fits (mark_line flags file ∷ [])
    (((lit≤ tt, lit≤ tt), small, lit< tt, file_is_path file some), tt)

-- the lines of a round fit
round_fits : (round : Round) → IsNumber round.access → All Fits (round_lines round)
unfolding round_lines draws drawn
round_fits round is =
    let draw = draws round.state in
    let some : draw.file < 10 = mod_below _ 10 (lit< tt) in
    let access = round.access in
    let opened = begin_fits access is ops.Opens draw.file some refl in
    let answered = answer_fits access is in
    let denied = answered 1 round.first 2 (lit≤ tt, lit≤ tt) in
    let allowed =
    All-append Fits (answer_lines access 1 round.first 1) (answer_lines access 2 round.second 1)
    (answered 1 round.first 1 (lit≤ tt, lit≤ tt)) (answered 2 round.second 1 (lit≤ tt, lit≤ tt)) in
    by_kind (All Fits) round draw
    (All-append Fits (begin_lines access ops.Opens draw.file) (answer_lines access 1 round.first 2) opened denied)
    (All-append Fits (begin_lines access ops.Opens draw.file) (allowed_lines round) opened allowed)
    (begin_fits round.access is ops.Writes draw.file some refl)
    (mark_fits 0x1 draw.file (lit< tt) some)
    (mark_fits 0x2 draw.file (lit< tt) some)
    (All-from_recursion Fits (One (steps.Read 3 65536) ∷ One steps.Grace ∷ []) (((lit≤ tt, lit≤ tt), lit≤ tt), (tt, tt)))

-- the lines of rounds fit, as long as the numbers of their accesses do
rounds_fit : (count : ℕ) (round : Round) → 1 ≤ round.access → round.access + count ≤ 4294967296
    → All Fits (rounds count round)
unfolding next_round
rounds_fit zero round some most = All-nil Fits
rounds_fit (suc count) round some most =
    All-append Fits (round_lines round) (rounds count (next_round round)) (round_fits round (some, omega arith))
    (rounds_fit count (next_round round) (omega arith) (omega arith))

-- the lines of the script fit
pub lines_fit : (seed count : ℕ) → count ≤ 100000 → All Fits (bulk_lines seed count)
unfolding bulk_lines
lines_fit seed count most =
    All-append Fits opening (rounds count (first_round seed)) opening_fits
    (rounds_fit count (first_round seed) (lit≤ tt) (omega arith))

-- the lines of rounds are few
rounds_few : (count : ℕ) (round : Round) → length (rounds count round) ≤ 8 * count
unfolding round_lines
rounds_few zero round = lit≤ tt
rounds_few (suc count) round =
    let here = few_lines round (draws round.state) in
    let later = rounds_few count (next_round round) in
    let both = length-append (round_lines round) (rounds count (next_round round)) in
    omega (arith, here, later, both)

-- the lines of the script are few
pub script_few : (seed count : ℕ) → length (bulk_lines seed count) ≤ 18 + 8 * count
unfolding bulk_lines opening
script_few seed count =
    let later = rounds_few count (first_round seed) in
    let both = length-append opening (rounds count (first_round seed)) in
    omega (arith, later, both)

-- a number rises by one at most
one_more : (b : Bool) (number : ℕ) → one_more_if b number ≤ number + 1
one_more true number = omega arith
one_more false number = omega arith

-- so many rounds raise each descriptor by their number at most
pub descriptors_few : (count : ℕ) (round : Round)
    → ((round_at count round).first ≤ round.first + count) × ((round_at count round).second ≤ round.second + count)
unfolding next_round
descriptors_few zero round = (omega arith, omega arith)
descriptors_few (suc count) round =
    let draw = draws round.state in
    let later = descriptors_few count (next_round round) in
    let first = one_more (is_opening draw) round.first in
    let second = one_more (is_allowed draw) round.second in
    (omega (arith, later.0, first), omega (arith, later.1, second))
