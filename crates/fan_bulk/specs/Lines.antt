-- The script that `bulk` plays: its opening, and then the lines of its rounds.
use Rattle.std.specs.Prelude.{ℕ, zero, suc, ◌+◌, ◌==◌, nat_lt, Bool, not, ◌&&◌, List, [], ◌∷◌, ◌++◌, map, None, codes, if◌then◌else◌}
use Rattle.std.specs.Int.{to_le_bytes, w32}
use Rattle.fan_bulk.specs.declared.rounds.Drawn.{Drawn}
use Rattle.fan_bulk.specs.Generator.{drawn, stepped}
use Rattle.fan_script.specs.declared.line.Line.{Line}
use Rattle.fan_script.specs.declared.line.Line.TheVariants.{One, Run}
use Rattle.fan_script.specs.declared.step.OpWord.{OpWord}
use Rattle.fan_script.specs.declared.step.OpWord.TheVariants as ops
use Rattle.fan_script.specs.declared.step.Step.TheVariants as steps

-- the path of a file, by its digit
abbrev pub file_path : ℕ → List ℕ
file_path file = codes "/d/" ++ (48 + file) ∷ []

-- the digits of the ten files
abbrev pub files : List ℕ
files = 0 ∷ 1 ∷ 2 ∷ 3 ∷ 4 ∷ 5 ∷ 6 ∷ 7 ∷ 8 ∷ 9 ∷ []

-- the line that makes a file
abbrev pub file_line : ℕ → Line
file_line file = One (steps.MkFile (file_path file))

-- the line by which a group marks the directory
abbrev pub dir_mark : ℕ → ℕ → Line
dir_mark group mask = One (steps.Mark group 0x1 mask (codes "/d"))

-- the lines that make the three groups, and their marks on the directory
abbrev pub group_lines : List Line
group_lines =
    One (steps.Init 0x8) ∷ One (steps.Init 0x4) ∷ One (steps.Init 0x0)
    ∷ dir_mark 1 0x8010000 ∷ dir_mark 2 0x8010000 ∷ dir_mark 3 0x800003a ∷ []

-- the 18 lines before the first round
unfoldable pub opening : List Line
opening = One (steps.Limit 64) ∷ One (steps.MkDir (codes "/d")) ∷ map file_line files ++ group_lines

-- what a round goes by: the state of the generator, the number of its access, and the descriptors that
-- groups 1 and 2 answer next
pub record Round : Type 0 where
  pub state : ℕ
  pub access : ℕ
  pub first : ℕ
  pub second : ℕ

-- the three draws of a round: its kind, its file, and what group 1 answers
unfoldable pub draws : ℕ → Drawn
draws state =
    let first = stepped state in
    let second = stepped first in
    let third = stepped second in
    record { kind = drawn 8 first; file = drawn 10 second; answer = drawn 8 third }

-- the state of the generator after them
unfoldable pub state_after : ℕ → ℕ
state_after state = stepped (stepped (stepped state))

-- the file is opened
abbrev pub is_opening : Drawn → Bool
is_opening drawn = nat_lt drawn.kind 4

-- group 1 denies
abbrev pub is_denied : Drawn → Bool
is_denied drawn = drawn.answer == 0

-- group 1 allows, so that group 2 is asked
abbrev pub is_allowed : Drawn → Bool
is_allowed drawn = is_opening drawn && not (is_denied drawn)

-- the 8 bytes of a response: the descriptor, and the value
unfoldable pub response : ℕ → ℕ → List ℕ
response fd value = to_le_bytes w32 fd ++ to_le_bytes w32 value

-- an access to a file begins, and is run
unfoldable pub begin_lines : ℕ → OpWord → ℕ → List Line
begin_lines access op file =
    One (steps.Begin access (100 + file) (100 + file) op (file_path file) None) ∷ Run access ∷ []

-- a group's listener reads, and answers a descriptor; the access is run on
unfoldable pub answer_lines : ℕ → ℕ → ℕ → ℕ → List Line
answer_lines access group fd value =
    One (steps.Read group 4096) ∷ One (steps.Write group (response fd value)) ∷ Run access ∷ []

-- groups 1 and 2 allow
abbrev pub allowed_lines : Round → List Line
allowed_lines round =
    answer_lines round.access 1 round.first 1 ++ answer_lines round.access 2 round.second 1

-- group 1 denies, or it allows and group 2 allows
abbrev pub asked_lines : Round → Drawn → List Line
asked_lines round drawn =
    if is_denied drawn then answer_lines round.access 1 round.first 2 else allowed_lines round

-- group 3 marks a file, or takes its mark away
abbrev pub mark_line : ℕ → ℕ → Line
mark_line flags file = One (steps.Mark 3 flags 0x20 (file_path file))

-- the lines of a round, by what it draws
abbrev pub lines_by : Round → Drawn → List Line
lines_by round drawn =
    if is_opening drawn then begin_lines round.access ops.Opens drawn.file ++ asked_lines round drawn
    else if drawn.kind == 4 then begin_lines round.access ops.Writes drawn.file
    else if drawn.kind == 5 then mark_line 0x1 drawn.file ∷ []
    else if drawn.kind == 6 then mark_line 0x2 drawn.file ∷ []
    else One (steps.Read 3 65536) ∷ One steps.Grace ∷ []

-- a number, one more if the test holds
abbrev pub one_more_if : Bool → ℕ → ℕ
one_more_if test number = if test then number + 1 else number

-- what the next round goes by
abbrev pub round_after : Round → Drawn → Round
round_after round drawn = record {
  state = state_after round.state;
  access = round.access + 1;
  first = one_more_if (is_opening drawn) round.first;
  second = one_more_if (is_allowed drawn) round.second;
}

-- the lines of a round
unfoldable pub round_lines : Round → List Line
round_lines round = lines_by round (draws round.state)

-- what the round behind it goes by
unfoldable pub next_round : Round → Round
next_round round = round_after round (draws round.state)

-- what the first round goes by
abbrev pub first_round : ℕ → Round
first_round seed = record { state = seed; access = 1; first = 0; second = 0 }

-- the lines of so many rounds from this one on
abbrev pub rounds : ℕ → Round → List Line
rounds zero round = []
rounds (suc count) round = round_lines round ++ rounds count (next_round round)

-- what the round behind so many others goes by
abbrev pub round_at : ℕ → Round → Round
round_at zero round = round
round_at (suc count) round = round_at count (next_round round)

-- all lines of the script
unfoldable pub bulk_lines : ℕ → ℕ → List Line
bulk_lines seed count = opening ++ rounds count (first_round seed)
