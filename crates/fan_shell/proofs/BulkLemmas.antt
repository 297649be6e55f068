-- Lines that are played and counted, one after another.
use Rattle.std.proofs.Common.{◌≡◌, ℕ, Bool, true, false, suc, ◌+◌, ◌-◌, ◌<◌, ◌≤◌, List, [], ◌∷◌, ◌++◌, length, get_or, take, refl, sym, ap, ◌∙◌, arith, append_assoc, append-nil, length-append}
use Rattle.std.proofs.lemmas.List.{take_more}
use Rattle.fan_bulk.specs.declared.summary.Counts.{Counts}
use Rattle.fan_bulk.specs.Lines.{Round, bulk_lines, first_round, next_round, opening, round_lines, rounds}
use Rattle.fan_bulk.specs.Summary.{summary, with_line}
use Rattle.fan_bulk.proofs.SummaryLemmas.{summary_more}
use Rattle.fan_machine.specs.Next.{after, next}
use Rattle.fan_machine.specs.Outcome.{Outcome}
use Rattle.fan_machine.specs.Run.{Ran, max_answers, ran}
use Rattle.fan_machine.specs.World.{WorldState, initial_world}
use Rattle.fan_script.specs.declared.line.Line.{Line}
use Rattle.fan_script.specs.declared.line.Line.TheVariants.{Run}
use Rattle.fan_script.specs.declared.reply.Reply.{Reply}
use Rattle.fan_script.specs.declared.step.Step.{Step}
use Rattle.fan_shell.specs.Bulk.{IsCounted, IsCountedStep, IsPlayed, counts_of, with_replies}
use Rattle.fan_shell.specs.Steps.{all_steps, replies_to, steps_of}
use Rattle.fan_shell.proofs.RunLemmas.{first_of, more_of, run_ends, run_goes_on, run_none}
use Rattle.fan_shell.proofs.StepLemmas.{after-append, ran_is}
use Rattle.fan_world.specs.Machine.{IsMachine, Parts}

-- the replies to steps and further steps
replies_to-append : (world : WorldState) (steps more : List Step)
    → replies_to world (steps ++ more) ≡ replies_to world steps ++ replies_to (after world steps) more
replies_to-append world [] more = refl
replies_to-append world (step ∷ steps) more =
    ap (λ (replies : List Reply). (next world step).reply ∷ replies)
    (replies_to-append (next world step).world steps more)

-- the steps of lines and further lines
all_steps-append : (world : WorldState) (lines more : List Line)
    → all_steps world (lines ++ more) ≡ all_steps world lines ++ all_steps (after world (all_steps world lines)) more
all_steps-append world [] more = refl
all_steps-append world (line ∷ lines) more =
    let here = steps_of world line in
    let there = after world here in
    rw (all_steps-append there lines more, after-append world here (all_steps there lines)) (simp append_assoc)

-- replies behind others add to their summary what they tell
summary-append : (lines : ℕ) (replies more : List Reply)
    → summary lines (replies ++ more) ≡ with_replies (summary lines replies) more
summary-append lines replies [] = rw append-nil refl
summary-append lines replies (reply ∷ more) =
    let whole : replies ++ reply ∷ more ≡ (replies ++ reply ∷ []) ++ more = simp append_assoc in
    rw (whole, summary-append lines (replies ++ reply ∷ []) more, summary_more lines replies reply) refl

-- a summary of one line more
summary_line : (lines : ℕ) (replies : List Reply) → summary (lines + 1) replies ≡ with_line (summary lines replies)
unfolding summary
summary_line lines replies = refl

-- at the start no line is played
pub played_start : (parts : Parts) (counts : Counts) → IsMachine parts initial_world → counts ≡ summary 0 []
    → IsPlayed parts counts []
unfolding counts_of
played_start parts counts machine is = record { counted = is; machine = machine }

-- a line that was played and counted behind others is the last of those played
pub played_more : {parts next_parts : Parts} {old new : Counts} (done : List Line) (line : Line)
    → IsPlayed parts old done
    → (let world = after initial_world (all_steps initial_world done) in
    let steps = steps_of world line in
    IsCounted next_parts (with_line old) new (replies_to world steps) (after world steps))
    → IsPlayed next_parts new (done ++ line ∷ [])
unfolding counts_of
played_more {parts} {next_parts} {old} {new} done line played counted =
    let before = all_steps initial_world done in
    let world = after initial_world before in
    let here = steps_of world line in
    let all : all_steps initial_world (done ++ line ∷ []) ≡ before ++ here =
    all_steps-append initial_world done (line ∷ []) ∙ rw append-nil refl in
    record {
      counted =
          counted.counts
          ∙ rw (
            played.counted,
            all,
            replies_to-append initial_world before here,
            length-append done (line ∷ []),
            summary-append (length done + 1) (replies_to initial_world before) (replies_to world here),
            summary_line (length done) (replies_to initial_world before),
          ) refl;
      machine = rw (all, after-append initial_world before here) counted.machine;
    }

module _ (left : ℕ) (world : WorldState) (access : ℕ) where
  abbrev first : Outcome
  first = first_of world access

  abbrev all : Ran
  all = ran left world access

  -- with no single step left, nothing is counted and nothing changes
  pub counted_none : {parts : Parts} (counts : Counts) → left ≡ 0 → IsMachine parts world
      → IsCounted parts counts counts all.answers all.world
  counted_none counts none machine = rw (none, run_none) (record { counts = refl; machine = machine })

  -- the answer that ends the run is the last that is counted
  pub counted_end : {parts : Parts} {old new : Counts} {ends : Bool} → 0 < left → ends ≡ true
      → IsCountedStep parts old new ends first → IsCounted parts old new all.answers all.world
  counted_end some stops single =
      rw (run_ends left world access some (sym single.last ∙ stops))
      (record { counts = single.counts; machine = single.machine })

  -- an answer that goes on, and those behind it
  pub counted_on : {mid_parts parts : Parts} {old mid new : Counts} {ends : Bool} → 0 < left → ends ≡ false
      → IsCountedStep mid_parts old mid ends first
      → (let more = more_of left world access in IsCounted parts mid new more.answers more.world)
      → IsCounted parts old new all.answers all.world
  counted_on some goes single later =
      rw (run_goes_on left world access some (sym single.last ∙ goes))
      (record { counts = later.counts ∙ rw single.counts refl; machine = later.machine })

-- the lines of rounds are those of the first one, and of those behind it
pub rounds_left : (count done : ℕ) (round : Round) → done < count
    → rounds (count - done) round ≡ round_lines round ++ rounds (count - (done + 1)) (next_round round)
rounds_left count done round some =
    let left : count - done ≡ suc (count - (done + 1)) = omega arith in
    rw left refl

-- the lines of the script are those of the opening, and those of all rounds
pub script_start : (seed count : ℕ) → opening ++ rounds (count - 0) (first_round seed) ≡ bulk_lines seed count
unfolding bulk_lines
script_start seed count = let all : count - 0 ≡ count = omega arith in rw all refl

module _ (done all : List Line) (count at : ℕ) (round : Round)
    (whole : done ++ rounds (count - at) round ≡ all) where
  -- a round is done, and the others are left
  pub script_on : at < count
      → (done ++ round_lines round) ++ rounds (count - (at + 1)) (next_round round) ≡ all
  script_on some =
      let later = rounds (count - (at + 1)) (next_round round) in
      append_assoc done (round_lines round) later
      ∙ ap (λ lines. done ++ lines) (sym (rounds_left count at round some)) ∙ whole

  -- all rounds are done
  pub script_end : count ≤ at → done ≡ all
  script_end none =
      let left : count - at ≡ 0 = omega arith in
      sym (append-nil done) ∙ rw left at whole

-- the answers of a run were counted: those of the steps of its line
pub counted_run : {parts : Parts} {old new : Counts} (world : WorldState) (access : ℕ)
    → (let run = ran max_answers world access in IsCounted parts old new run.answers run.world)
    → (let steps = steps_of world (Run access) in
    IsCounted parts old new (replies_to world steps) (after world steps))
counted_run world access counted =
    let run = ran_is max_answers world access in
    rw (run.replies, run.world_after) counted

-- a line that was counted behind others is the next one of the lines that are played
pub played_line : {parts next_parts : Parts} {old new : Counts} (done lines : List Line) (at : ℕ) (line : Line)
    → at < length lines → line ≡ get_or lines at line → IsPlayed parts old (done ++ take at lines)
    → ((world : WorldState) → IsMachine parts world
    → (let steps = steps_of world line in
    IsCounted next_parts (with_line old) new (replies_to world steps) (after world steps)))
    → IsPlayed next_parts new (done ++ take (at + 1) lines)
played_line done lines at line some is played counted =
    let before = done ++ take at lines in
    let next : done ++ take (at + 1) lines ≡ before ++ line ∷ [] =
    rw (take_more lines at line some, ← is) (sym (append_assoc done (take at lines) (line ∷ []))) in
    rw next
    (played_more before line played
    (counted (after initial_world (all_steps initial_world before)) played.machine))
