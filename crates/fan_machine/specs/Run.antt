-- `run`: the single step of an access, repeated until an answer ends it.
use Rattle.std.specs.Prelude.{ℕ, zero, suc, Bool, true, List, [], ◌∷◌, if◌then◌else◌}
use Rattle.fan_bits.specs.Outcomes.{ends_run}
use Rattle.fan_machine.specs.Next.{next}
use Rattle.fan_machine.specs.World.{WorldState}
use Rattle.fan_script.specs.declared.reply.Reply.{Reply}
use Rattle.fan_script.specs.declared.reply.Reply.TheVariants as replies
use Rattle.fan_script.specs.declared.step.Step.TheVariants as steps

-- an answer that ends a run: the access waits or is finished, or no such access is open
abbrev pub is_last : Reply → Bool
is_last (replies.Out (outcome ∷ [])) = ends_run outcome
is_last _ = true

-- the answers of a run, and the world after it
pub record Ran : Type 0 where
  pub answers : List Reply
  pub world : WorldState

-- a run of so many single steps at most
unfoldable pub ran : ℕ → WorldState → ℕ → Ran
ran zero world access = record { answers = []; world = world }
ran (suc count) world access =
    let first = next world (steps.Advance access) in
    let more = ran count first.world access in
    if is_last first.reply then record { answers = first.reply ∷ []; world = first.world }
    else record { answers = first.reply ∷ more.answers; world = more.world }

-- no run needs more single steps: an access that executes asks each of 128 groups twice, gets two answers and tells
-- once, and no other has more to do; and then the access is done
unfoldable pub max_answers : ℕ
max_answers = 641
