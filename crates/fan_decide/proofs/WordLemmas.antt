-- The words that the code computes have just the events of the definitions.
use Rattle.std.proofs.Common.{◌≡◌, ℕ, ◌-◌, ◌^◌, ◌<◌, List, Option, refl, arith}
use Rattle.std.specs.Int.RustNames.{bit_and}
use Rattle.std.specs.List.{list_any}
use Rattle.std.proofs.lemmas.Grind.{common_steps}
use Rattle.std.proofs.lemmas.Nat.{and_le_l, and_le_r}
use Rattle.fan_bits.specs.declared.mark.Mark.{Mark}
use Rattle.fan_bits.specs.declared.place.Happening.{Happening}
use Rattle.fan_bits.specs.Interest.{bits_that}
use Rattle.fan_bits.proofs.InterestLemmas.{occurs_all, occurs_and, occurs_child, occurs_not, occurs_or, occurs_zero, same_words, bits_that-lt, occurs_bits_that}
use Rattle.fan_decide.specs.Words.{HasJust, answer_concerns, answer_ignores, answers_want, wanted_by}

-- the events of the words of one mark
pub ruleset mark_events = (occurs_all, occurs_and, occurs_child, occurs_zero)

-- the events of the happening that are concerned and not ignored are those that the group wants
pub wanted_word : (answers : List (Option Mark)) (group : ℕ) (happening : Happening) (concerned ignored : ℕ)
    → concerned < 2 ^ 32 → ignored < 2 ^ 32
    → HasJust concerned (λ event. list_any (answer_concerns group happening event) answers)
    → HasJust ignored (λ event. list_any (answer_ignores group happening event) answers)
    → bit_and (bit_and happening.bits concerned) (0xffffffff - ignored) ≡ wanted_by answers group happening
unfolding wanted_by
wanted_word answers group happening concerned ignored small less concerns ignores =
    let word = bit_and (bit_and happening.bits concerned) (0xffffffff - ignored) in
    let within : word < 2 ^ 32 = omega (
      arith,
      and_le_l (bit_and happening.bits concerned) (0xffffffff - ignored),
      and_le_r happening.bits concerned,
    ) in
    same_words word (bits_that 32 (answers_want answers group happening)) within
    (bits_that-lt 32 (answers_want answers group happening))
    (λ event below.
    rw (occurs_bits_that 32 event (answers_want answers group happening) below)
    (rw (
      occurs_and,
      occurs_and,
      occurs_not ignored event less below,
      concerns event below,
      ignores event
          below,
    ) refl))

-- the events of words that the loop over answers joins, and what comes of them
pub ruleset wanted_steps = (common_steps, occurs_or, occurs_zero, wanted_word)
