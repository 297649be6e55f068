-- The words that the marks of some answers make up.
use Rattle.std.specs.Prelude.{◌≡◌, ℕ, ◌<◌, ◌==◌, ◌&&◌, Bool, false, not, List, Option, Some, None}
use Rattle.std.specs.List.{list_any}
use Rattle.fan_bits.specs.declared.mark.Mark.{Mark}
use Rattle.fan_bits.specs.declared.place.Happening.{Happening}
use Rattle.fan_bits.specs.Interest.{bits_that, concerns, ignores}
use Rattle.fan_bits.specs.Words.{occurs}

-- a word has exactly the events that pass a test
abbrev pub HasJust : ℕ → (ℕ → Bool) → Type 0
HasJust word test = (event : ℕ) → event < 32 → occurs word event ≡ test event

-- the mark of an answer is one of the group and asks for an event
abbrev pub answer_concerns : ℕ → Happening → ℕ → Option Mark → Bool
answer_concerns group happening event None = false
answer_concerns group happening event (Some mark) = mark.group == group && concerns mark happening event

-- the mark of an answer is one of the group and ignores an event
abbrev pub answer_ignores : ℕ → Happening → ℕ → Option Mark → Bool
answer_ignores group happening event None = false
answer_ignores group happening event (Some mark) = mark.group == group && ignores mark happening event

-- a group wants an event, by the marks of some answers
abbrev pub answers_want : List (Option Mark) → ℕ → Happening → ℕ → Bool
answers_want answers group happening event =
    occurs happening.bits event
    && list_any (answer_concerns group happening event) answers
    && not (list_any (answer_ignores group happening event) answers)

-- the events that a group wants, by the marks of some answers
unfoldable pub wanted_by : List (Option Mark) → ℕ → Happening → ℕ
wanted_by answers group happening = bits_that 32 (answers_want answers group happening)
