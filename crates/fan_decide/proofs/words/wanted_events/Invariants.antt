use Rattle.std.proofs.Common.{take}
use Rattle.std.specs.List.{list_any}
use Rattle.fan_decide.specs.Words.{HasJust, answer_concerns, answer_ignores}
use Rattle.fan_decide.proofs.words.wanted_events.Given as goal

-- the words have the events of the answers so far
abbrev pub invariant-loop-answer : goal.invariant-loop-answer
invariant-loop-answer l = record {
  concerned : HasJust l.concerned (λ event. list_any (answer_concerns l.group l.happening event)
      (take l.answer-index l.answers));
  ignored : HasJust l.ignored (λ event. list_any (answer_ignores l.group l.happening event)
      (take l.answer-index l.answers));
}
