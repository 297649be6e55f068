use Rattle.std.proofs.Common.{◌≡◌, ◌++◌, drop}
use Rattle.fan_print.specs.Texts.{later_text}
use Rattle.fan_print.proofs.reply.print_later.Given as goal

-- the text so far, and that of what is left, are that of all
abbrev pub invariant-loop-outcome : goal.invariant-loop-outcome
invariant-loop-outcome l =
    l.out.items ++ later_text (drop l.outcome-index l.outcomes) ≡ l.fn.out.items ++ later_text l.outcomes
