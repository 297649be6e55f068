-- What a command answers to its input.
use Rattle.std.proofs.Common.{◌≡◌, ℕ, List, Option, sym, ap, ◌∙◌}
use Rattle.fan_dump.proofs.DumpLemmas.{one_bad, one_text as one_dump}
use Rattle.fan_dump.specs.Dump.{Dumps, DumpsFront}
use Rattle.fan_shell.specs.declared.command.Command.{Command}
use Rattle.fan_shell.specs.declared.command.Command.TheVariants as commands
use Rattle.fan_shell.specs.declared.status.Status.{Status}
use Rattle.fan_shell.specs.Outcome.{Outcome, Tells, TellsFront, dump_status}
use Rattle.fan_shell.specs.Script.{Printed}
use Rattle.fan_shell.proofs.TranscriptLemmas.{transcript_is}

-- a command answers its input by one text at most
pub one_text : (command : Command) (bytes a b : List ℕ) (p q : Status) → Outcome command bytes a p
    → Outcome command bytes b q → a ≡ b
one_text commands.Script bytes a b p q x y =
    ap (λ (r : Printed). r.text) (sym (transcript_is bytes a p x) ∙ transcript_is bytes b q y)
one_text commands.Dump bytes a b p q x y = one_dump bytes a b x.0 y.0 x.1 y.1

-- and with one status at most
pub one_status : (command : Command) (bytes a b : List ℕ) (p q : Status) → Outcome command bytes a p
    → Outcome command bytes b q → p ≡ q
one_status commands.Script bytes a b p q x y =
    ap (λ (r : Printed). r.status) (sym (transcript_is bytes a p x) ∙ transcript_is bytes b q y)
one_status commands.Dump bytes a b p q x y =
    x.2 ∙ ap dump_status (one_bad bytes a b x.0 y.0 x.1 y.1) ∙ sym y.2

-- what is printed for records, put whole, is their answer
pub tells_dumped : (old new : Option (List ℕ)) (bytes : List ℕ) (bad : Option ℕ) (status : Status)
    → Dumps old new bytes bad → status ≡ dump_status bad → Tells commands.Dump old new bytes status
tells_dumped old new bytes bad status dumps is =
    record { text = dumps.text; outcome = (bad, dumps.dump, is); put = dumps.put }

-- a front of what is printed for records is a front of their answer
pub dumped_front : (old new : Option (List ℕ)) (bytes : List ℕ) → DumpsFront old new bytes
    → TellsFront commands.Dump old new bytes
dumped_front old new bytes front = λ text status outcome. front text outcome.0 outcome.1
