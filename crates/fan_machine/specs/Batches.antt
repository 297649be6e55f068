-- `grace`: retired marks are reclaimed in batches, once no access is open that was open when the batch started.
use Rattle.std.specs.Prelude.{Bool, List, [], Option, Some, None, length, is_some, if◌then◌else◌}
use Rattle.std.specs.List.{list_any}
use Rattle.std.specs.Map.{keys_of}
use Rattle.fan_machine.specs.Accesses.{access_of}
use Rattle.fan_machine.specs.Outcome.{Attempt, answers}
use Rattle.fan_machine.specs.World.{Batch, RetiredMark, WorldState}
use Rattle.fan_script.specs.declared.reply.Reply.TheVariants as replies

-- one of the accesses of a batch is open
abbrev pub is_held : WorldState → Batch → Bool
is_held world batch = list_any (λ number. is_some (access_of world number)) batch.accesses

-- the batch under way that goes on, since it is held
abbrev pub held : WorldState → Option Batch → Option Batch
held world None = None
held world (Some batch) = if is_held world batch then Some batch else None

-- the marks of the batch under way, if it ends now
abbrev pub reclaimed : WorldState → Option Batch → List RetiredMark
reclaimed world None = []
reclaimed world (Some batch) = if is_held world batch then [] else batch.retired

-- all that waits, as a batch with the accesses that are open now; none if nothing waits
abbrev pub batch_of : WorldState → List RetiredMark → Option Batch
batch_of world [] = None
batch_of world waiting = Some (record { retired = waiting; accesses = keys_of world.accesses })

-- a batch starts, if none is under way
abbrev pub started : WorldState → Option Batch → WorldState
started world (Some batch) = record world { batch = Some batch }
started world None = record world { waiting = []; batch = batch_of world world.waiting }

-- `grace`: the batch under way ends, if it isn't held, and then one starts, if none is under way
unfoldable pub graced : WorldState → Attempt
graced world =
    answers (replies.Reclaimed (length (reclaimed world world.batch))) (started world (held world world.batch))
