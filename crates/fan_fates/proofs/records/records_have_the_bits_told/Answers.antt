use Rattle.std.proofs.Common.{◌≡◌, ◌++◌, true, subst, sym}
use Rattle.std.proofs.lemmas.List.Elements.{All-weaker}
use Rattle.fan_bits.specs.MarkWords.{overflow_bit}
use Rattle.fan_queue.specs.declared.entry.Entry.{Entry}
use Rattle.fan_queue.specs.Queue.{is_lost}
use Rattle.std.specs.Prelude.{All}
use Rattle.fan_fates.proofs.Lived.{lived}
use Rattle.fan_fates.proofs.Reading.{mask_overflows, read_spelled}
use Rattle.fan_fates.specs.Bits.{HasBitsIn, mask_of}
use Rattle.fan_fates.specs.Fates.{left, told}
use Rattle.fan_fates.specs.Steps.{deeds_in}
use Rattle.fan_machine.specs.World.{initial_world}
use Rattle.fan_fates.proofs.records.records_have_the_bits_told.Goals as goal

-- src/records.rt
pub returns-clause-bits : goal.returns-clause-bits
returns-clause-bits c = λ steps group.
    let its = lived steps group in
    let past = deeds_in group initial_world steps in
    subst (λ queue. All (HasBitsIn past) (left past ++ queue)) (sym its.queue) its.history.fits.bits

pub returns-clause-records : goal.returns-clause-records
returns-clause-records c = λ before group size bytes said. read_spelled before group size bytes said

pub returns-clause-overflow_bits : goal.returns-clause-overflow_bits
returns-clause-overflow_bits c = λ steps group.
    let its = lived steps group in
    let past = deeds_in group initial_world steps in
    subst (λ queue. All (λ (entry : Entry). is_lost entry ≡ true
    → mask_of (told past entry.number) ≡ overflow_bit) (left past ++ queue)) (sym its.queue)
    (All-weaker (HasBitsIn past) (λ (entry : Entry). is_lost entry ≡ true
    → mask_of (told past entry.number) ≡ overflow_bit) (λ entry has. mask_overflows past entry has)
    (left past ++ its.listener.queue) its.history.fits.bits)
