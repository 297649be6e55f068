use Rattle.std.proofs.Common.{◌<◌, length, arith, ap}
use Rattle.fan_queue.specs.declared.entry.Entry.{Entry}
use Rattle.fan_queue.proofs.KeptLemmas.{found_more}
use Rattle.fan_queue.proofs.KeyLemmas.{number_from}
use Rattle.fan_queue.proofs.table.Table.of.Goals as goal

pub note_entry-requires : goal.note_entry-requires
note_entry-requires c =
    let entries = c.args.entries.now.items in
    let within : c.loop-index.index < length entries =
    omega (arith, c.loop-index-test.true, c.len-index-end.ensures) in
    let at = number_from c.args.front entries c.loop-index.index c.index.result.now c.requires.numbered within in
    omega (arith, at, within, c.requires.few, ap (λ (entry : Entry). entry.number) c.index.ensures)

pub loop-index-preserved : goal.loop-index-preserved
loop-index-preserved c =
    let entries = c.args.entries.now.items in
    let within : c.loop-index.index < length entries =
    omega (arith, c.loop-index-test.true, c.len-index-end.ensures) in
    found_more c.args.front entries c.loop-index.index c.index.result.now c.loop-index.table c.note_entry.new.self
    c.requires.numbered within c.index.ensures c.loop-index.invariant c.note_entry.ensures.kept
    c.in_ok-note_entry.ensures.noted
