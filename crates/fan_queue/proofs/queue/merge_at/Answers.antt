use Rattle.std.proofs.Common.{◌∙◌, Some, ap, slice_set, sym}
use Rattle.std.specs.Option.{option_map}
use Rattle.fan_lists.proofs.FirstLemmas.{changed_at, found_at}
use Rattle.fan_queue.specs.declared.entry.Entry.{Entry}
use Rattle.fan_queue.specs.Queue.{merged, takes}
use Rattle.fan_queue.proofs.queue.merge_at.Goals as goal

pub returns-clause-number : goal.returns-clause-number
unfolding merged
returns-clause-number c =
    ap (option_map (λ (entry : Entry). entry.number))
    (found_at (takes c.args.event.now) c.args.entries.now.items c.args.index c.index_mut-entry.result.now
    c.requires c.index_mut-entry.ensures.value)
    ∙ ap (λ (entry : Entry). Some entry.number) (sym c.merge.ensures)

pub returns-clause-entries : goal.returns-clause-entries
returns-clause-entries c =
    ap (slice_set c.args.entries.now.items c.args.index) c.merge.ensures
    ∙ changed_at (takes c.args.event.now) (merged c.args.event.now) c.args.entries.now.items c.args.index
    c.index_mut-entry.result.now c.requires c.index_mut-entry.ensures.value
