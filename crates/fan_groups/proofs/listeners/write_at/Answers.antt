use Rattle.fan_groups.proofs.Open.{at_index, open_written}
use Rattle.fan_groups.proofs.listeners.write_at.Goals as goal

pub returns-clause-count : goal.returns-clause-count
returns-clause-count c =
    let here = at_index c.args.listeners.now.items c.args.index _ _ c.requires c.index_mut-listener.ensures.value in
    open_written c.args.listeners.now.items c.args.index _ _ here
    c.args.bytes.now c.write.result c.write.ensures.ok c.write.ensures.err
