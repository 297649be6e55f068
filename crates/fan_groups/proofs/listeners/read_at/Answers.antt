use Rattle.fan_groups.proofs.Open.{at_index, open_read}
use Rattle.fan_groups.proofs.listeners.read_at.Goals as goal

pub returns-clause-count : goal.returns-clause-count
returns-clause-count c =
    let here = at_index c.args.listeners.now.items c.args.index _ _ c.requires.within c.index_mut-listener.ensures.value in
    open_read c.args.listeners.now.items c.args.index _ _ here
    (λ bytes. bytes.items) c.args.size c.read.result c.read.ensures.ok c.read.ensures.err
