use Rattle.fan_groups.proofs.Open.{at_index, open_closed}
use Rattle.fan_groups.proofs.listeners.close_at.Goals as goal

pub returns-clause-count : goal.returns-clause-count
returns-clause-count c =
    let here = at_index c.args.listeners.now.items c.args.index _ _ c.requires.within c.index_mut-listener.ensures.value in
    open_closed c.args.listeners.now.items c.args.index _ _ here
    (rw here at c.requires.still_open) c.close.ensures.closed
