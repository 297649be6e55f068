use Rattle.fan_groups.proofs.Open.{at_index, open_put}
use Rattle.fan_groups.proofs.listeners.ask_at.Goals as goal

pub returns-clause-count : goal.returns-clause-count
returns-clause-count c =
    let here = at_index c.args.listeners.now.items c.args.index _ _ c.requires.within c.index_mut-listener.ensures.value in
    open_put c.args.listeners.now.items c.args.index _ _ here
    _ _ c.ask_notice.ensures.ok c.ask_notice.ensures.err
