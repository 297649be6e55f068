use Rattle.fan_listener.proofs.ResponseLemmas.{same_rest}
use Rattle.fan_listener.proofs.responses.take_waiting.Goals as goal

pub returns-clause-none : goal.returns-clause-none
returns-clause-none c =
    same_rest c.args.fd c.args.next_fd c.args.asked.now.events c.remove.result c.remove.new.self.events
    c.remove.ensures.value c.remove.ensures.rest
