use Rattle.fan_bulk.proofs.RoundLemmas.{few_lines}
use Rattle.fan_bulk.proofs.rounds.Rounds.next_lines.Goals as goal

pub returns-clause-few : goal.returns-clause-few
returns-clause-few c =
    rw c.in_ok-lines.ensures (few_lines c.args.self.now c.draw_round-drawn.result)
