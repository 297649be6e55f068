use Rattle.fan_bulk.proofs.SummaryLemmas.{summary_more}
use Rattle.fan_bulk.proofs.laws.summaries_add_up.Goals as goal

pub returns : goal.returns
returns c = summary_more
