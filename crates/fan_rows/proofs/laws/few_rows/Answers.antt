use Rattle.fan_rows.proofs.Counting.{few_rows, rows_of_1024}
use Rattle.fan_rows.proofs.laws.few_rows.Goals as goal

pub returns-clause-live : goal.returns-clause-live
returns-clause-live c = few_rows

pub returns-clause-few : goal.returns-clause-few
returns-clause-few c = rows_of_1024
