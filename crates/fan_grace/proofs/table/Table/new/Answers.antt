use Rattle.std.proofs.Common.{[], slice_get}
use Rattle.fan_rows.specs.Trees.{Chain}
use Rattle.fan_grace.proofs.Empty.{kept_empty, none_noted}
use Rattle.fan_grace.proofs.table.Table.new.Goals as goal

pub invariant_of-result : goal.invariant_of-result
invariant_of-result c =
    let rows = c.in_ok-rows.ensures in
    record {
      kept = ([], Chain [], kept_empty c.in_ok-rows.rows rows.words rows.next rows.retired);
      marked = none_noted _;
      hinted = c.new-3.ensures (slice_get c.in_ok-rows.rows.words);
    }

pub returns-clause-empty : goal.returns-clause-empty
returns-clause-empty c =
    let rows = c.in_ok-rows.ensures in
    let kept = kept_empty c.in_ok-rows.rows rows.words rows.next rows.retired in
    ((Chain [], kept.pictured), kept.list)
