use Rattle.fan_bits.proofs.OnObjects.{clear_on, drop_group_on, drop_object_on, flush_on, put_elsewhere, put_here}
use Rattle.fan_bits.proofs.laws.a_change_goes_by_objects.Goals as goal

pub returns : goal.returns
returns c = record {
  put_here = put_here;
  put_elsewhere = put_elsewhere;
  flush = flush_on;
  clear = clear_on;
  drop_group = drop_group_on;
  drop_object = drop_object_on;
}
