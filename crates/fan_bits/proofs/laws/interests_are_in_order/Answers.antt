use Rattle.fan_bits.specs.Interest.{interest_order, interests}
use Rattle.fan_bits.proofs.InterestLaws.{bits_wanted, class_marked, groups_wanting, interests_distinct}
use Rattle.fan_bits.proofs.Interests.{rises-interests}
use Rattle.fan_bits.proofs.Rising.{increasing}
use Rattle.fan_bits.proofs.laws.interests_are_in_order.Goals as goal

pub returns : goal.returns
returns c = record {
  rising = λ marks happening.
      increasing interest_order (interests marks happening) (rises-interests marks happening);
  groups = λ marks happening group is_list. groups_wanting marks is_list happening group;
  once = λ marks happening is_list. interests_distinct marks is_list happening;
  class = λ marks happening is_list. class_marked marks is_list happening;
  bits = bits_wanted;
}
