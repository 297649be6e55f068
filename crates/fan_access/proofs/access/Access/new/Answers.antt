use Rattle.std.proofs.Common.{refl, sym}
use Rattle.fan_access.specs.Rounds.{asked_rounds}
use Rattle.fan_access.proofs.Turns.{turns_behind-start}
use Rattle.fan_access.proofs.access.Access.new.Goals as goal

pub returns : goal.returns
returns c = record {
  begins = λ marks view is_list sees. record {
    op = refl;
    spots = c.from_vec.ensures;
    pid = refl;
    tid = refl;
    phase = (0, refl, sym (turns_behind-start view (asked_rounds c.args.op c.args.spots.items) is_list));
    sees = sees;
  };
}
