use Rattle.std.proofs.Common.{◌≡◌, ◌∙◌, rules, sym}
use Rattle.fan_world_tests.proofs.Classes.{one_tells}
use Rattle.fan_world_tests.proofs.both.has_class.Goals as goal

pub returns-in-Some : goal.returns-in-Some
returns-in-Some c = λ is.
    let class : c.in-Some.mark.class ≡ c.args.class = search rules in
    one_tells c.args.book.now.marks c.args.group c.loop-object.object c.args.class c.in-Some.mark
    c.find.ensures.whole (sym c.find.ensures.found ∙ c.in-Some.is) class
