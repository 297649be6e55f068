use Rattle.fan_world.proofs.Entering.{edited_drop}
use Rattle.fan_world.proofs.marks.Marks.enter_and_drop.Goals as goal

pub returns-in-Ok-clause-edited : goal.returns-in-Ok-clause-edited
returns-in-Ok-clause-edited g c =
    edited_drop g.row.S.Denot g.S.Sections.inside g.S.Sections.shows g.S.Sections.honest c.args.self.now
    c.enter-section.new.self c.change.new.self c.enter-section.result c.args.object c.requires.room
    c.enter-section.ensures.entered c.enter-section.ensures.same c.change.ensures.keeps c.in-Ok.ensures.marks
    c.in-Ok.ensures.waiting c.in-Ok.ensures.few c.change.ensures.batch
