use Rattle.fan_world.specs.TableLaws.{inside_shows}
use Rattle.fan_world.proofs.world.TableSections.next.Goals as goal

pub next-requires-clause-shown : goal.next-requires-clause-shown
next-requires-clause-shown c =
    let there = c.requires.there in inside_shows c.args.self.now there.0 there.1 c.args.section.now there.2
