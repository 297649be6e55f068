use Rattle.fan_grace.proofs.Notified.{drop_notif, notified}
use Rattle.fan_grace.proofs.tests.drop_group.Goals as goal

pub change-requires : goal.change-requires
change-requires c = record { possible = (c.requires.class.0, c.requires.class.1, tt) }

pub returns-clause-class : goal.returns-clause-class
returns-clause-class c =
    let marks = c.requires.class in
    notified c.args.table.now c.change.new.self c.change.result marks.0 _ marks.1 marks.2
    (drop_notif marks.0 c.args.group marks.2) (c.change.ensures.ok marks.0 marks.1) c.change.ensures.err
