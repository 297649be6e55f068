use Rattle.fan_grace.proofs.Notified.{can_put, notified, put_notif}
use Rattle.fan_grace.proofs.tests.put.Goals as goal

pub change-requires : goal.change-requires
change-requires c =
    let marks = c.requires.class in
    record {
      possible = (
        marks.0,
        marks.1,
        can_put marks.0 c.args.group _ c.args.object c.requires.group c.ranges.group.fits c.requires.object
            c.ranges.mask.fits c.requires.verb marks.2,
      );
    }

pub returns-clause-class : goal.returns-clause-class
returns-clause-class c =
    let marks = c.requires.class in
    let put = can_put marks.0 c.args.group _ c.args.object c.requires.group c.ranges.group.fits
    c.requires.object c.ranges.mask.fits c.requires.verb marks.2 in
    notified c.args.table.now c.change.new.self c.change.result marks.0 _ marks.1 marks.2
    (put_notif marks.0 c.args.group _ c.args.object marks.1.1 put marks.2) (c.change.ensures.ok marks.0 marks.1)
    c.change.ensures.err
