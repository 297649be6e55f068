use Rattle.fan_marks.specs.Summary.{IsMade}
use Rattle.fan_marks.proofs.Slots.{change_made, put_fillable}
use Rattle.fan_marks.proofs.book.MarkBook.change.Goals as goal

pub put-requires-clause-slot : goal.put-requires-clause-slot
put-requires-clause-slot c =
    put_fillable c.args.self.now.marks c.args.change.now c.in-Put.group c.in-Put.class c.in-Put.words
    c.in-Put.object c.in-Put.is c.requires c.slot.ensures.whole.list c.in-Ok.slot c.in-Ok.ensures.ok

made : (c : goal.In_ok-put-in-Put) → IsMade c.args.self.now.marks c.put.new.self.marks c.args.change.now
    c.in_ok-put-in-Put.field-0
made c =
    change_made c.args.self.now.marks c.args.change.now c.in-Put.group c.in-Put.class c.in-Put.words
    c.in-Put.object c.in-Put.is c.requires c.slot.ensures.whole.list c.in-Ok.slot c.in-Ok.ensures.ok
    c.put.new.self.marks c.in_ok-put-in-Put.field-0 c.in_ok-put-in-Put.ensures.marks
    c.in_ok-put-in-Put.ensures.summary

pub returns-in_ok-put-in-Put-clause-ok : goal.returns-in_ok-put-in-Put-clause-ok
returns-in_ok-put-in-Put-clause-ok c = (made c).made

pub returns-in_ok-put-in-Put-clause-changed : goal.returns-in_ok-put-in-Put-clause-changed
returns-in_ok-put-in-Put-clause-changed c = (made c).differs

pub returns-in_ok-put-in-Put-clause-retired : goal.returns-in_ok-put-in-Put-clause-retired
returns-in_ok-put-in-Put-clause-retired c = (made c).gone
