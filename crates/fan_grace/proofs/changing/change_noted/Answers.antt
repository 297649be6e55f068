use Rattle.std.proofs.Common.{Result, Ok, Err, sym, subst}
use Rattle.std.specs.Prelude.{OnOk}
use Rattle.fan_bits.specs.Marks.{IsChange, changed}
use Rattle.fan_grace.specs.Noted.{AreNoted}
use Rattle.fan_grace.proofs.NotedLemmas.{note_object, note_put}
use Rattle.fan_grace.proofs.changing.change_noted.Goals as goal

pub returns-in_ok-made-in-Put-clause-noted : goal.returns-in_ok-made-in-Put-clause-noted
returns-in_ok-made-in-Put-clause-noted c = λ marks tree can were.
    let is = c.in-Put.is in
    subst (λ change. AreNoted c.note.new.self.entries (changed marks change)) (sym is)
    (note_put c.reserve.new.self.entries c.note.new.self.entries marks c.in-Put.group c.in-Put.class c.in-Put.words
    c.in-Put.object can.kept.list (subst (IsChange marks) is can.allowed) c.note.ensures
    (subst (λ entries. AreNoted entries marks) (sym c.reserve.ensures.same) were))

-- what holds anyway holds in the case of success
always : {A E P : Type 0} (result : Result A E) → P → OnOk result P
always (Ok value) holds = holds
always (Err why) holds = tt

pub returns-in-Clear-clause-noted : goal.returns-in-Clear-clause-noted
returns-in-Clear-clause-noted c = λ marks tree can were.
    always c.change-in-Clear.result (note_object c.args.noted.now.entries marks c.args.change.now c.in-Clear.is were)
