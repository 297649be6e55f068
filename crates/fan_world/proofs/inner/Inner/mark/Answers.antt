use Rattle.std.proofs.Common.{Some, arith, refl}
use Rattle.fan_groups.proofs.Bounded.{bounded_later}
use Rattle.fan_machine.specs.Marking.{marked}
use Rattle.fan_world.proofs.Flags.{keeps_itself}
use Rattle.fan_world.proofs.Machines.{as_kept, changed_machine}
use Rattle.fan_world.proofs.Safe.{kept_there, safe_marks}
use Rattle.fan_world.proofs.inner.Inner.mark.Goals as goal

pub returns-clause-done : goal.returns-clause-done
unfolding marked
returns-clause-done g c world machine =
    let kept = as_kept g.row.S.Denot g.S.Sections.shows g.S.Sections.honest _ _ world c.self.view_is machine in
    let there = kept_there g.row.S.Denot g.S.Sections.inside c.args.self.now.steps _ _ c.self.view_is c.requires.safe in
    rw (← (c.in_ok-change.ensures.change world machine), c.change.ensures.batch, c.reserve.ensures.same) (record {
      answers = refl;
      machine = changed_machine g.row.S.Denot g.S.Sections.inside g.S.Sections.shows g.S.Sections.honest _ world kept
          there c.in_ok-change.change _ world.mounts _ world.groups c.change.new.self.sections c.change.new.self.marks
          c.change.new.self.waiting (rw c.reserve.ensures.same at c.change.ensures.keeps) kept.mounts kept.groups
          (rw c.reserve.ensures.same at c.in_ok-change-2.ensures.marks)
          (rw c.reserve.ensures.same at c.in_ok-change-2.ensures.waiting);
    })

pub returns-clause-safe : goal.returns-clause-safe
returns-clause-safe g c =
    let there = kept_there g.row.S.Denot g.S.Sections.inside c.args.self.now.steps _ _ c.self.view_is c.requires.safe in
    safe_marks g.row.S.Denot g.S.Sections.inside c.args.self.now.steps _ c.args.self.now _ c.self.view_is
    c.requires.safe (bounded_later c.args.self.now.steps _) (keeps_itself _)
    (rw c.reserve.ensures.same at c.change.ensures.batch) (Some c.in_ok-change.change) c.in_ok-change.ensures.classed
    (rw c.reserve.ensures.same at c.in_ok-change-2.ensures.marks)
    (rw c.reserve.ensures.same at c.in_ok-change-2.ensures.waiting)
    (rw c.reserve.ensures.same at c.in_ok-change-2.ensures.few) (omega arith)
    ((rw c.reserve.ensures.same at c.change.ensures.keeps) _ there).there
