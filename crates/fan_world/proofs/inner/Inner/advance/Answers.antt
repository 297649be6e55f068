use Rattle.std.proofs.Common.{ap, refl}
use Rattle.fan_world.specs.Marks.{MarksState}
use Rattle.fan_world.proofs.Flags.{keeps_once}
use Rattle.fan_world.proofs.Machines.{advance_done, advance_none, as_kept}
use Rattle.fan_world.proofs.Safe.{bounded_once, safe_groups}
use Rattle.fan_world.proofs.inner.Inner.advance.Goals as goal
use Rattle.fan_world.proofs.inner.Inner.advance.Goals.{in-None, in-Some}

pub returns-clause-done : goal.returns-clause-done
returns-clause-done g c world machine =
    let kept = as_kept g.row.S.Denot g.S.Sections.shows g.S.Sections.honest _ _ world c.self.view_is machine in
    elim c.match-stepped.branch [
      | in-None w ↦
          let none = advance_none g.row.S.Denot g.S.Sections.inside g.S.Sections.shows g.S.Sections.honest _ world
          c.args.number kept (rw w.in-None.is at c.in_ok-stepped.ensures.none) in
          rw (w.result-is, none) refl
      | in-Some w ↦
          let there = rw w.in-Some.is at c.in_ok-stepped.ensures.some in
          rw (w.result-is, w.one.ensures, c.step.ensures.marks)
          (advance_done g.row.S.Denot g.S.Sections.inside g.S.Sections.shows g.S.Sections.honest _
          c.step.new.groups c.step.new.marks.sections c.step.new.self.entries c.step.new.self.last world c.args.number
          w.in-Some.outcome there.0 kept there.1 (rw w.in-Some.is at c.in_ok-stepped.ensures.stepped)
          c.step.ensures.keeps c.step.ensures.last)
    ]

pub returns-clause-safe : goal.returns-clause-safe
returns-clause-safe g c =
    safe_groups g.row.S.Denot g.S.Sections.inside c.args.self.now.steps _ c.args.self.now _ c.self.view_is
    c.requires.safe (λ bounded. bounded_once c.args.self.now.steps _ _ bounded c.step.ensures.calls)
    (keeps_once _ _ c.step.ensures.calls)
    (ap (λ (marks : MarksState g.row.S.Denot). marks.batch) c.step.ensures.marks)
    (ap (λ (marks : MarksState g.row.S.Denot). marks.marks) c.step.ensures.marks)
    (ap (λ (marks : MarksState g.row.S.Denot). marks.waiting) c.step.ensures.marks)
    c.step.ensures.few c.step.ensures.keeps.there
