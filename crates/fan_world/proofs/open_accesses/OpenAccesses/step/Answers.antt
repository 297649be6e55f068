use Rattle.std.proofs.Common.{ap, refl, sym}
use Rattle.std.proofs.lemmas.Result.{err_from_is_err_and}
use Rattle.std.specs.BTreeMap.{is_at}
use Rattle.std.specs.Map.{set_value}
use Rattle.std.specs.Ordering.{nat_cmp}
use Rattle.fan_world.specs.Machine.{sections_of}
use Rattle.fan_world.specs.Marks.{MarksState}
use Rattle.fan_world.specs.Opened.{AreCounted}
use Rattle.fan_world.specs.Sections.{Keeps}
use Rattle.fan_world.proofs.Both.{goes_after, goes_few, has_stepped, stays_few, stays_same}
use Rattle.fan_world.proofs.OpenLemmas.{counted_set}
use Rattle.fan_world.proofs.OpenSections.{is_there, keeps_stepped, of_entries}
use Rattle.fan_world.proofs.open_accesses.OpenAccesses.step.Given.{Over}
use Rattle.fan_world.proofs.open_accesses.OpenAccesses.step.Goals as goal
use Rattle.fan_world.proofs.open_accesses.OpenAccesses.step.Goals.{After-step}

-- an access keeps its place as it steps, so those through each mount stay counted
stay_counted : (g : Over) (c : After-step g)
    → AreCounted (set_value (is_at (nat_cmp c.args.number)) c.self.inside.by_number.entries
    (record { access = c.step.new.access; section = c.in-Some.stepping.now.section }))
    c.self.inside.through.entries c.self.inside.last
stay_counted g c =
    let kept = c.self.inside in
    counted_set kept.by_number.entries kept.through.entries kept.last c.self.invariant c.args.number
    c.in-Some.stepping.now _ (sym c.in-Some.ensures.value) (sym c.step.ensures.same_spots)

-- and the sections of all stay in
stay_in : (g : Over) (c : After-step g)
    → Keeps g.S.Sections.inside g.S.Sections.shows g.S.Sections.honest c.args.marks.now.sections
    c.step.new.self.sections
    (sections_of (set_value (is_at (nat_cmp c.args.number)) c.self.inside.by_number.entries
    (record { access = c.step.new.access; section = c.in-Some.stepping.now.section })))
stay_in g c =
    keeps_stepped g.row.S.Denot g.S.Sections.inside g.S.Sections.shows g.S.Sections.honest
    c.args.marks.now.sections c.step.new.self.sections (is_at (nat_cmp c.args.number))
    c.self.inside.by_number.entries c.in-Some.stepping.now _
    (of_entries (λ es. g.S.Sections.inside c.args.marks.now.sections (sections_of es)) _ _ c.self.view_is
    c.requires.there)
    (sym c.in-Some.ensures.value) refl
    (ap (λ (marks : MarksState g.row.S.Denot). marks.sections) c.step.ensures.same)

pub invariant_of-self-in_err-outcome : goal.invariant_of-self-in_err-outcome
invariant_of-self-in_err-outcome g c = stay_counted g (goal.at.invariant_of-self-in_err-outcome g c).After-step

pub invariant_of-self-then-ends_access : goal.invariant_of-self-then-ends_access
invariant_of-self-then-ends_access g c =
    stay_counted g (goal.at.invariant_of-self-then-ends_access g c).After-step

pub invariant_of-self-else-ends_access : goal.invariant_of-self-else-ends_access
invariant_of-self-else-ends_access g c =
    stay_counted g (goal.at.invariant_of-self-else-ends_access g c).After-step

pub step-requires-clause-there : goal.step-requires-clause-there
step-requires-clause-there g c =
    is_there g.row.S.Denot g.S.Sections.inside g.S.Sections.shows g.S.Sections.honest c.args.marks.now.sections
    (is_at (nat_cmp c.args.number)) c.self.inside.by_number.entries c.in-Some.stepping.now
    (of_entries (λ es. g.S.Sections.inside c.args.marks.now.sections (sections_of es)) _ _ c.self.view_is
    c.requires.there)
    (sym c.in-Some.ensures.value)

pub returns-in_err-outcome-clause-keeps : goal.returns-in_err-outcome-clause-keeps
returns-in_err-outcome-clause-keeps g c = stay_in g (goal.at.returns-in_err-outcome-clause-keeps g c).After-step

pub returns-in_err-outcome-clause-err : goal.returns-in_err-outcome-clause-err
returns-in_err-outcome-clause-err g c =
    let err = err_from_is_err_and c.from_residual.result c.from_residual.ensures.1 in
    rw (err.1, ← c.self.view_is)
    (stays_same c.args.number c.self.inside.by_number.entries c.in-Some.stepping.now c.step.new.access
    (sym c.in-Some.ensures.value) c.in_err-outcome.ensures.err)

pub end-requires : goal.end-requires
end-requires g c = record { there = (stay_in g (goal.at.end-requires g c).After-step).there }

pub returns-then-ends_access-clause-stepped : goal.returns-then-ends_access-clause-stepped
returns-then-ends_access-clause-stepped g c =
    let es = c.self.inside.by_number.entries in
    let outcome = c.in_ok-outcome.outcome in
    rw (← c.self.view_is)
    (has_stepped g.row.S.Denot g.S.Sections.shows c.args.marks.now.sections c.args.number outcome c.args.groups.now
    c.step.new.groups es c.end.new.self.entries c.in-Some.stepping.now c.step.new.access
    (sym c.in-Some.ensures.value) c.in_ok-outcome.ensures.ok
    (goes_after c.args.number es c.in-Some.stepping.now c.step.new.access outcome c.end.new.self.entries
    (sym c.if-ends_access.ensures) c.end.ensures.entries))

pub returns-then-ends_access-clause-some : goal.returns-then-ends_access-clause-some
returns-then-ends_access-clause-some g c =
    rw (← c.self.view_is) (c.in-Some.stepping.now, sym c.in-Some.ensures.value)

pub returns-then-ends_access-clause-few : goal.returns-then-ends_access-clause-few
returns-then-ends_access-clause-few g c =
    rw (← c.self.view_is)
    (goes_few c.args.number c.self.inside.by_number.entries c.in-Some.stepping.now c.step.new.access
    c.end.new.self.entries c.end.ensures.entries)

pub returns-else-ends_access-clause-some : goal.returns-else-ends_access-clause-some
returns-else-ends_access-clause-some g c =
    rw (← c.self.view_is) (c.in-Some.stepping.now, sym c.in-Some.ensures.value)

pub returns-else-ends_access-clause-keeps : goal.returns-else-ends_access-clause-keeps
returns-else-ends_access-clause-keeps g c = stay_in g (goal.at.returns-else-ends_access-clause-keeps g c).After-step

pub returns-else-ends_access-clause-few : goal.returns-else-ends_access-clause-few
returns-else-ends_access-clause-few g c =
    rw (← c.self.view_is)
    (stays_few c.args.number c.self.inside.by_number.entries c.in-Some.stepping.now c.step.new.access)

pub returns-in_err-outcome-clause-few : goal.returns-in_err-outcome-clause-few
returns-in_err-outcome-clause-few g c =
    rw (← c.self.view_is)
    (stays_few c.args.number c.self.inside.by_number.entries c.in-Some.stepping.now c.step.new.access)
