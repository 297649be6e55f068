use Rattle.std.proofs.Common.{◌≡◌, ◌∙◌, ◌+◌, ℕ, cond, subst, sym}
use Rattle.std.specs.Prelude.{◌==◌}
use Rattle.std.specs.BTreeMap.{is_at}
use Rattle.std.specs.Ordering.{nat_cmp}
use Rattle.fan_map.specs.Counts.{number_at}
use Rattle.fan_world.specs.Machine.{sections_of}
use Rattle.fan_world.proofs.OpenLemmas.{count_before, counted_less, counted_same, removed_none}
use Rattle.fan_world.proofs.OpenSections.{is_there, keeps_itself, keeps_left, of_entries}
use Rattle.fan_world.proofs.open_accesses.OpenAccesses.end.Given.{Over}
use Rattle.fan_world.proofs.open_accesses.OpenAccesses.end.Goals as goal
use Rattle.fan_world.proofs.open_accesses.OpenAccesses.end.Goals.{After-remove}

pub take_one-requires : goal.take_one-requires
take_one-requires g c =
    let kept = c.self.inside in
    rw c.mount.ensures
    (count_before kept.by_number.entries kept.through.entries kept.last c.self.invariant c.args.number c.in-Some.ended
    (sym c.remove.ensures.value ∙ c.in-Some.is))

pub invariant_of-self : goal.invariant_of-self
invariant_of-self g c =
    let kept = c.self.inside in
    rw c.remove.ensures.entries
    (counted_less kept.by_number.entries kept.through.entries kept.last c.self.invariant c.take_one.new.counts.entries
    c.args.number c.in-Some.ended (sym c.remove.ensures.value ∙ c.in-Some.is)
    (λ other. subst (λ (mount : ℕ). number_at c.take_one.new.counts.entries other + cond (mount == other) 1 0
    ≡ number_at kept.through.entries other) c.mount.ensures (c.take_one.ensures other)))

pub invariant_of-self-in_default : goal.invariant_of-self-in_default
invariant_of-self-in_default g c =
    let kept = c.self.inside in
    rw c.remove.ensures.entries
    (counted_same kept.by_number.entries kept.through.entries kept.last c.self.invariant c.args.number
    (sym c.remove.ensures.value ∙ c.in_default.is))

-- the sections of all accesses are in
all_in : (g : Over) (c : After-remove g)
    → g.S.Sections.inside c.args.marks.now.sections (sections_of c.self.inside.by_number.entries)
all_in g c =
    of_entries (λ es. g.S.Sections.inside c.args.marks.now.sections (sections_of es)) _ _ c.self.view_is
    c.requires.there

pub leave-requires : goal.leave-requires
leave-requires g c = record {
  there =
      is_there g.row.S.Denot g.S.Sections.inside g.S.Sections.shows g.S.Sections.honest c.args.marks.now.sections
      (is_at (nat_cmp c.args.number)) c.self.inside.by_number.entries c.in-Some.ended
      (all_in g (goal.at.leave-requires g c).After-remove) (sym c.remove.ensures.value ∙ c.in-Some.is);
}

pub returns-in-Some-clause-keeps : goal.returns-in-Some-clause-keeps
returns-in-Some-clause-keeps g c =
    rw c.remove.ensures.entries
    (keeps_left g.row.S.Denot g.S.Sections.inside g.S.Sections.shows g.S.Sections.honest c.args.marks.now.sections
    c.leave.new.self.sections (is_at (nat_cmp c.args.number)) c.self.inside.by_number.entries c.in-Some.ended
    (all_in g (goal.at.returns-in-Some-clause-keeps g c).After-remove)
    (sym c.remove.ensures.value ∙ c.in-Some.is) c.leave.ensures.keeps)

pub returns-in_default-clause-keeps : goal.returns-in_default-clause-keeps
returns-in_default-clause-keeps g c =
    rw (
      c.remove.ensures.entries,
      removed_none (is_at (nat_cmp c.args.number)) c.self.inside.by_number.entries
          (sym c.remove.ensures.value ∙ c.in_default.is),
    )
    (keeps_itself g.row.S.Denot g.S.Sections.inside g.S.Sections.shows g.S.Sections.honest c.args.marks.now.sections _
    (all_in g (goal.at.returns-in_default-clause-keeps g c).After-remove))
