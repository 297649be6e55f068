use Rattle.std.proofs.Common.{◌≡◌, ◌+◌, ◌<◌, ℕ, cond, subst, sym}
use Rattle.std.specs.Prelude.{◌==◌}
use Rattle.fan_map.specs.Counts.{number_at}
use Rattle.fan_world.specs.Opened.{OpenState}
use Rattle.fan_world.proofs.OpenLemmas.{begun_last, counted_add, length_end, number_is_new}
use Rattle.fan_world.proofs.OpenSections.{last_section}
use Rattle.fan_world.proofs.open_accesses.OpenAccesses.add_reserved.Goals as goal

pub insert_reserved-requires-clause-absent : goal.insert_reserved-requires-clause-absent
insert_reserved-requires-clause-absent c =
    let kept = c.self.inside in
    number_is_new kept.by_number.entries kept.through.entries kept.last c.self.invariant c.args.number c.args.begun
    (subst (λ (state : OpenState). state.last < c.args.number) (sym c.self.view_is) c.requires.above)

pub invariant_of-self : goal.invariant_of-self
invariant_of-self c =
    let kept = c.self.inside in
    rw c.insert_reserved.ensures.entries
    (counted_add kept.by_number.entries kept.through.entries kept.last c.self.invariant c.add_one.new.counts.entries
    c.args.number c.args.begun
    (subst (λ (state : OpenState). state.last < c.args.number) (sym c.self.view_is) c.requires.above)
    (λ other. subst (λ (mount : ℕ). number_at c.add_one.new.counts.entries other
    ≡ number_at kept.through.entries other + cond (mount == other) 1 0) c.mount.ensures (c.add_one.ensures other)))

pub returns-clause-sections : goal.returns-clause-sections
returns-clause-sections c =
    let kept = c.self.inside in
    let above = subst (λ (state : OpenState). state.last < c.args.number) (sym c.self.view_is) c.requires.above in
    rw (
      ← c.self.view_is,
      c.insert_reserved.ensures.entries,
      begun_last kept.by_number.entries kept.through.entries
          kept.last c.self.invariant c.args.number c.args.begun above,
    )
    (last_section kept.by_number.entries c.args.number c.args.begun)

pub returns-clause-one_more : goal.returns-clause-one_more
returns-clause-one_more c =
    let kept = c.self.inside in
    let above = subst (λ (state : OpenState). state.last < c.args.number) (sym c.self.view_is) c.requires.above in
    rw (
      ← c.self.view_is,
      c.insert_reserved.ensures.entries,
      begun_last kept.by_number.entries kept.through.entries
          kept.last c.self.invariant c.args.number c.args.begun above,
    )
    (length_end kept.by_number.entries (c.args.number, c.args.begun))
