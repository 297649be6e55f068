use Rattle.std.proofs.Common.{◌≡◌, ◌<◌, ◌∙◌, ℕ, List, Ok, ap, arith, refl}
use Rattle.std.specs.BTreeMap.{insert_entry}
use Rattle.std.specs.Ordering.{nat_cmp}
use Rattle.fan_groups.proofs.Bounded.{bounded_later}
use Rattle.fan_world.specs.declared.open_accesses.OpenAccess.{OpenAccess}
use Rattle.fan_world.specs.Machine.{PartsOver, sections_of}
use Rattle.fan_world.specs.Marks.{edit_of}
use Rattle.fan_world.specs.Plans.{carried, deed_with}
use Rattle.fan_world.proofs.Flags.{keeps_itself}
use Rattle.fan_world.proofs.Machines.{as_kept, begin_done, edit_classed}
use Rattle.fan_world.proofs.OpenSections.{there_behind}
use Rattle.fan_world.proofs.Safe.{kept_there, safe_marks}
use Rattle.fan_world.proofs.inner.Inner.start.Goals as goal

pub returns-clause-done : goal.returns-clause-done
returns-clause-done g c world machine =
    let kept = as_kept g.row.S.Denot g.S.Sections.shows g.S.Sections.honest _ _ world c.self.view_is machine in
    let there = kept_there g.row.S.Denot g.S.Sections.inside c.args.self.now.steps _ _ c.self.view_is c.requires.safe in
    let last : c.self.inside.accesses.last ≡ c.args.self.now.last_access =
    ap (λ (parts : PartsOver g.row.S.Denot). parts.last_access) c.self.view_is in
    let above : c.self.inside.accesses.last < c.args.who.number =
    let known = c.requires.above in omega (arith, last, known) in
    let begun = c.in_ok-section.ensures.begun in
    let own : OpenAccess = record { access = c.new-access.result; section = c.in_ok-section.section } in
    let done : carried world.tree c.args.plan.change c.args.plan.spots.items
    ≡ Ok (deed_with c.args.plan.spots.items c.carry_out.new.files.tree begun.edit) =
    rw (← kept.tree) (rw c.deref.ensures.value at begun.deed) in
    rw (
      done,
      c.carry_out.ensures.mounts,
      c.add_reserved.ensures.entries,
      c.add_reserved.ensures.last,
      c.reserve.ensures.entries,
    ) (record {
      answers = refl;
      machine = begin_done g.row.S.Denot g.S.Sections.inside g.S.Sections.shows g.S.Sections.honest
          g.met.S.Sections.is_list _ _ world c.args.who c.args.op c.args.plan.spots.items own kept above there refl
          c.new-access.ensures.begins begun.edit c.self.inside.marks.spare c.carry_out.new.marks.spare begun.edited;
    })

pub returns-clause-safe : goal.returns-clause-safe
returns-clause-safe g c =
    let there = kept_there g.row.S.Denot g.S.Sections.inside c.args.self.now.steps _ _ c.self.view_is c.requires.safe in
    let edited = c.in_ok-section.ensures.begun.edited in
    let edit = c.in_ok-section.ensures.begun.edit in
    let entries = c.reserve.ensures.entries in
    safe_marks g.row.S.Denot g.S.Sections.inside c.args.self.now.steps _ c.args.self.now _ c.self.view_is
    c.requires.safe (bounded_later c.args.self.now.steps _) (keeps_itself _) edited.batch (edit_of edit)
    (edit_classed _ edit) edited.marks edited.waiting edited.few
    (let one_more = rw entries at c.add_reserved.ensures.one_more in omega (arith, one_more))
    (there_behind g.row.S.Denot g.S.Sections.inside g.S.Sections.shows g.S.Sections.honest _ _
    c.in_ok-section.section _ _ _ edited.entered there (rw entries at c.add_reserved.ensures.sections))
