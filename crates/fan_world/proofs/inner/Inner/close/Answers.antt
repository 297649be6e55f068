use Rattle.std.proofs.Common.{◌≡◌, true, false, Some, arith, refl}
use Rattle.std.specs.Prelude.{is_some}
use Rattle.fan_bits.specs.declared.change.Change.TheVariants.{DropGroup}
use Rattle.fan_listener.specs.Groups.{closed_in}
use Rattle.fan_machine.specs.Groups.{group_closed}
use Rattle.fan_world.proofs.Closed.{can_close, not_closed}
use Rattle.fan_world.proofs.Flags.{keeps_closed}
use Rattle.fan_world.proofs.Machines.{as_kept, changed_machine}
use Rattle.fan_world.proofs.Safe.{kept_there, safe_marks}
use Rattle.fan_world.proofs.inner.Inner.close.Goals as goal

pub returns-then-is_none-clause-done : goal.returns-then-is_none-clause-done
unfolding group_closed
returns-then-is_none-clause-done g c world machine =
    let kept = as_kept g.row.S.Denot g.S.Sections.shows g.S.Sections.honest _ _ world c.self.view_is machine in
    let told = c.is_none.ensures in
    let is_closed : is_some c.open_group.result ≡ false = grind (arith, told, c.if-is_none.true) in
    let none = not_closed c.open_group.result c.self.inside.groups c.args.group c.open_group.ensures.found is_closed in
    rw (rw kept.groups at none) refl

pub unreachable-requires : goal.unreachable-requires
unreachable-requires g c =
    let told = c.is_none.ensures in
    let is_open : is_some c.open_group.result ≡ true = grind (arith, told, c.if-is_none.false) in
    can_close c.open_group.result c.self.inside.groups c.args.group c.open_group.ensures.found is_open
    (c.if-not-close.ensures.not_open refl)

pub returns-clause-done : goal.returns-clause-done
unfolding group_closed
returns-clause-done g c world machine =
    let kept = as_kept g.row.S.Denot g.S.Sections.shows g.S.Sections.honest _ _ world c.self.view_is machine in
    let there = kept_there g.row.S.Denot g.S.Sections.inside c.args.self.now.steps _ _ c.self.view_is c.requires.safe in
    let closed : closed_in world.groups c.args.group ≡ Some c.close.new.self =
    rw kept.groups at (c.if-not-close.ensures.closed refl) in
    rw (closed, c.change.ensures.batch) (record {
      answers = refl;
      machine = changed_machine g.row.S.Denot g.S.Sections.inside g.S.Sections.shows g.S.Sections.honest _ world kept
          there (DropGroup c.args.group) _ world.mounts _ c.close.new.self c.change.new.self.sections
          c.change.new.self.marks c.change.new.self.waiting c.change.ensures.keeps kept.mounts refl
          c.in_ok-change.ensures.marks c.in_ok-change.ensures.waiting;
    })

pub returns-clause-safe : goal.returns-clause-safe
returns-clause-safe g c =
    let there = kept_there g.row.S.Denot g.S.Sections.inside c.args.self.now.steps _ _ c.self.view_is c.requires.safe in
    safe_marks g.row.S.Denot g.S.Sections.inside c.args.self.now.steps _ c.args.self.now _ c.self.view_is
    c.requires.safe (c.close.ensures.bounds c.args.self.now.steps)
    (keeps_closed _ _ c.args.group (c.if-not-close.ensures.closed refl)) c.change.ensures.batch
    (Some (DropGroup c.args.group)) tt c.in_ok-change.ensures.marks c.in_ok-change.ensures.waiting
    c.in_ok-change.ensures.few (omega arith) (c.change.ensures.keeps _ there).there
