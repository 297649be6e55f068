use Rattle.std.proofs.Common.{◌≡◌, ◌∙◌, Bool, true, false, Option, None, Some, Ok, arith, refl, sym}
use Rattle.std.specs.Prelude.{is_none, is_some}
use Rattle.std.specs.List.{list_any}
use Rattle.fan_bits.specs.declared.change.Change.TheVariants.{DropObject}
use Rattle.fan_groups.proofs.Bounded.{bounded_later}
use Rattle.fan_machine.specs.Files.{fs_unmounted, goes_through}
use Rattle.fan_mounts.specs.Mounts.{unmounted}
use Rattle.fan_mounts.specs.Reaches.{place_of}
use Rattle.fan_world.proofs.Flags.{keeps_itself}
use Rattle.fan_world.proofs.Machines.{as_kept, changed_machine}
use Rattle.fan_world.proofs.Safe.{kept_there, safe_marks}
use Rattle.fan_world.proofs.inner.Inner.umount.Goals as goal

is_root : {A : Type 0} (parent : Option A) → is_some parent ≡ false → is_none parent ≡ true
is_root None none = refl
is_root (Some x) none = absurd cc

pub returns-clause-done : goal.returns-clause-done
unfolding fs_unmounted
returns-clause-done g c world machine =
    let kept = as_kept g.row.S.Denot g.S.Sections.shows g.S.Sections.honest _ _ world c.self.view_is machine in
    let there = kept_there g.row.S.Denot g.S.Sections.inside c.args.self.now.steps _ _ c.self.view_is c.requires.safe in
    let at = c.in_ok-at.at in
    let place : place_of world.tree world.mounts c.args.path.now ≡ Ok at =
    rw (kept.tree, kept.mounts) at (sym c.in_ok-at.ensures.place) in
    let root : is_none at.parent ≡ true = is_root at.parent (sym c.is_some.ensures ∙ c.if-is_some.false) in
    let unused : list_any (goes_through at.mount) world.accesses ≡ false =
    sym (c.is_used.ensures world machine) ∙ c.if-is_used.false in
    let left : unmounted world.mounts at.mount ≡ Ok c.unmount.new.self.mounts =
    rw kept.mounts at c.in-Ok.ensures.unmounted in
    rw (place, root, unused, left, c.unmount.ensures.tree, c.change.ensures.batch) (record {
      answers = refl;
      machine = changed_machine g.row.S.Denot g.S.Sections.inside g.S.Sections.shows g.S.Sections.honest _ world kept
          there (DropObject at.mount) _ c.unmount.new.self.mounts _ world.groups c.change.new.self.sections
          c.change.new.self.marks c.change.new.self.waiting c.change.ensures.keeps refl kept.groups
          c.in_ok-change.ensures.marks c.in_ok-change.ensures.waiting;
    })

pub returns-clause-safe : goal.returns-clause-safe
returns-clause-safe g c =
    let there = kept_there g.row.S.Denot g.S.Sections.inside c.args.self.now.steps _ _ c.self.view_is c.requires.safe in
    safe_marks g.row.S.Denot g.S.Sections.inside c.args.self.now.steps _ c.args.self.now _ c.self.view_is
    c.requires.safe (bounded_later c.args.self.now.steps _) (keeps_itself _) c.change.ensures.batch
    (Some (DropObject c.in_ok-at.at.mount)) tt c.in_ok-change.ensures.marks c.in_ok-change.ensures.waiting
    c.in_ok-change.ensures.few (omega arith) (c.change.ensures.keeps _ there).there
