use Rattle.std.proofs.Common.{◌≡◌, ℕ, ◌+◌, ◌<◌, List, [], ◌∷◌, drop, get_or, length, ap, subst, arith}
use Rattle.std.proofs.lemmas.List.{drop_all, drop_more}
use Rattle.fan_grace.specs.Stored.{objects_of}
use Rattle.fan_grace.proofs.InTurn.{Progress, progress_can, progress_first, progress_fits, progress_made, progress_more}
use Rattle.fan_grace.proofs.stored.StoredRows.change_in_turn.Goals as goal

pub loop-object-init : goal.loop-object-init
loop-object-init c = λ marks tree can.
    progress_first c.args.self.now c.args.root marks tree c.args.change.now (objects_of c.args.places.now) can

-- the next object, and those behind it
next : (places : List (ℕ × ℕ)) (index : ℕ) (place : ℕ × ℕ) → index < length places
    → objects_of (drop index places) ≡ (get_or places index place).1 ∷ objects_of (drop (index + 1) places)
next places index place within = ap objects_of (drop_more places index place within)

pub change_on-requires : goal.change_on-requires
change_on-requires c =
    let (marks, tree, can) = c.requires in
    let now = c.loop-object.invariant marks tree can in (
      now.now,
      now.tree,
      progress_can c.args.self.now c.loop-object.self c.args.root marks c.args.change.now
          (objects_of (drop c.loop-object.object-index c.args.places.now)) c.loop-object.made can.drops now,
    )

pub returns-in_err-next-clause-grown : goal.returns-in_err-next-clause-grown
returns-in_err-next-clause-grown c =
    let (marks, tree, can) = c.requires in
    rw c.in_err-next.ensures.err ((c.loop-object.invariant marks tree can).grown)

pub overflow_add-made : goal.overflow_add-made
overflow_add-made c =
    let (marks, tree, can) = c.requires in
    let old = c.args.self.now in
    let mid = c.loop-object.self in
    let change = c.args.change.now in
    let places = c.args.places.now in
    let index = c.loop-object.object-index in
    let left = objects_of (drop (index + 1) places) in
    let now : Progress old mid c.args.root marks change ((get_or places index _).1 ∷ left) c.loop-object.made =
    subst (λ objects. Progress old mid c.args.root marks change objects c.loop-object.made)
    (next places index _ c.loop-object-test.true) (c.loop-object.invariant marks tree can) in
    record {
      fits = progress_fits old mid c.args.root marks change left c.loop-object.made can.drops _ now
          c.change_on.new.self c.in_ok-next.next can.can.kept.list
          (c.in_ok-next.ensures.made now.now now.tree
          (progress_can old mid c.args.root marks change _ c.loop-object.made can.drops now));
    }

pub loop-object-preserved : goal.loop-object-preserved
loop-object-preserved c = λ marks tree can.
    let old = c.args.self.now in
    let mid = c.loop-object.self in
    let change = c.args.change.now in
    let places = c.args.places.now in
    let index = c.loop-object.object-index in
    let left = objects_of (drop (index + 1) places) in
    let now : Progress old mid c.args.root marks change ((get_or places index _).1 ∷ left) c.loop-object.made =
    subst (λ objects. Progress old mid c.args.root marks change objects c.loop-object.made)
    (next places index _ c.loop-object-test.true) (c.loop-object.invariant marks tree can) in
    progress_more old mid c.args.root marks change left c.loop-object.made can.drops _ now
    c.change_on.new.self c.in_ok-next.next can.can.kept.list
    (c.in_ok-next.ensures.made now.now now.tree
    (progress_can old mid c.args.root marks change _ c.loop-object.made can.drops now))

pub returns-clause-made : goal.returns-clause-made
returns-clause-made c = λ marks tree can.
    let none : objects_of (drop c.loop-object.object-index c.args.places.now) ≡ [] =
    ap objects_of (drop_all c.loop-object.object-index c.args.places.now (omega (arith, c.loop-object-test.false))) in
    progress_made c.args.self.now c.loop-object.self c.args.root marks tree c.args.change.now
    (objects_of c.args.places.now) c.loop-object.made can
    (subst (λ left. Progress c.args.self.now c.loop-object.self c.args.root marks c.args.change.now left
    c.loop-object.made) none (c.loop-object.invariant marks tree can))

pub returns-clause-grown : goal.returns-clause-grown
returns-clause-grown c =
    let (marks, tree, can) = c.requires in
    (c.loop-object.invariant marks tree can).grown
