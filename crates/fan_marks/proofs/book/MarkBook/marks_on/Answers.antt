use Rattle.std.proofs.Common.{◌≡◌, ◌∙◌, ◌++◌, false, List, ap, arith, sym}
use Rattle.std.specs.Prelude.{◌==◌, take_while}
use Rattle.std.specs.Map.{values_of}
use Rattle.std.proofs.lemmas.List.{append-nil, length-append}
use Rattle.fan_bits.specs.Marks.{on}
use Rattle.fan_bits.specs.declared.mark.Mark.{Mark}
use Rattle.fan_marks.specs.declared.keys.ObjectKey.{ObjectKey}
use Rattle.fan_marks.proofs.Found.{walk_is, walk_left, walk_step}
use Rattle.fan_marks.proofs.Marked.{marked_in, none_marked}
use Rattle.fan_marks.proofs.StoredLemmas.{stored_in}
use Rattle.fan_seen.specs.Seen.{has}
use Rattle.fan_marks.proofs.book.MarkBook.marks_on.Goals as goal

pub returns-then-not-has-clause-ok : goal.returns-then-not-has-clause-ok
returns-then-not-has-clause-ok c =
    let marked = marked_in c.self.inside c.args.self.now c.self.invariant c.self.view_is in
    let absent : has c.self.inside.marked c.args.object ≡ false = grind (arith, c.has.ensures, c.if-not-has.true) in
    sym (ap (λ (rest : List Mark). c.args.out.now.items ++ rest) (none_marked c.self.inside.marked c.args.self.now.marks marked c.args.object absent)
    ∙ append-nil c.args.out.now.items)

pub loop-key-init : goal.loop-key-init
loop-key-init c =
    let stored = stored_in c.self.inside c.args.self.now c.self.invariant c.self.view_is in
    let shown : List (ObjectKey × Mark) → List Mark =
    λ rest. values_of (take_while (λ e. e.0.object == c.args.object) rest) in
    record {
      walked = ap (λ (rest : List Mark). c.args.out.now.items ++ rest)
          (ap shown (c.into_iter-key-iterator.ensures.into_iter_gives ∙ c.iter_from-key-items.ensures.rest)
          ∙ walk_is c.args.object c.args.self.now.marks c.self.inside.by_object.entries stored.entries
          c.iter_from-key-items.ensures.sorted);
      room = omega arith;
    }

pub loop-key-preserved : goal.loop-key-preserved
loop-key-preserved c = record {
  walked = walk_step c.args.object c.loop-key.out.items c.push.new.self.items c.loop-key.key-iterator
      c.next.new.self (c.in-Some.key.now, c.in-Some.mark.now) c.in-Some.ensures.steps c.if-key-object.false
      c.in_ok-push.ensures.items
      ∙ c.loop-key.invariant.walked;
  room = omega (arith, c.loop-key.invariant.room, c.push.ensures.capacity);
}

pub returns-in_err-push-clause-fits : goal.returns-in_err-push-clause-fits
returns-in_err-push-clause-fits c = λ fits.
    let before = c.args.out.now.items in
    let here = on c.args.object c.args.self.now.marks in
    let left = walk_left c.args.object c.loop-key.out.items (before ++ here) c.loop-key.key-iterator
    c.next.new.self (c.in-Some.key.now, c.in-Some.mark.now) c.in-Some.ensures.steps c.if-key-object.false
    c.loop-key.invariant.walked in
    absurd (omega (
      arith,
      fits,
      left,
      length-append before here,
      c.loop-key.invariant.room,
      c.in_err-push.ensures.full,
    ))
