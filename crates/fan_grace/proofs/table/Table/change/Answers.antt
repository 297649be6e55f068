use Rattle.std.proofs.Common.{List, refl, slice_get}
use Rattle.fan_bits.specs.declared.mark.Mark.{Mark}
use Rattle.fan_bits.specs.Marks.{IsMarkList, changed, retired}
use Rattle.fan_rows.specs.Trees.{Pictures}
use Rattle.fan_grace.specs.Noted.{AreNoted}
use Rattle.fan_grace.specs.Stored.{IsMade}
use Rattle.fan_grace.proofs.Empty.{can_make, differs, made_of}
use Rattle.fan_grace.proofs.Frames.{still_pictures}
use Rattle.fan_grace.proofs.Hinted.{hints_stay}
use Rattle.fan_grace.proofs.Sections.{inside_later}
use Rattle.fan_grace.proofs.table.Table.change.Goals as goal

pub change_noted-requires : goal.change_noted-requires
change_noted-requires c =
    let kept = c.self.invariant.kept in
    let asks = rw (← c.self.view_is) at c.requires.possible in (
      kept.0,
      kept.1,
      can_make c.self.inside.rows c.self.inside.root kept asks.0 c.args.change.now asks.1.0 asks.1.1 asks.2,
      c.self.invariant.marked,
    )

-- what was made, of each list that is pictured
made_of_marks : (c : goal.After-self-1) (marks : List Mark)
    → Pictures (slice_get c.self.inside.rows.words) c.self.inside.root marks → IsMarkList marks
    → IsMade c.self.inside.rows c.change_noted.new.rows c.self.inside.root marks (changed marks c.args.change.now)
    c.in_ok-made.made
made_of_marks c =
    let asks = rw (← c.self.view_is) at c.requires.possible in
    made_of c.self.inside.rows c.change_noted.new.rows c.self.inside.root c.self.invariant.kept
    (AreNoted c.self.inside.noted.entries) c.self.invariant.marked asks.0 c.args.change.now c.in_ok-made.made asks.1.0
    asks.1.1 asks.2 c.in_ok-made.ensures.made

-- and of the marks of the table
made_now : (c : goal.After-self-1)
    → IsMade c.self.inside.rows c.change_noted.new.rows c.self.inside.root c.self.invariant.kept.0
    (changed c.self.invariant.kept.0 c.args.change.now) c.in_ok-made.made
made_now c =
    let kept = c.self.invariant.kept in
    made_of_marks c kept.0 (kept.1, kept.2.pictured) kept.2.list

pub invariant_of-self-2 : goal.invariant_of-self-2
invariant_of-self-2 c =
    let kept = c.self.invariant.kept in
    let made = made_now c in
    let asks = rw (← c.self.view_is) at c.requires.possible in
    record {
      kept = (changed kept.0 c.args.change.now, made.tree, made.kept);
      marked = c.in_ok-made.ensures.noted kept.0 kept.1
          (can_make c.self.inside.rows c.self.inside.root kept asks.0 c.args.change.now asks.1.0 asks.1.1 asks.2)
          c.self.invariant.marked;
      hinted = hints_stay c.self.inside.rows.words c.change_noted.new.rows.words c.self.inside.rows.next
          c.self.inside.hints.hints kept.2.full made.grown.extends c.self.invariant.hinted;
    }

pub returns-clause-ok : goal.returns-clause-ok
returns-clause-ok c = rw (← c.self.view_is) (λ marks present.
    let made = made_of_marks c marks present.0 present.1 in
    ((made.tree, made.kept.pictured), made.kept.list))

pub returns-clause-changed : goal.returns-clause-changed
returns-clause-changed c = rw (← c.self.view_is) (λ marks present.
    let made = made_of_marks c marks present.0 present.1 in
    differs c.in_ok-made.made.root c.self.inside.root made.same made.differs)

pub returns-clause-retired : goal.returns-clause-retired
unfolding retired
returns-clause-retired c = rw (← c.self.view_is) (λ marks present.
    (made_of_marks c marks present.0 present.1).gone_are)

pub returns-clause-inside : goal.returns-clause-inside
returns-clause-inside c =
    let kept = c.self.invariant.kept in
    rw (← c.self.view_is) (λ sections is.
    inside_later _ _ c.self.inside.rows.next sections kept.2.full (made_now c).grown.extends refl is)

pub returns-clause-stays : goal.returns-clause-stays
returns-clause-stays c =
    let kept = c.self.invariant.kept in
    rw (← c.self.view_is) (λ before after section marks is shows. (
      still_pictures c.self.inside.rows.words c.change_noted.new.rows.words c.self.inside.rows.next kept.2.full
          (made_now c).grown.extends section.root marks shows.0,
      shows.1,
    ))
