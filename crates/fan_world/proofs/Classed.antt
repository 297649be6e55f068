-- A change of marks keeps each with the class of its group.
use Rattle.std.proofs.Common.{ℕ, List, ◌++◌, Option, Some, None, map}
use Rattle.std.specs.Prelude.{IfSome, ◌&&◌, ◌==◌, filter, not}
use Rattle.std.proofs.lemmas.List.Elements.{All-append, All-filter, All-map, All-weaker}
use Rattle.std.proofs.lemmas.Option.{IfSome_then}
use Rattle.fan_bits.specs.declared.change.Change.{Change}
use Rattle.fan_bits.specs.declared.change.Change.TheVariants.{Put, Flush, Clear, DropGroup, DropObject}
use Rattle.fan_bits.specs.declared.class.Class.{Class}
use Rattle.fan_bits.specs.declared.kind.Kind.{Kind}
use Rattle.fan_bits.specs.declared.mark.Mark.{Mark}
use Rattle.fan_bits.specs.declared.mark_call.MarkWords.{MarkWords}
use Rattle.fan_bits.specs.Marks.{changed, cleared, is_before, is_behind, listed, mark_of, or_blank, order_number, put_mark, same_kind, stands}
use Rattle.fan_bits.proofs.MarkLists.{cleared_keeps, listed_all}
use Rattle.fan_bits.proofs.Updates.{Keeps, put_mark_keeps}
use Rattle.fan_lists.proofs.Finds.{IfSome-find}
use Rattle.fan_listener.specs.ListenerState.{ListenerState}
use Rattle.fan_world.specs.Bounds.{AreClassed, HasClass, IsClassed}

module _ (groups : List ListenerState) where
  -- a mark has the class of its group
  abbrev Good : Mark → Type 0
  Good mark = HasClass groups mark.group mark.class

  good_kept : (old new : Mark) → Keeps old new → Good old → Good new
  good_kept old new keeps good = rw (keeps.group, keeps.class) good

  good_blank : (old : Option Mark) (group : ℕ) (class : Class) (kind : Kind) (object : ℕ)
      → HasClass groups group class → IfSome old Good → Good (or_blank old group class kind object)
  good_blank None group class kind object has good = has
  good_blank (Some mark) group class kind object has good = good

  good_put : (marks : List Mark) (group : ℕ) (class : Class) (words : MarkWords) (object : ℕ)
      → HasClass groups group class → AreClassed groups marks
      → IfSome (put_mark (mark_of marks group object) group class words object) Good
  good_put marks group class words object has classed =
      let old = mark_of marks group object in
      let found : IfSome old Good =
      IfSome_then old (IfSome-find (λ mark. mark.group == group && mark.object == object) Good marks classed)
      (λ mark is. is.0) in
      let before = or_blank old group class words.kind object in
      IfSome_then (put_mark old group class words object) (put_mark_keeps old group class words object)
      (λ mark keeps. good_kept before mark keeps (good_blank old group class words.kind object has found))

  -- each mark of a group that is there has its class after a change too
  pub classed_changed : (marks : List Mark) (change : Change) → IsClassed groups change
      → AreClassed groups marks → AreClassed groups (changed marks change)
  unfolding changed
  classed_changed marks (Put group class words object) has classed =
      let order = order_number class group in
      let new = listed (put_mark (mark_of marks group object) group class words object) in
      All-append Good (filter (is_before object order) marks ++ new) (filter (is_behind object order) marks)
      (All-append Good (filter (is_before object order) marks) new
      (All-filter (is_before object order) Good marks classed)
      (listed_all Good (put_mark (mark_of marks group object) group class words object)
      (good_put marks group class words object has classed)))
      (All-filter (is_behind object order) Good marks classed)
  classed_changed marks (Flush group kind) has classed =
      All-filter (λ mark. not (mark.group == group && same_kind mark.kind kind)) Good marks classed
  classed_changed marks (Clear object) has classed =
      All-filter stands Good (map (cleared object) marks)
      (All-map Good (cleared object) marks
      (All-weaker Good (λ mark. Good (cleared object mark))
      (λ mark good. good_kept mark (cleared object mark) (cleared_keeps object mark) good) marks classed))
  classed_changed marks (DropGroup group) has classed =
      All-filter (λ mark. not (mark.group == group)) Good marks classed
  classed_changed marks (DropObject object) has classed =
      All-filter (λ mark. not (mark.object == object)) Good marks classed
