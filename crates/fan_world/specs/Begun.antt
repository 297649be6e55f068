-- An access that begins by a deed. No public clause cites this module.
use Rattle.std.specs.Prelude.{◌≡◌, ℕ, List, Result, Ok}
use Rattle.fan_access.specs.declared.op.Op.{Op}
use Rattle.fan_access.specs.declared.spot.Spot.{Spot}
use Rattle.fan_bits.specs.declared.errno.Errno.{Errno}
use Rattle.fan_bits.specs.declared.mark.Mark.{Mark}
use Rattle.fan_grace.specs.declared.section.Section.{Section}
use Rattle.fan_machine.specs.Accesses.{begins}
use Rattle.fan_machine.specs.Deeds.{Deed}
use Rattle.fan_machine.specs.Outcome.{Attempt, answers, ◌>>=◌}
use Rattle.fan_machine.specs.World.{WorldState}
use Rattle.fan_script.specs.declared.reply.Reply.TheVariants as replies
use Rattle.fan_tree.specs.Changes.{removed}
use Rattle.fan_tree.specs.Tree.{TreeState}
use Rattle.fan_world.specs.declared.begin_steps.Actor.{Actor}
use Rattle.fan_world.specs.declared.deeds.TreeChange.{TreeChange}
use Rattle.fan_world.specs.Marks.{Dropped, HasEdited, MarkEdit, MarksState}
use Rattle.fan_world.specs.Plans.{carried, deed_with}

-- an access begins by a deed, or is refused as that is
abbrev pub attempt_of : WorldState → Actor → Op → Result Deed Errno → Attempt
attempt_of world who op deed =
    deed >>= λ deed. answers replies.Done (begins who.number op deed who.pid who.tid world)

-- an operation made its change of the tree at its spots, and its access has entered a section
pub record HasBegun {S : Type 0} (inside : S → List Section → Type 0) (shows : S → Section → List Mark → Type 0)
    (honest : S → Type 0) (change : TreeChange) (spots : List Spot) (tree left : TreeState)
    (old new : MarksState S) (section : Section) : Type 0 where
  pub edit : MarkEdit
  pub deed : carried tree change spots ≡ Ok (deed_with spots left edit)
  pub edited : HasEdited inside shows honest edit old new section

-- what a name leads to in a directory was removed, and its access has entered a section before the marks on it went
pub record HasRemoved {S : Type 0} (inside : S → List Section → Type 0) (shows : S → Section → List Mark → Type 0)
    (honest : S → Type 0) (dir : ℕ) (name : List ℕ) (tree left : TreeState) (old new : MarksState S)
    (section : Section) : Type 0 where
  pub object : ℕ
  pub taken : removed tree dir name ≡ Ok (object, left)
  pub edited : HasEdited inside shows honest (Dropped object) old new section
