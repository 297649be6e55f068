-- What stays of the sections of a table over several calls.
use Rattle.std.proofs.Common.{◌≡◌, ◌∙◌, ℕ, ◌+◌, ◌<◌, ◌^◌, List, [], ◌∷◌, ◌++◌, length, ap, refl}
use Rattle.fan_bits.specs.declared.change.Change.TheVariants.{DropObject}
use Rattle.fan_bits.specs.declared.mark.Mark.{Mark}
use Rattle.fan_bits.specs.Marks.{changed, retired}
use Rattle.fan_grace.specs.declared.section.Section.{Section}
use Rattle.fan_world.specs.Marks.{Dropped, HasEdited, MarksState}
use Rattle.fan_world.specs.Sections.{HasEntered, HasRoom, Keeps}

module _ (S : Type 0) (inside : S → List Section → Type 0) (shows : S → Section → List Mark → Type 0)
    (honest : S → Type 0) where
  -- a section was entered, and then came a call that keeps all sections
  pub entered_kept : (old mid new : S) (section : Section) (view : List Mark) → HasRoom inside old
      → HasEntered inside shows honest old mid section view
      → ((sections : List Section) → inside mid sections → Keeps inside shows honest mid new sections)
      → HasEntered inside shows honest old new section view
  entered_kept old mid new section view room entered keeps =
      let all = room.0 in
      let kept : Keeps inside shows honest mid new (section ∷ all) =
      keeps (section ∷ all) (entered.there [] all room.1) in
      record {
        there = λ before after in_old. (keeps (before ++ section ∷ after) (entered.there before after in_old)).there;
        stays = λ before after other marks in_old shown.
            (keeps (section ∷ before ++ other ∷ after) (entered.there [] (before ++ other ∷ after) in_old)).stays
            (section ∷ before) after other marks refl (entered.stays before after other marks in_old shown);
        shown = λ is_honest. kept.stays [] all section view refl (entered.shown is_honest);
        same_honest = (
          λ is_honest. kept.same_honest.0 (entered.same_honest.0 is_honest),
          λ is_honest. entered.same_honest.1 (kept.same_honest.1 is_honest),
        );
      }

  -- a section was entered, and then the marks on an object went
  pub edited_drop : (old mid new : MarksState S) (section : Section) (object : ℕ) → HasRoom inside old.sections
      → HasEntered inside shows honest old.sections mid.sections section old.marks
      → mid ≡ record old { sections = mid.sections }
      → ((sections : List Section) → inside mid.sections sections
      → Keeps inside shows honest mid.sections new.sections sections)
      → new.marks ≡ changed mid.marks (DropObject object)
      → new.waiting ≡ mid.waiting + length (retired mid.marks (DropObject object))
      → length (retired mid.marks (DropObject object)) < 2 ^ 32 → new.batch ≡ mid.batch
      → HasEdited inside shows honest (Dropped object) old new section
  edited_drop old mid new section object room entered same keeps marks waiting few batch =
      let same_marks = ap (λ (state : MarksState S). state.marks) same in record {
        entered = entered_kept old.sections mid.sections new.sections section old.marks room entered keeps;
        marks = marks ∙ ap (λ (all : List Mark). changed all (DropObject object)) same_marks;
        waiting = waiting ∙ ap (λ (state : MarksState S).
            state.waiting + length (retired state.marks (DropObject object))) same;
        few = rw same_marks at few;
        batch = batch ∙ ap (λ (state : MarksState S). state.batch) same;
      }
