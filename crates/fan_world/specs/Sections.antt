-- What calls leave of the sections of a table of marks, by what is said of tables: which sections are in, what a
-- section shows, and whether that is the marks as they stood. No public clause cites this module.
use Rattle.std.specs.Prelude.{◌≡◌, ◌<◌, ◌^◌, ◌↔◌, List, ◌∷◌, ◌++◌, length}
use Rattle.fan_bits.specs.declared.mark.Mark.{Mark}
use Rattle.fan_grace.specs.declared.section.Section.{Section}

-- one section more could enter: fewer than 2^31 are in
abbrev pub HasRoom : {S : Type 0} → (S → List Section → Type 0) → S → Type 0
HasRoom inside table = (sections : List Section) × inside table sections × (length sections < 2 ^ 31)

-- a section is among those that are in
abbrev pub IsThere : {S : Type 0} → (S → List Section → Type 0) → S → Section → Type 0
IsThere inside table section =
    (before : List Section) × (after : List Section) × inside table (before ++ section ∷ after)

-- after a call these sections are in, and show what they showed before
pub record Keeps {S : Type 0} (inside : S → List Section → Type 0) (shows : S → Section → List Mark → Type 0)
    (honest : S → Type 0) (old new : S) (sections : List Section) : Type 0 where
  pub there : inside new sections
  pub stays : (before after : List Section) (section : Section) (marks : List Mark)
      → sections ≡ before ++ section ∷ after → shows old section marks → shows new section marks
  pub same_honest : honest old ↔ honest new

-- after a call one section more is in, at any place among the others, and these show what they showed before
pub record HasEntered {S : Type 0} (inside : S → List Section → Type 0) (shows : S → Section → List Mark → Type 0)
    (honest : S → Type 0) (old new : S) (section : Section) (view : List Mark) : Type 0 where
  pub there : (before after : List Section) → inside old (before ++ after)
      → inside new (before ++ section ∷ after)
  pub stays : (before after : List Section) (other : Section) (marks : List Mark)
      → inside old (before ++ other ∷ after) → shows old other marks → shows new other marks
  pub shown : honest old → shows new section view
  pub same_honest : honest old ↔ honest new
