-- What sections of a table in rows show, as laws want it. No public clause cites this module.
use Rattle.std.specs.Prelude.{List, [], ◌∷◌, ◌++◌, All}
use Rattle.std.proofs.lemmas.List.Elements.{All-head, All-tail}
use Rattle.fan_bits.specs.declared.mark.Mark.{Mark}
use Rattle.fan_grace.specs.declared.section.Section.{Section}
use Rattle.fan_grace.specs.Tables.{IsInside, Shows, ShowsSome, TableState}

-- what holds of all holds of one among them
pub among : (P : Section → Type 0) (before after : List Section) (section : Section)
    → All P (before ++ section ∷ after) → P section
among P [] after section each = All-head P section after each
among P (first ∷ more) after section each =
    among P more after section (All-tail P first (more ++ section ∷ after) each)

-- each section that is in shows some list
pub inside_shows : (table : TableState) (before after : List Section) (section : Section)
    → IsInside table (before ++ section ∷ after) → (marks : List Mark) × Shows table section marks
inside_shows table before after section inside = among (ShowsSome table) before after section inside.each
