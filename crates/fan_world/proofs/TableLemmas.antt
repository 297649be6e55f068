-- The sections of a table in rows, in whichever order they are listed.
use Rattle.std.proofs.Common.{◌≡◌, ◌∙◌, List, [], ◌∷◌, ◌++◌, length, sym, arith, length-append}
use Rattle.std.specs.Prelude.{All}
use Rattle.std.proofs.lemmas.List.Elements.{All-cons, All-head, All-tail}
use Rattle.fan_grace.specs.declared.section.Section.{Section}
use Rattle.fan_grace.specs.Tables.{IsInside, ShowsSome, TableState}

-- what holds of all holds in another order
all_moved : (P : Section → Type 0) (before after : List Section) (section : Section)
    → All P (section ∷ before ++ after) → All P (before ++ section ∷ after)
all_moved P [] after section each = each
all_moved P (first ∷ more) after section each =
    let rest = All-tail P section (first ∷ more ++ after) each in
    All-cons P first (more ++ section ∷ after) (All-head P first (more ++ after) rest)
    (all_moved P more after section
    (All-cons P section (more ++ after) (All-head P section (first ∷ more ++ after) each)
    (All-tail P first (more ++ after) rest)))

-- a section is in, wherever it is listed
pub moved : (table : TableState) (before after : List Section) (section : Section)
    → IsInside table (section ∷ before ++ after) → IsInside table (before ++ section ∷ after)
moved table before after section inside = record {
  count =
      let count = inside.count in
      omega (arith, count, length-append before after, length-append before (section ∷ after));
  each = all_moved (ShowsSome table) before after section inside.each;
  phases = all_moved (λ section. section.phase ≡ 0) before after section inside.phases;
}
