-- Sections of a table: one enters, one leaves, and a change keeps them.
use Rattle.std.proofs.Common.{◌≡◌, ◌∙◌, ℕ, ◌+◌, ◌-◌, ◌*◌, List, [], ◌∷◌, ◌++◌, length, refl, sym, arith, length-append}
use Rattle.std.proofs.lemmas.List.Elements.{All-cons, All-head, All-tail, All-weaker}
use Rattle.std.specs.Prelude.{All}
use Rattle.fan_bits.specs.declared.mark.Mark.{Mark}
use Rattle.fan_grace.specs.declared.section.Section.{Section}
use Rattle.fan_grace.specs.Stored.{Extends}
use Rattle.fan_grace.specs.Tables.{IsInside, Present, ShowsSome, TableState}
use Rattle.fan_grace.proofs.Frames.{still_pictures}

-- one that enters shows the present marks
pub entered : (table : TableState) (marks : List Mark) (sections : List Section) → Present table marks
    → IsInside table sections
    → IsInside (record table { inside = table.inside + 1 }) (record { phase = 0; root = table.root } ∷ sections)
entered table marks sections present is =
    let section : Section = record { phase = 0; root = table.root } in
    record {
      count = omega (arith, is.count);
      each = All-cons (ShowsSome table) section sections (marks, present) is.each;
      phases = All-cons (λ (one : Section). one.phase ≡ 0) section sections refl is.phases;
    }

-- what holds of all holds without one
All-without : (P : Section → Type 0) (before after : List Section) (section : Section)
    → All P (before ++ section ∷ after) → All P (before ++ after)
All-without P [] after section all = All-tail P section after all
All-without P (first ∷ before) after section all =
    All-cons P first (before ++ after) (All-head P first (before ++ section ∷ after) all)
    (All-without P before after section (All-tail P first (before ++ section ∷ after) all))

-- one leaves
pub left : (table : TableState) (before after : List Section) (section : Section)
    → IsInside table (before ++ section ∷ after)
    → IsInside (record table { inside = table.inside - 1 }) (before ++ after)
left table before after section is =
    let with = length-append before (section ∷ after) in
    let without = length-append before after in
    record {
      count = omega (arith, is.count);
      each = All-without (ShowsSome table) before after section is.each;
      phases = All-without (λ (one : Section). one.phase ≡ 0) before after section is.phases;
    }

-- those that are in stay so where words go on
pub inside_later : (table later : TableState) (count : ℕ) (sections : List Section)
    → length table.words ≡ 4 * count → Extends table.words later.words → later.inside ≡ table.inside
    → IsInside table sections → IsInside later sections
inside_later table later count sections whole on same is = record {
  count = is.count ∙ sym same;
  each = All-weaker (ShowsSome table) (ShowsSome later) (λ section (marks, shows). (
    marks,
    (still_pictures table.words later.words count whole on section.root marks shows.0, shows.1),
  )) sections is.each;
  phases = is.phases;
}
