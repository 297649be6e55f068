-- The objects on which marks stand are in a set that only grows.
use Rattle.std.proofs.Common.{◌≡◌, ◌∙◌, ℕ, ◌||◌, Bool, true, false, List, [], ◌∷◌, Option, Some, None, get_or, ap, refl, sym, subst, arith}
use Rattle.std.specs.Prelude.{All, find, ◌==◌}
use Rattle.std.specs.Map.{values_of}
use Rattle.std.specs.Option.{IsSomeAnd}
use Rattle.std.proofs.lemmas.Bool.Decides.{nat_tests}
use Rattle.std.proofs.lemmas.List.Elements.{All-cons, All-nil, All-weaker}
use Rattle.fan_bits.specs.declared.class.Class.{Class}
use Rattle.fan_bits.specs.declared.mark.Mark.{Mark}
use Rattle.fan_bits.specs.Marks.{on}
use Rattle.fan_lists.proofs.Filters.{filter_none}
use Rattle.fan_lists.proofs.Finds.{All-find}
use Rattle.fan_marks.specs.declared.book.MarkBook.TheInside.{Inside}
use Rattle.fan_marks.specs.declared.keys.GroupKey.{GroupKey}
use Rattle.fan_marks.specs.declared.keys.ObjectKey.{ObjectKey}
use Rattle.fan_marks.specs.contracts.book.MarkBook.{the_invariant, the_view}
use Rattle.fan_marks.specs.Book.{BookState}
use Rattle.fan_marks.specs.Keys.{group_key, has_object_key, object_key, replaced}
use Rattle.fan_marks.specs.Stored.{AreMarked, AreStored}
use Rattle.fan_marks.proofs.MarkLists.{All-replaced}
use Rattle.fan_marks.proofs.StoredLemmas.{stored_marks}
use Rattle.fan_seen.specs.Seen.{has}

-- the objects of a book's marks are in its set, as callers see the marks
pub marked_in : (book : Inside) (now : BookState) → the_invariant book → the_view book ≡ now
    → AreMarked book.marked now.marks
marked_in book now is seen = subst (AreMarked book.marked) (ap (λ (book : BookState). book.marks) seen) is.1

-- and as the book stores them
pub marked_values : (marked : List Bool) {marks : List Mark} {entries : List (ObjectKey × Mark)}
    {keys : List (GroupKey × Class)} {counts : List (ℕ × ℕ)} → AreStored marks entries keys counts
    → AreMarked marked marks → AreMarked marked (values_of entries)
marked_values marked stored are = subst (AreMarked marked) (sym (stored_marks stored)) are

module _ (marked : List Bool) (marks : List Mark) (are : AreMarked marked marks) where
  abbrev IsMarked : Mark → Type 0
  IsMarked mark = has marked mark.object ≡ true

  apart : (object other : ℕ) → has marked object ≡ false → has marked other ≡ true
      → (b : Bool) → (other == object) ≡ b → b ≡ false
  apart object other absent there false is = refl
  apart object other absent there true is =
      let same : other ≡ object = grind (arith, nat_tests, is) in
      absurd (grind (arith, sym there ∙ ap (has marked) same ∙ absent))

  -- no mark stands on an object that is not in it
  pub none_marked : (object : ℕ) → has marked object ≡ false → on object marks ≡ []
  none_marked object absent =
      filter_none (λ mark. mark.object == object) marks
      (λ k d within.
      let other = (get_or marks k d).object in
      apart object other absent (are k d within) (other == object) refl)

  -- a new mark's object is added
  pub marked_inserted : (marked' : List Bool) (mark : Mark)
      → ((other : ℕ) → has marked' other ≡ (mark.object == other || has marked other))
      → AreMarked marked' (replaced marks (object_key mark) (Some mark))
  marked_inserted marked' mark grown =
      let P : Mark → Type 0 = λ mark. has marked' mark.object ≡ true in
      All-replaced (object_key mark) marks P (Some mark)
      (All-weaker IsMarked P (λ other there. grind (arith, grown other.object, there)) marks are)
      (All-cons P mark [] (grind (arith, nat_tests, grown mark.object)) (All-nil P))

  -- that of a mark in place of another is there
  pub marked_updated : (mark : Mark)
      → IsSomeAnd (find (has_object_key (object_key mark)) marks) (λ old. group_key old ≡ group_key mark)
      → AreMarked marked (replaced marks (object_key mark) (Some mark))
  marked_updated mark there = by (find (has_object_key (object_key mark)) marks) refl there
    where
      by : (found : Option Mark) → find (has_object_key (object_key mark)) marks ≡ found
          → IsSomeAnd found (λ old. group_key old ≡ group_key mark)
          → AreMarked marked (replaced marks (object_key mark) (Some mark))
      by None found is = absurd is
      by (Some old) found same =
          let object : mark.object ≡ old.object = ap (λ (key : GroupKey). key.object) (sym same) in
          let old_is = All-find (has_object_key (object_key mark)) IsMarked marks old are found in
          All-replaced (object_key mark) marks IsMarked (Some mark) are
          (All-cons IsMarked mark [] (ap (has marked) object ∙ old_is) (All-nil IsMarked))

  -- and those of the marks that stay are
  pub marked_removed : (key : ObjectKey) → AreMarked marked (replaced marks key None)
  marked_removed key = All-replaced key marks IsMarked None are (All-nil IsMarked)
