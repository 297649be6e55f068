-- Lists of two marks, for the tests.
use Rattle.std.proofs.Common.{◌≡◌, ◌<◌, [], ◌∷◌, true, refl, arith}
use Rattle.std.specs.Prelude.{All}
use Rattle.std.proofs.lemmas.List.Elements.{All-cons, All-nil}
use Rattle.fan_bits.specs.declared.mark.Mark.{Mark}
use Rattle.fan_bits.specs.Marks.{IsMark, IsMarkList, is_before, order_of}

-- what holds of both holds of all
All-two : (P : Mark → Type 0) (first second : Mark) → P first → P second → All P (first ∷ second ∷ [])
All-two P first second here there =
    All-cons P first (second ∷ []) here (All-cons P second [] there (All-nil P))

-- two marks in order, of two groups, are a list of marks
pub two-IsMarkList : (first second : Mark) → IsMark first → IsMark second
    → is_before second.object (order_of second) first ≡ true → first.group < second.group
    → IsMarkList (first ∷ second ∷ [])
two-IsMarkList first second here there before groups = record {
  each = All-two IsMark first second here there;
  rises = (
    All-cons (λ other. is_before other.object (order_of other) first ≡ true) second [] before
        (All-nil (λ other. is_before other.object (order_of other) first ≡ true)),
    (All-nil (λ other. is_before other.object (order_of other) second ≡ true), tt),
  );
  classes = All-two (λ mark. All (λ other. mark.group ≡ other.group → mark.class ≡ other.class)
      (first ∷ second ∷ [])) first second
      (All-two (λ other. first.group ≡ other.group → first.class ≡ other.class) first second (λ same. refl)
      (λ same. absurd (omega arith)))
      (All-two (λ other. second.group ≡ other.group → second.class ≡ other.class) first second
      (λ same. absurd (omega arith)) (λ same. refl));
}
