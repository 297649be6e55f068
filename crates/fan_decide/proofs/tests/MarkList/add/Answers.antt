use Rattle.std.proofs.Common.{◌≡◌, List, [], ◌∷◌, ◌++◌, get_or, true, refl, sym, rules}
use Rattle.std.specs.Prelude.{All}
use Rattle.std.proofs.lemmas.List.Elements.{All-head, All-nil, All-push, All-tail}
use Rattle.fan_bits.specs.declared.mark.Mark.{Mark}
use Rattle.fan_bits.specs.Marks.{IsMark, IsMarkList, Rises, is_before, order_of}
use Rattle.fan_decide.proofs.tests.MarkList.add.Goals as goal

abbrev MayPrecede : Mark → Mark → Type 0
MayPrecede mark other = (is_before mark.object (order_of mark) other ≡ true)
    × (other.group ≡ mark.group → other.class ≡ mark.class)

abbrev SameClass : Mark → Mark → Type 0
SameClass mark other = mark.group ≡ other.group → mark.class ≡ other.class

Rises-push : (marks : List Mark) (mark : Mark) → Rises marks → All (MayPrecede mark) marks
    → Rises (marks ++ mark ∷ [])
Rises-push [] mark rises before = (All-nil (λ other. is_before other.object (order_of other) mark ≡ true), tt)
Rises-push (first ∷ more) mark rises before = (
  All-push (λ other. is_before other.object (order_of other) first ≡ true) more mark rises.0
      (All-head (MayPrecede mark) first more before).0,
  Rises-push more mark rises.1 (All-tail (MayPrecede mark) first more before),
)

IsMarkList-push : (marks : List Mark) (mark : Mark) → IsMarkList marks → IsMark mark
    → All (MayPrecede mark) marks → IsMarkList (marks ++ mark ∷ [])
IsMarkList-push marks mark is_list is_mark before = record {
  each = All-push IsMark marks mark is_list.each is_mark;
  rises = Rises-push marks mark is_list.rises before;
  classes = All-push (λ one. All (SameClass one) (marks ++ mark ∷ [])) marks mark
      (λ k d within. All-push (SameClass (get_or marks k d)) marks mark (is_list.classes k d within)
      (before k d within).1)
      (All-push (SameClass mark) marks mark (λ k d within same. sym ((before k d within).1 (sym same)))
      (λ same. refl));
}

pub returns : goal.returns
returns c = search (rules, IsMarkList-push)
