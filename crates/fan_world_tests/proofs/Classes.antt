-- What tells the class of all marks of a group.
use Rattle.std.proofs.Common.{◌≡◌, ◌∙◌, ℕ, List, Some, sym, arith}
use Rattle.std.specs.Prelude.{All, ◌==◌, ◌&&◌}
use Rattle.std.proofs.lemmas.Bool.Decides.{nat_tests}
use Rattle.fan_lists.proofs.Finds.{All-find, find_passes}
use Rattle.fan_bits.specs.declared.class.Class.{Class}
use Rattle.fan_bits.specs.declared.mark.Mark.{Mark}
use Rattle.fan_bits.specs.Marks.{IsMarkList, mark_of}

-- the marks of a group have a class
abbrev pub AreOf : ℕ → Class → Mark → Type 0
AreOf group class mark = mark.group ≡ group → mark.class ≡ class

-- one of them has the class of all
pub one_tells : (marks : List Mark) (group object : ℕ) (class : Class) (mark : Mark) → IsMarkList marks
    → mark_of marks group object ≡ Some mark → mark.class ≡ class → All (AreOf group class) marks
one_tells marks group object class mark list found is =
    let test = λ (mark : Mark). mark.group == group && mark.object == object in
    let passes = find_passes test marks mark found in
    let of_group : mark.group ≡ group = grind (arith, nat_tests, passes) in
    let same = All-find test (λ mark. All (λ other. mark.group ≡ other.group → mark.class ≡ other.class) marks)
    marks mark list.classes found in
    λ k d within alike. sym (same k d within (of_group ∙ sym alike)) ∙ is
