-- How many rows a picture reaches, against its marks and their objects.
use Rattle.std.proofs.Common.{◌≡◌, ◌∙◌, ℕ, ◌+◌, ◌*◌, ◌/◌, ◌%◌, ◌^◌, ◌<◌, ◌≤◌, zero, suc, Bool, true, false, cond, Option, List, [], ◌∷◌, ◌++◌, ◌||◌, length, refl, sym, ap, subst, arith, eqb-true}
use Rattle.std.proofs.lemmas.Bool.{cond_both}
use Rattle.std.proofs.lemmas.Bool.Decides.{nat_tests}
use Rattle.std.proofs.lemmas.List.{length-append, length-map}
use Rattle.std.proofs.lemmas.List.Sums.{count_by-le-length, length-filter}
use Rattle.std.proofs.Math.Nat.{div-div-eq-div-mul, div-one, pow-suc}
use Rattle.std.specs.List.{list_any}
use Rattle.std.specs.Prelude.{count_by, ◌==◌}
use Rattle.fan_bits.specs.declared.mark.Mark.{Mark}
use Rattle.fan_bits.specs.Marks.{on}
use Rattle.fan_lists.proofs.Counts.{any_from_count, count_by-cons, count_by_agree, count_from_any}
use Rattle.fan_rows.specs.Costs.{live_rows, objects_of}
use Rattle.fan_rows.specs.Trees.{Branch, Chain, Lies, PicturesBy, Tree, chain_at, child, digits, digits_at, marks_in, places, rows_of, top}

-- ---- numbers by their quotient

-- a number is within a block of a size
abbrev is_within : ℕ → ℕ → ℕ → Bool
is_within size block number = number / size == block

-- a quotient by 4 is one of four numbers
one_of_four : (n block : ℕ) → cond (n / 4 == block) 1 0
    ≡ cond (n == 4 * block + 0) 1 0
    + cond (n == 4 * block + 1) 1 0
    + cond (n == 4 * block + 2) 1 0
    + cond (n == 4 * block + 3) 1 0
one_of_four n block = grind (arith, nat_tests)

module _ {X : Type 0} (number : X → ℕ) where
  -- how many are within a block
  abbrev within : ℕ → ℕ → List X → ℕ
  within size block xs = count_by (λ x. is_within size block (number x)) xs

  -- a block has four parts
  four_parts : (size block : ℕ) (xs : List X) → within (size * 4) block xs
      ≡ within size (4 * block + 0) xs
      + within size (4 * block + 1) xs
      + within size (4 * block + 2) xs
      + within size (4 * block + 3) xs
  four_parts size block [] = refl
  four_parts size block (x ∷ xs) =
      let quotient : number x / size / 4 ≡ number x / (size * 4) = div-div-eq-div-mul (number x) size 4 in
      let here : cond (number x / (size * 4) == block) 1 0
      ≡ cond (number x / size == 4 * block + 0) 1 0
      + cond (number x / size == 4 * block + 1) 1 0
      + cond (number x / size == 4 * block + 2) 1 0
      + cond (number x / size == 4 * block + 3) 1 0 =
      ap (λ n. cond (n == block) 1 0) (sym quotient) ∙ one_of_four (number x / size) block in
      omega (
        arith,
        here,
        four_parts size block xs,
        count_by-cons (λ y. is_within (size * 4) block (number y)) x xs,
        count_by-cons (λ y. is_within size (4 * block + 0) (number y)) x xs,
        count_by-cons (λ y. is_within size (4 * block + 1) (number y)) x xs,
        count_by-cons (λ y. is_within size (4 * block + 2) (number y)) x xs,
        count_by-cons (λ y. is_within size (4 * block + 3) (number y)) x xs,
      )

  pub parts_at : (depth block : ℕ) (xs : List X) → within (4 ^ suc depth) block xs
      ≡ within (4 ^ depth) (4 * block + 0) xs
      + within (4 ^ depth) (4 * block + 1) xs
      + within (4 ^ depth) (4 * block + 2) xs
      + within (4 ^ depth) (4 * block + 3) xs
  parts_at depth block xs = rw (pow-suc 4 depth) (four_parts (4 ^ depth) block xs)

-- ---- the objects of marks

pub from_either : {P : Type 0} (b c : Bool) → (b || c) ≡ true → (b ≡ true → P) → (c ≡ true → P) → P
from_either true c some left right = left refl
from_either false c some left right = right some

pub or_right : (b c : Bool) → c ≡ true → (b || c) ≡ true
or_right true c is = refl
or_right false c is = is

-- one that is in a list and passes
pub any_equal : (test : ℕ → Bool) (object : ℕ) (objects : List ℕ)
    → list_any (λ other. other == object) objects ≡ true → test object ≡ true → list_any test objects ≡ true
any_equal test object [] some passes = absurd cc
any_equal test object (other ∷ objects) some passes =
    from_either (other == object) (list_any (λ other. other == object) objects) some
    (λ is. rw (ap test (eqb-true other object is) ∙ passes) refl)
    (λ later. or_right (test other) (list_any test objects) (any_equal test object objects later passes))

-- where a mark's object passes, one of the objects does
pub any_object : (test : ℕ → Bool) (marks : List Mark) → list_any (λ mark. test mark.object) marks ≡ true
    → list_any test (objects_of marks) ≡ true
any_object test [] some = some
any_object test (mark ∷ marks) some =
    let objects = objects_of marks in
    let rest = list_any (λ (mark : Mark). test mark.object) marks in
    cond_both (list_any (λ object. object == mark.object) objects) objects (mark.object ∷ objects)
    (λ all. list_any test all ≡ true)
    (λ there. from_either (test mark.object) rest some (any_equal test mark.object objects there)
    (any_object test marks))
    (λ new. from_either (test mark.object) rest some (λ is. rw is refl)
    (λ later. or_right (test mark.object) (list_any test objects) (any_object test marks later)))

-- there are no more objects than marks
few_objects : (marks : List Mark) → length (objects_of marks) ≤ length marks
few_objects [] = omega arith
few_objects (mark ∷ marks) = grind (arith, few_objects marks)

-- ---- trees

-- a tree that is reached has a row
has_row : (tree : Tree) → 0 < top tree → 1 ≤ length (rows_of tree)
has_row (Chain []) some = some
has_row (Chain (link ∷ links)) some = omega arith
has_row (Branch row a b c d) some = omega arith

-- one of four trees is reached
one_of_tops : {P : Type 0} (a b c d : Tree) → 0 < top a + top b + top c + top d → (0 < top a → P)
    → (0 < top b → P) → (0 < top c → P) → (0 < top d → P) → P
one_of_tops {P} a b c d some first second third fourth = by (top a) (top b) (top c) some first second third
  where
    by : (k l m : ℕ) → 0 < k + l + m + top d → (0 < k → P) → (0 < l → P) → (0 < m → P) → P
    by (suc k) l m some first second third = first (omega arith)
    by zero (suc l) m some first second third = second (omega arith)
    by zero zero (suc m) some first second third = third (omega arith)
    by zero zero zero some first second third = fourth (omega arith)

-- marks count as their objects do
one_counts : (objects marks : ℕ) → (1 ≤ marks → 1 ≤ objects) → 1 ≤ objects + marks → 1 ≤ objects
one_counts zero marks have some = have (omega arith)
one_counts (suc objects) marks have some = omega arith

-- something is counted where there is a row
some_in : (depth objects marks rows : ℕ) → rows ≤ depth * objects + marks → 1 ≤ rows → 1 ≤ objects + marks
some_in depth zero marks rows few some = omega arith
some_in depth (suc objects) marks rows few some = omega arith

-- the rows of four trees and one index row, where there is an object
add_up : (depth a b c d e f g h k l m n : ℕ) → k ≤ depth * a + e → l ≤ depth * b + f → m ≤ depth * c + g
    → n ≤ depth * d + h → 1 ≤ a + b + c + d
    → suc (k + l + m + n) ≤ suc depth * (a + b + c + d) + (e + f + g + h)
add_up depth a b c d e f g h k l m n first second third fourth some = omega arith

four_lengths : (a b c d : List ℕ) → length (a ++ b ++ c ++ d) ≡ length a + length b + length c + length d
four_lengths a b c d = simp length-append (omega arith)

-- a tree tells the marks on the objects of a block
abbrev pub Told : List Mark → ℕ → ℕ → Tree → Type 0
Told marks depth block tree =
    (object : ℕ) → object / 4 ^ depth ≡ block → object < 2 ^ 16
    → marks_in (chain_at tree (digits_at object (places depth))) ≡ on object marks

-- one of the four trees of a branch tells of a part of the block
pub part_told : (marks : List Mark) (depth block digit : ℕ) (tree : Tree) → digit < 4
    → Told marks (suc depth) block tree → Told marks depth (4 * block + digit) (child tree digit)
part_told marks depth block digit tree small told object within bound =
    let quotient : object / 4 ^ depth / 4 ≡ object / (4 ^ depth * 4) =
    div-div-eq-div-mul object (4 ^ depth) 4 in
    let whole : object / 4 ^ suc depth ≡ block = rw (pow-suc, ← quotient) (omega arith) in
    let digit_is : object / 4 ^ depth % 4 ≡ digit = omega arith in
    subst (λ n. marks_in (chain_at (child tree n) (digits_at object (places depth))) ≡ on object marks)
    digit_is (told object whole bound)

module _ (words : ℕ → Option ℕ) (marks : List Mark) where
  -- marks and objects within a block
  abbrev marks_within : ℕ → ℕ → ℕ
  marks_within depth block = within (λ (mark : Mark). mark.object) (4 ^ depth) block marks

  abbrev objects_within : ℕ → ℕ → ℕ
  objects_within depth block = within (λ object. object) (4 ^ depth) block (objects_of marks)

  -- marks have objects
  have_objects : (depth block : ℕ) → 1 ≤ marks_within depth block → 1 ≤ objects_within depth block
  have_objects depth block some =
      count_from_any (is_within (4 ^ depth) block) (objects_of marks)
      (any_object (is_within (4 ^ depth) block) marks
      (any_from_count (λ (mark : Mark). is_within (4 ^ depth) block mark.object) marks some))

  -- the rows of a tree: an index row at each depth for each object at most, and one for each mark
  rows_within : (tree : Tree) (depth height block : ℕ) → depth + height ≡ 8 → block < 4 ^ height
      → Lies words tree depth → Told marks depth block tree
      → length (rows_of tree) ≤ depth * objects_within depth block + marks_within depth block
  rows_within (Chain links) zero height block eight small lies told =
      let all : height ≡ 8 = omega arith in
      let bound : block < 4 ^ 8 = subst (λ h. block < 4 ^ h) all small in
      let here : length (marks_in links) ≡ length (on block marks) =
      ap length (told block (div-one block) (omega arith)) in
      omega (
        arith,
        here,
        length-map links (λ link. link.mark),
        length-map links (λ link. link.row),
        length-filter (λ (mark : Mark). mark.object == block) marks,
        count_by_agree (λ (mark : Mark). mark.object == block)
            (λ (mark : Mark). is_within 1 block mark.object)
            (λ mark. ap (λ n. n == block) (sym (div-one mark.object))) marks,
      )
  rows_within (Chain links) (suc depth) height block eight small lies told = rw lies (omega arith)
  rows_within (Branch row a b c d) zero height block eight small lies told = absurd lies
  rows_within (Branch row a b c d) (suc depth) height block eight small lies told =
      let tree = Branch row a b c d in
      let above : depth + suc height ≡ 8 = omega arith in
      let part_small : 4 * block + 3 < 4 ^ suc height = rw (pow-suc 4 height) (omega arith) in
      let first = rows_within a depth (suc height) (4 * block + 0) above (omega arith) lies.2
      (part_told marks depth block 0 tree (omega arith) told) in
      let second = rows_within b depth (suc height) (4 * block + 1) above (omega arith) lies.3
      (part_told marks depth block 1 tree (omega arith) told) in
      let third = rows_within c depth (suc height) (4 * block + 2) above (omega arith) lies.4
      (part_told marks depth block 2 tree (omega arith) told) in
      let fourth = rows_within d depth (suc height) (4 * block + 3) above (omega arith) lies.5
      (part_told marks depth block 3 tree (omega arith) told) in
      let objects = parts_at (λ object. object) depth block (objects_of marks) in
      let counted = parts_at (λ (mark : Mark). mark.object) depth block marks in
      let by = one_counts (objects_within (suc depth) block) (marks_within (suc depth) block)
      (have_objects (suc depth) block) in
      let some : 1 ≤ objects_within (suc depth) block =
      one_of_tops a b c d lies.1
      (λ row. by (omega (arith, objects, counted, some_in depth _ _ _ first (has_row a row))))
      (λ row. by (omega (arith, objects, counted, some_in depth _ _ _ second (has_row b row))))
      (λ row. by (omega (arith, objects, counted, some_in depth _ _ _ third (has_row c row))))
      (λ row. by (omega (arith, objects, counted, some_in depth _ _ _ fourth (has_row d row)))) in
      rw (objects, counted, four_lengths (rows_of a) (rows_of b) (rows_of c) (rows_of d))
      (add_up depth _ _ _ _ _ _ _ _ _ _ _ _ first second third fourth (subst (λ n. 1 ≤ n) objects some))

-- a picture reaches fewer rows than its marks take with row 0
pub few_rows : (words : ℕ → Option ℕ) (root : ℕ) (tree : Tree) (marks : List Mark)
    → PicturesBy words root tree marks → length (rows_of tree) < live_rows marks
unfolding digits live_rows
few_rows words root tree marks by =
    let all = rows_within words marks tree 8 0 0 (omega arith) (omega arith) by.lies
    (λ object within bound. by.told object bound) in
    omega (
      arith,
      all,
      count_by-le-length (λ object. is_within 65536 0 object) (objects_of marks),
      count_by-le-length (λ (mark : Mark). is_within 65536 0 mark.object) marks,
    )

-- and at most 9,216 of a list of at most 1,024 marks
pub rows_of_1024 : (words : ℕ → Option ℕ) (root : ℕ) (tree : Tree) (marks : List Mark)
    → PicturesBy words root tree marks → length marks ≤ 1024 → length (rows_of tree) ≤ 9216
unfolding live_rows
rows_of_1024 words root tree marks by few =
    omega (arith, few_rows words root tree marks by, few_objects marks)
