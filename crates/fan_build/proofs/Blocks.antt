-- The effect of a change on the objects of a block, from the marks before and after it.
use Rattle.std.proofs.Common.{◌≡◌, ◌∙◌, ℕ, ◌+◌, ◌*◌, ◌/◌, ◌^◌, ◌<◌, zero, suc, Bool, true, false, List, [], ◌∷◌, length, refl, sym, ap, subst, arith}
use Rattle.std.proofs.lemmas.Bool.Decides.{nat_tests}
use Rattle.std.proofs.lemmas.List.Elements.{filter-append}
use Rattle.std.proofs.lemmas.List.Sums.{length-filter}
use Rattle.std.proofs.Math.Nat.{div-div-eq-div-mul, div-one, pow-suc}
use Rattle.std.specs.List.{list_any}
use Rattle.std.specs.Prelude.{count_by, not, ◌==◌, ◌||◌}
use Rattle.fan_bits.specs.declared.mark.Mark.{Mark}
use Rattle.fan_bits.specs.Marks.{gone, on, same_mark}
use Rattle.fan_bits.proofs.Lists.{any_wider, filter_within, filters_swap}
use Rattle.fan_lists.proofs.Counts.{count_by_agree}
use Rattle.fan_rows.specs.Costs.{altered}
use Rattle.fan_rows.proofs.Counting.{parts_at}
use Rattle.fan_build.specs.declared.effect.Effect.{Effect}
use Rattle.fan_build.specs.declared.effect.Effects.{Effects}
use Rattle.fan_build.specs.Edits.{has_any, no_effect}
use Rattle.fan_build.specs.Effects.{joined}
use Rattle.fan_build.specs.Needs.{is_within, needed_within}
use Rattle.fan_build.proofs.ChainNeeds.{none_told, same_effect, told_effect}
use Rattle.fan_build.proofs.SameMarks.{same_mark_exact}

-- what two lists tell of the effect on the objects of a block
abbrev pub list_effect : List Mark → List Mark → ℕ → ℕ → Effect
list_effect old new depth block = record {
  altered = list_any (is_within depth block) (altered old new);
  left = list_any (is_within depth block) new;
  taken = needed_within old new depth block;
  marks = count_by (is_within depth block) (gone old new);
}

-- ---- one object

-- the marks that are gone from an object
pub on_gone : (object : ℕ) (old new : List Mark) → on object (gone old new) ≡ gone (on object old) (on object new)
on_gone object old new =
    let here : Mark → Bool = λ mark. mark.object == object in
    let all : Mark → Bool = λ mark. not (list_any (same_mark mark) new) in
    let some : Mark → Bool = λ mark. not (list_any (same_mark mark) (on object new)) in
    filters_swap here all old
    ∙ filter_within all some here (λ mark is. ap not (sym (any_wider here (same_mark mark) (λ other same.
    subst (λ m. (m.object == object) ≡ true) (same_mark_exact mark other same) is) new))) old

pub any_here : (object : ℕ) (marks : List Mark) → list_any (is_within 0 object) marks ≡ has_any (on object marks)
any_here object [] = refl
any_here object (mark ∷ marks) =
    let one : is_within 0 object mark ≡ (mark.object == object) = ap (λ n. n == object) (div-one mark.object) in
    by (mark.object == object) refl one (any_here object marks)
  where
    by : (b : Bool) → (mark.object == object) ≡ b → is_within 0 object mark ≡ (mark.object == object)
        → list_any (is_within 0 object) marks ≡ has_any (on object marks)
        → list_any (is_within 0 object) (mark ∷ marks) ≡ has_any (on object (mark ∷ marks))
    by true is one rest = rw (one, is) refl
    by false is one rest = rw (one, is) rest

count_here : (object : ℕ) (marks : List Mark)
    → count_by (is_within 0 object) marks ≡ length (on object marks)
count_here object marks =
    count_by_agree (is_within 0 object) (λ mark. mark.object == object)
    (λ mark. ap (λ n. n == object) (div-one mark.object)) marks
    ∙ sym (length-filter (λ mark. mark.object == object) marks)

pub effect_here : (old new : List Mark) (object : ℕ)
    → list_effect old new 0 object ≡ told_effect (on object old) (on object new)
effect_here old new object =
    let changes : on object (altered old new) ≡ altered (on object old) (on object new) =
    filter-append (λ mark. mark.object == object) (gone old new) (gone new old)
    ∙ rw (on_gone object old new, on_gone object new old) refl in
    same_effect _ _ _ _ _ _ _ _ (any_here object (altered old new) ∙ ap has_any changes)
    (any_here object new) refl
    (count_here object (gone old new) ∙ ap length (on_gone object old new))

-- ---- a block and its four parts

or_mixed : (a b c d : Bool) → (a || b) || (c || d) ≡ (a || c) || (b || d)
or_mixed true b c d = refl
or_mixed false true true d = refl
or_mixed false true false d = refl
or_mixed false false c d = refl

any_or : (p q : Mark → Bool) (marks : List Mark)
    → list_any (λ mark. p mark || q mark) marks ≡ list_any p marks || list_any q marks
any_or p q [] = refl
any_or p q (mark ∷ marks) =
    ap (λ b. (p mark || q mark) || b) (any_or p q marks)
    ∙ or_mixed (p mark) (q mark) (list_any p marks) (list_any q marks)

any_agree : (p q : Mark → Bool) → ((mark : Mark) → p mark ≡ q mark) → (marks : List Mark)
    → list_any p marks ≡ list_any q marks
any_agree p q same [] = refl
any_agree p q same (mark ∷ marks) = rw (same mark, any_agree p q same marks) refl

-- a quotient by 4 is one of four numbers
one_of_four : (n block : ℕ) → (n / 4 == block)
    ≡ ((n == 4 * block + 0) || (n == 4 * block + 1) || (n == 4 * block + 2) || (n == 4 * block + 3))
one_of_four n block = grind (arith, nat_tests)

within_four : (depth block : ℕ) (mark : Mark) → is_within (suc depth) block mark
    ≡ (is_within depth (4 * block + 0) mark || is_within depth (4 * block + 1) mark
    || is_within depth (4 * block + 2) mark || is_within depth (4 * block + 3) mark)
within_four depth block mark =
    let quotient : mark.object / 4 ^ depth / 4 ≡ mark.object / (4 ^ depth * 4) =
    div-div-eq-div-mul mark.object (4 ^ depth) 4 in
    ap (λ n. mark.object / n == block) (pow-suc 4 depth)
    ∙ ap (λ n. n == block) (sym quotient)
    ∙ one_of_four (mark.object / 4 ^ depth) block

pub any_four : (depth block : ℕ) (marks : List Mark) → list_any (is_within (suc depth) block) marks
    ≡ (list_any (is_within depth (4 * block + 0)) marks || list_any (is_within depth (4 * block + 1)) marks
    || list_any (is_within depth (4 * block + 2)) marks || list_any (is_within depth (4 * block + 3)) marks)
any_four depth block marks =
    let w = λ (k : ℕ) (mark : Mark). is_within depth (4 * block + k) mark in
    any_agree (is_within (suc depth) block) (λ mark. w 0 mark || w 1 mark || w 2 mark || w 3 mark)
    (within_four depth block) marks
    ∙ any_or (λ mark. w 0 mark || w 1 mark || w 2 mark) (w 3) marks
    ∙ ap (λ b. b || list_any (w 3) marks) (any_or (λ mark. w 0 mark || w 1 mark) (w 2) marks
    ∙ ap (λ b. b || list_any (w 2) marks) (any_or (w 0) (w 1) marks))

pub count_four : (depth block : ℕ) (marks : List Mark) → count_by (is_within (suc depth) block) marks
    ≡ count_by (is_within depth (4 * block + 0)) marks
    + count_by (is_within depth (4 * block + 1)) marks
    + count_by (is_within depth (4 * block + 2)) marks
    + count_by (is_within depth (4 * block + 3)) marks
count_four depth block marks = parts_at (λ (mark : Mark). mark.object) depth block marks

module _ (old new : List Mark) where
  abbrev part : ℕ → ℕ → ℕ → Effect
  part depth block k = list_effect old new depth (4 * block + k)

  -- the effect on a block is that on its four parts
  pub effect_four : (depth block : ℕ) → joined (record {
    first = part depth block 0;
    second = part depth block 1;
    third = part depth block 2;
    fourth = part depth block 3;
  }) ≡ list_effect old new (suc depth) block
  effect_four depth block =
      let altered_four = any_four depth block (altered old new) in
      let left_four = any_four depth block new in
      same_effect _ _ _ _ _ _ _ _ (sym altered_four) (sym left_four)
      (ap (λ n. needed_within old new depth (4 * block + 0)
      + needed_within old new depth (4 * block + 1)
      + needed_within old new depth (4 * block + 2)
      + needed_within old new depth (4 * block + 3) + n)
      (rw (altered_four, left_four) refl))
      (sym (count_four depth block (gone old new)))

-- four times no effect
none_four : (a b c d : Bool) → joined (record {
  first = no_effect a;
  second = no_effect b;
  third = no_effect c;
  fourth = no_effect d;
}) ≡ no_effect (a || b || c || d)
none_four a b c d = refl

-- the same four effects make the same one
pub joined_by : (a b c d e f g h : Effect) → a ≡ e → b ≡ f → c ≡ g → d ≡ h
    → joined (record { first = a; second = b; third = c; fourth = d })
    ≡ joined (record { first = e; second = f; third = g; fourth = h })
joined_by a b c d e f g h one two three four =
    let same : ◌≡◌ {A = Effects} (record { first = a; second = b; third = c; fourth = d })
    (record { first = e; second = f; third = g; fourth = h }) = cc in
    ap joined same

-- ---- a block on which nothing is altered

-- the blocks of a depth are below a number
pub record InRange (depth block : ℕ) : Type 0 where
  pub height : ℕ
  pub eight : depth + height ≡ 8
  pub small : block < 4 ^ height

pub in_part : (depth block k : ℕ) → k < 4 → InRange (suc depth) block → InRange depth (4 * block + k)
in_part depth block k less range = record {
  height = suc range.height;
  eight = omega (arith, range.eight);
  small = rw (pow-suc 4 range.height) (omega (arith, range.small));
}

pub whole_range : InRange 8 0
whole_range = record { height = 0; eight = refl; small = omega arith }

pub last_small : (block : ℕ) → InRange 0 block → block < 2 ^ 16
last_small block range =
    let eight : range.height ≡ 8 = omega (arith, range.eight) in
    subst (λ h. block < 4 ^ h) eight range.small

-- the objects of a block have the same marks
abbrev pub SameOn : List Mark → List Mark → ℕ → ℕ → Type 0
SameOn old new depth block =
    (object : ℕ) → object / 4 ^ depth ≡ block → object < 2 ^ 16 → on object new ≡ on object old

pub same_part : (old new : List Mark) (depth block k : ℕ) → k < 4 → SameOn old new (suc depth) block
    → SameOn old new depth (4 * block + k)
same_part old new depth block k less same object within bound =
    let quotient : object / 4 ^ depth / 4 ≡ object / (4 ^ depth * 4) =
    div-div-eq-div-mul object (4 ^ depth) 4 in
    same object (rw (pow-suc, ← quotient) (omega arith)) bound

pub unaltered : (old new : List Mark) (depth block : ℕ) → InRange depth block → SameOn old new depth block
    → list_effect old new depth block ≡ no_effect (list_any (is_within depth block) old)
unaltered old new zero block range same =
    let here = same block (div-one block) (last_small block range) in
    effect_here old new block ∙ ap (told_effect (on block old)) here ∙ sym (none_told (on block old))
    ∙ ap no_effect (sym (any_here block old))
unaltered old new (suc depth) block range same =
    let one = λ (k : ℕ) (less : k < 4). unaltered old new depth (4 * block + k) (in_part depth block k less range)
    (same_part old new depth block k less same) in
    let zero_is = one 0 (omega arith) in
    let one_is = one 1 (omega arith) in
    let two_is = one 2 (omega arith) in
    let three_is = one 3 (omega arith) in
    sym (effect_four old new depth block) ∙ joined_by _ _ _ _ _ _ _ _ zero_is one_is two_is three_is
    ∙ ap no_effect (sym (any_four depth block old))
