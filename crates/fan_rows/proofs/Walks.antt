-- The walk of rows: down an index by digits, and along a chain.
use Rattle.std.proofs.Common.{◌≢◌, ◌-◌, Bool, true, false, None, find, ◌≡◌, ◌∙◌, ℕ, ◌+◌, ◌*◌, ◌/◌, ◌%◌, ◌^◌, ◌<◌, ◌≤◌, zero, suc, List, [], ◌∷◌, Option, Some, refl, sym, ap, subst, arith}
use Rattle.std.proofs.lemmas.Bool.Decides.{nat_tests}
use Rattle.std.proofs.lemmas.List.Elements.{All-head}
use Rattle.std.proofs.Math.Nat.{pow-suc}
use Rattle.fan_bits.proofs.InterestLemmas.{order_number-lt}
use Rattle.std.specs.Prelude.{All, nat_lt}
use Rattle.fan_bits.specs.declared.mark.Mark.{Mark}
use Rattle.fan_bits.specs.Marks.{order_of}
use Rattle.fan_bits.specs.Words.{rank_of}
use Rattle.fan_rows.specs.Coding.{object_word}
use Rattle.fan_rows.specs.Rows.{MarkAt, RowAt}
use Rattle.fan_rows.specs.Trees.{Branch, Chain, IsChain, Lies, Link, Tree, chain_at, child, digits, digits_at, first_row, links_of, marks_in, pick, places, top}
use Rattle.fan_rows.proofs.Codes.{kind_small, rank_small}

-- a tree lies at a row
pub record LiesAt (words : ℕ → Option ℕ) (row depth : ℕ) (tree : Tree) : Type 0 where
  pub lies : Lies words tree depth
  pub top_is : top tree ≡ row

-- the word of a digit
word_at : (words : ℕ → Option ℕ) (row a b c d digit : ℕ) → RowAt words row a b c d → digit < 4
    → words (4 * row + digit) ≡ Some (pick digit a b c d)
word_at words row a b c d zero at small =
    let start : 4 * row + 0 ≡ 4 * row = omega arith in
    ap words start ∙ at.word_0
word_at words row a b c d (suc zero) at small = at.word_1
word_at words row a b c d (suc (suc zero)) at small = at.word_2
word_at words row a b c d (suc (suc (suc zero))) at small = at.word_3
word_at words row a b c d (suc (suc (suc (suc digit)))) at small = absurd (omega arith)

-- the row of the tree for a digit, and where that tree lies
pick_top : (digit : ℕ) (a b c d : Tree)
    → top (pick digit a b c d) ≡ pick digit (top a) (top b) (top c) (top d)
pick_top zero a b c d = refl
pick_top (suc zero) a b c d = refl
pick_top (suc (suc zero)) a b c d = refl
pick_top (suc (suc (suc digit))) a b c d = refl

pick_lies : (words : ℕ → Option ℕ) (depth digit : ℕ) (a b c d : Tree) → Lies words a depth
    → Lies words b depth → Lies words c depth → Lies words d depth → Lies words (pick digit a b c d) depth
pick_lies words depth zero a b c d first second third fourth = first
pick_lies words depth (suc zero) a b c d first second third fourth = second
pick_lies words depth (suc (suc zero)) a b c d first second third fourth = third
pick_lies words depth (suc (suc (suc digit))) a b c d first second third fourth = fourth

-- below an index row: the row is small, and its word for a digit is the row of the tree for the digit
pub record Below (words : ℕ → Option ℕ) (row depth digit : ℕ) (tree : Tree) : Type 0 where
  pub small : row < 2 ^ 62
  pub word : words (4 * row + digit) ≡ Some (top (child tree digit))
  pub lies : Lies words (child tree digit) depth

pub below : (words : ℕ → Option ℕ) (row depth digit : ℕ) (tree : Tree) → LiesAt words row (suc depth) tree
    → 0 < row → digit < 4 → Below words row depth digit tree
below words row depth digit (Chain links) at some small =
    let none : first_row links ≡ 0 = ap first_row at.lies in
    let is = at.top_is in
    absurd (omega arith)
below words row depth digit (Branch of a b c d) at some small =
    let is : of ≡ row = at.top_is in
    let here = at.lies.0 in
    record {
      small = omega (arith, here.below);
      word = ap (λ r. words (4 * r + digit)) (sym is)
          ∙ word_at words of (top a) (top b) (top c) (top d) digit here small
          ∙ ap (λ n. Some n) (sym (pick_top digit a b c d));
      lies = pick_lies words depth digit a b c d at.lies.2 at.lies.3 at.lies.4 at.lies.5;
    }

-- from row 0 nothing is reached
pub none_below : (words : ℕ → Option ℕ) (depth digit : ℕ) (tree : Tree) → LiesAt words 0 (suc depth) tree
    → LiesAt words 0 depth (child tree digit)
none_below words zero digit (Chain links) at = record { lies = tt; top_is = refl }
none_below words (suc depth) digit (Chain links) at = record { lies = refl; top_is = refl }
none_below words depth digit (Branch of a b c d) at =
    let is : of ≡ 0 = at.top_is in
    let above = at.lies.0.above in
    absurd (omega arith)

-- without index rows there is just a chain
chain_below : (words : ℕ → Option ℕ) (row : ℕ) (tree : Tree) → LiesAt words row 0 tree
    → IsChain words (links_of tree) × (first_row (links_of tree) ≡ row)
chain_below words row (Chain links) at = (at.lies, at.top_is)
chain_below words row (Branch of a b c d) at = absurd at.lies

-- what the most significant of some digits stands for; 0 where there is none
abbrev pub place_at : ℕ → ℕ
place_at zero = 0
place_at (suc depth) = 4 ^ depth

-- the digits down to a place were followed to a row, and the others lead from there to a chain
pub record Led (words : ℕ → Option ℕ) (row place object : ℕ) (links : List Link) : Type 0 where
  pub depth : ℕ
  pub tree : Tree
  pub place_is : place ≡ place_at depth
  pub at : LiesAt words row depth tree
  pub chain : chain_at tree (digits_at object (places depth)) ≡ links

-- there is an index row, or none of its marks, below a place that isn't 0
pub record Deep (words : ℕ → Option ℕ) (row place object : ℕ) (links : List Link) : Type 0 where
  pub depth : ℕ
  pub tree : Tree
  pub place_is : place ≡ 4 ^ depth
  pub at : LiesAt words row (suc depth) tree
  pub chain : chain_at (child tree (object / place % 4)) (digits_at object (places depth)) ≡ links

pub led_start : (words : ℕ → Option ℕ) (root object : ℕ) (tree : Tree) → Lies words tree 8 → top tree ≡ root
    → Led words root 16384 object (chain_at tree (digits object))
unfolding digits
led_start words root object tree lies is = record {
  depth = 8;
  tree = tree;
  place_is = refl;
  at = record { lies = lies; top_is = is };
  chain = refl;
}

deep_by : (words : ℕ → Option ℕ) (row place object : ℕ) (links : List Link) (depth : ℕ) (tree : Tree)
    → place ≡ place_at depth → LiesAt words row depth tree
    → chain_at tree (digits_at object (places depth)) ≡ links → 0 < place → Deep words row place object links
deep_by words row place object links zero tree is at chain some = absurd (omega arith)
deep_by words row place object links (suc depth) tree is at chain some = record {
  depth = depth;
  tree = tree;
  place_is = is;
  at = at;
  chain = rw is chain;
}

pub deep : (words : ℕ → Option ℕ) (row place object : ℕ) (links : List Link)
    → Led words row place object links → 0 < place → Deep words row place object links
deep words row place object links led some =
    deep_by words row place object links led.depth led.tree led.place_is led.at led.chain some

-- powers of 4
pow_4 : (depth : ℕ) → 0 < 4 ^ depth
pow_4 zero = omega arith
pow_4 (suc depth) = rw pow-suc (omega (arith, pow_4 depth))

place_falls : (depth : ℕ) → 4 ^ depth / 4 ≡ place_at depth
place_falls zero = refl
place_falls (suc depth) = rw pow-suc (omega arith)

-- a row leads to another by a digit, in whichever tree it lies
pub record StepsDown (words : ℕ → Option ℕ) (row digit next : ℕ) : Type 0 where
  pub lies : (depth : ℕ) (tree : Tree) → Lies words tree (suc depth) → top tree ≡ row
      → Lies words (child tree digit) depth
  pub top_is : (depth : ℕ) (tree : Tree) → Lies words tree (suc depth) → top tree ≡ row
      → top (child tree digit) ≡ next

-- one digit more
pub led_on : (words : ℕ → Option ℕ) (row place object : ℕ) (links : List Link)
    → Led words row place object links → 0 < place → (next : ℕ)
    → StepsDown words row (object / place % 4) next → Led words next (place / 4) object links
led_on words row place object links led some next step =
    let here = deep words row place object links led some in
    record {
      depth = here.depth;
      tree = child here.tree (object / place % 4);
      place_is = ap (λ n. n / 4) here.place_is ∙ place_falls here.depth;
      at = record {
        lies = step.lies here.depth here.tree here.at.lies here.at.top_is;
        top_is = step.top_is here.depth here.tree here.at.lies here.at.top_is;
      };
      chain = here.chain;
    }

end_by : (words : ℕ → Option ℕ) (row object : ℕ) (links : List Link) (depth : ℕ) (tree : Tree)
    → 0 ≡ place_at depth → LiesAt words row depth tree
    → chain_at tree (digits_at object (places depth)) ≡ links → IsChain words links × (first_row links ≡ row)
end_by words row object links zero tree is at chain =
    subst (λ all. IsChain words all × (first_row all ≡ row)) chain (chain_below words row tree at)
end_by words row object links (suc depth) tree is at chain =
    let some = pow_4 depth in
    absurd (omega arith)

-- all digits were followed
pub led_end : (words : ℕ → Option ℕ) (row object : ℕ) (links : List Link) → Led words row 0 object links
    → IsChain words links × (first_row links ≡ row)
led_end words row object links led =
    end_by words row object links led.depth led.tree led.place_is led.at led.chain

-- a mark comes after an order
abbrev pub is_after : ℕ → Mark → Bool
is_after after mark = nat_lt after (order_of mark)

-- a chain was followed to a row, and no mark was found on the way
pub record Along (words : ℕ → Option ℕ) (row after : ℕ) (links : List Link) : Type 0 where
  pub rest : List Link
  pub chain : IsChain words rest
  pub first : first_row rest ≡ row
  pub passed : find (is_after after) (marks_in links) ≡ find (is_after after) (marks_in rest)

pub along_start : (words : ℕ → Option ℕ) (row after : ℕ) (links : List Link) → IsChain words links
    → first_row links ≡ row → Along words row after links
along_start words row after links chain is = record { rest = links; chain = chain; first = is; passed = refl }

-- a row that isn't 0 is that of a mark, and the chain goes on at its next row
pub record Here (words : ℕ → Option ℕ) (row after : ℕ) (links : List Link) : Type 0 where
  pub mark : Mark
  pub rest : List Link
  pub at : MarkAt words row (first_row rest) mark
  pub before : All (λ later. order_of mark < order_of later.mark) rest
  pub chain : IsChain words rest
  pub passed : find (is_after after) (marks_in links)
      ≡ find (is_after after) (mark ∷ marks_in rest)

here_by : (words : ℕ → Option ℕ) (row after : ℕ) (links rest : List Link) → IsChain words rest
    → first_row rest ≡ row → find (is_after after) (marks_in links) ≡ find (is_after after) (marks_in rest)
    → row ≢ 0 → Here words row after links
here_by words row after links [] chain is passed some = absurd (some (sym is))
here_by words row after links (link ∷ rest) chain is passed some = record {
  mark = link.mark;
  rest = rest;
  at = subst (λ r. MarkAt words r (first_row rest) link.mark) is chain.0;
  before = chain.1;
  chain = chain.2;
  passed = passed;
}

pub here : (words : ℕ → Option ℕ) (row after : ℕ) (links : List Link) → Along words row after links
    → row ≢ 0 → Here words row after links
here words row after links along some =
    here_by words row after links along.rest along.chain along.first along.passed some

-- what a row's mark is
pub mark_here : (words : ℕ → Option ℕ) (row after : ℕ) (links : List Link) → Here words row after links
    → (next : ℕ) × (mark : Mark) × MarkAt words row next mark
mark_here words row after links here = (first_row here.rest, here.mark, here.at)

-- it is the first after the order
pub found_here : (words : ℕ → Option ℕ) (row after : ℕ) (links : List Link) → Along words row after links
    → row ≢ 0 → (mark : Mark) → ((next : ℕ) (one : Mark) → MarkAt words row next one → mark ≡ one)
    → after < order_of mark → Some mark ≡ find (is_after after) (marks_in links)
found_here words row after links along some mark is behind =
    let found = here words row after links along some in
    let one : mark ≡ found.mark = is (first_row found.rest) found.mark found.at in
    let test : is_after after found.mark ≡ true =
    subst (λ m. is_after after m ≡ true) one (grind (arith, nat_tests)) in
    ap (λ m. Some m) one ∙ sym (found.passed ∙ rw test refl)

-- or the walk goes on behind it
pub along_on : (words : ℕ → Option ℕ) (row after : ℕ) (links : List Link) → Along words row after links
    → row ≢ 0 → (mark : Mark) → ((next : ℕ) (one : Mark) → MarkAt words row next one → mark ≡ one)
    → order_of mark ≤ after → (next : ℕ) → words (4 * row) ≡ Some next → Along words next after links
along_on words row after links along some mark is within next word =
    let found = here words row after links along some in
    let one : mark ≡ found.mark = is (first_row found.rest) found.mark found.at in
    let test : is_after after found.mark ≡ false =
    subst (λ m. is_after after m ≡ false) one (grind (arith, nat_tests)) in
    let same : Some (first_row found.rest) ≡ Some next = sym found.at.at.word_0 ∙ word in
    record {
      rest = found.rest;
      chain = found.chain;
      first = cc;
      passed = found.passed ∙ rw test refl;
    }

-- at the end none was found
pub along_end : (words : ℕ → Option ℕ) (after : ℕ) (links : List Link) → Along words 0 after links
    → None ≡ find (is_after after) (marks_in links)
along_end words after links along = sym (along.passed ∙ by along.rest along.chain along.first)
  where
    by : (rest : List Link) → IsChain words rest → first_row rest ≡ 0
        → find (is_after after) (marks_in rest) ≡ None
    by [] chain is = refl
    by (link ∷ rest) chain is = let above = chain.0.at.above in absurd (omega arith)

-- the order of a row's mark, as the words tell it
value : Option ℕ → ℕ
value None = 0
value (Some word) = word

order_in : (ℕ → Option ℕ) → ℕ → ℕ
order_in words row = value (words (4 * row + 2)) / 2 ^ 34 % 4 * 2 ^ 32 + value (words (4 * row + 3))

order_is : (words : ℕ → Option ℕ) (row next : ℕ) (mark : Mark) → MarkAt words row next mark
    → order_in words row ≡ order_of mark
unfolding order_in value
order_is words row next mark at =
    let object = at.is_mark.object in
    let kind = kind_small mark.kind in
    let rank = rank_small mark.class in
    let rank_is : object_word mark / 2 ^ 34 % 4 ≡ rank_of mark.class = omega arith in
    rw (at.at.word_2, at.at.word_3) (omega arith)

-- how far a row is from the last order; 0 at the end of a chain
pub room : (ℕ → Option ℕ) → ℕ → ℕ
room words zero = 0
room words (suc row) = 2 ^ 40 - order_in words (suc row)

room_is : (words : ℕ → Option ℕ) (row next : ℕ) (mark : Mark) → MarkAt words row next mark
    → room words row ≡ 2 ^ 40 - order_of mark
unfolding room
room_is words zero next mark at = let above = at.at.above in absurd (omega arith)
room_is words (suc row) next mark at = rw (order_is words (suc row) next mark at) refl

room_rest : (words : ℕ → Option ℕ) (order : ℕ) (rest : List Link) → IsChain words rest
    → All (λ later. order < order_of later.mark) rest → order < 2 ^ 40
    → room words (first_row rest) < 2 ^ 40 - order
unfolding room
room_rest words order [] chain behind small = omega arith
room_rest words order (link ∷ rest) chain behind small =
    omega (
      arith,
      room_is words link.row (first_row rest) link.mark chain.0,
      All-head (λ (later : Link). order < order_of later.mark) link rest behind,
    )

-- it falls along a chain
pub room_falls : (words : ℕ → Option ℕ) (row after : ℕ) (links : List Link) → Along words row after links
    → row ≢ 0 → (next : ℕ) → words (4 * row) ≡ Some next → room words next < room words row
room_falls words row after links along some next word =
    let found = here words row after links along some in
    let same : Some (first_row found.rest) ≡ Some next = sym found.at.at.word_0 ∙ word in
    let next_is : first_row found.rest ≡ next = cc in
    let order = order_number-lt found.mark.class found.mark.group found.at.is_mark.group.1 in
    rw (room_is words row (first_row found.rest) found.mark found.at)
    (subst (λ n. room words n < 2 ^ 40 - order_of found.mark) next_is
    (room_rest words (order_of found.mark) found.rest found.chain found.before (omega (arith, order))))
