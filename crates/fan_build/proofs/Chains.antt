-- Chains of mark rows, from their first row on.
use Rattle.std.proofs.Common.{◌≡◌, ◌≢◌, ℕ, ◌+◌, ◌*◌, ◌<◌, ◌^◌, zero, suc, true, List, [], ◌∷◌, Option, Some, length, refl, sym, subst, arith}
use Rattle.std.proofs.lemmas.Bool.Decides.{nat_tests}
use Rattle.std.proofs.lemmas.List.Elements.{All-head}
use Rattle.std.specs.Prelude.{All, IsSome, not, ◌==◌}
use Rattle.fan_bits.specs.Marks.{order_of}
use Rattle.fan_bits.proofs.InterestLemmas.{order_number-lt}
use Rattle.fan_rows.specs.Rows.{MarkAt}
use Rattle.fan_rows.specs.Trees.{IsChain, Link, first_row, marks_in}
use Rattle.fan_rows.proofs.Walks.{along_start, room, room_falls}
use Rattle.fan_build.specs.Edits.{has_any}

-- a chain from a row that isn't 0 on: the first mark, and the others
pub record First (words : ℕ → Option ℕ) (row : ℕ) (links : List Link) : Type 0 where
  pub link : Link
  pub rest : List Link
  pub is : links ≡ link ∷ rest
  pub row_is : link.row ≡ row
  pub at : MarkAt words row (first_row rest) link.mark
  pub before : All (λ later. order_of link.mark < order_of later.mark) rest
  pub chain : IsChain words rest

pub first_of : (words : ℕ → Option ℕ) (row : ℕ) (links : List Link) → IsChain words links
    → first_row links ≡ row → row ≢ 0 → First words row links
first_of words row [] chain is some = absurd (some (sym is))
first_of words row (link ∷ rest) chain is some = record {
  link = link;
  rest = rest;
  is = refl;
  row_is = is;
  at = subst (λ r. MarkAt words r (first_row rest) link.mark) is chain.0;
  before = chain.1;
  chain = chain.2;
}

-- row 0 begins the chain of no marks
pub none_of : (words : ℕ → Option ℕ) (links : List Link) → IsChain words links → first_row links ≡ 0
    → links ≡ []
none_of words [] chain is = refl
none_of words (link ∷ rest) chain is = let above = chain.0.at.above in absurd (omega arith)

-- there are marks where the first row isn't 0
pub any_by_row : (words : ℕ → Option ℕ) (links : List Link) → IsChain words links
    → not (first_row links == 0) ≡ has_any (marks_in links)
any_by_row words [] chain = refl
any_by_row words (link ∷ rest) chain = by link.row chain.0.at.above
  where
    by : (row : ℕ) → 0 < row → not (row == 0) ≡ true
    by zero some = absurd (omega arith)
    by (suc row) some = grind (arith, nat_tests)

-- the word of the next row is there
pub next_word : (words : ℕ → Option ℕ) (row : ℕ) (links : List Link) → IsChain words links
    → first_row links ≡ row → row ≢ 0 → IsSome (words (4 * row))
next_word words row links chain is some =
    let first = first_of words row links chain is some in
    subst IsSome (sym first.at.at.word_0) refl

-- the room behind a row falls along a chain
pub falls : (words : ℕ → Option ℕ) (row : ℕ) (links : List Link) → IsChain words links
    → first_row links ≡ row → row ≢ 0 → (next : ℕ) → words (4 * row) ≡ Some next
    → room words next < room words row
falls words row links chain is some next word =
    room_falls words row 0 links (along_start words row 0 links chain is) some next word

-- marks behind an order are few
few_behind : (words : ℕ → Option ℕ) (order : ℕ) (links : List Link) → IsChain words links
    → All (λ link. order < order_of link.mark) links → order < 2 ^ 40 → order + length links < 2 ^ 40
few_behind words order [] chain behind small = omega arith
few_behind words order (link ∷ rest) chain behind small =
    let here = All-head (λ (link : Link). order < order_of link.mark) link rest behind in
    let lt = order_number-lt link.mark.class link.mark.group chain.0.is_mark.group.1 in
    omega (arith, few_behind words (order_of link.mark) rest chain.2 chain.1 (omega (arith, lt)))

-- the marks of a chain are few
pub few : (words : ℕ → Option ℕ) (links : List Link) → IsChain words links → length links < 2 ^ 40
few words [] chain = omega arith
few words (link ∷ rest) chain =
    let lt = order_number-lt link.mark.class link.mark.group chain.0.is_mark.group.1 in
    omega (
      arith,
      chain.0.is_mark.group.0,
      few_behind words (order_of link.mark) rest chain.2 chain.1 (omega (arith, lt)),
    )
