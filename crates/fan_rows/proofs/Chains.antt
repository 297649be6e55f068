-- Chains of rows: from one first row there is one, and words that keep its rows keep it.
use Rattle.std.proofs.Common.{◌≡◌, ◌∙◌, ℕ, ◌+◌, ◌*◌, ◌<◌, List, [], ◌∷◌, ◌++◌, Option, Some, map, refl, sym, ap, subst, arith, eq-eqb}
use Rattle.fan_bits.specs.declared.mark.Mark.{Mark}
use Rattle.fan_rows.specs.Rows.{KeepsRows, RowAt, times}
use Rattle.fan_rows.specs.Trees.{IsChain, Link, first_row}
use Rattle.fan_rows.proofs.Codes.{one_mark}

-- what a row tells
pub record SameRow (a b c d e f g h : ℕ) : Type 0 where
  pub first : a ≡ e
  pub second : b ≡ f
  pub third : c ≡ g
  pub fourth : d ≡ h

-- a row tells the same each time
pub one_row : (words : ℕ → Option ℕ) (row other a b c d e f g h : ℕ) → row ≡ other
    → RowAt words row a b c d → RowAt words other e f g h → SameRow a b c d e f g h
one_row words row other a b c d e f g h is here there = record {
  first = let one : Some a ≡ Some e = sym here.word_0 ∙ ap (λ r. words (4 * r)) is ∙ there.word_0 in cc;
  second = let one : Some b ≡ Some f = sym here.word_1 ∙ ap (λ r. words (4 * r + 1)) is ∙ there.word_1 in cc;
  third = let one : Some c ≡ Some g = sym here.word_2 ∙ ap (λ r. words (4 * r + 2)) is ∙ there.word_2 in cc;
  fourth = let one : Some d ≡ Some h = sym here.word_3 ∙ ap (λ r. words (4 * r + 3)) is ∙ there.word_3 in cc;
}

-- two links with the same row and mark are one
one_link : (x y : Link) → x.row ≡ y.row → x.mark ≡ y.mark → x ≡ y
one_link x y row mark =
    let left : ℕ × Mark = (x.row, x.mark) in
    let right : ℕ × Mark = (y.row, y.mark) in
    let same : left ≡ right = cc in
    ap (λ (of : ℕ × Mark). record { row = of.0; mark = of.1 }) same

-- from one first row there is one chain
pub one_chain : (words : ℕ → Option ℕ) (xs ys : List Link) → IsChain words xs → IsChain words ys
    → first_row xs ≡ first_row ys → xs ≡ ys
one_chain words [] [] here there same = refl
one_chain words [] (y ∷ ys) here there same = let above = there.0.at.above in absurd (omega arith)
one_chain words (x ∷ xs) [] here there same = let above = here.0.at.above in absurd (omega arith)
one_chain words (x ∷ xs) (y ∷ ys) here there same =
    let row = one_row words x.row y.row _ _ _ _ _ _ _ _ same here.0.at there.0.at in
    let mark : x.mark ≡ y.mark =
    one_mark x.mark y.mark here.0.is_mark there.0.is_mark row.second row.third row.fourth in
    let rest : xs ≡ ys = one_chain words xs ys here.2 there.2 row.first in
    let one : x ≡ y = one_link x y same mark in
    cc

-- a row counts in a list that begins with it
pub times_first : (row : ℕ) (rows : List ℕ) → 0 < times row (row ∷ rows)
times_first row rows = rw (eq-eqb row row refl) (omega arith)

-- and in each list that another is part of
pub times_append : (row : ℕ) (xs ys : List ℕ) → times row (xs ++ ys) ≡ times row xs + times row ys
times_append row [] ys = omega arith
times_append row (x ∷ xs) ys = omega (arith, times_append row xs ys)

-- a row that is kept tells the same
pub kept_row : (words later : ℕ → Option ℕ) (row a b c d : ℕ)
    → ((place : ℕ) → place < 4 → later (4 * row + place) ≡ words (4 * row + place))
    → RowAt words row a b c d → RowAt later row a b c d
kept_row words later row a b c d keeps at =
    let start : 4 * row + 0 ≡ 4 * row = omega arith in
    record {
      above = at.above;
      below = at.below;
      word_0 = subst (λ n. later n ≡ words n) start (keeps 0 (omega arith)) ∙ at.word_0;
      word_1 = keeps 1 (omega arith) ∙ at.word_1;
      word_2 = keeps 2 (omega arith) ∙ at.word_2;
      word_3 = keeps 3 (omega arith) ∙ at.word_3;
    }

-- and so does a chain
pub kept_chain : (words later : ℕ → Option ℕ) (links : List Link)
    → KeepsRows words later (map (λ link. link.row) links) → IsChain words links → IsChain later links
kept_chain words later [] keeps chain = tt
kept_chain words later (link ∷ links) keeps chain =
    let rows = map (λ (link : Link). link.row) links in (
      record {
        at = kept_row words later link.row _ _ _ _ (λ place. keeps link.row place (times_first link.row rows))
            chain.0.at;
        is_mark = chain.0.is_mark;
      },
      chain.1,
      kept_chain words later links (λ row place some. keeps row place (omega arith)) chain.2,
    )
