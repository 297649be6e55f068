-- How an index row is replaced.
use Rattle.std.proofs.Common.{◌≡◌, ◌≢◌, ◌∙◌, ℕ, ◌+◌, ◌*◌, ◌<◌, ◌≤◌, zero, suc, Bool, true, false, List, [], ◌∷◌, ◌++◌, Option, length, refl, sym, ap, subst, arith, append-nil}
use Rattle.std.proofs.lemmas.Bool.{ne_eqb}
use Rattle.std.proofs.lemmas.Bool.Decides.{nat_tests}
use Rattle.std.specs.Prelude.{IsSome, not, ◌==◌, ◌||◌}
use Rattle.fan_rows.specs.Rows.{Rows, times}
use Rattle.fan_rows.specs.Trees.{Branch, Chain, Lies, Tree, pick, rows_of, top}
use Rattle.fan_rows.proofs.Chains.{kept_row, times_append, times_first}
use Rattle.fan_rows.proofs.TreeLemmas.{kept_tree}
use Rattle.fan_build.specs.declared.made.Made.{Made}
use Rattle.fan_build.specs.declared.made.Parts.{Parts}
use Rattle.fan_build.specs.Parts.{parts_left}
use Rattle.fan_build.specs.Steps.{Grown, IndexBefore, IndexMade, IndexWritten, own_row}
use Rattle.fan_build.proofs.Growing.{apart_fewer, grown_on, keeps}
use Rattle.fan_build.proofs.Chains.{none_of}

-- a tree that isn't reached is the chain of no marks
pub no_tree : (words : ℕ → Option ℕ) (depth : ℕ) (tree : Tree) → Lies words tree depth → top tree ≡ 0
    → tree ≡ Chain []
no_tree words zero (Chain links) lies none = ap Chain (none_of words links lies none)
no_tree words (suc depth) (Chain links) lies none = ap Chain lies
no_tree words zero (Branch row a b c d) lies none = absurd lies
no_tree words (suc depth) (Branch row a b c d) lies none =
    let above = lies.0.above in
    absurd (omega arith)

-- an index row counts for itself
pub own_times : (row : ℕ) → row ≢ 0 → 0 < times row (own_row row)
own_times row some = rw (ne_eqb row 0 some) (times_first row [])

-- one of four rows isn't 0
left_sum : (k l m n : ℕ) → (not (k == 0) || not (l == 0) || not (m == 0) || not (n == 0)) ≡ true
    → 0 < k + l + m + n
left_sum k l m n some = grind (arith, nat_tests, some)

left_none : (k l m n : ℕ) → (not (k == 0) || not (l == 0) || not (m == 0) || not (n == 0)) ≡ false
    → k + l + m + n ≡ 0
left_none k l m n none = grind (arith, nat_tests, none)

-- four trees that are one
pick_same : (digit : ℕ) (tree : Tree) → pick digit tree tree tree tree ≡ tree
pick_same zero tree = refl
pick_same (suc zero) tree = refl
pick_same (suc (suc zero)) tree = refl
pick_same (suc (suc (suc digit))) tree = refl

some_row : (row : ℕ) → 0 < row → not (row == 0) ≡ true
some_row zero some = absurd (omega arith)
some_row (suc row) some = grind (arith, nat_tests)

module _ (words later : ℕ → Option ℕ) (rows after : Rows) (depth row : ℕ) (parts : Parts) (a b c d : Tree)
    (before : IndexBefore words rows depth row parts a b c d) (new : ℕ)
    (written : IndexWritten words later rows after parts new) where
  abbrev all : List ℕ
  all = rows_of a ++ rows_of b ++ rows_of c ++ rows_of d

  times_all : (one : ℕ) → times one all
      ≡ times one (rows_of a) + times one (rows_of b) + times one (rows_of c) + times one (rows_of d)
  times_all one = omega (
    arith,
    times_append one (rows_of a ++ rows_of b ++ rows_of c) (rows_of d),
    times_append one (rows_of a ++ rows_of b) (rows_of c),
    times_append one (rows_of a) (rows_of b),
  )

  -- a part of all rows
  times_in : (one : ℕ) → times one (own_row row ++ rows_of a ++ rows_of b ++ rows_of c ++ rows_of d)
      ≡ times one (own_row row) + times one all
  times_in one = omega (
    arith,
    times_all one,
    times_append one (own_row row ++ rows_of a ++ rows_of b ++ rows_of c) (rows_of d),
    times_append one (own_row row ++ rows_of a ++ rows_of b) (rows_of c),
    times_append one (own_row row ++ rows_of a) (rows_of b),
    times_append one (own_row row) (rows_of a),
  )

  -- the old row was not written, and not given up
  pub there_yet : row ≢ 0 → IsSome (later (4 * row))
  there_yet some =
      let start : 4 * row + 0 ≡ 4 * row = omega arith in
      let apart = apart_fewer rows _ (own_row row) before.apart (λ one. omega (arith, times_in one)) in
      let same = keeps words later rows after written.more [] (own_row row) written.grown apart row 0
      (own_times row some) (omega arith) in
      let still : later (4 * row) ≡ words (4 * row) = subst (λ at. later at ≡ words at) start same in
      subst IsSome (sym still) (before.there some)

  pub not_yet : row ≢ 0 → times row after.retired ≡ 0
  not_yet some =
      let retired : times row after.retired ≡ times row rows.retired + 0 =
      ap (times row) written.grown.retired_on ∙ times_append row rows.retired [] in
      omega (arith, before.apart row, times_in row, own_times row some)

  module _ (last : ℕ → Option ℕ) (end : Rows) (lost : Grown later last after end [] (own_row row))
      (made : Made) (made_is : made ≡ record {
        row = new;
        altered = true;
        marks = parts.first.marks + parts.second.marks + parts.third.marks + parts.fourth.marks;
        rows = parts.first.rows + parts.second.rows + parts.third.rows + parts.fourth.rows
            + length (own_row row);
      }) where
    grown : Grown words last rows end written.more (own_row row)
    grown = subst (λ more. Grown words last rows end more (own_row row)) (append-nil written.more)
        (grown_on words later last rows after end written.more [] [] (own_row row) written.grown lost)

    lies_last : (tree : Tree) → Lies words tree depth
        → ((one : ℕ) → times one (rows_of tree) ≤ times one all) → Lies last tree depth
    lies_last tree lies less =
        let apart = apart_fewer rows _ (rows_of tree) before.apart
        (λ one. omega (arith, times_in one, less one)) in
        kept_tree words last tree depth
        (keeps words last rows end written.more (own_row row) (rows_of tree) grown apart) lies

    some_left : parts_left parts ≡ true → IndexMade words last rows end depth row parts a b c d made
    some_left left =
        let some = written.some left in
        let first = before.top_a in
        let second = before.top_b in
        let third = before.top_c in
        let fourth = before.top_d in
        rw made_is (record {
          more = written.more;
          new = Branch new a b c d;
          grown = grown;
          lies = (
            kept_row later last new (top a) (top b) (top c) (top d)
                (λ place small. lost.others new place small refl)
                (rw (first, second, third, fourth) some.0),
            omega (arith, left_sum parts.first.row parts.second.row parts.third.row parts.fourth.row left),
            lies_last a before.lies_a (λ one. omega (arith, times_all one)),
            lies_last b before.lies_b (λ one. omega (arith, times_all one)),
            lies_last c before.lies_c (λ one. omega (arith, times_all one)),
            lies_last d before.lies_d (λ one. omega (arith, times_all one)),
          );
          top_is = refl;
          child_is = λ digit. refl;
          counts = λ one.
              let taken : times one written.more ≡ times one (new ∷ []) = ap (times one) some.1 in
              omega (arith, taken);
          taken_is = ap length some.1 ∙ rw left refl;
          left_is = left ∙ sym (some_row new some.0.above);
          altered_is = refl;
          marks_is = refl;
          rows_is = refl;
        })

    none_left : parts_left parts ≡ false → IndexMade words last rows end depth row parts a b c d made
    none_left left =
        let none = written.none left in
        let sum = left_none parts.first.row parts.second.row parts.third.row parts.fourth.row left in
        let no_a = no_tree words depth a before.lies_a (before.top_a ∙ omega (arith, sum)) in
        let no_b = no_tree words depth b before.lies_b (before.top_b ∙ omega (arith, sum)) in
        let no_c = no_tree words depth c before.lies_c (before.top_c ∙ omega (arith, sum)) in
        let no_d = no_tree words depth d before.lies_d (before.top_d ∙ omega (arith, sum)) in
        rw (made_is, none.0) (record {
          more = written.more;
          new = Chain [];
          grown = grown;
          lies = refl;
          top_is = refl;
          child_is = λ digit. rw (no_a, no_b, no_c, no_d) (sym (pick_same digit (Chain [])));
          counts = λ one.
              let taken : times one written.more ≡ 0 = ap (times one) none.1 in
              let rows_a : times one (rows_of a) ≡ 0 = ap (λ t. times one (rows_of t)) no_a in
              let rows_b : times one (rows_of b) ≡ 0 = ap (λ t. times one (rows_of t)) no_b in
              let rows_c : times one (rows_of c) ≡ 0 = ap (λ t. times one (rows_of t)) no_c in
              let rows_d : times one (rows_of d) ≡ 0 = ap (λ t. times one (rows_of t)) no_d in
              omega (arith, times_all one);
          taken_is = ap length none.1 ∙ rw left refl;
          left_is = left;
          altered_is = refl;
          marks_is = refl;
          rows_is = refl;
        })

    pub index_made : IndexMade words last rows end depth row parts a b c d made
    index_made = by (parts_left parts) refl
      where
        by : (left : Bool) → parts_left parts ≡ left → IndexMade words last rows end depth row parts a b c d made
        by true is = some_left is
        by false is = none_left is
