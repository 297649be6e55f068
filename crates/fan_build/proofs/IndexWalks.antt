-- The walk that makes a tree anew, at an index row.
use Rattle.std.proofs.Common.{◌≡◌, ◌≢◌, ◌∙◌, ℕ, ◌+◌, ◌-◌, ◌*◌, ◌<◌, ◌≤◌, zero, suc, Bool, true, false, cond, List, [], ◌++◌, Option, length, refl, sym, ap, subst, arith, length-append}
use Rattle.std.proofs.lemmas.Bool.{false≢true}
use Rattle.std.specs.Prelude.{IsSome, not, ◌==◌, ◌&&◌, ◌||◌}
use Rattle.fan_rows.specs.Rows.{Rows, times}
use Rattle.fan_rows.specs.Trees.{Lies, Tree, child, rows_of, top}
use Rattle.fan_rows.proofs.Chains.{times_append}
use Rattle.fan_rows.proofs.TreeLemmas.{kept_tree}
use Rattle.fan_build.specs.declared.below.Below.{Below}
use Rattle.fan_build.specs.declared.edit.Edit.{Edit}
use Rattle.fan_build.specs.declared.effect.Effect.{Effect}
use Rattle.fan_build.specs.declared.effect.Effects.{Effects}
use Rattle.fan_build.specs.declared.made.Made.{Made}
use Rattle.fan_build.specs.declared.made.Parts.{Parts}
use Rattle.fan_build.specs.Edits.{goes}
use Rattle.fan_build.specs.Effects.{IsEdited, joined, tree_effect}
use Rattle.fan_build.specs.Parts.{parts_left}
use Rattle.fan_build.specs.Steps.{Apart, AreBelow, Counts, Grown, IndexBefore, IndexMade, TreeBefore, TreeMade, own_row}
use Rattle.fan_build.proofs.Growing.{apart_after, apart_fewer, grown_none, grown_on, keeps}
use Rattle.fan_build.proofs.IndexSteps.{own_times}
use Rattle.fan_build.proofs.Quiet.{all_fail, tree_quiet}
use Rattle.fan_build.proofs.TreeEffects.{four_few, tree_few}
use Rattle.fan_build.proofs.TreeRows.{children_length, children_times, four_rows, index_word, left_below}
use Rattle.fan_build.proofs.Trees.{lies_child, one_more}

-- one step's counts after another's
pub counts_on : (old more new gone next more_next new_next gone_next : List ℕ) → Counts old more new gone
    → Counts next more_next new_next gone_next
    → Counts (old ++ next) (more ++ more_next) (new ++ new_next) (gone ++ gone_next)
counts_on old more new gone next more_next new_next gone_next first second = λ row. omega (
  arith,
  first row,
  second row,
  times_append row old next,
  times_append row more more_next,
  times_append row new new_next,
  times_append row gone gone_next,
)

-- two tests that count for 1 together
both : (b c : Bool) → ◌≡◌ {A = ℕ} (cond (b && c) 1 0) (cond b (cond c 1 0) 0)
both true c = refl
both false c = refl

-- an index row is deep where there are index rows below
pub deepen : {words : ℕ → Option ℕ} {rows : Rows} {edit : Edit} {depth digit row : ℕ} {tree : Tree}
    → TreeBefore words rows edit depth digit row tree → depth ≢ 0
    → TreeBefore words rows edit (suc (depth - 1)) digit row tree
deepen {words} {rows} {edit} {depth} {digit} {row} {tree} before some =
    subst (λ n. TreeBefore words rows edit n digit row tree) (one_more depth some) before

pub come_deep : {words : ℕ → Option ℕ} {rows : Rows} {edit : Edit} {depth digit row : ℕ} {tree : Tree}
    → TreeBefore words rows edit depth digit row tree → depth ≢ 0 → goes edit.scope row depth digit ≡ true
    → goes edit.scope row (suc (depth - 1)) digit ≡ true
come_deep {words} {rows} {edit} {depth} {digit} {row} before some comes =
    subst (λ n. goes edit.scope row n digit ≡ true) (one_more depth some) comes

pub flatten : {words later : ℕ → Option ℕ} {rows after : Rows} {edit : Edit} {depth digit : ℕ} {tree : Tree}
    {made : Made} → depth ≢ 0 → TreeMade words later rows after edit (suc (depth - 1)) digit tree made
    → TreeMade words later rows after edit depth digit tree made
flatten {words} {later} {rows} {after} {edit} {depth} {digit} {tree} {made} some is =
    subst (λ n. TreeMade words later rows after edit n digit tree made) (sym (one_more depth some)) is

-- a tree that is made after a look at the words was made of what stood before it
pub made_of : {words looked later : ℕ → Option ℕ} {rows kept after : Rows} {edit : Edit}
    {depth digit row : ℕ} {tree : Tree} {made : Made} → looked ≡ words → kept ≡ rows
    → (TreeBefore looked kept edit depth digit row tree
    → TreeMade looked later kept after edit depth digit tree made)
    → TreeBefore words rows edit depth digit row tree
    → TreeMade words later rows after edit depth digit tree made
made_of {words} {looked} {later} {rows} {kept} {after} {edit} {depth} {digit} {row} {tree} {made} same_words
    same_rows ensures =
    let first : TreeBefore looked rows edit depth digit row tree
    → TreeMade looked later rows after edit depth digit tree made =
    subst (λ r. TreeBefore looked r edit depth digit row tree
    → TreeMade looked later r after edit depth digit tree made) same_rows ensures in
    subst (λ w. TreeBefore w rows edit depth digit row tree
    → TreeMade w later rows after edit depth digit tree made) same_words first

-- what holds at four digits
four_cases : (P : ℕ → Type 0) → P 0 → P 1 → P 2 → P 3 → (digit : ℕ) → digit < 4 → P digit
four_cases P a b c d zero small = a
four_cases P a b c d (suc zero) small = b
four_cases P a b c d (suc (suc zero)) small = c
four_cases P a b c d (suc (suc (suc zero))) small = d
four_cases P a b c d (suc (suc (suc (suc digit)))) small = absurd (omega arith)

module _ {words : ℕ → Option ℕ} {rows : Rows} {edit : Edit} {low digit row : ℕ} {tree : Tree}
    (before : TreeBefore words rows edit (suc low) digit row tree)
    (comes : goes edit.scope row (suc low) digit ≡ true) where
  test : goes edit.scope (top tree) (suc low) digit ≡ true
  test = subst (λ r. goes edit.scope r (suc low) digit ≡ true) (sym before.top_is) comes

  abbrev eff : ℕ → Effect
  eff k = tree_effect edit low k (child tree k)

  abbrev at : ℕ → List ℕ
  at k = rows_of (child tree k)

  abbrev effs : Effects
  effs = record { first = eff 0; second = eff 1; third = eff 2; fourth = eff 3 }

  whole : tree_effect edit (suc low) digit tree ≡ joined effs
  whole = rw test refl

  own_all : (one : ℕ) → times one (rows_of tree)
      ≡ times one (own_row row) + times one (at 0) + times one (at 1) + times one (at 2) + times one (at 3)
  own_all one = subst (λ r. times one (rows_of tree)
      ≡ times one (own_row r) + times one (at 0) + times one (at 1) + times one (at 2) + times one (at 3))
      before.top_is (children_times words low tree before.lies one)

  all_taken : (eff 0).taken + (eff 1).taken + (eff 2).taken + (eff 3).taken
      + cond ((eff 0).altered || (eff 1).altered || (eff 2).altered || (eff 3).altered)
      (cond ((eff 0).left || (eff 1).left || (eff 2).left || (eff 3).left) 1 0) 0
      ≤ length rows.free
  all_taken =
      let taken = ap (λ (effect : Effect). effect.taken) whole in
      omega (
        arith,
        before.enough,
        taken,
        both
            ((eff 0).altered || (eff 1).altered || (eff 2).altered || (eff 3).altered)
            ((eff 0).left || (eff 1).left || (eff 2).left || (eff 3).left),
      )

  -- a tree below can be made after some steps that did not touch it
  child_before : (k : ℕ) → k < 4 → (later : ℕ → Option ℕ) (after : Rows) (old new more gone : List ℕ)
      → Grown words later rows after more gone → Counts old more new gone
      → ((one : ℕ) → times one old + times one (at k) ≤ times one (rows_of tree))
      → length more + (eff k).taken ≤ length rows.free → (r : ℕ) → top (child tree k) ≡ r
      → TreeBefore later after edit low k r (child tree k)
  child_before k small later after old new more gone grown counts less enough r is = record {
    lies =
        let apart = apart_fewer rows (rows_of tree) (at k) before.apart (λ one. omega (arith, less one)) in
        kept_tree words later (child tree k) low
        (keeps words later rows after more gone (at k) grown apart)
        (lies_child words low k tree before.lies);
    top_is = is;
    apart = λ one.
        let all = apart_after words later rows after more gone old new (rows_of tree) (at k) grown counts
        before.apart less one in
        omega (arith, all);
    enough = omega (arith, enough, grown.fewer);
    possible = before.possible test k small;
  }

  module _ {below : Below} (are : AreBelow tree below) where
    pub before_0 : TreeBefore words rows edit low 0 below.first (child tree 0)
    before_0 =
        child_before 0 (omega arith) words rows [] [] [] [] (grown_none words rows) (λ one. refl)
        (λ one. omega (arith, own_all one)) (omega (arith, all_taken)) below.first are.first_is

    module _ {w1 : ℕ → Option ℕ} {r1 : Rows} {p0 : Made}
        (m0 : TreeMade words w1 rows r1 edit low 0 (child tree 0) p0) where
      pub before_1 : TreeBefore w1 r1 edit low 1 below.second (child tree 1)
      before_1 =
          child_before 1 (omega arith) w1 r1 (at 0) (rows_of m0.new) m0.more m0.gone m0.grown m0.counts
          (λ one. omega (arith, own_all one)) (omega (arith, all_taken, m0.taken_is)) below.second
          are.second_is

      module _ {w2 : ℕ → Option ℕ} {r2 : Rows} {p1 : Made}
          (m1 : TreeMade w1 w2 r1 r2 edit low 1 (child tree 1) p1) where
        abbrev more_2 : List ℕ
        more_2 = m0.more ++ m1.more

        abbrev gone_2 : List ℕ
        gone_2 = m0.gone ++ m1.gone

        abbrev new_2 : List ℕ
        new_2 = rows_of m0.new ++ rows_of m1.new

        grown_2 : Grown words w2 rows r2 more_2 gone_2
        grown_2 = grown_on words w1 w2 rows r1 r2 m0.more m0.gone m1.more m1.gone m0.grown m1.grown

        counts_2 : Counts (at 0 ++ at 1) more_2 new_2 gone_2
        counts_2 = counts_on (at 0) m0.more (rows_of m0.new) m0.gone (at 1) m1.more (rows_of m1.new) m1.gone
            m0.counts m1.counts

        pub before_2 : TreeBefore w2 r2 edit low 2 below.third (child tree 2)
        before_2 =
            child_before 2 (omega arith) w2 r2 (at 0 ++ at 1) new_2 more_2 gone_2 grown_2 counts_2
            (λ one. omega (arith, own_all one, times_append one (at 0) (at 1)))
            (omega (arith, all_taken, length-append m0.more m1.more, m0.taken_is, m1.taken_is)) below.third
            are.third_is

        module _ {w3 : ℕ → Option ℕ} {r3 : Rows} {p2 : Made}
            (m2 : TreeMade w2 w3 r2 r3 edit low 2 (child tree 2) p2) where
          abbrev more_3 : List ℕ
          more_3 = more_2 ++ m2.more

          abbrev gone_3 : List ℕ
          gone_3 = gone_2 ++ m2.gone

          abbrev new_3 : List ℕ
          new_3 = new_2 ++ rows_of m2.new

          abbrev old_3 : List ℕ
          old_3 = at 0 ++ at 1 ++ at 2

          grown_3 : Grown words w3 rows r3 more_3 gone_3
          grown_3 = grown_on words w2 w3 rows r2 r3 more_2 gone_2 m2.more m2.gone grown_2 m2.grown

          counts_3 : Counts old_3 more_3 new_3 gone_3
          counts_3 = counts_on (at 0 ++ at 1) more_2 new_2 gone_2 (at 2) m2.more (rows_of m2.new) m2.gone
              counts_2 m2.counts

          pub before_3 : TreeBefore w3 r3 edit low 3 below.fourth (child tree 3)
          before_3 =
              child_before 3 (omega arith) w3 r3 old_3 new_3 more_3 gone_3 grown_3 counts_3
              (λ one. omega (
                arith,
                own_all one,
                times_append one (at 0 ++ at 1) (at 2),
                times_append one (at 0) (at 1),
              ))
              (omega (
                arith,
                all_taken,
                length-append more_2 m2.more,
                length-append m0.more m1.more,
                m0.taken_is,
                m1.taken_is,
                m2.taken_is,
              )) below.fourth are.fourth_is

          module _ {w4 : ℕ → Option ℕ} {r4 : Rows} {p3 : Made}
              (m3 : TreeMade w3 w4 r3 r4 edit low 3 (child tree 3) p3) where
            abbrev more_4 : List ℕ
            more_4 = more_3 ++ m3.more

            abbrev gone_4 : List ℕ
            gone_4 = gone_3 ++ m3.gone

            abbrev new_4 : List ℕ
            new_4 = new_3 ++ rows_of m3.new

            abbrev old_4 : List ℕ
            old_4 = old_3 ++ at 3

            abbrev parts : Parts
            parts = record { first = p0; second = p1; third = p2; fourth = p3 }

            grown_4 : Grown words w4 rows r4 more_4 gone_4
            grown_4 = grown_on words w3 w4 rows r3 r4 more_3 gone_3 m3.more m3.gone grown_3 m3.grown

            counts_4 : Counts old_4 more_4 new_4 gone_4
            counts_4 = counts_on old_3 more_3 new_3 gone_3 (at 3) m3.more (rows_of m3.new) m3.gone counts_3
                m3.counts

            taken_4 : length more_4
                ≡ (eff 0).taken + (eff 1).taken + (eff 2).taken + (eff 3).taken
            taken_4 = omega (
              arith,
              length-append more_3 m3.more,
              length-append more_2 m2.more,
              length-append m0.more m1.more,
              m0.taken_is,
              m1.taken_is,
              m2.taken_is,
              m3.taken_is,
            )

            gone_length : length gone_4
                ≡ length m0.gone + length m1.gone + length m2.gone + length m3.gone
            gone_length = omega (
              arith,
              length-append gone_3 m3.gone,
              length-append gone_2 m2.gone,
              length-append m0.gone m1.gone,
            )

            old_times : (one : ℕ) → times one old_4
                ≡ times one (at 0) + times one (at 1) + times one (at 2) + times one (at 3)
            old_times one = omega (
              arith,
              times_append one old_3 (at 3),
              times_append one (at 0 ++ at 1) (at 2),
              times_append one (at 0) (at 1),
            )

            new_times : (one : ℕ) → times one new_4
                ≡ times one (rows_of m0.new)
                + times one (rows_of m1.new)
                + times one (rows_of m2.new)
                + times one (rows_of m3.new)
            new_times one = omega (
              arith,
              times_append one new_3 (rows_of m3.new),
              times_append one new_2 (rows_of m2.new),
              times_append one (rows_of m0.new) (rows_of m1.new),
            )

            -- where a tree that was made lies after later steps
            lies_on : (w : ℕ → Option ℕ) (r : Rows) (new : Tree) → Lies w new low
                → (more gone old all lost next given : List ℕ) → Grown words w rows r more gone
                → Counts old more all gone
                → ((one : ℕ) → times one old ≤ times one (rows_of tree))
                → ((one : ℕ) → times one (rows_of new) ≤ times one all) → Grown w w4 r r4 next given
                → Lies w4 new low
            lies_on w r new lies more gone old all lost next given grown counts less part later =
                let apart : Apart (rows_of new) r = λ one.
                let here = apart_after words w rows r more gone old all (rows_of tree) [] grown counts
                before.apart (λ two. omega (arith, less two)) one in
                omega (arith, here, part one) in
                kept_tree w w4 new low (keeps w w4 r r4 next given (rows_of new) later apart) lies

            lies_0 : Lies w4 m0.new low
            lies_0 =
                let later_2 = grown_on w1 w2 w3 r1 r2 r3 m1.more m1.gone m2.more m2.gone m1.grown m2.grown in
                let later = grown_on w1 w3 w4 r1 r3 r4 (m1.more ++ m2.more) (m1.gone ++ m2.gone) m3.more m3.gone
                later_2 m3.grown in
                lies_on w1 r1 m0.new m0.lies m0.more m0.gone (at 0) (rows_of m0.new) [] _ _ m0.grown m0.counts
                (λ one. omega (arith, own_all one)) (λ one. omega arith) later

            lies_1 : Lies w4 m1.new low
            lies_1 =
                let later = grown_on w2 w3 w4 r2 r3 r4 m2.more m2.gone m3.more m3.gone m2.grown m3.grown in
                lies_on w2 r2 m1.new m1.lies more_2 gone_2 (at 0 ++ at 1) new_2 [] _ _ grown_2 counts_2
                (λ one. omega (arith, own_all one, times_append one (at 0) (at 1)))
                (λ one. omega (arith, times_append one (rows_of m0.new) (rows_of m1.new))) later

            lies_2 : Lies w4 m2.new low
            lies_2 =
                lies_on w3 r3 m2.new m2.lies more_3 gone_3 old_3 new_3 [] _ _ grown_3 counts_3
                (λ one. omega (
                  arith,
                  own_all one,
                  times_append one (at 0 ++ at 1) (at 2),
                  times_append one (at 0) (at 1),
                ))
                (λ one. omega (arith, times_append one new_2 (rows_of m2.new))) m3.grown

            -- ---- nothing is altered

            lefts : (eff 0).left || (eff 1).left || (eff 2).left || (eff 3).left ≡ parts_left parts
            lefts =
                let l0 : (eff 0).left ≡ not (p0.row == 0) = m0.left_is ∙ ap (λ r. not (r == 0)) m0.top_is in
                let l1 : (eff 1).left ≡ not (p1.row == 0) = m1.left_is ∙ ap (λ r. not (r == 0)) m1.top_is in
                let l2 : (eff 2).left ≡ not (p2.row == 0) = m2.left_is ∙ ap (λ r. not (r == 0)) m2.top_is in
                let l3 : (eff 3).left ≡ not (p3.row == 0) = m3.left_is ∙ ap (λ r. not (r == 0)) m3.top_is in
                rw (l0, l1, l2, l3) refl

            altereds : p0.altered || p1.altered || p2.altered || p3.altered
                ≡ ((eff 0).altered || (eff 1).altered || (eff 2).altered || (eff 3).altered)
            altereds = rw (m0.altered_is, m1.altered_is, m2.altered_is, m3.altered_is) refl

            pub all_same : p0.altered || p1.altered || p2.altered || p3.altered ≡ false
                → TreeMade words w4 rows r4 edit (suc low) digit tree
                (record { row = row; altered = false; marks = 0; rows = 0 })
            all_same none =
                let no : (eff 0).altered || (eff 1).altered || (eff 2).altered || (eff 3).altered ≡ false =
                sym altereds ∙ none in
                let each = all_fail (eff 0).altered (eff 1).altered (eff 2).altered (eff 3).altered no in
                let s0 = m0.same each.first in
                let s1 = m1.same each.second in
                let s2 = m2.same each.third in
                let s3 = m3.same each.fourth in
                let no_more : more_4 ≡ [] = rw (s0.1, s1.1, s2.1, s3.1) refl in
                let no_gone : gone_4 ≡ [] = rw (s0.2, s1.2, s2.2, s3.2) refl in
                let zero_taken : length more_4 ≡ 0 = ap length no_more in
                let l0 : (eff 0).left ≡ not (top (child tree 0) == 0) = m0.left_is ∙ ap (λ t. not (top t == 0)) s0.0 in
                let l1 : (eff 1).left ≡ not (top (child tree 1) == 0) = m1.left_is ∙ ap (λ t. not (top t == 0)) s1.0 in
                let l2 : (eff 2).left ≡ not (top (child tree 2) == 0) = m2.left_is ∙ ap (λ t. not (top t == 0)) s2.0 in
                let l3 : (eff 3).left ≡ not (top (child tree 3) == 0) = m3.left_is ∙ ap (λ t. not (top t == 0)) s3.0 in
                let lefts_old : (eff 0).left || (eff 1).left || (eff 2).left || (eff 3).left ≡ not (top tree == 0) =
                rw (l0, l1, l2, l3) (left_below words low tree before.lies) in
                let quiet : (tree_effect edit (suc low) digit tree).altered ≡ false =
                ap (λ (e : Effect). e.altered) whole ∙ no in
                let taken_zero : (joined effs).taken ≡ 0 =
                rw no (omega (arith, taken_4)) in
                record {
                  more = [];
                  gone = [];
                  new = tree;
                  grown = subst (λ gone. Grown words w4 rows r4 [] gone) no_gone
                      (subst (λ more. Grown words w4 rows r4 more gone_4) no_more grown_4);
                  lies = kept_tree words w4 tree (suc low)
                      (keeps words w4 rows r4 more_4 gone_4 (rows_of tree) grown_4 before.apart) before.lies;
                  top_is = before.top_is;
                  told = (
                    λ yes. four_cases (λ k. IsEdited edit low k (child tree k) (child tree k))
                        (subst (λ t. IsEdited edit low 0 (child tree 0) t) s0.0 m0.told)
                        (subst (λ t. IsEdited edit low 1 (child tree 1) t) s1.0 m1.told)
                        (subst (λ t. IsEdited edit low 2 (child tree 2) t) s2.0 m2.told)
                        (subst (λ t. IsEdited edit low 3 (child tree 3) t) s3.0 m3.told),
                    λ stays. refl,
                  );
                  counts = λ one. refl;
                  altered_is = sym quiet;
                  taken_is = sym (ap (λ (e : Effect). e.taken) whole ∙ taken_zero);
                  marks_is = sym (tree_quiet edit (suc low) digit tree quiet);
                  rows_is = refl;
                  few = omega arith;
                  same = λ is. (refl, refl, refl);
                  left_is = ap (λ (e : Effect). e.left) whole ∙ lefts_old;
                }

            -- ---- something is altered

            module _ (some : p0.altered || p1.altered || p2.altered || p3.altered ≡ true) (small : low ≤ 8) where
              yes : (eff 0).altered || (eff 1).altered || (eff 2).altered || (eff 3).altered ≡ true
              yes = sym altereds ∙ some

              total : (joined effs).taken
                  ≡ (eff 0).taken + (eff 1).taken + (eff 2).taken + (eff 3).taken + cond (parts_left parts) 1 0
              total = rw (yes, lefts) refl

              pub index_before : IndexBefore w4 r4 low row parts m0.new m1.new m2.new m3.new
              index_before =
                  let few_of = λ (k : ℕ). tree_few words edit low k (child tree k)
                  (lies_child words low k tree before.lies) in
                  let sums = four_few low effs small (few_of 0) (few_of 1) (few_of 2) (few_of 3) in
                  let sizes = four_rows words low tree before.lies small in
                  record {
                    lies_a = lies_0;
                    lies_b = lies_1;
                    lies_c = lies_2;
                    lies_d = m3.lies;
                    top_a = m0.top_is;
                    top_b = m1.top_is;
                    top_c = m2.top_is;
                    top_d = m3.top_is;
                    there = λ exists.
                        let start : 4 * row + 0 ≡ 4 * row = omega arith in
                        let apart = apart_fewer rows (rows_of tree) (own_row row) before.apart
                        (λ one. omega (arith, own_all one)) in
                        let same = keeps words w4 rows r4 more_4 gone_4 (own_row row) grown_4 apart row 0
                        (own_times row exists) (omega arith) in
                        let still : w4 (4 * row) ≡ words (4 * row) =
                        subst (λ at. w4 at ≡ words at) start same in
                        subst IsSome (sym still) (index_word words low row tree before.lies before.top_is exists);
                    apart = λ one.
                        let here = apart_after words w4 rows r4 more_4 gone_4 old_4 new_4 (rows_of tree)
                        (own_row row) grown_4 counts_4 before.apart
                        (λ two. omega (arith, own_all two, old_times two)) one in
                        omega (
                          arith,
                          here,
                          new_times one,
                          times_append one (own_row row ++ rows_of m0.new ++ rows_of m1.new ++ rows_of m2.new) (rows_of m3.new),
                          times_append one (own_row row ++ rows_of m0.new ++ rows_of m1.new) (rows_of m2.new),
                          times_append one (own_row row ++ rows_of m0.new) (rows_of m1.new),
                          times_append one (own_row row) (rows_of m0.new),
                        );
                    enough = λ left.
                        let one : ◌≡◌ {A = ℕ} (cond (parts_left parts) 1 0) 1 = rw left refl in
                        omega (
                          arith,
                          before.enough,
                          ap (λ (e : Effect). e.taken) whole,
                          total,
                          one,
                          grown_4.fewer,
                          taken_4,
                        );
                    small_marks = omega (
                      arith,
                      sums.1,
                      m0.marks_is,
                      m1.marks_is,
                      m2.marks_is,
                      m3.marks_is,
                    );
                    small_rows = omega (
                      arith,
                      sizes,
                      m0.rows_is,
                      m1.rows_is,
                      m2.rows_is,
                      m3.rows_is,
                      m0.few,
                      m1.few,
                      m2.few,
                      m3.few,
                    );
                  }

              pub all_made : {w5 : ℕ → Option ℕ} {r5 : Rows} {made : Made}
                  → IndexMade w4 w5 r4 r5 low row parts m0.new m1.new m2.new m3.new made
                  → TreeMade words w5 rows r5 edit (suc low) digit tree made
              all_made {w5} {r5} {made} is =
                  let lengths = subst (λ r. length (rows_of tree) ≡ length (own_row r) + length (at 0)
                  + length (at 1) + length (at 2) + length (at 3)) before.top_is
                  (children_length words low tree before.lies) in
                  record {
                    more = more_4 ++ is.more;
                    gone = gone_4 ++ own_row row;
                    new = is.new;
                    grown = grown_on words w4 w5 rows r4 r5 more_4 gone_4 is.more (own_row row) grown_4 is.grown;
                    lies = is.lies;
                    top_is = is.top_is;
                    told = (
                      λ yes. four_cases (λ k. IsEdited edit low k (child tree k) (child is.new k))
                          (rw (is.child_is 0) m0.told)
                          (rw (is.child_is 1) m1.told)
                          (rw (is.child_is 2) m2.told)
                          (rw (is.child_is 3) m3.told),
                      λ stays. absurd (false≢true (sym stays ∙ test)),
                    );
                    counts = λ one. omega (
                      arith,
                      is.counts one,
                      counts_4 one,
                      own_all one,
                      old_times one,
                      times_append one more_4 is.more,
                      times_append one gone_4 (own_row row),
                    );
                    altered_is = is.altered_is ∙ sym (ap (λ (e : Effect). e.altered) whole ∙ yes);
                    taken_is = omega (
                      arith,
                      length-append more_4 is.more,
                      is.taken_is,
                      taken_4,
                      total,
                      ap (λ (e : Effect). e.taken) whole,
                    );
                    marks_is = omega (
                      arith,
                      is.marks_is,
                      m0.marks_is,
                      m1.marks_is,
                      m2.marks_is,
                      m3.marks_is,
                      ap (λ (e : Effect). e.marks) whole,
                    );
                    rows_is = omega (
                      arith,
                      is.rows_is,
                      m0.rows_is,
                      m1.rows_is,
                      m2.rows_is,
                      m3.rows_is,
                      gone_length,
                      length-append gone_4 (own_row row),
                    );
                    few = omega (
                      arith,
                      m0.few,
                      m1.few,
                      m2.few,
                      m3.few,
                      gone_length,
                      lengths,
                      length-append gone_4 (own_row row),
                    );
                    same = λ quiet.
                        absurd (false≢true (sym quiet ∙ (ap (λ (e : Effect). e.altered) whole ∙ yes)));
                    left_is = ap (λ (e : Effect). e.left) whole ∙ lefts ∙ is.left_is
                        ∙ ap (λ r. not (r == 0)) (sym is.top_is);
                  }
