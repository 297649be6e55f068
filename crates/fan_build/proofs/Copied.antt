-- A change takes no more rows than it may copy.
use Rattle.std.proofs.Common.{◌≡◌, ◌≢◌, ◌∙◌, ℕ, ◌+◌, ◌*◌, ◌/◌, ◌≤◌, ◌^◌, zero, suc, Bool, true, false, cond, List, [], ◌∷◌, ◌++◌, Option, Some, None, get_or, length, refl, sym, ap, subst, arith, eqb-true, eq-eqb, length-append}
use Rattle.std.proofs.lemmas.Bool.{cond_both, false≢true, ne_eqb}
use Rattle.std.proofs.lemmas.Bool.Decides.{nat_tests}
use Rattle.std.proofs.lemmas.List.Elements.{All-cons, All-filter, filter-append}
use Rattle.std.proofs.lemmas.List.Folds.{list_any_at, list_any_none}
use Rattle.std.proofs.lemmas.List.Sums.{sum_by-cons}
use Rattle.std.proofs.lemmas.Option.{IfSome_then}
use Rattle.std.proofs.Math.Nat.{div-div-eq-div-mul, div-one, pow-suc}
use Rattle.std.specs.List.{list_any}
use Rattle.std.specs.Prelude.{All, IfSome, filter, nat_lt, not, sum_by, ◌==◌, ◌&&◌}
use Rattle.fan_bits.specs.declared.change.Change.{Change}
use Rattle.fan_bits.specs.declared.change.Change.TheVariants.{Put, Flush, Clear, DropGroup, DropObject}
use Rattle.fan_bits.specs.declared.mark.Mark.{Mark}
use Rattle.fan_bits.specs.Marks.{IsChange, IsMarkList, changed, listed, on, order_number, order_of, updated}
use Rattle.fan_bits.proofs.Updates.{put_mark_keeps}
use Rattle.fan_rows.specs.Costs.{altered, copied_between, copied_on, copied_rows, in_either, objects_of, upto}
use Rattle.fan_rows.proofs.Counting.{any_object, from_either, or_right}
use Rattle.fan_build.specs.declared.effect.Effect.{Effect}
use Rattle.fan_build.specs.Edits.{edited, has_any, is_at, is_past, kept}
use Rattle.fan_build.specs.Needs.{is_within, needed_between, needed_on, needed_rows, needed_within}
use Rattle.fan_build.specs.Objects.{changed_on}
use Rattle.fan_build.specs.Steps.{IsConnector}
use Rattle.fan_build.proofs.Blocks.{effect_here}
use Rattle.fan_build.proofs.ChainNeeds.{Behind, kept_order, none_told}
use Rattle.fan_build.proofs.ChainSteps.{rest_target}
use Rattle.fan_build.proofs.ObjectEdits.{IsAtObject, connector_on, edited_on, same_elsewhere}
use Rattle.fan_build.proofs.Objects.{elsewhere_on, here_on}

-- ---- one object

-- a test that goes by the order of a mark
abbrev ByOrder : (Mark → Bool) → Type 0
ByOrder p = (x y : Mark) → order_of x ≡ order_of y → p x ≡ p y

upto_by_order : (A : List Mark) → ByOrder (upto A)
upto_by_order A x y same =
    ap (λ n. list_any (λ other. not (nat_lt (order_of other) n)) A) same

-- how many of two lists pass
many : (p : Mark → Bool) (xs ys : List Mark)
    → length (filter p (xs ++ ys)) ≡ length (filter p xs) + length (filter p ys)
many p xs ys = ap length (filter-append p xs ys) ∙ length-append (filter p xs) (filter p ys)

-- what is left of a mark passes as the mark does
left_passes : (p : Mark → Bool) → ByOrder p → (mark : Mark) (marks : List Mark) (left : Option Mark)
    → IfSome left (λ other. order_of other ≡ order_of mark)
    → length (filter p (listed left)) + length (filter p marks) ≤ length (filter p (mark ∷ marks))
left_passes p by mark marks None same = more (p mark) refl
  where
    more : (b : Bool) → p mark ≡ b → 0 + length (filter p marks) ≤ length (filter p (mark ∷ marks))
    more true is = rw is (omega arith)
    more false is = rw is (omega arith)
left_passes p by mark marks (Some other) same = more (p mark) refl (by other mark same)
  where
    more : (b : Bool) → p mark ≡ b → p other ≡ p mark
        → length (filter p (other ∷ [])) + length (filter p marks) ≤ length (filter p (mark ∷ marks))
    more true is one = rw (one, is) (omega arith)
    more false is one = rw (one, is) (omega arith)

module _ (change : Change) (p fresh : Mark → Bool) (by : ByOrder p) where
  abbrev count : List Mark → ℕ
  count marks = length (filter p marks)

  abbrev extra : List Mark → ℕ
  extra marks = length (filter p (filter fresh marks))

  -- a fresh mark counts as extra
  fresh_counts : (new : Option Mark) → IfSome new (λ mark. fresh mark ≡ true)
      → count (listed new) ≤ extra (listed new)
  fresh_counts None is = omega arith
  fresh_counts (Some mark) is = rw is (omega arith)

  extra_more : (xs ys : List Mark) → extra (xs ++ ys) ≡ extra xs + extra ys
  extra_more xs ys = ap (λ l. length (filter p l)) (filter-append fresh xs ys)
      ∙ many p (filter fresh xs) (filter fresh ys)

  -- marks after a change are as many as before, but for a new one
  few_by : (marks : List Mark) → IfSome (updated None change) (λ mark. fresh mark ≡ true)
      → count (edited change marks) ≤ count marks + extra (edited change marks)
  few_by [] is = omega (arith, fresh_counts (updated None change) is)
  few_by (mark ∷ marks) is =
      let T = rest_target change mark marks in
      let rest = cond_both (is_at change mark) marks (edited change marks)
      (λ l. count l ≤ count marks + extra l) (λ at. omega arith) (λ apart. few_by marks is) in
      cond_both (is_past change mark) (listed (updated None change) ++ mark ∷ marks)
      (listed (kept change mark) ++ T)
      (λ l. count l ≤ count (mark ∷ marks) + extra l)
      (λ past. omega (
        arith,
        many p (listed (updated None change)) (mark ∷ marks),
        extra_more (listed (updated None change)) (mark ∷ marks),
        fresh_counts (updated None change) is,
      ))
      (λ on. omega (
        arith,
        many p (listed (kept change mark)) T,
        extra_more (listed (kept change mark)) T,
        rest,
        left_passes p by mark marks (kept change mark) (kept_order change mark),
      ))

  -- where a mark is at the place of a Put there is no new one
  few_at : (marks : List Mark) → IsConnector marks → list_any (is_at change) marks ≡ true
      → count (edited change marks) ≤ count marks
  few_at [] connector some = absurd (false≢true some)
  few_at (mark ∷ marks) connector some =
      at_step mark marks connector.1 some (few_at marks connector.2) (is_past change mark) refl
      (is_at change mark) refl
    where
      past_none : (change : Change) (mark : Mark) (marks : List Mark) → Behind (order_of mark) marks
          → is_past change mark ≡ true → list_any (is_at change) (mark ∷ marks) ≡ false
      past_none (Put group class words object) mark marks behind past =
          list_any_none (is_at (Put group class words object)) (mark ∷ marks)
          (All-cons
          (λ one. is_at (Put group class words object) one ≡ false) mark marks
          (grind (arith, nat_tests, past))
          (λ k d within. let here = behind k d within in grind (arith, nat_tests, past, here)))
      past_none (Flush group kind) mark marks behind past = absurd (false≢true past)
      past_none (Clear object) mark marks behind past = absurd (false≢true past)
      past_none (DropGroup group) mark marks behind past = absurd (false≢true past)
      past_none (DropObject object) mark marks behind past = absurd (false≢true past)

      at_step : (mark : Mark) (marks : List Mark) → Behind (order_of mark) marks
          → list_any (is_at change) (mark ∷ marks) ≡ true
          → (list_any (is_at change) marks ≡ true → count (edited change marks) ≤ count marks)
          → (past : Bool) → is_past change mark ≡ past → (at : Bool) → is_at change mark ≡ at
          → count (edited change (mark ∷ marks)) ≤ count (mark ∷ marks)
      at_step mark marks behind some rest true past at at_is =
          absurd (false≢true (sym (past_none change mark marks behind past) ∙ some))
      at_step mark marks behind some rest false past true at_is =
          let target : edited change (mark ∷ marks) ≡ listed (kept change mark) ++ marks = rw (past, at_is) refl in
          omega (
            arith,
            ap count target,
            many p (listed (kept change mark)) marks,
            left_passes p by mark marks (kept change mark) (kept_order change mark),
          )
      at_step mark marks behind some rest false past false at_is =
          let target : edited change (mark ∷ marks) ≡ listed (kept change mark) ++ edited change marks =
          rw (past, at_is) refl in
          let later : list_any (is_at change) marks ≡ true = rw at_is at some in
          omega (
            arith,
            ap count target,
            many p (listed (kept change mark)) (edited change marks),
            rest later,
            left_passes p by mark marks (kept change mark) (kept_order change mark),
          )

-- a mark is of a group that has none in a list
abbrev is_fresh : List Mark → Mark → Bool
is_fresh old mark = not (list_any (λ other. other.group == mark.group) old)

-- the marks of a Put's group have its class
abbrev Fits : Change → List Mark → Type 0
Fits (Put group class words object) marks = All (λ mark. mark.group ≡ group → mark.class ≡ class) marks
Fits _ marks = Unit {0}

fits_on : (marks : List Mark) (change : Change) → IsChange marks change → (object : ℕ)
    → Fits change (on object marks)
fits_on marks (Put group class words at) is object =
    All-filter (λ mark. mark.object == object) (λ mark. mark.group ≡ group → mark.class ≡ class) marks is.classes
fits_on marks (Flush group kind) is object = tt
fits_on marks (Clear at) is object = tt
fits_on marks (DropGroup group) is object = tt
fits_on marks (DropObject at) is object = tt

-- if no mark is at the place of a Put, the new one is of another group than all
new_fresh : (change : Change) (old : List Mark) → Fits change old → list_any (is_at change) old ≡ false
    → IfSome (updated None change) (λ mark. is_fresh old mark ≡ true)
unfolding updated
new_fresh (Put group class words object) old classes none =
    IfSome_then (updated None (Put group class words object))
    (put_mark_keeps None group class words object) (λ mark keeps.
    let apart : list_any (λ other. other.group == mark.group) old ≡ false =
    list_any_none (λ other. other.group == mark.group) old (λ k d within.
    let other = get_or old k d in
    ne_eqb other.group mark.group (λ same.
    let of : other.group ≡ group = same ∙ keeps.group in
    let order : order_of other ≡ order_number class group = rw (classes k d within of, of) refl in
    let found = list_any_at (is_at (Put group class words object)) old k d within
    (eq-eqb (order_of other) (order_number class group) order) in
    absurd (false≢true (sym none ∙ found)))) in
    rw apart refl)
new_fresh (Flush group kind) old classes none = tt
new_fresh (Clear object) old classes none = tt
new_fresh (DropGroup group) old classes none = tt
new_fresh (DropObject object) old classes none = tt

-- what a change takes for a chain, it may copy
abbrev pub cost_of : List Mark → List Mark → ℕ
cost_of old new = length (filter (upto (altered old new)) (in_either old new))

few_for : (change : Change) (old : List Mark) → IsConnector old → Fits change old
    → needed_on old (edited change old) ≤ cost_of old (edited change old)
few_for change old connector fits = by (list_any (is_at change) old) refl
  where
    by : (some : Bool) → list_any (is_at change) old ≡ some
        → needed_on old (edited change old)
        ≤ length (filter (upto (altered old (edited change old))) (in_either old (edited change old)))
    by true is =
        let p : Mark → Bool = upto (altered old (edited change old)) in
        omega (
          arith,
          few_at change p (is_fresh old) (upto_by_order (altered old (edited change old))) old connector is,
          many p old (filter (is_fresh old) (edited change old)),
        )
    by false is =
        let p : Mark → Bool = upto (altered old (edited change old)) in
        omega (
          arith,
          few_by change p (is_fresh old) (upto_by_order (altered old (edited change old))) old
              (new_fresh change old fits is),
          many p old (filter (is_fresh old) (edited change old)),
        )

-- a number is at most another one
at_most : (a b c : ℕ) → a ≤ b → b ≤ c → a ≤ c
at_most a b c first second = omega arith

-- ---- blocks

module _ (cost : ℕ → ℕ) where
  -- what the objects of a block may cost, with so many index rows each
  costs : ℕ → ℕ → List ℕ → ℕ
  costs depth block [] = 0
  costs depth block (object ∷ objects) =
      cond (object / 4 ^ depth == block) (depth + cost object) 0 + costs depth block objects

  costs_at : (object : ℕ) (objects : List ℕ) → list_any (λ other. other == object) objects ≡ true
      → cost object ≤ costs 0 object objects
  unfolding costs
  costs_at object [] some = absurd (false≢true some)
  costs_at object (other ∷ objects) some =
      from_either (other == object) (list_any (λ other. other == object) objects) some
      (λ is.
      let same : other ≡ object = eqb-true other object is in
      let within : (other / 4 ^ 0 == object) ≡ true = ap (λ n. n == object) (div-one other) ∙ is in
      let here : cost other ≡ cost object = ap cost same in
      rw within (omega (arith, here)))
      (λ later. omega (arith, costs_at object objects later))

  one_four : (n block c d : ℕ) → cond (n / 4 == block) (suc d + c) 0
      ≡ cond (n == 4 * block + 0) (d + c) 0
      + cond (n == 4 * block + 1) (d + c) 0
      + cond (n == 4 * block + 2) (d + c) 0
      + cond (n == 4 * block + 3) (d + c) 0
      + cond (n / 4 == block) 1 0
  one_four n block c d = grind (arith, nat_tests)

  within_count : ℕ → ℕ → List ℕ → ℕ
  within_count depth block [] = 0
  within_count depth block (object ∷ objects) =
      cond (object / 4 ^ depth == block) 1 0 + within_count depth block objects

  costs_four : (depth block : ℕ) (objects : List ℕ) → costs (suc depth) block objects
      ≡ costs depth (4 * block + 0) objects
      + costs depth (4 * block + 1) objects
      + costs depth (4 * block + 2) objects
      + costs depth (4 * block + 3) objects
      + within_count (suc depth) block objects
  unfolding costs within_count
  costs_four depth block [] = refl
  costs_four depth block (object ∷ objects) =
      let quotient : object / 4 ^ depth / 4 ≡ object / (4 ^ depth * 4) =
      div-div-eq-div-mul object (4 ^ depth) 4 in
      let same : object / 4 ^ suc depth ≡ object / 4 ^ depth / 4 =
      ap (λ n. object / n) (pow-suc 4 depth) ∙ sym quotient in
      rw same (omega (
        arith,
        one_four (object / 4 ^ depth) block (cost object) depth,
        costs_four depth block objects,
      ))

  some_within : (depth block : ℕ) (objects : List ℕ)
      → list_any (λ object. object / 4 ^ depth == block) objects ≡ true → 1 ≤ within_count depth block objects
  unfolding within_count
  some_within depth block [] some = absurd (false≢true some)
  some_within depth block (object ∷ objects) some =
      from_either (object / 4 ^ depth == block) (list_any (λ object. object / 4 ^ depth == block) objects) some
      (λ is. rw is (omega arith)) (λ later. omega (arith, some_within depth block objects later))

  costs_all : (objects : List ℕ) → costs 8 0 objects ≤ sum_by (λ object. 8 + cost object) objects
  unfolding costs
  costs_all [] = omega arith
  costs_all (object ∷ objects) =
      omega (
        arith,
        costs_all objects,
        sum_by-cons (λ object. 8 + cost object) object objects,
        cond_both (object / 4 ^ 8 == 0) (8 + cost object) 0 (λ n. n ≤ 8 + cost object) (λ is. omega arith)
            (λ is. omega arith),
      )

-- an object is that of its block without index rows
plain : (object : ℕ) (all : List ℕ) → list_any (λ n. n / 4 ^ 0 == object) all ≡ true
    → list_any (λ other. other == object) all ≡ true
plain object [] some = some
plain object (n ∷ all) some =
    from_either (n / 4 ^ 0 == object) (list_any (λ n. n / 4 ^ 0 == object) all) some
    (λ is. rw (ap (λ m. m == object) (sym (div-one n)) ∙ is) refl)
    (λ later. or_right (n == object) (list_any (λ other. other == object) all) (plain object all later))

module _ (old new : List Mark) (leaf : (object : ℕ) → needed_on (on object old) (on object new)
    ≤ cost_of (on object old) (on object new)) where
  abbrev price : ℕ → ℕ
  price object = cost_of (on object old) (on object new)

  abbrev objects : List ℕ
  objects = objects_of (altered old new)

  quiet_leaf : (object : ℕ) → has_any (altered (on object old) (on object new)) ≡ false
      → needed_on (on object old) (on object new) ≡ 0
  quiet_leaf object none =
      by (altered (on object old) (on object new)) none (on object new)
    where
      by : (A : List Mark) → has_any A ≡ false → (marks : List Mark) → length (filter (upto A) marks) ≡ 0
      by [] none [] = refl
      by [] none (mark ∷ marks) = by [] none marks
      by (a ∷ A) none marks = absurd (false≢true (sym none))

  leaf_cost : (object : ℕ) → needed_on (on object old) (on object new) ≤ costs price 0 object objects
  leaf_cost object = by (has_any (altered (on object old) (on object new))) refl
    where
      by : (some : Bool) → has_any (altered (on object old) (on object new)) ≡ some
          → needed_on (on object old) (on object new) ≤ costs price 0 object objects
      by true is =
          let here : list_any (is_within 0 object) (altered old new) ≡ true =
          ap (λ (e : Effect). e.altered) (effect_here old new object) ∙ is in
          let there = any_object (λ n. n / 4 ^ 0 == object) (altered old new) here in
          let found : list_any (λ other. other == object) objects ≡ true = plain object objects there in
          omega (arith, leaf object, costs_at price object objects found)
      by false is = omega (arith, quiet_leaf object is)

  block_cost : (depth block : ℕ) → needed_within old new depth block ≤ costs price depth block objects
  block_cost zero block = leaf_cost block
  block_cost (suc depth) block =
      let index : cond (list_any (is_within (suc depth) block) (altered old new)
      && list_any (is_within (suc depth) block) new) 1 0 ≤ within_count price (suc depth) block objects =
      by (list_any (is_within (suc depth) block) (altered old new)) refl in
      omega (
        arith,
        index,
        costs_four price depth block objects,
        block_cost depth (4 * block + 0),
        block_cost depth (4 * block + 1),
        block_cost depth (4 * block + 2),
        block_cost depth (4 * block + 3),
      )
    where
      by : (some : Bool) → list_any (is_within (suc depth) block) (altered old new) ≡ some
          → cond (list_any (is_within (suc depth) block) (altered old new)
          && list_any (is_within (suc depth) block) new) 1 0 ≤ within_count price (suc depth) block objects
      by true is =
          let found = any_object (λ n. n / 4 ^ suc depth == block) (altered old new) is in
          omega (
            arith,
            some_within price (suc depth) block objects found,
            cond_both (list_any (is_within (suc depth) block) (altered old new)
                && list_any (is_within (suc depth) block) new) 1 0 (λ n. n ≤ 1) (λ a. omega arith)
                (λ a. omega arith),
          )
      by false is = rw is (omega arith)

  pub all_cost : needed_within old new 8 0
      ≤ sum_by (λ object. copied_on (on object old) (on object new)) objects
  all_cost = at_most _ _ _ (block_cost 8 0) (costs_all price objects)

-- ---- a change

at_leaf : (marks : List Mark) (change : Change) → IsMarkList marks → IsChange marks change → (object : ℕ)
    → IsAtObject change object
    → needed_on (on object marks) (on object (changed marks change))
    ≤ cost_of (on object marks) (on object (changed marks change))
at_leaf marks change list allowed object at =
    subst (λ l. needed_on (on object marks) l ≤ cost_of (on object marks) l)
    (edited_on marks change list allowed object at)
    (few_for change (on object marks) (connector_on marks list object) (fits_on marks change allowed object))

-- on an object that is left alone nothing is taken
quiet_object : (marks : List Mark) (object : ℕ) → needed_on (on object marks) (on object marks)
    ≤ cost_of (on object marks) (on object marks)
quiet_object marks object =
    let none : 0 ≡ needed_on (on object marks) (on object marks) =
    ap (λ (e : Effect). e.taken) (none_told (on object marks)) in
    omega (arith, none)

leaf_of : (marks : List Mark) (change : Change) → IsMarkList marks → IsChange marks change → (object : ℕ)
    → needed_on (on object marks) (on object (changed marks change))
    ≤ cost_of (on object marks) (on object (changed marks change))
leaf_of marks (Put group class words at) list allowed object = by (object == at) refl
  where
    by : (b : Bool) → (object == at) ≡ b
        → needed_on (on object marks) (on object (changed marks (Put group class words at)))
        ≤ cost_of (on object marks) (on object (changed marks (Put group class words at)))
    by true is = at_leaf marks (Put group class words at) list allowed object (eqb-true object at is)
    by false is =
        let differs : object ≢ at = λ same. false≢true (sym is ∙ eq-eqb object at same) in
        subst (λ l. needed_on (on object marks) l ≤ cost_of (on object marks) l)
        (sym (same_elsewhere marks (Put group class words at) list object differs)) (quiet_object marks object)
leaf_of marks (Flush group kind) list allowed object =
    at_leaf marks (Flush group kind) list allowed object tt
leaf_of marks (Clear at) list allowed object = at_leaf marks (Clear at) list allowed object tt
leaf_of marks (DropGroup group) list allowed object = at_leaf marks (DropGroup group) list allowed object tt
leaf_of marks (DropObject at) list allowed object = at_leaf marks (DropObject at) list allowed object tt

leaf_on : (marks : List Mark) (change : Change) (one : ℕ) → IsMarkList marks → IsChange marks change → (object : ℕ)
    → needed_on (on object marks) (on object (changed_on marks change one))
    ≤ cost_of (on object marks) (on object (changed_on marks change one))
leaf_on marks change one list allowed object = by (object == one) refl
  where
    by : (b : Bool) → (object == one) ≡ b
        → needed_on (on object marks) (on object (changed_on marks change one))
        ≤ cost_of (on object marks) (on object (changed_on marks change one))
    by true is =
        let here : on object (changed_on marks change one) ≡ on object (changed marks change) =
        subst (λ o. on o (changed_on marks change one) ≡ on o (changed marks change))
        (sym (eqb-true object one is)) (here_on marks change one) in
        subst (λ l. needed_on (on object marks) l ≤ cost_of (on object marks) l) (sym here)
        (leaf_of marks change list allowed object)
    by false is =
        subst (λ l. needed_on (on object marks) l ≤ cost_of (on object marks) l)
        (sym (elsewhere_on marks change one object (λ same. false≢true (sym is ∙ eq-eqb object one same))))
        (quiet_object marks object)

-- a change takes no more rows than it may copy, and so does its part on one object
pub few_needed : (marks : List Mark) (change : Change) → IsMarkList marks → IsChange marks change
    → needed_rows marks change ≤ copied_rows marks change
unfolding needed_between copied_between
few_needed marks change list allowed =
    all_cost marks (changed marks change) (leaf_of marks change list allowed)

pub few_needed_on : (marks : List Mark) (change : Change) (object : ℕ) → IsMarkList marks → IsChange marks change
    → needed_between marks (changed_on marks change object) ≤ copied_between marks (changed_on marks change object)
unfolding needed_between copied_between
few_needed_on marks change object list allowed =
    all_cost marks (changed_on marks change object) (leaf_on marks change object list allowed)
