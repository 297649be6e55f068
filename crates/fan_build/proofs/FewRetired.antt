-- A change retires fewer marks than there are numbers of groups.
use Rattle.std.proofs.Common.{◌≡◌, ◌≢◌, ◌∙◌, ℕ, ◌-◌, ◌<◌, ◌≤◌, ◌^◌, Bool, true, false, List, [], ◌∷◌, get_or, map, length, refl, sym, ap, subst, arith, eqb-true, eq-eqb}
use Rattle.std.proofs.lemmas.Bool.{false≢true, ne_eqb}
use Rattle.std.proofs.lemmas.Bool.Decides.{nat_tests}
use Rattle.std.proofs.lemmas.List.{length-map}
use Rattle.std.proofs.lemmas.List.Elements.{All-head, All-tail, All-weaker, Contains-get_or, filter_passes}
use Rattle.std.proofs.lemmas.List.Folds.{list_any_at}
use Rattle.std.proofs.lemmas.Map.Steps.{length-le_from_distinct_below}
use Rattle.std.specs.List.{AllByRecursion, Contains, IsDistinct, list_any}
use Rattle.std.specs.Prelude.{All, filter, nat_eq, not, ◌==◌, ◌&&◌}
use Rattle.fan_bits.specs.declared.change.Change.{Change}
use Rattle.fan_bits.specs.declared.change.Change.TheVariants.{Put, Flush, Clear, DropGroup, DropObject}
use Rattle.fan_bits.specs.declared.mark.Mark.{Mark}
use Rattle.fan_bits.specs.Marks.{IsMark, IsMarkList, changed, gone, on, order_of, retired, same_kind, same_mark}
use Rattle.fan_bits.proofs.Lists.{Contains-filtered}
use Rattle.fan_bits.proofs.MarkLists.{IsMarkList-filter}
use Rattle.fan_lists.proofs.Pairs.{Contains-filter}
use Rattle.fan_build.proofs.ObjectEdits.{IsOn, all_on, same_elsewhere}
use Rattle.fan_build.proofs.SameMarks.{same_mark_itself}

-- ---- lists in which a key tells the marks

-- no two marks have one key
abbrev Differ : (Mark → ℕ) → List Mark → Type 0
Differ key [] = Unit {0}
Differ key (mark ∷ marks) = All (λ other. key mark ≢ key other) marks × Differ key marks

all_apart : (key : Mark → ℕ) (n : ℕ) (marks : List Mark) → All (λ other. n ≢ key other) marks
    → AllByRecursion (λ m. nat_eq n m ≡ false) (map key marks)
all_apart key n [] apart = tt
all_apart key n (mark ∷ marks) apart = (
  ne_eqb n (key mark) (All-head (λ other. n ≢ key other) mark marks apart),
  all_apart key n marks (All-tail (λ other. n ≢ key other) mark marks apart),
)

distinct_keys : (key : Mark → ℕ) (marks : List Mark) → Differ key marks → IsDistinct nat_eq (map key marks)
unfolding IsDistinct
distinct_keys key [] differ = tt
distinct_keys key (mark ∷ marks) differ =
    (all_apart key (key mark) marks differ.0, distinct_keys key marks differ.1)

below_step : (key : Mark → ℕ) (n : ℕ) (mark : Mark) (marks : List Mark) (q : ℕ) → key mark < n
    → (list_any (nat_eq q) (map key marks) ≡ true → q < n) → (b : Bool) → nat_eq q (key mark) ≡ b
    → list_any (nat_eq q) (map key (mark ∷ marks)) ≡ true → q < n
below_step key n mark marks q small rest true is some =
    let same : q ≡ key mark = eqb-true q (key mark) is in
    omega (arith, small)
below_step key n mark marks q small rest false is some = rest (rw is at some)

below_by : (key : Mark → ℕ) (n : ℕ) (marks : List Mark) → All (λ mark. key mark < n) marks → (q : ℕ)
    → list_any (nat_eq q) (map key marks) ≡ true → q < n
below_by key n [] small q some = absurd (false≢true some)
below_by key n (mark ∷ marks) small q some =
    below_step key n mark marks q (All-head (λ one. key one < n) mark marks small)
    (below_by key n marks (All-tail (λ one. key one < n) mark marks small) q) (nat_eq q (key mark)) refl some

-- so there are no more than keys
few_by : (key : Mark → ℕ) (n : ℕ) (marks : List Mark) → Differ key marks → All (λ mark. key mark < n) marks
    → length marks ≤ n
few_by key n marks differ small =
    let keys = length-le_from_distinct_below (map key marks) n (distinct_keys key marks differ)
    (below_by key n marks small) in
    omega (arith, keys, length-map marks key)

-- ---- marks of one object, and of one group

-- what follows the first is a list of marks
rest_list : (mark : Mark) (marks : List Mark) → IsMarkList (mark ∷ marks) → IsMarkList marks
rest_list mark marks list = record {
  each = All-tail IsMark mark marks list.each;
  rises = list.rises.1;
  classes =
      let Agree : Mark → Mark → Type 0 = λ one other. one.group ≡ other.group → one.class ≡ other.class in
      All-weaker (λ one. All (Agree one) (mark ∷ marks)) (λ one. All (Agree one) marks)
      (λ one all. All-tail (Agree one) mark marks all) marks
      (All-tail (λ one. All (Agree one) (mark ∷ marks)) mark marks list.classes);
}

-- two marks of one group are of one class
one_class : (mark : Mark) (marks : List Mark) → IsMarkList (mark ∷ marks)
    → All (λ other. mark.group ≡ other.group → mark.class ≡ other.class) marks
one_class mark marks list =
    let Agree : Mark → Mark → Type 0 = λ one other. one.group ≡ other.group → one.class ≡ other.class in
    All-tail (Agree mark) mark marks
    (All-head (λ one. All (Agree one) (mark ∷ marks)) mark marks list.classes)

-- marks on one object are of different groups
groups_differ : (object : ℕ) (marks : List Mark) → IsMarkList marks → All (IsOn object) marks
    → Differ (λ mark. mark.group - 1) marks
groups_differ object [] list here = tt
groups_differ object (mark ∷ marks) list here = (
  λ k d within same.
      let other = get_or marks k d in
      let first = (All-head IsMark mark marks list.each).group.0 in
      let second = (All-tail IsMark mark marks list.each k d within).group.0 in
      let group : mark.group ≡ other.group = omega (arith, same, first, second) in
      let class = one_class mark marks list k d within group in
      let order : order_of mark ≡ order_of other = rw (group, class) refl in
      let before = list.rises.0 k d within in
      let at = All-head (IsOn object) mark marks here in
      let also = All-tail (IsOn object) mark marks here k d within in
      absurd (grind (arith, nat_tests, before, order, at, also)),
  groups_differ object marks (rest_list mark marks list) (All-tail (IsOn object) mark marks here),
)

pub few_on : (marks : List Mark) → IsMarkList marks → (object : ℕ) → length (on object marks) < 2 ^ 32
few_on marks list object =
    let here = IsMarkList-filter (λ mark. mark.object == object) marks list in
    let count = few_by (λ mark. mark.group - 1) (2 ^ 32 - 1) (on object marks)
    (groups_differ object (on object marks) here (all_on object marks))
    (λ k d within.
    let group = (here.each k d within).group in omega (arith, group.0, group.1)) in
    omega (arith, count)

-- marks of one group are on different objects
objects_differ : (group : ℕ) (marks : List Mark) → IsMarkList marks → All (λ mark. mark.group ≡ group) marks
    → Differ (λ mark. mark.object) marks
objects_differ group [] list here = tt
objects_differ group (mark ∷ marks) list here = (
  λ k d within same.
      let other = get_or marks k d in
      let Of : Mark → Type 0 = λ one. one.group ≡ group in
      let one = All-head Of mark marks here in
      let two = All-tail Of mark marks here k d within in
      let groups : mark.group ≡ other.group = one ∙ sym two in
      let class = one_class mark marks list k d within groups in
      let order : order_of mark ≡ order_of other = rw (groups, class) refl in
      let before = list.rises.0 k d within in
      absurd (grind (arith, nat_tests, before, order, same)),
  objects_differ group marks (rest_list mark marks list) (All-tail (λ one. one.group ≡ group) mark marks here),
)

pub few_of : (marks : List Mark) → IsMarkList marks → (group : ℕ)
    → length (filter (λ mark. mark.group == group) marks) < 2 ^ 32
few_of marks list group =
    let test : Mark → Bool = λ mark. mark.group == group in
    let here = IsMarkList-filter test marks list in
    let of = All-weaker (λ (mark : Mark). (mark.group == group) ≡ true) (λ mark. mark.group ≡ group)
    (λ mark is. eqb-true mark.group group is) (filter test marks) (filter_passes test marks) in
    let count = few_by (λ mark. mark.object) (2 ^ 16) (filter test marks)
    (objects_differ group (filter test marks) here of)
    (λ k d within. let object = (here.each k d within).object.1 in omega (arith, object)) in
    omega (arith, count)

-- ---- the marks that a change retires

-- a test that passes less keeps less
filter_less : (p q : Mark → Bool) (marks : List Mark) → All (λ mark. p mark ≡ true → q mark ≡ true) marks
    → length (filter p marks) ≤ length (filter q marks)
filter_less p q [] less = omega arith
filter_less p q (mark ∷ marks) less =
    by (p mark) refl (q mark) refl (All-head (λ one. p one ≡ true → q one ≡ true) mark marks less)
    (filter_less p q marks (All-tail (λ one. p one ≡ true → q one ≡ true) mark marks less))
  where
    by : (a : Bool) → p mark ≡ a → (b : Bool) → q mark ≡ b → (p mark ≡ true → q mark ≡ true)
        → length (filter p marks) ≤ length (filter q marks)
        → length (filter p (mark ∷ marks)) ≤ length (filter q (mark ∷ marks))
    by true one true two implies rest = rw (one, two) (omega (arith, rest))
    by true one false two implies rest = absurd (false≢true (sym two ∙ implies one))
    by false one true two implies rest = rw (one, two) (omega (arith, rest))
    by false one false two implies rest = rw (one, two) rest

-- a mark that is in a list is there by the test of sameness
there : (mark : Mark) (marks : List Mark) → Contains marks mark → list_any (same_mark mark) marks ≡ true
there mark marks (at, within, is) =
    list_any_at (same_mark mark) marks at mark within (ap (same_mark mark) is ∙ same_mark_itself mark)

-- of a filter those are gone that fail the test
gone_filter : (p q : Mark → Bool) (marks : List Mark) → ((mark : Mark) → p mark ≡ false → q mark ≡ true)
    → length (gone marks (filter p marks)) ≤ length (filter q marks)
gone_filter p q marks fails =
    filter_less (λ mark. not (list_any (same_mark mark) (filter p marks))) q marks (λ k d within.
    let mark = get_or marks k d in
    by mark (Contains-get_or marks k d within) (p mark) refl)
  where
    by : (mark : Mark) → Contains marks mark → (b : Bool) → p mark ≡ b
        → not (list_any (same_mark mark) (filter p marks)) ≡ true → q mark ≡ true
    by mark in_it true is lost =
        let kept = there mark (filter p marks) (Contains-filter p mark marks in_it is) in
        absurd (false≢true (sym (ap not kept) ∙ lost))
    by mark in_it false is lost = fails mark is

-- if the marks on all other objects stay, those on one are gone at most
pub gone_at : (object : ℕ) (old new : List Mark) → ((other : ℕ) → other ≢ object → on other new ≡ on other old)
    → length (gone old new) ≤ length (on object old)
gone_at object old new same =
    filter_less (λ mark. not (list_any (same_mark mark) new)) (λ mark. mark.object == object) old (λ k d within.
    let mark = get_or old k d in
    by mark (Contains-get_or old k d within) (mark.object == object) refl)
  where
    by : (mark : Mark) → Contains old mark → (b : Bool) → (mark.object == object) ≡ b
        → not (list_any (same_mark mark) new) ≡ true → (mark.object == object) ≡ true
    by mark in_it true is lost = is
    by mark in_it false is lost =
        let differs : mark.object ≢ object = λ one.
        absurd (false≢true (sym is ∙ eq-eqb mark.object object one)) in
        let test : Mark → Bool = λ other. other.object == mark.object in
        let here : Contains (on mark.object old) mark =
        Contains-filter test mark old in_it (eq-eqb mark.object mark.object refl) in
        let after : Contains (on mark.object new) mark =
        subst (λ l. Contains l mark) (sym (same mark.object differs)) here in
        let kept = there mark new (Contains-filtered test mark new after).0 in
        absurd (false≢true (sym (ap not kept) ∙ lost))

-- a test of two parts that fails as a whole
not_both : (a b : Bool) → not (a && b) ≡ false → a ≡ true
not_both true b fails = refl
not_both false b fails = absurd (false≢true (sym fails))

not_one : (a : Bool) → not a ≡ false → a ≡ true
not_one true fails = refl
not_one false fails = absurd (false≢true (sym fails))

pub few_retired : (marks : List Mark) (change : Change) → IsMarkList marks
    → length (retired marks change) < 2 ^ 32
unfolding retired changed
few_retired marks (Put group class words object) list =
    let few = gone_at object marks (changed marks (Put group class words object))
    (λ other differs. same_elsewhere marks (Put group class words object) list other differs) in
    omega (arith, few, few_on marks list object)
few_retired marks (Flush group kind) list =
    let few = gone_filter (λ mark. not (mark.group == group && same_kind mark.kind kind))
    (λ mark. mark.group == group) marks
    (λ mark fails. not_both (mark.group == group) (same_kind mark.kind kind) fails) in
    omega (arith, few, few_of marks list group)
few_retired marks (Clear object) list =
    let few = gone_at object marks (changed marks (Clear object))
    (λ other differs. same_elsewhere marks (Clear object) list other differs) in
    omega (arith, few, few_on marks list object)
few_retired marks (DropGroup group) list =
    let few = gone_filter (λ mark. not (mark.group == group)) (λ mark. mark.group == group) marks
    (λ mark fails. not_one (mark.group == group) fails) in
    omega (arith, few, few_of marks list group)
few_retired marks (DropObject object) list =
    let few = gone_at object marks (changed marks (DropObject object))
    (λ other differs. same_elsewhere marks (DropObject object) list other differs) in
    omega (arith, few, few_on marks list object)
