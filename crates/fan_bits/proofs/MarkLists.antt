-- Lists of marks stay lists of marks through filters, a written file and any change.
use Rattle.std.proofs.Common.{◌≡◌, ◌∙◌, ℕ, ◌<◌, ◌≤◌, ◌^◌, Bool, true, List, [], ◌∷◌, ◌++◌, Option, Some, None, map, get_or, refl, sym, arith, eqb-true}
use Rattle.std.specs.Prelude.{All, IfSome, filter, not, ◌&&◌, ◌==◌}
use Rattle.std.proofs.lemmas.Bool.{cond_both}
use Rattle.std.proofs.lemmas.Bool.Decides.{nat_tests}
use Rattle.std.proofs.lemmas.List.Elements.{All-append, All-cons, All-filter, All-head, All-map, All-nil, All-tail, All-weaker, filter_passes}
use Rattle.fan_bits.specs.declared.change.Change.{Change}
use Rattle.fan_bits.specs.declared.change.Change.TheVariants.{Put, Flush, Clear, DropGroup, DropObject}
use Rattle.fan_bits.specs.declared.class.Class.{Class}
use Rattle.fan_bits.specs.declared.mark.Mark.{Mark}
use Rattle.fan_bits.specs.Marks.{IsChange, IsMark, IsMarkList, Rises, changed, cleared, is_before, is_behind, listed, mark_of, on, order_number, order_of, put_mark, same_kind, stands}
use Rattle.fan_bits.specs.Places.{IsObject}
use Rattle.fan_bits.proofs.Rising.{RisesBy}
use Rattle.fan_bits.proofs.Updates.{IsOf, Keeps, keeps_itself, mark_of_is, put_mark_is}

-- ---- marks in their order

-- one mark stands before another
abbrev pub IsBefore : Mark → Mark → Type 0
IsBefore mark other = is_before other.object (order_of other) mark ≡ true

-- a mark has a place
abbrev pub IsAt : ℕ → ℕ → Mark → Type 0
IsAt object order mark = (mark.object ≡ object) × (order_of mark ≡ order)

-- what a filter keeps still rises
pub Rises-filter : (p : Mark → Bool) (marks : List Mark) → Rises marks → Rises (filter p marks)
Rises-filter p [] rises = tt
Rises-filter p (x ∷ xs) rises =
    cond_both (p x) (x ∷ filter p xs) (filter p xs) Rises
    (λ kept. (All-filter p (IsBefore x) xs rises.0, Rises-filter p xs rises.1))
    (λ left_out. Rises-filter p xs rises.1)

-- two lists that rise, each mark of the first before all of the second
pub Rises-append : (xs ys : List Mark) → Rises xs → Rises ys → All (λ x. All (IsBefore x) ys) xs
    → Rises (xs ++ ys)
Rises-append [] ys left right across = right
Rises-append (x ∷ xs) ys left right across =
    let P : Mark → Type 0 = λ x. All (IsBefore x) ys in (
      All-append (IsBefore x) xs ys left.0 (All-head P x xs across),
      Rises-append xs ys left.1 right (All-tail P x xs across),
    )

-- of two marks on one object the one that stands before has the lesser order
lesser : (x y : Mark) → x.object ≡ y.object → IsBefore x y → order_of x < order_of y
lesser x y same before = grind (arith, nat_tests)

-- the marks on an object rise in the order of their groups
pub rises-on : (object : ℕ) (marks : List Mark) → Rises marks → RisesBy order_of (on object marks)
rises-on object [] rises = tt
rises-on object (x ∷ xs) rises =
    let test : Mark → Bool = λ mark. mark.object == object in
    cond_both (test x) (x ∷ on object xs) (on object xs) (RisesBy order_of)
    (λ here. (
      λ k d within. lesser x (get_or (on object xs) k d)
          (eqb-true _ _ here ∙ sym (eqb-true _ _ (filter_passes test xs k d within)))
          (All-filter test (IsBefore x) xs rises.0 k d within),
      rises-on object xs rises.1,
    ))
    (λ other. rises-on object xs rises.1)

-- places decide which of two marks stands before the other
before_kept : (x y a b : Mark) → Keeps x a → Keeps y b → IsBefore x y → IsBefore a b
before_kept x y a b first second before =
    rw (first.object, first.class, first.group, second.object, second.class, second.group) before

-- a list keeps rising if each mark keeps its place
pub Rises-map : (f : Mark → Mark) → ((mark : Mark) → Keeps mark (f mark)) → (marks : List Mark) → Rises marks
    → Rises (map f marks)
Rises-map f keeps [] rises = tt
Rises-map f keeps (x ∷ xs) rises = (
  All-map (IsBefore (f x)) f xs
      (All-weaker (IsBefore x) (λ y. IsBefore (f x) (f y))
      (λ y before. before_kept x y (f x) (f y) (keeps x) (keeps y) before) xs rises.0),
  Rises-map f keeps xs rises.1,
)

-- a mark before a place stands before one at it or behind it, and one at it before one behind it
before_at : (object order : ℕ) (x y : Mark) → is_before object order x ≡ true → IsAt object order y
    → IsBefore x y
before_at object order x y before here = rw (here.0, here.1) before

at_behind : (object order : ℕ) (x y : Mark) → IsAt object order x → is_behind object order y ≡ true
    → IsBefore x y
at_behind object order x y here behind = rw (here.0, here.1) (grind (arith, nat_tests))

before_behind : (object order : ℕ) (x y : Mark) → is_before object order x ≡ true
    → is_behind object order y ≡ true → IsBefore x y
before_behind object order x y before behind = grind (arith, nat_tests)

-- what is put at a place between what stands before it and what stands behind it
pub Rises-put : (object order : ℕ) (marks here : List Mark) → Rises marks → Rises here
    → All (IsAt object order) here
    → Rises (filter (is_before object order) marks ++ here ++ filter (is_behind object order) marks)
Rises-put object order marks here rises alone at =
    let front = filter (is_before object order) marks in
    let back = filter (is_behind object order) marks in
    let before = filter_passes (is_before object order) marks in
    let behind = filter_passes (is_behind object order) marks in
    let upto : Rises (front ++ here) =
    Rises-append front here (Rises-filter (is_before object order) marks rises) alone
    (λ i d left. λ j e right. before_at object order (get_or front i d) (get_or here j e) (before i d left)
    (at j e right)) in
    Rises-append (front ++ here) back upto (Rises-filter (is_behind object order) marks rises)
    (All-append (λ x. All (IsBefore x) back) front here
    (λ i d left. λ j e right. before_behind object order (get_or front i d) (get_or back j e)
    (before i d left) (behind j e right))
    (λ i d left. λ j e right. at_behind object order (get_or here i d) (get_or back j e) (at i d left)
    (behind j e right)))

-- ---- marks of one group have one class

-- two marks of one group have one class
abbrev pub Agree : Mark → Mark → Type 0
Agree mark other = mark.group ≡ other.group → mark.class ≡ other.class

-- a mark agrees with each of a list
abbrev pub AgreesWith : List Mark → Mark → Type 0
AgreesWith marks mark = All (Agree mark) marks

-- each mark of a list agrees with each
abbrev pub AllAgree : List Mark → Type 0
AllAgree marks = All (AgreesWith marks) marks

-- what a filter keeps agrees
pub AllAgree-filter : (p : Mark → Bool) (marks : List Mark) → AllAgree marks → AllAgree (filter p marks)
AllAgree-filter p marks agree =
    All-filter p (AgreesWith (filter p marks)) marks
    (All-weaker (AgreesWith marks) (AgreesWith (filter p marks))
    (λ mark agrees. All-filter p (Agree mark) marks agrees) marks agree)

agree_kept : (x y a b : Mark) → Keeps x a → Keeps y b → Agree x y → Agree a b
agree_kept x y a b first second agree same =
    first.class ∙ agree (sym first.group ∙ same ∙ second.group) ∙ sym second.class

-- and so does what a map makes that keeps groups and classes
pub AllAgree-map : (f : Mark → Mark) → ((mark : Mark) → Keeps mark (f mark)) → (marks : List Mark)
    → AllAgree marks → AllAgree (map f marks)
AllAgree-map f keeps marks agree =
    All-map (AgreesWith (map f marks)) f marks
    (All-weaker (AgreesWith marks) (λ mark. AgreesWith (map f marks) (f mark)) (λ mark agrees.
    All-map (Agree (f mark)) f marks
    (All-weaker (Agree mark) (λ other. Agree (f mark) (f other))
    (λ other. agree_kept mark other (f mark) (f other) (keeps mark) (keeps other)) marks agrees)) marks agree)

-- ---- lists of marks

-- what a filter keeps of a list of marks is one
pub IsMarkList-filter : (p : Mark → Bool) (marks : List Mark) → IsMarkList marks → IsMarkList (filter p marks)
IsMarkList-filter p marks list = record {
  each = All-filter p IsMark marks list.each;
  rises = Rises-filter p marks list.rises;
  classes = AllAgree-filter p marks list.classes;
}

-- a written file's mark keeps group, class, object and kind
pub cleared_keeps : (object : ℕ) (mark : Mark) → Keeps mark (cleared object mark)
cleared_keeps object mark =
    cond_both (mark.object == object && not mark.survives) (record mark { ignored = 0 }) mark (Keeps mark)
    (λ forgets. record { group = refl; class = refl; object = refl; kind = refl })
    (λ stays. keeps_itself mark)

-- and is one if it still stands
cleared_mark : (object : ℕ) (mark : Mark) → IsMark mark → stands (cleared object mark) ≡ true
    → IsMark (cleared object mark)
cleared_mark object mark is =
    cond_both (mark.object == object && not mark.survives) (record mark { ignored = 0 }) mark
    (λ left. stands left ≡ true → IsMark left)
    (λ forgets whole. record {
      group = is.group;
      object = is.object;
      mask = is.mask;
      ignored = omega arith;
      whole = whole;
    })
    (λ stays whole. is)

-- so the marks of a file that is written to, without those that don't stand any more, are a list of marks
pub IsMarkList-cleared : (object : ℕ) (marks : List Mark) → IsMarkList marks
    → IsMarkList (filter stands (map (cleared object) marks))
IsMarkList-cleared object marks list =
    let all = map (cleared object) marks in
    let keeps = cleared_keeps object in
    let Whole : Mark → Type 0 = λ mark. stands mark ≡ true → IsMark mark in
    let each : All Whole all =
    All-map Whole (cleared object) marks
    (All-weaker IsMark (λ mark. Whole (cleared object mark)) (cleared_mark object) marks list.each) in
    record {
      each = λ k d within. All-filter stands Whole all each k d within (filter_passes stands all k d within);
      rises = Rises-filter stands all (Rises-map (cleared object) keeps marks list.rises);
      classes = AllAgree-filter stands all (AllAgree-map (cleared object) keeps marks list.classes);
    }

-- ---- one mark put at its place

-- a new mark is of its group, class and object, and stands
abbrev pub IsNew : ℕ → Class → ℕ → Mark → Type 0
IsNew group class object mark = IsOf group class object mark × (stands mark ≡ true)

new_mark : (group : ℕ) (class : Class) (object : ℕ) → (1 ≤ group) × (group < 2 ^ 32) → IsObject object
    → (mark : Mark) → IsNew group class object mark → IsMark mark
new_mark group class object numbered placed mark is = record {
  group = rw is.0.of_group numbered;
  object = rw is.0.on_object placed;
  mask = is.0.bits.mask;
  ignored = is.0.bits.ignored;
  whole = is.1;
}

new_at : (group : ℕ) (class : Class) (object : ℕ) (mark : Mark) → IsNew group class object mark
    → IsAt object (order_number class group) mark
new_at group class object mark is = (is.0.on_object, rw (is.0.of_class, is.0.of_group) refl)

-- what is listed of an answer
pub listed_all : (P : Mark → Type 0) (new : Option Mark) → IfSome new P → All P (listed new)
listed_all P None each = All-nil P
listed_all P (Some mark) each = All-cons P mark [] each (All-nil P)

pub listed_rises : (new : Option Mark) → Rises (listed new)
listed_rises None = tt
listed_rises (Some mark) = (All-nil (IsBefore mark), tt)

-- the marks around a place, with a new one there, are a list of marks
module _ (marks : List Mark) (group : ℕ) (class : Class) (object : ℕ) (new : Option Mark)
    (fresh : IfSome new (IsNew group class object))
    (classes : All (λ mark. mark.group ≡ group → mark.class ≡ class) marks) where
  abbrev order : ℕ
  order = order_number class group

  abbrev all : List Mark
  all = filter (is_before object order) marks ++ listed new ++ filter (is_behind object order) marks

  -- what holds of the old marks and of the new one holds of all
  parts : (P : Mark → Type 0) → All P marks → ((mark : Mark) → IsNew group class object mark → P mark)
      → All P all
  parts P old added =
      let front = filter (is_before object order) marks in
      All-append P (front ++ listed new) (filter (is_behind object order) marks)
      (All-append P front (listed new) (All-filter (is_before object order) P marks old)
      (All-weaker (IsNew group class object) P added (listed new)
      (listed_all (IsNew group class object) new fresh)))
      (All-filter (is_behind object order) P marks old)

  -- a mark agrees with all marks, and with the group's class
  abbrev Good : Mark → Type 0
  Good mark = AgreesWith marks mark × (mark.group ≡ group → mark.class ≡ class)

  new_good : (mark : Mark) → IsNew group class object mark → Good mark
  new_good mark is = (
    λ k d within same. is.0.of_class ∙ sym (classes k d within (sym same ∙ is.0.of_group)),
    λ same. is.0.of_class,
  )

  good_agrees : (mark : Mark) → Good mark → AgreesWith all mark
  good_agrees mark good =
      parts (Agree mark) good.0 (λ other is same. good.1 (same ∙ is.0.of_group) ∙ sym is.0.of_class)

  pub IsMarkList-put : (1 ≤ group) × (group < 2 ^ 32) → IsObject object → IsMarkList marks → IsMarkList all
  IsMarkList-put numbered placed list = record {
    each = parts IsMark list.each (new_mark group class object numbered placed);
    rises = Rises-put object order marks (listed new) list.rises (listed_rises new)
        (All-weaker (IsNew group class object) (IsAt object order) (new_at group class object) (listed new)
        (listed_all (IsNew group class object) new fresh));
    classes = All-weaker Good (AgreesWith all) good_agrees all
        (parts Good (λ k d within. (list.classes k d within, classes k d within)) new_good);
  }

-- what a change makes of a list of marks is one
pub changed_keeps_list : (marks : List Mark) (change : Change) → IsChange marks change → IsMarkList marks
    → IsMarkList (changed marks change)
unfolding changed
changed_keeps_list marks (Put group class words object) is list =
    IsMarkList-put marks group class object (put_mark (mark_of marks group object) group class words object)
    (put_mark_is (mark_of marks group object) group class words object is.mask
    (mark_of_is marks group class object list.each is.classes)) is.classes is.numbered is.placed list
changed_keeps_list marks (Flush group kind) is list =
    IsMarkList-filter (λ mark. not (mark.group == group && same_kind mark.kind kind)) marks list
changed_keeps_list marks (Clear object) is list = IsMarkList-cleared object marks list
changed_keeps_list marks (DropGroup group) is list =
    IsMarkList-filter (λ mark. not (mark.group == group)) marks list
changed_keeps_list marks (DropObject object) is list =
    IsMarkList-filter (λ mark. not (mark.object == object)) marks list
