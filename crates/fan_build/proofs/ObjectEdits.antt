-- What a change makes of the marks of one object is what it makes of all marks, on that object.
use Rattle.std.proofs.Common.{◌≡◌, ◌≢◌, ◌∙◌, ℕ, ◌<◌, ◌≤◌, ◌^◌, Bool, true, false, List, [], ◌∷◌, ◌++◌, None, get_or, refl, sym, ap, subst, arith, append-nil, eqb-true, eq-eqb}
use Rattle.std.proofs.lemmas.Bool.{ne_eqb}
use Rattle.std.proofs.lemmas.Bool.Decides.{nat_tests}
use Rattle.std.proofs.lemmas.List.Elements.{All-cons, All-filter, All-head, All-nil, All-tail, All-weaker, filter_passes}
use Rattle.std.specs.Prelude.{All, filter, map, nat_lt, not, ◌==◌, ◌&&◌}
use Rattle.fan_bits.specs.declared.change.Change.{Change}
use Rattle.fan_bits.specs.declared.change.Change.TheVariants.{Put, Flush, Clear, DropGroup, DropObject}
use Rattle.fan_bits.specs.declared.class.Class.{Class}
use Rattle.fan_bits.specs.declared.kind.Kind.{Kind}
use Rattle.fan_bits.specs.declared.mark.Mark.{Mark}
use Rattle.fan_bits.specs.declared.mark_call.MarkWords.{MarkWords}
use Rattle.fan_bits.specs.Marks.{IsChange, IsMark, IsMarkList, Rises, changed, cleared, listed, mark_of, on, order_number, order_of, same_kind, standing, stands, updated}
use Rattle.fan_bits.proofs.MarkLists.{IsMarkList-filter}
use Rattle.fan_bits.proofs.OnObjects.{clear_on, drop_group_on, drop_object_on, flush_on, put_elsewhere, put_here}
use Rattle.fan_lists.proofs.Filters.{filter_all, filter_none}
use Rattle.fan_lists.proofs.Finds.{find_none}
use Rattle.fan_build.specs.Edits.{cleared_mark, edited}
use Rattle.fan_build.specs.Steps.{IsConnector}

-- ---- marks of one object

-- a mark is on an object
abbrev pub IsOn : ℕ → Mark → Type 0
IsOn object mark = mark.object ≡ object

-- the marks on an object in a list of marks can be those of a chain
connector_by : (object : ℕ) (marks : List Mark) → All IsMark marks → Rises marks → All (IsOn object) marks
    → IsConnector marks
connector_by object [] each rises here = tt
connector_by object (mark ∷ marks) each rises here = (
  All-head IsMark mark marks each,
  λ k d within.
      let at = All-head (IsOn object) mark marks here in
      let other = All-tail (IsOn object) mark marks here k d within in
      let before = rises.0 k d within in
      grind (arith, nat_tests),
  connector_by object marks (All-tail IsMark mark marks each) rises.1
      (All-tail (IsOn object) mark marks here),
)

pub all_on : (object : ℕ) (marks : List Mark) → All (IsOn object) (on object marks)
all_on object marks =
    All-weaker (λ (mark : Mark). (mark.object == object) ≡ true) (IsOn object)
    (λ mark is. eqb-true mark.object object is) (on object marks)
    (filter_passes (λ (mark : Mark). mark.object == object) marks)

pub connector_on : (marks : List Mark) → IsMarkList marks → (object : ℕ) → IsConnector (on object marks)
connector_on marks list object =
    let here = IsMarkList-filter (λ mark. mark.object == object) marks list in
    connector_by object (on object marks) here.each here.rises (all_on object marks)

-- each of them is a mark
pub connector_each : (marks : List Mark) → IsConnector marks → All IsMark marks
connector_each [] is = All-nil IsMark
connector_each (mark ∷ marks) is =
    All-cons IsMark mark marks is.0 (connector_each marks is.2)

-- ---- changes other than a Put, mark by mark

flush_edited : (group : ℕ) (kind : Kind) (marks : List Mark)
    → edited (Flush group kind) marks ≡ changed marks (Flush group kind)
unfolding changed updated
flush_edited group kind [] = refl
flush_edited group kind (mark ∷ marks) =
    by (mark.group == group && same_kind mark.kind kind) refl (flush_edited group kind marks)
  where
    by : (b : Bool) → (mark.group == group && same_kind mark.kind kind) ≡ b
        → edited (Flush group kind) marks ≡ changed marks (Flush group kind)
        → edited (Flush group kind) (mark ∷ marks) ≡ changed (mark ∷ marks) (Flush group kind)
    by true is rest = rw is rest
    by false is rest = rw is (ap (λ more. mark ∷ more) rest)

drop_group_edited : (group : ℕ) (marks : List Mark)
    → edited (DropGroup group) marks ≡ changed marks (DropGroup group)
unfolding changed updated
drop_group_edited group [] = refl
drop_group_edited group (mark ∷ marks) =
    by (mark.group == group) refl (drop_group_edited group marks)
  where
    by : (b : Bool) → (mark.group == group) ≡ b
        → edited (DropGroup group) marks ≡ changed marks (DropGroup group)
        → edited (DropGroup group) (mark ∷ marks) ≡ changed (mark ∷ marks) (DropGroup group)
    by true is rest = rw is rest
    by false is rest = rw is (ap (λ more. mark ∷ more) rest)

drop_object_edited : (object : ℕ) (marks : List Mark)
    → edited (DropObject object) marks ≡ changed marks (DropObject object)
unfolding changed updated
drop_object_edited object [] = refl
drop_object_edited object (mark ∷ marks) =
    by (mark.object == object) refl (drop_object_edited object marks)
  where
    by : (b : Bool) → (mark.object == object) ≡ b
        → edited (DropObject object) marks ≡ changed marks (DropObject object)
        → edited (DropObject object) (mark ∷ marks) ≡ changed (mark ∷ marks) (DropObject object)
    by true is rest = rw is rest
    by false is rest = rw is (ap (λ more. mark ∷ more) rest)

-- what a write leaves of a mark, in two ways
clear_one : (object : ℕ) (mark : Mark) → stands mark ≡ true
    → cleared_mark object mark ≡ standing (cleared object mark)
unfolding cleared_mark
clear_one object mark whole = by (mark.object == object) refl mark.survives refl
  where
    by : (b : Bool) → (mark.object == object) ≡ b → (c : Bool) → mark.survives ≡ c
        → cleared_mark object mark ≡ standing (cleared object mark)
    by true at true survives = rw (at, survives) (sym (rw whole refl))
    by true at false survives = rw (at, survives) refl
    by false at c survives = rw at (sym (rw whole refl))

clear_step : (mark : Mark) (marks : List Mark)
    → listed (standing mark) ++ filter stands marks ≡ filter stands (mark ∷ marks)
clear_step mark marks = by (stands mark) refl
  where
    by : (b : Bool) → stands mark ≡ b
        → listed (standing mark) ++ filter stands marks ≡ filter stands (mark ∷ marks)
    by true is = rw is refl
    by false is = rw is refl

clear_edited : (object : ℕ) (marks : List Mark) → All IsMark marks
    → edited (Clear object) marks ≡ changed marks (Clear object)
unfolding changed updated
clear_edited object [] each = refl
clear_edited object (mark ∷ marks) each =
    rw (
      clear_one object mark (All-head IsMark mark marks each).whole,
      clear_edited object marks (All-tail IsMark mark marks each),
    )
    (clear_step (cleared object mark) (map (cleared object) marks))

-- ---- a Put

module _ (group : ℕ) (class : Class) (words : MarkWords) (object : ℕ) (small : group < 2 ^ 32) where
  abbrev put : Change
  put = Put group class words object

  abbrev order : ℕ
  order = order_number class group

  abbrev HasClass : Mark → Type 0
  HasClass mark = mark.group ≡ group → mark.class ≡ class

  abbrev below : Mark → Bool
  below mark = nat_lt (order_of mark) order

  abbrev above : Mark → Bool
  above mark = nat_lt order (order_of mark)

  abbrev is_of : Mark → Bool
  is_of mark = mark.group == group && mark.object == object

  -- a mark with another order is of another group
  other_group : (mark : Mark) → HasClass mark → order_of mark ≢ order → is_of mark ≡ false
  other_group mark has differs =
      let apart : mark.group ≢ group = λ is.
      differs (rw (has is, is) refl) in
      rw (ne_eqb mark.group group apart) refl

  -- and one with this order is of this group
  this_group : (mark : Mark) → IsMark mark → IsOn object mark → order_of mark ≡ order → is_of mark ≡ true
  this_group mark is here same =
      let of : mark.group ≡ group = omega (arith, is.group.1) in
      rw (eq-eqb mark.group group of, eq-eqb mark.object object here) refl

  -- what a Put makes of the marks of its object, by their orders
  abbrev placed : List Mark → List Mark
  placed marks =
      filter below marks ++ listed (updated (mark_of marks group object) put) ++ filter above marks

  all_above : (mark : Mark) (marks : List Mark) → order ≤ order_of mark
      → All (λ later. order_of mark < order_of later) marks
      → (filter below marks ≡ []) × (filter above marks ≡ marks)
  all_above mark marks from behind = (
    filter_none below marks (λ k d within. let here = behind k d within in grind (arith, nat_tests)),
    filter_all above marks (λ k d within. let here = behind k d within in grind (arith, nat_tests)),
  )

  put_step : (mark : Mark) (marks : List Mark) → IsMark mark
      → All (λ later. order_of mark < order_of later) marks → IsOn object mark → All HasClass (mark ∷ marks)
      → edited put marks ≡ placed marks → (past : Bool) → nat_lt order (order_of mark) ≡ past
      → (at : Bool) → (order_of mark == order) ≡ at → edited put (mark ∷ marks) ≡ placed (mark ∷ marks)
  put_step mark marks is behind here classes rest true past at at_is =
      let from : order < order_of mark = grind (arith, nat_tests, past) in
      let not_below : below mark ≡ false = grind (arith, nat_tests) in
      let sides = all_above mark marks (omega arith) behind in
      let none : mark_of (mark ∷ marks) group object ≡ None =
      find_none is_of (mark ∷ marks) (λ k d within.
      let one = get_or (mark ∷ marks) k d in
      other_group one (classes k d within) (λ same.
      let later = first_least mark marks behind k d within in
      absurd (omega (arith, later)))) in
      rw (past, not_below, sides.0, sides.1, none) refl
    where
      first_least : (mark : Mark) (marks : List Mark) → All (λ later. order_of mark < order_of later) marks
          → All (λ later. order_of mark ≤ order_of later) (mark ∷ marks)
      first_least mark marks behind =
          All-cons (λ later. order_of mark ≤ order_of later) mark marks
          (omega arith) (λ k d within. omega (arith, behind k d within))
  put_step mark marks is behind here classes rest false past true at_is =
      let same : order_of mark ≡ order = eqb-true (order_of mark) order at_is in
      let not_below : below mark ≡ false = grind (arith, nat_tests) in
      let sides = all_above mark marks (omega arith) behind in
      let found : is_of mark ≡ true = this_group mark is here same in
      rw (past, not_below, sides.0, sides.1, found, at_is) refl
  put_step mark marks is behind here classes rest false past false at_is =
      let differs : order_of mark ≢ order = λ same. absurd (grind (arith, nat_tests, same, at_is)) in
      let is_below : below mark ≡ true = grind (arith, nat_tests, differs, past) in
      let other : is_of mark ≡ false = other_group mark (All-head HasClass mark marks classes) differs in
      rw (past, is_below, other, at_is) (ap (λ more. mark ∷ more) rest)

  pub put_edited : (marks : List Mark) → IsConnector marks → All (IsOn object) marks → All HasClass marks
      → edited put marks ≡ placed marks
  put_edited [] connector here classes = sym (append-nil (listed (updated None put)))
  put_edited (mark ∷ marks) connector here classes =
      put_step mark marks connector.0 connector.1 (All-head (IsOn object) mark marks here) classes
      (put_edited marks connector.2 (All-tail (IsOn object) mark marks here)
      (All-tail HasClass mark marks classes))
      (nat_lt order (order_of mark)) refl (order_of mark == order) refl

-- ---- each change

-- an object to which a Put comes is its own
abbrev pub IsAtObject : Change → ℕ → Type 0
IsAtObject (Put group class words object) at = at ≡ object
IsAtObject _ at = Unit {0}

-- what a change makes of the marks of an object to which it comes
pub edited_on : (marks : List Mark) (change : Change) → IsMarkList marks → IsChange marks change
    → (object : ℕ) → IsAtObject change object
    → edited change (on object marks) ≡ on object (changed marks change)
edited_on marks (Put group class words at) list is object here =
    let classes = All-filter (λ mark. mark.object == object)
    (λ mark. mark.group ≡ group → mark.class ≡ class) marks is.classes in
    subst (λ o. edited (Put group class words o) (on object marks) ≡ on object (changed marks (Put group class words o)))
    here
    (put_edited group class words object is.numbered.1 (on object marks) (connector_on marks list object)
    (all_on object marks) classes
    ∙ sym (put_here marks group class words object))
edited_on marks (Flush group kind) list is object here =
    flush_edited group kind (on object marks) ∙ sym (flush_on marks object group kind)
edited_on marks (Clear at) list is object here =
    clear_edited at (on object marks) (connector_each (on object marks) (connector_on marks list object))
    ∙ sym (clear_on marks object at)
edited_on marks (DropGroup group) list is object here =
    drop_group_edited group (on object marks) ∙ sym (drop_group_on marks object group)
edited_on marks (DropObject at) list is object here =
    drop_object_edited at (on object marks) ∙ sym (drop_object_on marks object at)

-- an object to which a change does not come is another than its own
abbrev pub IsElsewhere : Change → ℕ → Type 0
IsElsewhere (Put group class words object) at = at ≢ object
IsElsewhere (Clear object) at = at ≢ object
IsElsewhere (DropObject object) at = at ≢ object
IsElsewhere (Flush group kind) at = ⊥
IsElsewhere (DropGroup group) at = ⊥

-- ---- and elsewhere the marks stay

clear_elsewhere : (object at : ℕ) (marks : List Mark) → All IsMark marks → All (IsOn object) marks
    → object ≢ at → changed marks (Clear at) ≡ marks
unfolding changed
clear_elsewhere object at [] each here differs = refl
clear_elsewhere object at (mark ∷ marks) each here differs =
    let apart : (mark.object == at) ≡ false =
    ne_eqb mark.object at (λ same. differs (sym (All-head (IsOn object) mark marks here) ∙ same)) in
    rw (apart, (All-head IsMark mark marks each).whole)
    (ap (λ more. mark ∷ more) (clear_elsewhere object at marks (All-tail IsMark mark marks each)
    (All-tail (IsOn object) mark marks here) differs))

drop_elsewhere : (object at : ℕ) (here : List Mark) → All (IsOn object) here → object ≢ at
    → changed here (DropObject at) ≡ here
unfolding changed
drop_elsewhere object at here all differs =
    filter_all (λ mark. not (mark.object == at)) here (λ k d within.
    rw (ne_eqb (get_or here k d).object at (λ same. differs (sym (all k d within) ∙ same))) refl)

pub same_elsewhere : (marks : List Mark) (change : Change) → IsMarkList marks → (object : ℕ)
    → IsElsewhere change object → on object (changed marks change) ≡ on object marks
same_elsewhere marks (Put group class words at) list object differs =
    put_elsewhere marks group class words at object differs
same_elsewhere marks (Flush group kind) list object never = absurd never
same_elsewhere marks (Clear at) list object differs =
    clear_on marks object at
    ∙ clear_elsewhere object at (on object marks)
    (connector_each (on object marks) (connector_on marks list object)) (all_on object marks) differs
same_elsewhere marks (DropGroup group) list object never = absurd never
same_elsewhere marks (DropObject at) list object differs =
    drop_object_on marks object at ∙ drop_elsewhere object at (on object marks) (all_on object marks) differs
