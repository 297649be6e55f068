-- The changes of a history, one after another.
use Rattle.std.proofs.Common.{◌≡◌, ◌∙◌, ℕ, zero, suc, ◌+◌, ◌-◌, ◌≤◌, ◌<◌, Bool, true, false, List, [], ◌∷◌, ◌++◌, Option, length, map, refl, sym, ap, arith, eqb-true}
use Rattle.std.proofs.lemmas.Bool.Decides.{nat_tests}
use Rattle.std.proofs.lemmas.List.Elements.{All-append, All-filter, All-map, All-nil, All-weaker}
use Rattle.std.specs.Prelude.{All, filter, not, ◌==◌, ◌&&◌}
use Rattle.fan_bits.specs.declared.change.Change.{Change}
use Rattle.fan_bits.specs.declared.change.Change.TheVariants.{Put, Flush, Clear, DropGroup, DropObject}
use Rattle.fan_bits.specs.declared.class.Class.TheVariants.{Notif}
use Rattle.fan_bits.specs.declared.mark.Mark.{Mark}
use Rattle.fan_bits.specs.Marks.{IsChange, IsMark, IsMarkList, changed, cleared, is_before, is_behind, listed, mark_of, order_number, put_mark, same_kind, stands}
use Rattle.fan_bits.proofs.MarkLists.{AgreesWith, IsNew, changed_keeps_list, cleared_keeps, listed_all}
use Rattle.fan_bits.proofs.Updates.{mark_of_is, put_mark_is}
use Rattle.fan_rows.specs.Rows.{Rows, times}
use Rattle.fan_rows.specs.Trees.{Chain, Pictures, digits, marks_in, rows_of}
use Rattle.fan_rows.proofs.Chains.{times_append}
use Rattle.fan_build.specs.Needs.{needed_between}
use Rattle.fan_build.specs.Objects.{changed_on}
use Rattle.fan_build.specs.Publishing.{CanChange, CanMake, Reaches, Wrote, given_since, retired_since}
use Rattle.fan_build.specs.Standing.{IsPossible, Stands, numbers, rows_at}
use Rattle.fan_build.proofs.IndexSteps.{no_tree}
use Rattle.fan_build.proofs.Objects.{changed_on_all_of, changed_on_keeps_list}
use Rattle.fan_build.proofs.TreeNeeds.{nothing_at}

-- a mark is of class FAN_CLASS_NOTIF
abbrev IsNotif : Mark → Type 0
IsNotif mark = mark.class ≡ Notif

-- ---- numbers that follow one another

-- one more at the end
pub numbers_last : (first count : ℕ) → numbers first (suc count) ≡ numbers first count ++ (first + count) ∷ []
numbers_last first zero = ap (λ n. n ∷ []) (omega arith)
numbers_last first (suc count) =
    let next : suc first + count ≡ first + suc count = omega arith in
    ap (λ rest. first ∷ rest) (numbers_last (suc first) count ∙ ap (λ n. numbers (suc first) count ++ n ∷ []) next)

-- the numbers from 1 on before and after the next one is taken
pub numbers_next : (next : ℕ) → 0 < next → numbers 1 (next + 1 - 1) ≡ numbers 1 (next - 1) ++ next ∷ []
numbers_next (suc count) some =
    let one : suc count + 1 - 1 ≡ suc count = omega arith in
    let less : suc count - 1 ≡ count = omega arith in
    let next : 1 + count ≡ suc count = omega arith in
    rw (one, less) (numbers_last 1 count ∙ ap (λ n. numbers 1 count ++ n ∷ []) next)
numbers_next zero some = absurd (omega arith)

pub numbers_count : (first count : ℕ) → length (numbers first count) ≡ count
numbers_count first zero = refl
numbers_count first (suc count) = omega (arith, numbers_count (suc first) count)

-- lesser ones are not among them, and each of them is there once
times_lesser : (row first count : ℕ) → row < first → times row (numbers first count) ≡ 0
times_lesser row first zero less = refl
times_lesser row first (suc count) less =
    let differs : (first == row) ≡ false = grind (arith, nat_tests, less) in
    let rest = times_lesser row (suc first) count (omega (arith, less)) in
    rw differs (omega (arith, rest))

numbers_once : (row first count : ℕ) → times row (numbers first count) ≤ 1
numbers_once row first zero = omega arith
numbers_once row first (suc count) = by (first == row) refl (numbers_once row (suc first) count)
  where
    by : (same : Bool) → (first == row) ≡ same → times row (numbers (suc first) count) ≤ 1
        → times row (numbers first (suc count)) ≤ 1
    by true is rest =
        let one : first ≡ row = eqb-true first row is in
        rw is (omega (arith, times_lesser row (suc first) count (omega (arith, one))))
    by false is rest = rw is (omega (arith, rest))

-- ---- no marks

pub nothing_stands : (words : ℕ → Option ℕ) (next count : ℕ) (retired : List ℕ) → retired ≡ []
    → Stands words (rows_at next count retired) 0 []
nothing_stands words next count retired none = record {
  pictured = (
    Chain [],
    record {
      root_is = refl;
      lies = refl;
      once = λ row. omega arith;
      told = λ object bound. ap marks_in (nothing_at (digits object));
    },
  );
  list = record { each = All-nil IsMark; rises = tt; classes = All-nil (AgreesWith []) };
  class = All-nil IsNotif;
  apart = λ reached (tree, lies, top_is, are) row.
      let empty : reached ≡ [] = sym are ∙ ap rows_of (no_tree words 8 tree lies top_is) in
      rw (empty, none) (omega (arith, numbers_once row next (count - next)));
}

-- ---- a change

pub allowed : (marks : List Mark) (change : Change) → All IsNotif marks → IsPossible change
    → IsChange marks change
allowed marks (Put group class words object) notif possible = record {
  numbered = possible.0;
  placed = possible.1;
  mask = possible.2;
  verb = possible.3;
  classes = λ k d within same. notif k d within ∙ sym possible.4;
}
allowed marks (Flush group kind) notif possible = tt
allowed marks (Clear object) notif possible = tt
allowed marks (DropGroup group) notif possible = tt
allowed marks (DropObject object) notif possible = tt

-- they are so after a change
class_after : (marks : List Mark) (change : Change) → IsMarkList marks → All IsNotif marks
    → IsPossible change → All IsNotif (changed marks change)
unfolding changed
class_after marks (Put group class words object) list notif possible =
    let order = order_number class group in
    let new = put_mark (mark_of marks group object) group class words object in
    let is = allowed marks (Put group class words object) notif possible in
    let front = filter (is_before object order) marks in
    All-append IsNotif (front ++ listed new) (filter (is_behind object order) marks)
    (All-append IsNotif front (listed new) (All-filter (is_before object order) IsNotif marks notif)
    (All-weaker (IsNew group class object) IsNotif (λ mark new_is. new_is.0.of_class ∙ possible.4) (listed new)
    (listed_all (IsNew group class object) new (put_mark_is (mark_of marks group object) group class words object
    is.mask (mark_of_is marks group class object list.each is.classes)))))
    (All-filter (is_behind object order) IsNotif marks notif)
class_after marks (Flush group kind) list notif possible =
    All-filter (λ mark. not (mark.group == group && same_kind mark.kind kind)) IsNotif marks notif
class_after marks (Clear object) list notif possible =
    All-filter stands IsNotif (map (cleared object) marks) (All-map IsNotif (cleared object) marks
    (All-weaker IsNotif (λ mark. IsNotif (cleared object mark))
    (λ mark is. (cleared_keeps object mark).class ∙ is) marks notif))
class_after marks (DropGroup group) list notif possible =
    All-filter (λ mark. not (mark.group == group)) IsNotif marks notif
class_after marks (DropObject object) list notif possible =
    All-filter (λ mark. not (mark.object == object)) IsNotif marks notif

module _ (words : ℕ → Option ℕ) (rows : Rows) (root : ℕ) (marks : List Mark)
    (stands_now : Stands words rows root marks) (change : Change) (possible : IsPossible change) where
  pub can_change : CanChange words root marks change
  can_change = record {
    pictured = stands_now.pictured;
    list = stands_now.list;
    allowed = allowed marks change stands_now.class possible;
  }

  pub can_make : (new : List Mark) (needed room : ℕ) → needed ≡ needed_between marks new → needed ≤ room
      → room ≡ length rows.free → CanMake words rows root marks change new
  can_make new needed room number fits count = record {
    possible = can_change;
    enough = omega (arith, number, fits, count);
    apart = stands_now.apart;
  }

  -- and stand after it
  module _ (later : ℕ → Option ℕ) (after : Rows) (end : ℕ) (wrote : Wrote words later rows after)
      (once : (before last : List ℕ) → Reaches words root before → Reaches later end last → (row : ℕ)
      → times row before + times row (given_since rows after)
      ≡ times row last + times row (retired_since rows after)) where
    apart_after : (last : List ℕ) → Reaches later end last
        → (row : ℕ) → times row last + times row after.free + times row after.retired ≤ 1
    apart_after last reaches row =
        let tree = stands_now.pictured.0 in
        let by = stands_now.pictured.1 in
        let start : Reaches words root (rows_of tree) = (tree, by.lies, by.root_is, refl) in
        let gone : times row after.retired ≡ times row rows.retired + times row (retired_since rows after) =
        ap (times row) wrote.retired_on ∙ times_append row rows.retired (retired_since rows after) in
        omega (
          arith,
          gone,
          wrote.from_free row,
          once (rows_of tree) last start reaches row,
          stands_now.apart (rows_of tree) start row,
        )

    pub stands_after : Pictures later end (changed marks change)
        → Stands later after end (changed marks change)
    stands_after pictured = record {
      pictured = pictured;
      list = changed_keeps_list marks change can_change.allowed stands_now.list;
      class = class_after marks change stands_now.list stands_now.class possible;
      apart = apart_after;
    }

    pub stands_after_on : (object : ℕ) → Pictures later end (changed_on marks change object)
        → Stands later after end (changed_on marks change object)
    stands_after_on object pictured = record {
      pictured = pictured;
      list = changed_on_keeps_list marks change object stands_now.list can_change.allowed;
      class = changed_on_all_of marks change object IsNotif stands_now.class
          (class_after marks change stands_now.list stands_now.class possible);
      apart = apart_after;
    }
