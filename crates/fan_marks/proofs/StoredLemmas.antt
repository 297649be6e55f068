-- What a book stores stays in step when a mark comes, changes or goes.
use Rattle.std.proofs.Common.{◌≡◌, ◌∙◌, ℕ, ◌+◌, ◌<◌, ◌≤◌, Bool, true, false, cond, List, Option, Some, None, length, get_or, refl, ap, sym, subst, arith}
use Rattle.std.specs.Prelude.{All, IfSome, find, ◌==◌}
use Rattle.std.specs.BTreeMap.{insert_entry, is_at}
use Rattle.std.specs.Map.{lookup, remove_entry, set_value, values_of}
use Rattle.std.specs.Option.{IsSomeAnd, option_map}
use Rattle.std.proofs.lemmas.Bool.Decides.{nat_tests}
use Rattle.std.proofs.lemmas.Map.Entries.{length-values_of}
use Rattle.fan_bits.specs.declared.class.Class.{Class}
use Rattle.fan_bits.specs.declared.mark.Mark.{Mark}
use Rattle.fan_bits.specs.Marks.{IsMark, IsMarkList, listed, order_of}
use Rattle.fan_marks.specs.declared.keys.GroupKey.{GroupKey}
use Rattle.fan_marks.specs.declared.keys.ObjectKey.{ObjectKey}
use Rattle.fan_marks.specs.contracts.book.MarkBook.{the_invariant, the_view}
use Rattle.fan_marks.specs.declared.book.MarkBook.TheInside.{Inside}
use Rattle.fan_marks.specs.Book.{BookState}
use Rattle.fan_marks.specs.Keys.{group_cmp, group_key, has_group_key, has_object_key, object_cmp, object_key, replaced}
use Rattle.fan_map.specs.Counts.{number_at}
use Rattle.fan_marks.specs.Stored.{AreStored, IsStorable, IsStored, max_stored}
use Rattle.fan_lists.proofs.Finds.{All-find, find_passes}
use Rattle.fan_marks.proofs.MarkLists.{IsMarkList-replaced}
use Rattle.fan_marks.proofs.Orders.{group_exact, group_itself, object_exact, object_itself, object_same}
use Rattle.fan_marks.proofs.Replaced.{count-replaced, find_here, find_other, insert_is, length-replaced, lookup-keyed, remove_is, set_is, split_at, values-keyed}

-- the class of a mark that was found, if one was
abbrev pub class_of : Option Mark → Option Class
class_of found = option_map (λ mark. mark.class) found

module _ {marks : List Mark} {entries : List (ObjectKey × Mark)} {keys : List (GroupKey × Class)}
    {counts : List (ℕ × ℕ)} (is : AreStored marks entries keys counts) where
  -- the marks are the values of the first index
  pub stored_marks : values_of entries ≡ marks
  stored_marks = ap values_of is.entries ∙ values-keyed marks

  pub stored_values : IsStored entries keys counts
  stored_values = subst (λ all. AreStored all entries keys counts) (sym stored_marks) is

  -- a look-up in it is a search among the marks
  pub stored_lookup : (key : ObjectKey) → lookup (is_at (object_cmp key)) entries ≡ find
      (has_object_key key) marks
  stored_lookup key =
      ap (lookup (is_at (object_cmp key))) is.entries ∙ lookup-keyed (is_at (object_cmp key)) marks

-- what a book stores, by its fields and as callers see it
pub stored_in : (book : Inside) (now : BookState) → the_invariant book → the_view book ≡ now
    → AreStored now.marks book.by_object.entries book.by_group.entries book.counts.entries
stored_in book now is seen =
    subst (λ all. AreStored all book.by_object.entries book.by_group.entries book.counts.entries)
    (ap (λ (book : BookState). book.marks) seen) is.0

-- a mark of a list has its class in common with those of its group
pub storable_at : (marks : List Mark) (key : ObjectKey) (mark : Mark) → IsMarkList marks
    → find (has_object_key key) marks ≡ Some mark → IsStorable marks mark × (key ≡ object_key mark)
storable_at marks key mark list found =
    let agrees = All-find (has_object_key key)
    (λ mark. All (λ other. mark.group ≡ other.group
    → mark.class ≡ other.class) marks) marks mark list.classes found in (
      record {
        is = All-find (has_object_key key) IsMark marks mark list.each found;
        agrees = λ k d within same. sym (agrees k d within (sym same));
      },
      object_exact key mark (find_passes (has_object_key key) marks mark found),
    )

-- a mark at the group key of another has its object key
same_keys : (q : GroupKey) (key : ObjectKey) (mark other : Mark) → object_key mark ≡ key
    → (other.group ≡ mark.group → other.class ≡ mark.class)
    → has_group_key q mark ≡ true → has_group_key q other ≡ true → has_object_key key other ≡ true
same_keys q key mark other own agrees here there =
    let same : group_key other ≡ group_key mark =
    sym (group_exact q (group_key other) there) ∙ group_exact q (group_key mark) here in
    let group : other.group ≡ mark.group = ap (λ (key : GroupKey). key.group) same in
    let object : other.object ≡ mark.object = ap (λ (key : GroupKey). key.object) same in
    let class : other.class ≡ mark.class = agrees group in
    let order : order_of other ≡ order_of mark = rw (class, group) refl in
    ap (λ (key : ObjectKey). is_at (object_cmp key) (object_key other))
    (sym (object_same other mark object order ∙ own)) ∙ object_itself other

module _ (key : ObjectKey) (marks : List Mark) (mark : Mark) (own : object_key mark
    ≡ key) (list : IsMarkList marks)
    (agrees : All (λ other. other.group ≡ mark.group → other.class ≡ mark.class) marks) where
  abbrev HasKey : Option Mark → Type 0
  HasKey some = IfSome some (λ other. group_key other ≡ group_key mark)

  apart : (q : GroupKey) (some : Option Mark) → HasKey some → has_group_key q mark ≡ false
      → find (has_group_key q) (listed some) ≡ None
  apart q None same other = refl
  apart q (Some one) same other = let is : has_group_key q one ≡ false = ap (is_at (group_cmp q)) same
      ∙ other in rw is refl

  alone : (q : GroupKey) (some : Option Mark) → HasKey some → has_group_key q mark ≡ true
      → find (has_group_key q) (listed some) ≡ some
  alone q None same here = refl
  alone q (Some one) same here = let is : has_group_key q one ≡ true = ap (is_at (group_cmp q)) same
      ∙ here in rw is refl

  here : (q : GroupKey) (new : Option Mark) → HasKey new → has_group_key q mark ≡ true
      → find (has_group_key q) (replaced marks key new) ≡ new
  here q new same is =
      find_here key marks list.rises (has_group_key q) new
      (λ k d within passes. same_keys q key mark (get_or marks k d) own (agrees k d within) is passes)
      ∙ alone q new same is

  -- the class by group, kind and object, where a mark, or none, takes the place of one, or of none
  pub index-replaced : (q : GroupKey) (old new : Option Mark) → find (has_object_key key) marks ≡ old
      → HasKey old → HasKey new
      → class_of (find (has_group_key q) (replaced marks key new))
      ≡ cond (is_at (group_cmp q) (group_key mark)) (class_of new) (class_of (find (has_group_key q) marks))
  index-replaced q old new found same_old same_new =
      elim (has_group_key q mark) as (λ test. has_group_key q mark ≡ test
      → class_of (find (has_group_key q) (replaced marks key new))
      ≡ cond test (class_of new) (class_of (find (has_group_key q) marks))) [
        | true ↦ λ is. ap class_of (here q new same_new is)
        | false ↦ λ other. ap class_of (find_other key marks list.rises (has_group_key q) old new found
            (apart q old same_old other) (apart q new same_new other))
      ] refl

module _ {marks : List Mark} {entries : List (ObjectKey × Mark)} {keys : List (GroupKey × Class)}
    {counts : List (ℕ × ℕ)} (is : AreStored marks entries keys counts) where
  abbrev list : IsMarkList marks
  list = is.whole.list

  -- a new mark is in neither index
  pub stored_absent : (mark : Mark) → IsStorable marks mark → find (has_object_key
      (object_key mark)) marks ≡ None
      → lookup (is_at (group_cmp (group_key mark))) keys ≡ None
  stored_absent mark fits absent =
      let key = object_key mark in
      let index = index-replaced key marks mark refl list fits.agrees
      (group_key mark) None None absent tt tt in
      let here = group_itself (group_key mark) in
      is.indexed (group_key mark)
      ∙ ap (λ all. class_of (find (has_group_key (group_key mark)) all))
      (split_at key marks None list.rises absent)
      ∙ index ∙ ap (λ test. cond test None (class_of (find (has_group_key (group_key mark)) marks))) here

  -- it comes to both
  pub stored_inserted : {entries' : List (ObjectKey × Mark)} {keys' : List (GroupKey × Class)}
      {counts' : List (ℕ × ℕ)} (mark : Mark) → IsStorable marks mark
      → find (has_object_key (object_key mark)) marks ≡ None → length entries < max_stored
      → entries' ≡ insert_entry object_cmp entries (object_key mark) mark
      → ((q : GroupKey) → lookup (is_at (group_cmp q)) keys'
      ≡ cond (is_at (group_cmp q) (group_key mark)) (Some mark.class) (lookup (is_at (group_cmp q)) keys))
      → ((group : ℕ) → number_at counts' group ≡ number_at counts group + cond (mark.group == group) 1 0)
      → AreStored (replaced marks (object_key mark) (Some mark)) entries' keys' counts'
  stored_inserted mark fits absent few came index count =
      let key = object_key mark in
      let long : length (values_of entries) ≡ length marks = ap length (stored_marks is) in
      record {
        whole = record {
          list = IsMarkList-replaced key marks (Some mark) list (fits, refl);
          few = omega (
            arith,
            length-replaced key marks list.rises None (Some mark) absent,
            length-values_of entries,
            long,
          );
        };
        entries = came ∙ ap (λ all. insert_entry object_cmp all key mark) is.entries
            ∙ insert_is key marks list.rises mark absent refl;
        indexed = λ q. index q ∙ ap (cond (is_at (group_cmp q) (group_key mark)) (Some mark.class))
            (is.indexed q)
            ∙ sym (index-replaced key marks mark refl list fits.agrees q None (Some mark) absent tt refl);
        counted = λ group. let p : Mark → Bool = λ other. other.group == group in
            omega (
              arith,
              count group,
              is.counted group,
              count-replaced key marks list.rises p None
                  (Some mark) absent,
            );
      }

  updated_by : {entries' : List (ObjectKey × Mark)} (mark old : Mark) → IsStorable marks mark
      → find (has_object_key (object_key mark)) marks ≡ Some old → group_key old ≡ group_key mark
      → entries' ≡ set_value (is_at (object_cmp (object_key mark))) entries mark
      → AreStored (replaced marks (object_key mark) (Some mark)) entries' keys counts
  updated_by mark old fits found same came =
      let key = object_key mark in
      let group_is : old.group ≡ mark.group = ap (λ (key : GroupKey). key.group) same in
      let class : old.class ≡ mark.class = All-find (has_object_key key)
      (λ other. other.group ≡ mark.group → other.class ≡ mark.class) marks old fits.agrees found group_is in
      let index = index-replaced key marks mark refl list fits.agrees in
      record {
        whole = record {
          list = IsMarkList-replaced key marks (Some mark) list (fits, refl);
          few = omega (
            arith,
            length-replaced key marks list.rises (Some old)
                (Some mark) found,
            is.whole.few,
          );
        };
        entries = came ∙ ap (λ all. set_value (is_at (object_cmp key)) all mark) is.entries
            ∙ set_is key marks list.rises old mark found (find_passes (has_object_key key) marks old found)
            (storable_at marks key old list found).1 refl;
        indexed = λ q. is.indexed q
            ∙ ap (λ all. class_of (find (has_group_key q) all)) (split_at key marks
            (Some old) list.rises found)
            ∙ index q (Some old) (Some old) found same same
            ∙ ap (λ class. cond (has_group_key q mark) (Some class) (class_of (find
            (has_group_key q) marks))) class
            ∙ sym (index q (Some old) (Some mark) found same refl);
        counted = λ group.
            let p : Mark → Bool = λ other. other.group == group in
            let weight : ℕ → ℕ = λ number. cond (number == group) 1 0 in
            omega (
              arith,
              ap weight group_is,
              is.counted group,
              count-replaced key marks list.rises p (Some old) (Some mark) found,
            );
      }

  -- another mark of its group takes the place of one
  pub stored_updated : {entries' : List (ObjectKey × Mark)} (mark : Mark) → IsStorable marks mark
      → IsSomeAnd (find (has_object_key (object_key mark)) marks) (λ old. group_key old ≡ group_key mark)
      → entries' ≡ set_value (is_at (object_cmp (object_key mark))) entries mark
      → AreStored (replaced marks (object_key mark) (Some mark)) entries' keys counts
  stored_updated {entries' = entries'} mark fits there came = by (find (has_object_key
      (object_key mark)) marks) refl there
    where
      by : (found : Option Mark) → find (has_object_key (object_key mark)) marks ≡ found
          → IsSomeAnd found (λ old. group_key old ≡ group_key mark)
          → AreStored (replaced marks (object_key mark) (Some mark)) entries' keys counts
      by None found is = absurd is
      by (Some old) found same = updated_by mark old fits found same came

  -- a mark is counted
  pub stored_counted : (key : ObjectKey) (old : Mark) → find (has_object_key key) marks ≡ Some old
      → 1 ≤ number_at counts old.group
  stored_counted key old found =
      let p : Mark → Bool = λ other. other.group == old.group in
      let here : (old.group == old.group) ≡ true = grind (arith, nat_tests) in
      let weight : Bool → ℕ = λ test. cond test 1 0 in
      omega (
        arith,
        ap weight here,
        is.counted old.group,
        count-replaced key marks list.rises p
            (Some old) None found,
      )

  -- and goes
  pub stored_removed : {entries' : List (ObjectKey × Mark)} {keys' : List (GroupKey × Class)}
      {counts' : List (ℕ × ℕ)} (key : ObjectKey) (old : Mark) → find (has_object_key key) marks ≡ Some old
      → entries' ≡ remove_entry (is_at (object_cmp key)) entries
      → ((q : GroupKey) → lookup (is_at (group_cmp q)) keys'
      ≡ cond (is_at (group_cmp q) (group_key old)) None (lookup (is_at (group_cmp q)) keys))
      → ((group : ℕ) → number_at counts' group + cond (old.group == group) 1 0 ≡ number_at counts group)
      → AreStored (replaced marks key None) entries' keys' counts'
  stored_removed key old found went index count =
      let own = storable_at marks key old list found in
      record {
        whole = record {
          list = IsMarkList-replaced key marks None list tt;
          few = omega (arith, length-replaced key marks list.rises (Some old) None found, is.whole.few);
        };
        entries = went ∙ ap (remove_entry (is_at (object_cmp key))) is.entries
            ∙ remove_is key marks list.rises old found (find_passes (has_object_key key) marks old found);
        indexed = λ q. index q ∙ ap (cond (is_at (group_cmp q) (group_key old)) None) (is.indexed q)
            ∙ sym (index-replaced key marks old (sym own.1) list own.0.agrees q
            (Some old) None found refl tt);
        counted = λ group. let p : Mark → Bool = λ other. other.group == group in
            omega (
              arith,
              count group,
              is.counted group,
              count-replaced key marks list.rises p
                  (Some old) None found,
            );
      }
