-- A file that is written to: its marks are emptied one after another.
use Rattle.std.proofs.Common.{◌≡◌, ◌∙◌, ℕ, ◌+◌, ◌<◌, ◌≤◌, Bool, true, false, cond, List, [], ◌∷◌, ◌++◌, Option, Some, None, get_or, map, refl, ap, sym, subst, arith}
use Rattle.std.specs.Prelude.{All, count_by, filter, find, nat_lt, not, ◌==◌, ◌&&◌}
use Rattle.std.specs.BTreeMap.{is_at}
use Rattle.std.specs.List.{Contains}
use Rattle.std.proofs.lemmas.Bool.Decides.{nat_tests}
use Rattle.std.proofs.lemmas.List.{map-append}
use Rattle.std.proofs.lemmas.List.Elements.{All-contains_itself, All-cons, All-nil, All-weaker, filter-append}
use Rattle.std.proofs.lemmas.List.Folds.{map_fixed}
use Rattle.fan_lists.proofs.Counts.{count_from_none, none_from_count}
use Rattle.fan_lists.proofs.Filters.{filter_all}
use Rattle.fan_lists.proofs.Finds.{All-find, find_none}
use Rattle.fan_lists.proofs.Pairs.{Contains-filter, Contains-map}
use Rattle.fan_bits.specs.declared.change.Change.TheVariants.{Clear}
use Rattle.fan_bits.specs.declared.mark.Mark.{Mark}
use Rattle.fan_bits.specs.Marks.{IsMark, IsMarkList, Rises, changed, cleared, listed, next_on, order_of, standing, stands}
use Rattle.fan_marks.specs.declared.keys.ObjectKey.{ObjectKey}
use Rattle.fan_marks.specs.Keys.{before, behind, between, has_object_key, object_cmp, object_key, replaced}
use Rattle.fan_marks.specs.Selected.{forgets}
use Rattle.fan_marks.specs.Stored.{IsStorable}
use Rattle.fan_marks.specs.Summary.{IsMade, summary_of}
use Rattle.fan_marks.proofs.Found.{IsNext, none_next, none_passes}
use Rattle.fan_marks.proofs.MarkLists.{All-beside}
use Rattle.fan_marks.proofs.Orders.{object_itself, object_same}
use Rattle.fan_marks.proofs.Replaced.{count-replaced, split_at}
use Rattle.fan_marks.proofs.StoredLemmas.{storable_at}
use Rattle.fan_marks.proofs.Summaries.{is_made}

-- a mark without its ignored set
abbrev pub emptied : Mark → Mark
emptied mark = record mark { ignored = 0 }

emptied_is : (mark : Mark) → mark.ignored ≡ 0 → emptied mark ≡ mark
emptied_is mark none = rw none refl

module _ (object : ℕ) where
  -- a mark that forgets nothing stays as it is
  pub cleared_kept : (mark : Mark) → forgets object mark ≡ false → cleared object mark ≡ mark
  cleared_kept mark keeps = by (mark.object == object && not mark.survives) refl
    where
      by : (b : Bool) → (mark.object == object && not mark.survives) ≡ b → cond b (emptied mark) mark ≡ mark
      by true here = emptied_is mark (grind (arith, nat_tests, here, keeps))
      by false other = refl

  -- and one that is cleared forgets nothing any more
  cleared_forgets : (mark : Mark) → forgets object (cleared object mark) ≡ false
  cleared_forgets mark = by (mark.object == object && not mark.survives) refl
    where
      by : (b : Bool) → (mark.object == object && not mark.survives) ≡ b
          → forgets object (cond b (emptied mark) mark) ≡ false
      by true here = grind (arith, nat_tests)
      by false other = rw other refl

  -- the marks after the file was written to
  abbrev pub after_write : List Mark → List Mark
  after_write marks = filter stands (map (cleared object) marks)

  write-between : (front : List Mark) (here : Option Mark) (back : List Mark)
      → after_write (between front here back) ≡ after_write front ++ after_write
      (listed here) ++ after_write back
  write-between front here back =
      let clear : List Mark → List Mark = map (cleared object) in
      ap (filter stands) (map-append (cleared object) (front ++ listed here) back
      ∙ ap (λ first. first ++ clear back) (map-append (cleared object) front (listed here)))
      ∙ filter-append stands (clear front ++ clear (listed here)) (clear back)
      ∙ ap (λ first. first ++ filter stands (clear back)) (filter-append stands (clear front) (clear
      (listed here)))

  -- what is left of a mark is left of it as well when it is cleared before
  write_twice : (mark : Mark) → after_write (listed (standing (cleared object mark))) ≡ after_write
      (mark ∷ [])
  write_twice mark = by (stands (cleared object mark)) refl
    where
      by : (b : Bool) → stands (cleared object mark) ≡ b
          → after_write (listed (cond b (Some (cleared object mark)) None))
          ≡ cond b (cleared object mark ∷ []) []
      by true is =
          let again = cleared_kept (cleared object mark) (cleared_forgets mark) in
          ap (λ (one : Mark). cond (stands one) (one ∷ []) []) again
          ∙ ap (λ test. cond test (cleared object mark ∷ []) []) is
      by false is = refl

  nothing_left : (mark : Mark) → All (λ one. forgets object one ≡ false) (listed (standing
      (cleared object mark)))
  nothing_left mark = by (stands (cleared object mark))
    where
      P : Mark → Type 0
      P one = forgets object one ≡ false

      by : (b : Bool) → All P (listed (cond b (Some (cleared object mark)) None))
      by true = All-cons P (cleared object mark) [] (cleared_forgets mark) (All-nil P)
      by false = All-nil P

-- a mark that forgets nothing stands where it stood
pub unchanged : (marks : List Mark) (mark : Mark) → IsMarkList marks
    → find (has_object_key (object_key mark)) marks ≡ Some mark → forgets mark.object mark ≡ false
    → marks ≡ replaced marks (object_key mark) (standing (cleared mark.object mark))
unchanged marks mark list found keeps =
    let key = object_key mark in
    let is = All-find (has_object_key key) IsMark marks mark list.each found in
    let same = ap standing (cleared_kept mark.object mark keeps)
    ∙ ap (λ test. cond test (Some mark) None) is.whole in
    split_at key marks (Some mark) list.rises found ∙ ap (replaced marks key) (sym same)

-- a mark without its ignored set can take its place, if it stands
pub storable_emptied : (marks : List Mark) (mark : Mark) → IsMarkList marks
    → find (has_object_key (object_key mark)) marks ≡ Some mark → stands (emptied mark) ≡ true
    → IsStorable marks (emptied mark)
storable_emptied marks mark list found whole =
    let fits = (storable_at marks (object_key mark) mark list found).0 in
    record {
      is = record {
        group = fits.is.group;
        object = fits.is.object;
        mask = fits.is.mask;
        ignored = omega arith;
        whole = whole;
      };
      agrees = fits.agrees;
    }

-- a mark on an object up to an order forgets nothing any more
abbrev pub IsDone : ℕ → ℕ → Mark → Type 0
IsDone object after mark = mark.object ≡ object → order_of mark ≤ after → forgets object mark ≡ false

module _ (object after : ℕ) (marks : List Mark) (rises : Rises marks) (mark : Mark)
    (next : IsNext marks object after mark) where
  abbrev key : ObjectKey
  key = object_key mark

  abbrev left : Option Mark
  left = standing (cleared object mark)

  -- clearing one mark changes nothing of what is made of all
  pub write_one : filter stands (map (cleared object) (replaced marks key left)) ≡ after_write object marks
  write_one =
      write-between object (before key marks) left (behind key marks)
      ∙ ap (λ here. after_write object (before key marks) ++ here ++ after_write object (behind key marks))
      (write_twice object mark)
      ∙ sym (write-between object (before key marks) (Some mark) (behind key marks))
      ∙ sym (ap (after_write object) (split_at key marks (Some mark) rises next.keyed))

  -- there is one ignored set less, if it had one to lose
  pub count_one : count_by (forgets object) (replaced marks key left) + cond (forgets object mark) 1 0
      ≡ count_by (forgets object) marks
  count_one =
      let none = count_from_none (forgets object) (listed left)
      (find_none (forgets object) (listed left) (nothing_left object mark)) in
      omega (arith, none, count-replaced key marks rises (forgets object) (Some mark) left next.keyed)

  -- and the marks up to it are done
  pub done_one : All (IsDone object after) marks → All (IsDone object (order_of mark))
      (replaced marks key left)
  done_one done =
      All-beside key marks (IsDone object (order_of mark)) left
      (λ k d within apart here upto. other (get_or marks k d) apart here upto (done k d within here)
      (next.first k d within here))
      (All-weaker (λ one. forgets object one ≡ false) (IsDone object (order_of mark)) (λ one is here upto. is)
      (listed left) (nothing_left object mark))
    where
      other : (one : Mark) → has_object_key key one ≡ false → one.object ≡ object
          → order_of one ≤ order_of mark
          → (order_of one ≤ after → forgets object one ≡ false)
          → (after < order_of one → order_of mark ≤ order_of one) → forgets object one ≡ false
      other one apart here upto done first = by (nat_lt after (order_of one)) refl
        where
          by : (b : Bool) → nat_lt after (order_of one) ≡ b → forgets object one ≡ false
          by false most = done (grind (arith, nat_tests, most))
          by true more =
              let later : after < order_of one = grind (arith, nat_tests, more) in
              let order : order_of one ≡ order_of mark = omega (arith, first later, upto) in
              let same = object_same one mark (here ∙ sym next.here) order in
              absurd (let both = sym apart ∙ ap (λ (one : ObjectKey). is_at (object_cmp key) one) same
              ∙ object_itself mark in cc)

-- no mark of a list has the order 0
pub done_start : (object : ℕ) (marks : List Mark) → All IsMark marks → All (IsDone object 0) marks
done_start object marks each =
    All-weaker IsMark (IsDone object 0) (λ mark is here upto. none mark is upto) marks each
  where
    none : (mark : Mark) → IsMark mark → order_of mark ≤ 0 → forgets object mark ≡ false
    none mark is upto = let group = is.group.0 in absurd (omega arith)

-- where no mark is left behind the last, none has anything to forget
done_end : (object after : ℕ) (marks : List Mark) → next_on marks object after ≡ None
    → All (IsDone object after) marks → All (λ mark. forgets object mark ≡ false) marks
done_end object after marks none done k d within =
    one (get_or marks k d) (done k d within) (none_next object after marks none k d within)
  where
    one : (mark : Mark) → IsDone object after mark → (mark.object ≡ object → order_of mark ≤ after)
        → forgets object mark ≡ false
    one mark is upto = by (mark.object == object) refl
      where
        by : (b : Bool) → (mark.object == object) ≡ b → forgets object mark ≡ false
        by false other = grind (arith, other)
        by true here = let same : mark.object ≡ object = grind (arith, nat_tests, here) in is same (upto same)

-- marks of which none has anything to forget stay as they are
stays : (object : ℕ) (marks : List Mark) → All IsMark marks → All (λ mark. forgets object mark ≡ false) marks
    → after_write object marks ≡ marks
stays object marks each keeps =
    ap (filter stands) (map_fixed (cleared object) marks
    (All-weaker (λ mark. forgets object mark ≡ false) (λ mark. cleared object mark
    ≡ mark) (cleared_kept object)
    marks keeps))
    ∙ filter_all stands marks (All-weaker IsMark (λ mark. stands mark
    ≡ true) (λ mark is. is.whole) marks each)

-- the summary of a write
pub clear_made : (object after : ℕ) (old new : List Mark) (count : ℕ) → All IsMark old → All IsMark new
    → next_on new object after ≡ None → All (IsDone object after) new
    → after_write object new ≡ after_write object old
    → count + count_by (forgets object) new ≡ count_by (forgets object) old
    → IsMade old new (Clear object) (summary_of count)
unfolding changed
clear_made object after old new count each each_new none done made counts =
    let keeps = done_end object after new none done in
    let is : new ≡ after_write object old = sym (stays object new each_new keeps) ∙ made in
    let zero = count_from_none (forgets object) new (find_none (forgets object) new keeps) in
    is_made (forgets object) old new keeps
    (λ k d within fails. let mark = get_or old k d in
    let same = cleared_kept object mark fails in
    subst (λ marks. Contains marks mark) (sym is)
    (Contains-filter stands mark (map (cleared object) old)
    (subst (Contains (map (cleared object) old)) same
    (Contains-map (cleared object) mark old (All-contains_itself old k d within)))
    (each k d within).whole))
    (Clear object) count is (omega (arith, counts, zero))
    (λ zero. is ∙ stays object old each
    (none_passes (forgets object) old (none_from_count (forgets object) old zero)))
