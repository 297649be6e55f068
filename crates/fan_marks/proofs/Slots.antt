-- What a Put finds at its key, and leaves there.
use Rattle.std.proofs.Common.{◌≡◌, ◌≢◌, ◌∙◌, ℕ, Bool, true, false, cond, List, [], ◌++◌, Option, Some, None, get_or, is_some, length, refl, ap, sym, subst, arith}
use Rattle.std.specs.Prelude.{All, IfSome, count_by, find, not, ◌&&◌}
use Rattle.std.specs.BTreeMap.{is_at}
use Rattle.std.specs.List.{Contains}
use Rattle.std.specs.Option.{option_eq}
use Rattle.std.proofs.lemmas.List.Elements.{All-cons, All-contains_itself, All-nil, Contains-append_left, Contains-append_right}
use Rattle.std.proofs.lemmas.List.Sums.{length-filter}
use Rattle.std.proofs.lemmas.Option.{IfSome_then}
use Rattle.fan_lists.proofs.Counts.{count_from_none}
use Rattle.fan_lists.proofs.Finds.{find_none, find_passes}
use Rattle.fan_lists.proofs.Pairs.{Contains-filter, Contains-first}
use Rattle.fan_bits.specs.declared.class.Class.{Class}
use Rattle.fan_bits.specs.declared.change.Change.{Change}
use Rattle.fan_bits.specs.declared.change.Change.TheVariants.{Put}
use Rattle.fan_bits.specs.declared.change.Changed.{Changed}
use Rattle.fan_bits.specs.declared.mark.Mark.{Mark}
use Rattle.fan_bits.specs.declared.mark_call.MarkWords.{MarkWords}
use Rattle.fan_bits.specs.Marks.{IsChange, IsMarkList, IsPut, Rises, changed, count_of, gone, is_before, is_behind, listed, mark_of, put_mark, retired, same_mark, stands, updated}
use Rattle.fan_bits.specs.Refusals.{refusal_of}
use Rattle.fan_bits.proofs.Updates.{IsOf, mark_of_is, put_mark_is, put_mark_keeps}
use Rattle.fan_marks.specs.declared.keys.ObjectKey.{ObjectKey}
use Rattle.fan_marks.specs.declared.put.Slot.{Slot}
use Rattle.fan_marks.specs.Keys.{before, behind, group_key, has_object_key, key_at, object_cmp, object_key, replaced}
use Rattle.fan_marks.specs.Slot.{IsFillable, refusal_at, slot_of}
use Rattle.fan_marks.specs.Stored.{IsStorable}
use Rattle.fan_marks.specs.Summary.{IsMade, is_other, summary_at}
use Rattle.fan_marks.proofs.MarkLists.{All-beside}
use Rattle.fan_marks.proofs.MarksOf.{mark_at}
use Rattle.fan_marks.proofs.Orders.{object_itself, same_group_key}
use Rattle.fan_marks.proofs.Replaced.{count-replaced, find_here, sides, split_at}
use Rattle.fan_marks.proofs.Summaries.{gone_is, same_mark_exact, same_mark_itself}

-- the refusal of a Put is that by its slot
pub refusal_is : (marks : List Mark) (group : ℕ) (class : Class) (words : MarkWords) (object : ℕ)
    (unlimited : Bool)
    → refusal_of marks (Put group class words object) unlimited
    ≡ refusal_at (mark_of marks group object) (put_mark (mark_of marks group object) group class words object)
    words.verb (count_of marks group) unlimited
refusal_is marks group class words object unlimited = by (mark_of marks group object) refl
  where
    by : (old : Option Mark) → mark_of marks group object ≡ old
        → refusal_of marks (Put group class words object) unlimited
        ≡ refusal_at (mark_of marks group object) (put_mark
        (mark_of marks group object) group class words object)
        words.verb (count_of marks group) unlimited
    by None is = rw is refl
    by (Some mark) is = rw is refl

same_slot : (k l : ObjectKey) (o p n m : Option Mark) → k ≡ l → o ≡ p → n ≡ m
    → ◌≡◌ {A = Slot} (record { key = k; old = o; new = n }) (record { key = l; old = p; new = m })
same_slot k l o p n m key old new = cc

module _ (marks : List Mark) (group : ℕ) (class : Class) (words : MarkWords) (object : ℕ)
    (list : IsMarkList marks)
    (is : IsPut marks group class words object) where
  abbrev old : Option Mark
  old = mark_of marks group object

  -- the mark that a Put leaves can be stored at its key
  storable : (mark : Mark) → IsOf group class object mark × (stands mark ≡ true)
      → IsStorable marks mark × (object_key mark ≡ key_at object class group)
  storable mark of = (
    record {
      is = record {
        group = rw of.0.of_group is.numbered;
        object = rw of.0.on_object is.placed;
        mask = of.0.bits.mask;
        ignored = of.0.bits.ignored;
        whole = of.1;
      };
      agrees = λ k d within same. is.classes k d within (same ∙ of.0.of_group) ∙ sym of.0.of_class;
    },
    ap (λ object. key_at object mark.class mark.group) of.0.on_object
        ∙ ap (λ class. key_at object class mark.group) of.0.of_class
        ∙ ap (λ group. key_at object class group) of.0.of_group,
  )

  same_place : (old : Option Mark) → IfSome old (λ old. IfSome (put_mark (Some old) group class words object)
      (λ new. group_key old ≡ group_key new))
  same_place None = tt
  same_place (Some old) =
      IfSome_then (put_mark (Some old) group class words object)
      (put_mark_keeps (Some old) group class words object)
      (λ new keeps. same_group_key old.group new.group old.object new.object old.kind new.kind
      (sym keeps.group) (sym keeps.kind) (sym keeps.object))

  -- what a Put leaves can take the place of what it finds
  pub slot_fillable : IsFillable marks (slot_of marks group class words object)
  slot_fillable = record {
    found = sym (mark_at marks group class object list.each is.classes is.numbered.1);
    fits = IfSome_then (put_mark old group class words object)
        (put_mark_is old group class words object is.mask
        (mark_of_is marks group class object list.each is.classes)) storable;
    same = by old;
  }
    where
      by : (old : Option Mark) → IfSome old (λ one. IfSome (put_mark old group class words object)
          (λ new. group_key one ≡ group_key new))
      by None = tt
      by (Some old) = same_place (Some old)

-- what was found and made is the slot
pub slot_is : (marks : List Mark) (group : ℕ) (class : Class) (words : MarkWords) (object : ℕ)
    → IsMarkList marks
    → IsPut marks group class words object → (key : ObjectKey) (old new : Option Mark)
    → key ≡ key_at object class group → old ≡ find (has_object_key key) marks
    → new ≡ updated old (Put group class words object)
    → ◌≡◌ {A = Slot} (record { key = key; old = old; new = new }) (slot_of marks group class words object)
unfolding updated
slot_is marks group class words object list is key old new own found made =
    let was : old ≡ mark_of marks group object = found
    ∙ ap (λ (key : ObjectKey). find (has_object_key key) marks) own
    ∙ mark_at marks group class object list.each is.classes is.numbered.1 in
    let now : new ≡ put_mark (mark_of marks group object) group class words object =
    made ∙ ap (λ old. put_mark old group class words object) was in
    same_slot key (key_at object class group) old (mark_of marks group object) new
    (put_mark (mark_of marks group object) group class words object) own was now

same_itself : (some : Option Mark) → option_eq same_mark some some ≡ true
same_itself None = refl
same_itself (Some mark) = same_mark_itself mark

same_exact : (old new : Option Mark) → option_eq same_mark old new ≡ true → old ≡ new
same_exact None None is = refl
same_exact None (Some new) is = absurd cc
same_exact (Some old) None is = absurd cc
same_exact (Some old) (Some new) is = ap (λ mark. Some mark) (same_mark_exact old new is)

module _ (key : ObjectKey) (marks : List Mark) (list : IsMarkList marks) (old new : Option Mark)
    (found : find (has_object_key key) marks ≡ old) (own : IfSome new (λ mark. object_key mark ≡ key)) where
  abbrev after : List Mark
  after = replaced marks key new

  -- a mark at the key that is another one now
  abbrev retires : Mark → Bool
  retires mark = has_object_key key mark && not (option_eq same_mark (Some mark) new)

  has_key : (mark : Mark) → object_key mark ≡ key → has_object_key key mark ≡ true
  has_key mark is = ap (λ (key : ObjectKey). is_at (object_cmp key) (object_key mark)) (sym is)
      ∙ object_itself mark

  here : (new : Option Mark) → IfSome new (λ mark. object_key mark ≡ key)
      → find (has_object_key key) (listed new) ≡ new
  here None own = refl
  here (Some mark) own = let is = has_key mark own in rw is refl

  -- the key has the new mark then
  found_after : find (has_object_key key) after ≡ new
  found_after = find_here key marks list.rises (has_object_key key) new (λ k d within is. is) ∙ here new own

  no_new : (some : Option Mark)
      → All (λ mark. (has_object_key key mark && not (option_eq same_mark (Some mark) some))
      ≡ false) (listed some)
  no_new None = All-nil (λ mark. (has_object_key key mark && true) ≡ false)
  no_new (Some one) =
      let P : Mark → Type 0 = λ mark. (has_object_key key mark && not (same_mark mark one)) ≡ false in
      All-cons P one [] (grind (arith, same_mark_itself one)) (All-nil P)

  none_retires : All (λ mark. retires mark ≡ false) after
  none_retires = All-beside key marks (λ mark. retires mark ≡ false) new
      (λ k d within apart. grind (arith, apart)) (no_new new)

  stays : (mark : Mark) → Contains marks mark → retires mark ≡ false → Contains after mark
  stays mark there keeps = by (has_object_key key mark) refl
    where
      front : Mark → Bool
      front = is_before key.object key.order.0

      back : Mark → Bool
      back = is_behind key.object key.order.0

      first : front mark ≡ true → Contains after mark
      first is = Contains-append_left (before key marks ++ listed new) (behind key marks) mark
          (Contains-append_left (before key marks) (listed new) mark
          (Contains-filter front mark marks there is))

      last : back mark ≡ true → Contains after mark
      last is = Contains-append_right (before key marks ++ listed new) (behind key marks) mark
          (Contains-filter back mark marks there is)

      by : (b : Bool) → has_object_key key mark ≡ b → Contains after mark
      by true here =
          let same : option_eq same_mark (Some mark) new ≡ true = grind (arith, here, keeps) in
          Contains-append_left (before key marks ++ listed new) (behind key marks) mark
          (Contains-append_right (before key marks) (listed new) mark
          (subst (λ some. Contains (listed some) mark) (same_exact (Some mark) new same)
          (Contains-first mark [])))
      by false apart = by_side (front mark) refl
        where
          by_side : (b : Bool) → front mark ≡ b → Contains after mark
          by_side true is = first is
          by_side false is = last (grind (arith, is, sides key mark apart))

  count_old : (some : Option Mark) → find (has_object_key key) marks ≡ some
      → count_by retires (listed some) ≡ cond (is_some some && is_other some new) 1 0
  count_old None none = refl
  count_old (Some one) there =
      let is = find_passes (has_object_key key) marks one there in rw is (omega arith)

  -- the summary of the change
  pub put_made : (change : Change) → changed marks change ≡ after
      → IsMade marks after change (summary_at old new)
  unfolding retired
  put_made change made = record {
    made = sym made;
    differs = (
      λ other is.
          let same : old ≡ new = sym found ∙ ap (find (has_object_key key)) (sym is ∙ made) ∙ found_after in
          let itself = ap (option_eq same_mark old) (sym same) ∙ same_itself old in
          absurd (grind (arith, other, itself)),
      λ differs. by (option_eq same_mark old new) refl differs,
    );
    gone =
        let none = count_from_none retires after (find_none retires after none_retires) in
        let none_new = count_from_none retires (listed new) (find_none retires (listed new) (no_new new)) in
        let counts : (summary_at old new).retired ≡ count_by retires marks =
        omega (
          arith,
          none,
          none_new,
          count_old old found,
          count-replaced key marks list.rises retires old new found,
        ) in
        counts ∙ sym (length-filter retires marks)
        ∙ ap length (sym (ap (gone marks) made ∙ gone_is retires marks after none_retires
        (λ k d within keeps. stays (get_or marks k d) (All-contains_itself marks k d within) keeps)));
  }
    where
      by : (b : Bool) → option_eq same_mark old new ≡ b → changed marks change ≢ marks
          → is_other old new ≡ true
      by false other differs = ap not other
      by true is differs =
          absurd (differs (made ∙ ap (replaced marks key) (sym (same_exact old new is))
          ∙ sym (split_at key marks old list.rises found)))

module _ (marks : List Mark) (slot : Slot) (is : IsFillable marks slot) where
  -- nothing in place of nothing
  pub left_empty : Rises marks → slot.old ≡ None → slot.new ≡ None → marks ≡ replaced marks slot.key slot.new
  left_empty rises old new =
      split_at slot.key marks None rises (sym is.found ∙ old) ∙ ap (replaced marks slot.key) (sym new)

  -- a mark is put in at its own key
  pub filled : (mark : Mark) → slot.new ≡ Some mark
      → replaced marks (object_key mark) (Some mark) ≡ replaced marks slot.key slot.new
  filled mark new =
      let fits = rw new at is.fits in
      ap (λ (key : ObjectKey). replaced marks key (Some mark)) fits.1 ∙ ap (replaced marks slot.key) (sym new)

-- a Put as a change of a list
module _ (marks : List Mark) (change : Change) (group : ℕ) (class : Class) (words : MarkWords) (object : ℕ)
    (put : change ≡ Put group class words object) (is : IsChange marks change) (list : IsMarkList marks)
    (slot : Slot)
    (slot_was : slot ≡ slot_of marks group class words object) where
  abbrev its : IsPut marks group class words object
  its = subst (IsChange marks) put is

  -- its slot can be filled
  pub put_fillable : IsFillable marks slot
  put_fillable =
      subst (IsFillable marks) (sym slot_was) (slot_fillable marks group class words object list its)

  -- and then the change is made
  pub change_made : (new : List Mark) (done : Changed) → new ≡ replaced marks slot.key slot.new
      → done ≡ summary_at slot.old slot.new → IsMade marks new change done
  unfolding changed
  change_made new done made summary =
      let fits = put_fillable in
      let own = IfSome_then slot.new fits.fits (λ mark is. is.1) in
      let all : changed marks change ≡ replaced marks slot.key slot.new =
      ap (changed marks) put ∙ ap (λ (slot : Slot). replaced marks slot.key slot.new) (sym slot_was) in
      rw (made, summary) (put_made slot.key marks list slot.old slot.new (sym fits.found) own change all)
