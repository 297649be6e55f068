-- The parts of entries in order: before a new key and behind it, and from a start on.
use Rattle.std.proofs.Common.{◌≡◌, Bool, true, false, not, ◌&&◌, List, [], ◌∷◌, ◌++◌, Option, Some, None, refl, ap, ◌∙◌, sym, arith}
use Rattle.std.proofs.lemmas.List.Elements.{filter-append, filter_agree}
use Rattle.std.proofs.lemmas.Map.Keys.{sorted_head, sorted_tail}
use Rattle.std.specs.BTreeMap.{insert_entry}
use Rattle.std.specs.BTreeMap.Range.{entries_between, is_from_start}
use Rattle.std.specs.Cmp.{IsTotalOrder}
use Rattle.std.specs.List.{AllByRecursion, filter, find}
use Rattle.std.specs.List.Sorted.{IsStrictlySortedBy}
use Rattle.std.specs.Map.{keys_of}
use Rattle.std.specs.Map.Iter.{TakesFirst}
use Rattle.std.specs.Option.{option_map}
use Rattle.std.specs.Ordering.{is_gt, is_le, is_lt}
use Rattle.std.specs.declared.cmp.Ordering.{Ordering}
use Rattle.std.specs.declared.cmp.Ordering.TheVariants.{Less, Equal, Greater}
use Rattle.std.specs.declared.ops.Bound.{Bound}
use Rattle.std.specs.declared.ops.Bound.TheVariants.{Included, Excluded, Unbounded}
use Rattle.fan_lists.proofs.Filters.{filter-filter}
use Rattle.fan_lists.proofs.Finds.{find_from_filter, none_from_filter}
use Rattle.fan_map.proofs.Insertions.{IsNew}
use Rattle.fan_map.specs.Joined.{first_of_two, if_passes}

-- what an iterator over the elements that pass gives first is the first of them
pub takes_found : {A X : Type 0} (shows : A → X) (p : X → Bool) (xs s : List X) (r : Option A) (t : List X)
    → s ≡ filter p xs → TakesFirst shows s r t → option_map shows r ≡ find p xs
takes_found shows p xs s None t is takes = sym (none_from_filter p xs (sym is ∙ takes.0))
takes_found shows p xs s (Some x) t is takes = sym (find_from_filter p (shows x) xs t (sym is ∙ takes))

and_true : (a : Bool) → (a && true) ≡ a
and_true a = grind arith

not_le : (r : Ordering) → not (is_le r) ≡ is_gt r
not_le Less = refl
not_le Equal = refl
not_le Greater = refl

module _ {K : Type 0} (R : K → K → Ordering) (o : IsTotalOrder R) where
  -- what is behind a key within a start is within it too
  from_upward : (start : Bound K) (k q : K) → is_from_start R start k ≡ true → R k q ≡ Less
      → is_from_start R start q ≡ true
  from_upward (Included a) k q from below = by (R a k) refl
    where
      by : (r : Ordering) → R a k ≡ r → is_le (R a q) ≡ true
      by Less i = grind (arith, i, o.trans a k q i below)
      by Equal i = grind (arith, i, o.congr a k q i, below)
      by Greater i = grind (arith, i, from)
  from_upward (Excluded a) k q from below = by (R a k) refl
    where
      by : (r : Ordering) → R a k ≡ r → is_lt (R a q) ≡ true
      by Less i = grind (arith, i, o.trans a k q i below)
      by Equal i = grind (arith, i, from)
      by Greater i = grind (arith, i, from)
  from_upward Unbounded k q from below = refl

module _ {K X : Type 0} (R : K → K → Ordering) (o : IsTotalOrder R) where
  -- a range with no end
  pub between_open : (start : Bound K) (es : List (K × X))
      → entries_between R start Unbounded es ≡ filter (λ e. is_from_start R start e.0) es
  between_open start es = filter_agree _ _ (λ e. and_true (is_from_start R start e.0)) es

  module _ (k : K) (v : X) where
    above_all : (es : List (K × X)) → AllByRecursion (λ y. R k y ≡ Less) (keys_of es)
        → (filter (λ e. is_gt (R k e.0)) es ≡ []) × (filter (λ e. is_lt (R k e.0)) es ≡ es)
    above_all [] above = (refl, refl)
    above_all (e ∷ es) above =
        let rest = above_all es above.1 in
        (rw above.0 rest.0, rw above.0 (ap (λ zs. e ∷ zs) rest.1))

    behind : (e : K × X) (es : List (K × X)) → R k e.0 ≡ Less
        → AllByRecursion (λ y. R e.0 y ≡ Less) (keys_of es) → AllByRecursion (λ y. R k y ≡ Less) (keys_of es)
    behind e [] below above = tt
    behind e (f ∷ es) below above = (o.trans k e.0 f.0 below above.0, behind e es below above.1)

    -- an entry with a new key stands between those before it and those behind it
    pub insert_between : (es : List (K × X)) → IsNew R o k v es → IsStrictlySortedBy R (keys_of es)
        → insert_entry R es k v
        ≡ filter (λ e. is_gt (R k e.0)) es ++ (k, v) ∷ filter (λ e. is_lt (R k e.0)) es
    insert_between [] new sorted = refl
    insert_between (e ∷ es) new sorted =
        by (R k e.0) refl (insert_between es) (sorted_head R e.0 (keys_of es) sorted)
        (sorted_tail R e.0 (keys_of es) sorted)
      where
        by : (r : Ordering) → R k e.0 ≡ r
            → (IsNew R o k v es → IsStrictlySortedBy R (keys_of es) → insert_entry R es k v
            ≡ filter (λ e. is_gt (R k e.0)) es ++ (k, v) ∷ filter (λ e. is_lt (R k e.0)) es)
            → AllByRecursion (λ y. R e.0 y ≡ Less) (keys_of es) → IsStrictlySortedBy R (keys_of es)
            → insert_entry R (e ∷ es) k v
            ≡ filter (λ e. is_gt (R k e.0)) (e ∷ es) ++ (k, v) ∷ filter (λ e. is_lt (R k e.0)) (e ∷ es)
        by Less i ih head tail =
            let parts = above_all es (behind e es i head) in
            rw (i, parts.0, parts.1) refl
        by Equal i ih head tail = grind (arith, i, new)
        by Greater i ih head tail = let rest : IsNew R o k v es = grind (arith, i, new) in
            rw i (ap (λ zs. e ∷ zs) (ih rest tail))

    -- a filter that loses it loses nothing else
    pub filter-insert_entry : (p : K × X → Bool) (es : List (K × X)) → IsNew R o k v es → p (k, v) ≡ false
        → filter p (insert_entry R es k v) ≡ filter p es
    filter-insert_entry p [] new fails = grind (arith, fails)
    filter-insert_entry p (e ∷ es) new fails = by (R k e.0) refl (filter-insert_entry p es)
      where
        by : (r : Ordering) → R k e.0 ≡ r
            → (IsNew R o k v es → p (k, v) ≡ false → filter p (insert_entry R es k v) ≡ filter p es)
            → filter p (insert_entry R (e ∷ es) k v) ≡ filter p (e ∷ es)
        by Less i ih = grind (arith, i, fails)
        by Equal i ih = grind (arith, i, new)
        by Greater i ih = grind (arith, i, new, fails, ih)

    first_front : (p : K × X → Bool) (es : List (K × X)) → AllByRecursion (λ y. R k y ≡ Less) (keys_of es)
        → first_of_two R (find p es) (Some (k, v)) ≡ Some (k, v)
    first_front p [] above = refl
    first_front p (e ∷ es) above = grind (arith, above.0, first_front p es above.1)

    first_alone : (found : Option (K × X)) → first_of_two R found None ≡ found
    first_alone None = refl
    first_alone (Some e) = refl

    -- the first entry that passes is the one that came, or the one before
    pub find-insert_entry : (p : K × X → Bool) (es : List (K × X)) → IsNew R o k v es
        → IsStrictlySortedBy R (keys_of es)
        → find p (insert_entry R es k v) ≡ first_of_two R (find p es) (if_passes p (Some (k, v)))
    find-insert_entry p [] new sorted = refl
    find-insert_entry p (e ∷ es) new sorted =
        by (R k e.0) refl (p (k, v)) refl (find-insert_entry p es) (sorted_head R e.0 (keys_of es) sorted)
        (sorted_tail R e.0 (keys_of es) sorted)
      where
        by : (r : Ordering) → R k e.0 ≡ r → (b : Bool) → p (k, v) ≡ b
            → (IsNew R o k v es → IsStrictlySortedBy R (keys_of es)
            → find p (insert_entry R es k v) ≡ first_of_two R (find p es) (if_passes p (Some (k, v))))
            → AllByRecursion (λ y. R e.0 y ≡ Less) (keys_of es) → IsStrictlySortedBy R (keys_of es)
            → find p (insert_entry R (e ∷ es) k v)
            ≡ first_of_two R (find p (e ∷ es)) (if_passes p (Some (k, v)))
        by Less i true j ih head tail =
            rw (i, j) (sym (first_front p (e ∷ es) (i, behind e es i head)))
        by Less i false j ih head tail = rw (i, j) (sym (first_alone (find p (e ∷ es))))
        by Equal i b j ih head tail = grind (arith, i, new)
        by Greater i b j ih head tail = grind (arith, i, j, new, ih, tail)

    -- from a start that the entry which came is within: what is before it, itself, and what is behind it
    pub filter_around : (start : Bound K) (es : List (K × X)) → IsNew R o k v es
        → IsStrictlySortedBy R (keys_of es) → is_from_start R start k ≡ true
        → filter (λ e. is_from_start R start e.0) (insert_entry R es k v)
        ≡ entries_between R start (Excluded k) es ++ (k, v) ∷ entries_between R (Excluded k) Unbounded es
    filter_around start es new sorted from =
        let p : K × X → Bool = λ e. is_from_start R start e.0 in
        let before : filter p (filter (λ e. is_gt (R k e.0)) es) ≡ entries_between R start (Excluded k) es =
        filter-filter p (λ e. is_gt (R k e.0)) es
        ∙ filter_agree _ _ (λ e. ap (λ b. p e && b) (sym (not_le (R k e.0)))) es in
        let after : filter p (filter (λ e. is_lt (R k e.0)) es)
        ≡ entries_between R (Excluded k) Unbounded es =
        filter-filter p (λ e. is_lt (R k e.0)) es
        ∙ filter_agree _ _ (λ e. within e.0 (R k e.0) refl) es in
        ap (filter p) (insert_between es new sorted)
        ∙ filter-append p (filter (λ e. is_gt (R k e.0)) es) ((k, v) ∷ filter (λ e. is_lt (R k e.0)) es)
        ∙ rw (from, before, after) refl
      where
        within : (q : K) (r : Ordering) → R k q ≡ r
            → (is_from_start R start q && is_lt (R k q)) ≡ (is_lt (R k q) && true)
        within q Less i = grind (arith, i, from_upward R o start k q from i)
        within q Equal i = grind (arith, i)
        within q Greater i = grind (arith, i)
