-- What std's words read in entries to which one with a new key came.
use Rattle.std.proofs.Common.{◌≡◌, ◌+◌, true, false, cond, ◌&&◌, List, [], ◌∷◌, Some, None, length, is_some, refl, ap, ◌∙◌, arith}
use Rattle.std.proofs.lemmas.Cmp.{eq_by_cmp_equiv}
use Rattle.std.proofs.lemmas.Map.{lookup-remove_entry}
use Rattle.std.proofs.lemmas.Map.Keys.{IsDistinct-from_sorted, sorted_head, sorted_tail}
use Rattle.std.specs.BTreeMap.{insert_entry, is_at}
use Rattle.std.specs.Cmp.{IsTotalOrder}
use Rattle.std.specs.List.{AllByRecursion}
use Rattle.std.specs.List.Sorted.{IsStrictlySortedBy}
use Rattle.std.specs.Map.{keys_of, lookup, remove_entry, set_value}
use Rattle.std.specs.Ordering.{is_eq}
use Rattle.std.specs.declared.cmp.Ordering.{Ordering}
use Rattle.std.specs.declared.cmp.Ordering.TheVariants.{Less, Equal, Greater}

module _ {K X : Type 0} (R : K → K → Ordering) (o : IsTotalOrder R) (k : K) (v : X) where
  -- no entry has the key k
  abbrev pub IsNew : List (K × X) → Type 0
  IsNew es = lookup (is_at (R k)) es ≡ None

  -- a look-up finds the entry that came, or what it found before
  pub lookup-insert_entry : (q : K) (es : List (K × X))
      → lookup (is_at (R q)) (insert_entry R es k v) ≡ cond (is_eq (R q k)) (Some v) (lookup (is_at (R q)) es)
  lookup-insert_entry q [] = refl
  lookup-insert_entry q (e ∷ es) = by (R k e.0) refl (R q e.0) refl (lookup-insert_entry q es)
    where
      by : (r : Ordering) → R k e.0 ≡ r → (s : Ordering) → R q e.0 ≡ s
          → lookup (is_at (R q)) (insert_entry R es k v)
          ≡ cond (is_eq (R q k)) (Some v) (lookup (is_at (R q)) es)
          → lookup (is_at (R q)) (insert_entry R (e ∷ es) k v)
          ≡ cond (is_eq (R q k)) (Some v) (lookup (is_at (R q)) (e ∷ es))
      by Less i s j ih = grind (arith, i)
      by Equal i s j ih = grind (arith, i, o.congr k e.0 q, o.antisymm q k, o.antisymm q e.0)
      by Greater i Equal j ih = grind (arith, i, j, o.congr q e.0 k j, o.antisymm e.0 k)
      by Greater i Less j ih = grind (arith, i, j, ih)
      by Greater i Greater j ih = grind (arith, i, j, ih)

  -- there is one entry more
  pub length-insert_entry : (es : List (K × X)) → IsNew es → length (insert_entry R es k v) ≡ length es + 1
  length-insert_entry [] new = refl
  length-insert_entry (e ∷ es) new = by (R k e.0) refl (length-insert_entry es)
    where
      by : (r : Ordering) → R k e.0 ≡ r → (IsNew es → length (insert_entry R es k v) ≡ length es + 1)
          → length (insert_entry R (e ∷ es) k v) ≡ length (e ∷ es) + 1
      by Less i ih = grind (arith, i)
      by Equal i ih = grind (arith, i, new)
      by Greater i ih = grind (arith, i, new, ih)

  -- a value put at another key leaves the entry that came, and at its key it takes its place
  pub set_value-insert_entry : (q : K) (w : X) (es : List (K × X)) → IsNew es
      → set_value (is_at (R q)) (insert_entry R es k v) w
      ≡ cond (is_eq (R q k)) (insert_entry R es k w) (insert_entry R (set_value (is_at (R q)) es w) k v)
  set_value-insert_entry q w [] new = grind arith
  set_value-insert_entry q w (e ∷ es) new = by (R k e.0) refl (R q e.0) refl (set_value-insert_entry q w es)
    where
      by : (r : Ordering) → R k e.0 ≡ r → (s : Ordering) → R q e.0 ≡ s
          → (IsNew es → set_value (is_at (R q)) (insert_entry R es k v) w
          ≡ cond (is_eq (R q k)) (insert_entry R es k w) (insert_entry R (set_value (is_at (R q)) es w) k v))
          → set_value (is_at (R q)) (insert_entry R (e ∷ es) k v) w
          ≡ cond (is_eq (R q k)) (insert_entry R (e ∷ es) k w)
          (insert_entry R (set_value (is_at (R q)) (e ∷ es) w) k v)
      by Less i s j ih = grind (arith, i, j)
      by Equal i s j ih = grind (arith, i, new)
      by Greater i Equal j ih = grind (arith, i, j, new, o.congr q e.0 k j, o.antisymm e.0 k)
      by Greater i Less j ih = grind (arith, i, j, new, ih)
      by Greater i Greater j ih = grind (arith, i, j, new, ih)

  -- the entry that came goes again
  pub remove_entry-insert_entry : (q : K) (es : List (K × X)) → IsNew es → is_eq (R q k) ≡ true
      → remove_entry (is_at (R q)) (insert_entry R es k v) ≡ es
  remove_entry-insert_entry q [] new same = grind (arith, same)
  remove_entry-insert_entry q (e ∷ es) new same =
      by (R k e.0) refl (R q e.0) refl (remove_entry-insert_entry q es)
    where
      by : (r : Ordering) → R k e.0 ≡ r → (s : Ordering) → R q e.0 ≡ s
          → (IsNew es → is_eq (R q k) ≡ true → remove_entry (is_at (R q)) (insert_entry R es k v) ≡ es)
          → remove_entry (is_at (R q)) (insert_entry R (e ∷ es) k v) ≡ e ∷ es
      by Less i s j ih = grind (arith, i, same)
      by Equal i s j ih = grind (arith, i, new)
      by Greater i Equal j ih = grind (arith, i, j, new, same, o.congr q e.0 k j, o.antisymm e.0 k)
      by Greater i Less j ih = grind (arith, i, j, new, same, ih)
      by Greater i Greater j ih = grind (arith, i, j, new, same, ih)

  -- the keys stay in order
  All-keys_above : (e : K × X) (es : List (K × X)) → R k e.0 ≡ Less
      → AllByRecursion (λ y. R e.0 y ≡ Less) (keys_of es) → AllByRecursion (λ y. R k y ≡ Less) (keys_of es)
  All-keys_above e [] below above = tt
  All-keys_above e (f ∷ es) below above =
      (o.trans k e.0 f.0 below above.0, All-keys_above e es below above.1)

  All-keys_insert : (q : K) (es : List (K × X)) → R q k ≡ Less
      → AllByRecursion (λ y. R q y ≡ Less) (keys_of es)
      → AllByRecursion (λ y. R q y ≡ Less) (keys_of (insert_entry R es k v))
  All-keys_insert q [] below above = (below, tt)
  All-keys_insert q (e ∷ es) below above = by (R k e.0) refl (All-keys_insert q es below above.1)
    where
      by : (r : Ordering) → R k e.0 ≡ r
          → AllByRecursion (λ y. R q y ≡ Less) (keys_of (insert_entry R es k v))
          → AllByRecursion (λ y. R q y ≡ Less) (keys_of (insert_entry R (e ∷ es) k v))
      by Less i ih = rw i (below, above)
      by Equal i ih = rw i above
      by Greater i ih = rw i (above.0, ih)

  pub sorted-insert_entry : (es : List (K × X)) → IsNew es → IsStrictlySortedBy R (keys_of es)
      → IsStrictlySortedBy R (keys_of (insert_entry R es k v))
  unfolding IsStrictlySortedBy
  sorted-insert_entry [] new sorted = (tt, tt)
  sorted-insert_entry (e ∷ es) new sorted = by (R k e.0) refl (sorted-insert_entry es)
    where
      by : (r : Ordering) → R k e.0 ≡ r
          → (IsNew es → IsStrictlySortedBy R (keys_of es)
          → IsStrictlySortedBy R (keys_of (insert_entry R es k v)))
          → IsStrictlySortedBy R (keys_of (insert_entry R (e ∷ es) k v))
      by Less i ih = rw i ((i, All-keys_above e es i sorted.0), sorted)
      by Equal i ih = let new' : IsNew (e ∷ es) = new in absurd (grind (arith, i, new'))
      by Greater i ih =
          let rest : IsNew es = grind (arith, i, new) in
          let below : R e.0 k ≡ Less = grind (arith, i, o.antisymm e.0 k) in
          rw i (All-keys_insert e.0 es below sorted.0, ih rest sorted.1)

  -- before all others, the entry comes to the front
  pub insert_front : (es : List (K × X)) → AllByRecursion (λ y. R k y ≡ Less) (keys_of es)
      → insert_entry R es k v ≡ (k, v) ∷ es
  insert_front [] above = refl
  insert_front (e ∷ es) above = grind (arith, above.0)

  -- where another entry goes, the one that came stays
  pub remove_entry-insert_other : (q : K) (es : List (K × X)) → IsNew es
      → IsStrictlySortedBy R (keys_of es) → is_eq (R q k) ≡ false
      → remove_entry (is_at (R q)) (insert_entry R es k v)
      ≡ insert_entry R (remove_entry (is_at (R q)) es) k v
  remove_entry-insert_other q [] new sorted other = grind (arith, other)
  remove_entry-insert_other q (e ∷ es) new sorted other =
      by (R k e.0) refl (R q e.0) refl
      (remove_entry-insert_other q es) (sorted_tail R e.0 (keys_of es) sorted)
    where
      by : (r : Ordering) → R k e.0 ≡ r → (s : Ordering) → R q e.0 ≡ s
          → (IsNew es → IsStrictlySortedBy R (keys_of es) → is_eq (R q k) ≡ false
          → remove_entry (is_at (R q)) (insert_entry R es k v)
          ≡ insert_entry R (remove_entry (is_at (R q)) es) k v)
          → IsStrictlySortedBy R (keys_of es)
          → remove_entry (is_at (R q)) (insert_entry R (e ∷ es) k v)
          ≡ insert_entry R (remove_entry (is_at (R q)) (e ∷ es)) k v
      by Less i Equal j ih tail =
          let front : insert_entry R es k v ≡ (k, v) ∷ es =
          insert_front es (All-keys_above e es i (sorted_head R e.0 (keys_of es) sorted)) in
          grind (arith, i, j, other, front)
      by Less i Less j ih tail = grind (arith, i, j, other)
      by Less i Greater j ih tail = grind (arith, i, j, other)
      by Equal i s j ih tail = grind (arith, i, new)
      by Greater i Equal j ih tail = grind (arith, i, j, new, other)
      by Greater i Less j ih tail = grind (arith, i, j, new, other, ih, tail)
      by Greater i Greater j ih tail = grind (arith, i, j, new, other, ih, tail)

module _ {K : Type 0} (R : K → K → Ordering) (o : IsTotalOrder R) where
  same_either_way : (a b : K) → is_eq (R a b) ≡ is_eq (R b a)
  same_either_way a b = grind (arith, o.antisymm a b)

  equal_from_is_eq : (a b : K) → is_eq (R a b) ≡ true → R a b ≡ Equal
  equal_from_is_eq a b same = grind (arith, same)

module _ {K X : Type 0} (R : K → K → Ordering) (o : IsTotalOrder R) (k q : K) where
  -- what a look-up finds where another value was put at a key
  pub lookup_after_set : (es : List (K × X)) (w : X)
      → lookup (is_at (R q)) (set_value (is_at (R k)) es w)
      ≡ cond (is_at (R q) k && is_some (lookup (is_at (R k)) es)) (Some w) (lookup (is_at (R q)) es)
  lookup_after_set [] w = grind arith
  lookup_after_set (e ∷ es) w = by (R k e.0) refl (R q e.0) refl (lookup_after_set es w)
    where
      by : (r : Ordering) → R k e.0 ≡ r → (s : Ordering) → R q e.0 ≡ s
          → lookup (is_at (R q)) (set_value (is_at (R k)) es w)
          ≡ cond (is_at (R q) k && is_some (lookup (is_at (R k)) es)) (Some w) (lookup (is_at (R q)) es)
          → lookup (is_at (R q)) (set_value (is_at (R k)) (e ∷ es) w)
          ≡ cond (is_at (R q) k && is_some (lookup (is_at (R k)) (e ∷ es))) (Some w)
          (lookup (is_at (R q)) (e ∷ es))
      by Equal i s j ih = grind (arith, i, o.congr k e.0 q, o.antisymm q k, o.antisymm q e.0)
      by Less i Equal j ih = grind (arith, i, j, o.congr q e.0 k j, o.antisymm e.0 k)
      by Less i Less j ih = grind (arith, i, j, ih)
      by Less i Greater j ih = grind (arith, i, j, ih)
      by Greater i Equal j ih = grind (arith, i, j, o.congr q e.0 k j, o.antisymm e.0 k)
      by Greater i Less j ih = grind (arith, i, j, ih)
      by Greater i Greater j ih = grind (arith, i, j, ih)

  -- and where the entry at a key is gone
  pub lookup_after_remove : (es : List (K × X)) → IsStrictlySortedBy R (keys_of es)
      → lookup (is_at (R q)) (remove_entry (is_at (R k)) es)
      ≡ cond (is_at (R q) k) None (lookup (is_at (R q)) es)
  lookup_after_remove es sorted =
      lookup-remove_entry (eq_by_cmp_equiv o) (is_at (R k))
      (λ x y same. ap is_eq (o.congr k x y (equal_from_is_eq R o k x same))) q es
      (IsDistinct-from_sorted R (keys_of es) sorted)
      ∙ ap (λ b. cond b None (lookup (is_at (R q)) es)) (same_either_way R o k q)
