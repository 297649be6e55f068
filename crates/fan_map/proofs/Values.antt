-- The values of entries, if each value tells its key, and entries that are seen with other values.
use Rattle.std.proofs.Common.{◌≡◌, Bool, cond, List, [], ◌∷◌, Some, map, refl, ap, arith}
use Rattle.std.proofs.lemmas.List.Elements.{All-head, All-tail}
use Rattle.std.specs.BTreeMap.{insert_entry}
use Rattle.std.specs.Map.{values_of, lookup, remove_entry, set_value}
use Rattle.std.specs.Option.{option_map}
use Rattle.std.specs.Prelude.{All, filter, find}
use Rattle.std.specs.declared.cmp.Ordering.{Ordering}
use Rattle.std.specs.declared.cmp.Ordering.TheVariants.{Less, Equal, Greater}
use Rattle.fan_lists.specs.First.{change_first, without_first}

module _ {K X : Type 0} (key : X → K) where
  -- each entry stands at the key that its value tells
  abbrev pub AreKeyed : List (K × X) → Type 0
  AreKeyed es = All (λ e. e.0 ≡ key e.1) es

  own : (e : K × X) (es : List (K × X)) → AreKeyed (e ∷ es) → e.0 ≡ key e.1
  own e es keyed = All-head (λ f. f.0 ≡ key f.1) e es keyed

  others : (e : K × X) (es : List (K × X)) → AreKeyed (e ∷ es) → AreKeyed es
  others e es keyed = All-tail (λ f. f.0 ≡ key f.1) e es keyed

  -- a look-up is a search of the values
  pub lookup-keyed : (test : K → Bool) (es : List (K × X)) → AreKeyed es
      → lookup test es ≡ find (λ x. test (key x)) (values_of es)
  lookup-keyed test [] keyed = refl
  lookup-keyed test (e ∷ es) keyed =
      rw (own e es keyed) (ap (λ rest. cond (test (key e.1)) (Some e.1) rest)
      (lookup-keyed test es (others e es keyed)))

  -- another value takes the place of the first that passes
  pub values-set_value : (test : K → Bool) (es : List (K × X)) (w : X) → AreKeyed es
      → values_of (set_value test es w) ≡ change_first (λ x. test (key x)) (λ old. w) (values_of es)
  values-set_value test [] w keyed = refl
  values-set_value test (e ∷ es) w keyed =
      grind (arith, own e es keyed, values-set_value test es w (others e es keyed))

  -- and the first that passes goes
  pub values-remove_entry : (test : K → Bool) (es : List (K × X)) → AreKeyed es
      → values_of (remove_entry test es) ≡ without_first (λ x. test (key x)) (values_of es)
  values-remove_entry test [] keyed = refl
  values-remove_entry test (e ∷ es) keyed =
      grind (arith, own e es keyed, values-remove_entry test es (others e es keyed))

  -- a filter by the keys is one by the values
  pub values-filter : (p : K → Bool) (es : List (K × X)) → AreKeyed es
      → values_of (filter (λ e. p e.0) es) ≡ filter (λ x. p (key x)) (values_of es)
  values-filter p [] keyed = refl
  values-filter p (e ∷ es) keyed =
      grind (arith, own e es keyed, values-filter p es (others e es keyed))

  -- and so is a search
  pub find-keyed : (p : K → Bool) (es : List (K × X)) → AreKeyed es
      → option_map (λ e. e.1) (find (λ e. p e.0) es) ≡ find (λ x. p (key x)) (values_of es)
  find-keyed p [] keyed = refl
  find-keyed p (e ∷ es) keyed =
      grind (arith, own e es keyed, find-keyed p es (others e es keyed))

module _ {K X Y : Type 0} (f : X → Y) where
  -- the entries with each value changed
  abbrev pub map_values : List (K × X) → List (K × Y)
  map_values es = map (λ e. (e.0, f e.1)) es

  pub lookup-map_values : (test : K → Bool) (es : List (K × X))
      → lookup test (map_values es) ≡ option_map f (lookup test es)
  lookup-map_values test [] = refl
  lookup-map_values test (e ∷ es) = grind (arith, lookup-map_values test es)

  pub set_value-map_values : (test : K → Bool) (es : List (K × X)) (w : X)
      → map_values (set_value test es w) ≡ set_value test (map_values es) (f w)
  set_value-map_values test [] w = refl
  set_value-map_values test (e ∷ es) w = grind (arith, set_value-map_values test es w)

  pub remove_entry-map_values : (test : K → Bool) (es : List (K × X))
      → map_values (remove_entry test es) ≡ remove_entry test (map_values es)
  remove_entry-map_values test [] = refl
  remove_entry-map_values test (e ∷ es) = grind (arith, remove_entry-map_values test es)

  pub insert_entry-map_values : (R : K → K → Ordering) (k : K) (v : X) (es : List (K × X))
      → map_values (insert_entry R es k v) ≡ insert_entry R (map_values es) k (f v)
  insert_entry-map_values R k v [] = refl
  insert_entry-map_values R k v (e ∷ es) = by (R k e.0) refl (insert_entry-map_values R k v es)
    where
      by : (r : Ordering) → R k e.0 ≡ r
          → map_values (insert_entry R es k v) ≡ insert_entry R (map_values es) k (f v)
          → map_values (insert_entry R (e ∷ es) k v) ≡ insert_entry R (map_values (e ∷ es)) k (f v)
      by Less i ih = rw i refl
      by Equal i ih = rw i refl
      by Greater i ih = rw i (ap (λ zs. (e.0, f e.1) ∷ zs) ih)
