-- What an order of keys says where keys are numbers, or several numbers of which the first decides first.
use Rattle.std.proofs.Common.{◌≡◌, ℕ, ◌<◌, ◌≤◌, ◌==◌, ◌&&◌, Bool, true, false, List, [], ◌∷◌, ◌++◌, None, refl, ap, arith, nat_lt}
use Rattle.std.proofs.lemmas.Bool.Decides.{nat_tests}
use Rattle.std.proofs.lemmas.Cmp.{nat_cmp_total, on_total, then_total}
use Rattle.std.proofs.lemmas.List.Elements.{All-head, All-tail}
use Rattle.std.proofs.lemmas.List.Sums.{take_while-cons}
use Rattle.std.proofs.lemmas.Map.Keys.{sorted_head, sorted_tail}
use Rattle.std.specs.BTreeMap.{insert_entry, is_at}
use Rattle.std.specs.Cmp.{IsTotalOrder}
use Rattle.std.specs.List.{AllByRecursion, filter, find}
use Rattle.std.specs.List.Sorted.{IsStrictlySortedBy}
use Rattle.std.specs.Map.{keys_of, lookup}
use Rattle.std.specs.Ordering.{is_eq, is_le, is_lt, nat_cmp, ordering_then}
use Rattle.std.specs.Prelude.{All, nat_le, take_while}
use Rattle.std.specs.declared.cmp.Ordering.{Ordering}
use Rattle.std.specs.declared.cmp.Ordering.TheVariants.{Less, Greater}
use Rattle.fan_map.specs.Joined.{if_passes}

-- keys that are numbers
pub is_eq-nat_cmp : (a b : ℕ) → is_eq (nat_cmp a b) ≡ (a == b)
is_eq-nat_cmp a b = grind (arith, nat_tests)

pub is_le-nat_cmp : (a b : ℕ) → is_le (nat_cmp a b) ≡ nat_le a b
is_le-nat_cmp a b = grind (arith, nat_tests)

pub is_lt-nat_cmp : (a b : ℕ) → is_lt (nat_cmp a b) ≡ nat_lt a b
is_lt-nat_cmp a b = grind (arith, nat_tests)

-- a number that stands first in a key and is not the least decides
pub first_le : (a x : ℕ) (rest : Ordering) → is_le (ordering_then (nat_cmp a x) rest) ≡ true → a ≤ x
first_le a x rest within = grind (arith, nat_tests)

pub first_lt : (a x : ℕ) (rest : Ordering) → is_lt (ordering_then (nat_cmp a x) rest) ≡ true → a ≤ x
first_lt a x rest within = grind (arith, nat_tests)

pub first_less : (a x : ℕ) (rest : Ordering) → ordering_then (nat_cmp a x) rest ≡ Less → a ≤ x
first_less a x rest less = grind (arith, nat_tests)

-- no key with the same first number stands before the one whose second is 0
pub from_zero : (first second : ℕ)
    → is_le (ordering_then (nat_cmp first first) (nat_cmp 0 second)) ≡ true
from_zero first second = grind (arith, nat_tests)

-- two keys of two numbers tie exactly if both are the same
pub is_eq-two : (a b x y : ℕ)
    → is_eq (ordering_then (nat_cmp a x) (nat_cmp b y)) ≡ (a == x && b == y)
is_eq-two a b x y = grind (arith, nat_tests)

-- with the same first number the second decides
pub is_lt-two : (a b y : ℕ) → is_lt (ordering_then (nat_cmp a a) (nat_cmp b y)) ≡ nat_lt b y
is_lt-two a b y = grind (arith, nat_tests)

pub is_le-two : (a b y : ℕ) → is_le (ordering_then (nat_cmp a a) (nat_cmp b y)) ≡ nat_le b y
is_le-two a b y = grind (arith, nat_tests)

-- behind a key that has another first number than a start, no key has that of the start
pub past_first_le : (a x y : ℕ) (r s : Ordering) → is_le (ordering_then (nat_cmp a x) r) ≡ true
    → (x == a) ≡ false → ordering_then (nat_cmp x y) s ≡ Less → (y == a) ≡ false
past_first_le a x y r s from other less =
    let l : a ≤ x = first_le a x r from in
    let m : x ≤ y = first_less x y s less in
    grind (arith, nat_tests)

pub past_first_lt : (a x y : ℕ) (r s : Ordering) → is_lt (ordering_then (nat_cmp a x) r) ≡ true
    → (x == a) ≡ false → ordering_then (nat_cmp x y) s ≡ Less → (y == a) ≡ false
past_first_lt a x y r s from other less =
    let l : a ≤ x = first_lt a x r from in
    let m : x ≤ y = first_less x y s less in
    grind (arith, nat_tests)

-- pairs of numbers in order: by the first, and by the second where these are the same
abbrev pub pair_cmp : ℕ × ℕ → ℕ × ℕ → Ordering
pair_cmp a b = ordering_then (nat_cmp a.0 b.0) (nat_cmp a.1 b.1)

pub pair_total : IsTotalOrder pair_cmp
pair_total = then_total (on_total (λ p. p.0) nat_cmp_total) (on_total (λ p. p.1) nat_cmp_total)

module _ {K X : Type 0} (R : K → K → Ordering) (p q : K → Bool)
    (over : (x y : K) → p x ≡ true → q x ≡ false → R x y ≡ Less → q y ≡ false) where
  none_later : (e : K × X) (es : List (K × X)) → p e.0 ≡ true → q e.0 ≡ false
      → AllByRecursion (λ y. R e.0 y ≡ Less) (keys_of es) → find (λ f. p f.0 && q f.0) es ≡ None
  none_later e [] from other above = refl
  none_later e (f ∷ es) from other above =
      grind (arith, over e.0 f.0 from other above.0, none_later e es from other above.1)

  -- of a group of entries that stand together, the first from a start on is the first of all from there on,
  -- if that one is of the group
  pub find_in_group : (es : List (K × X)) → IsStrictlySortedBy R (keys_of es)
      → find (λ e. p e.0 && q e.0) es ≡ if_passes (λ e. q e.0) (find (λ e. p e.0) es)
  find_in_group [] sorted = refl
  find_in_group (e ∷ es) sorted =
      by (p e.0) refl (q e.0) refl (find_in_group es (sorted_tail R e.0 (keys_of es) sorted))
      (sorted_head R e.0 (keys_of es) sorted)
    where
      by : (a : Bool) → p e.0 ≡ a → (b : Bool) → q e.0 ≡ b
          → find (λ e. p e.0 && q e.0) es ≡ if_passes (λ e. q e.0) (find (λ e. p e.0) es)
          → AllByRecursion (λ y. R e.0 y ≡ Less) (keys_of es)
          → find (λ f. p f.0 && q f.0) (e ∷ es) ≡ if_passes (λ f. q f.0) (find (λ f. p f.0) (e ∷ es))
      by true i true j ih above = rw (i, j) refl
      by true i false j ih above = rw (i, j) (none_later e es i j above)
      by false i b j ih above = rw i ih

  none_kept : (e : K × X) (es : List (K × X)) → p e.0 ≡ true → q e.0 ≡ false
      → AllByRecursion (λ y. R e.0 y ≡ Less) (keys_of es) → filter (λ f. p f.0 && q f.0) es ≡ []
  none_kept e [] from other above = refl
  none_kept e (f ∷ es) from other above =
      grind (arith, over e.0 f.0 from other above.0, none_kept e es from other above.1)

  -- and all of them are those at the head of what stands from the start on
  pub filter_group : (es : List (K × X)) → IsStrictlySortedBy R (keys_of es)
      → filter (λ e. p e.0 && q e.0) es ≡ take_while (λ e. q e.0) (filter (λ e. p e.0) es)
  filter_group [] sorted = refl
  filter_group (e ∷ es) sorted =
      by (p e.0) refl (q e.0) refl (filter_group es (sorted_tail R e.0 (keys_of es) sorted))
      (sorted_head R e.0 (keys_of es) sorted)
    where
      by : (a : Bool) → p e.0 ≡ a → (b : Bool) → q e.0 ≡ b
          → filter (λ e. p e.0 && q e.0) es ≡ take_while (λ e. q e.0) (filter (λ e. p e.0) es)
          → AllByRecursion (λ y. R e.0 y ≡ Less) (keys_of es)
          → filter (λ f. p f.0 && q f.0) (e ∷ es) ≡ take_while (λ f. q f.0) (filter (λ f. p f.0) (e ∷ es))
      by true i true j ih above =
          rw (i, take_while-cons (λ f. q f.0) e (filter (λ f. p f.0) es), j) (ap (λ zs. e ∷ zs) ih)
      by true i false j ih above =
          rw (i, take_while-cons (λ f. q f.0) e (filter (λ f. p f.0) es), j) (none_kept e es i j above)
      by false i b j ih above = rw i ih

module _ {K X : Type 0} (R : K → K → Ordering) (k : K) (v : X) where
  -- behind all others, an entry comes to the end
  pub insert_end : (es : List (K × X)) → All (λ q. R k q ≡ Greater) (keys_of es)
      → insert_entry R es k v ≡ es ++ (k, v) ∷ []
  insert_end [] below = refl
  insert_end (e ∷ es) below =
      rw (All-head (λ q. R k q ≡ Greater) e.0 (keys_of es) below)
      (ap (λ zs. e ∷ zs) (insert_end es (All-tail (λ q. R k q ≡ Greater) e.0 (keys_of es) below)))

  -- and its key is new
  pub new_end : (es : List (K × X)) → All (λ q. R k q ≡ Greater) (keys_of es)
      → lookup (is_at (R k)) es ≡ None
  new_end [] below = refl
  new_end (e ∷ es) below =
      rw (All-head (λ q. R k q ≡ Greater) e.0 (keys_of es) below)
      (new_end es (All-tail (λ q. R k q ≡ Greater) e.0 (keys_of es) below))

greater : (k q : ℕ) → q < k → nat_cmp k q ≡ Greater
greater k q less = grind (arith, nat_tests)

module _ {X : Type 0} (k : ℕ) (v : X) where
  -- the same where keys are numbers
  pub insert_number_end : (es : List (ℕ × X)) → All (λ q. q < k) (keys_of es)
      → insert_entry nat_cmp es k v ≡ es ++ (k, v) ∷ []
  insert_number_end es below =
      insert_end nat_cmp k v es (λ i d within. greater k _ (below i d within))

  pub new_number_end : (es : List (ℕ × X)) → All (λ q. q < k) (keys_of es)
      → lookup (is_at (nat_cmp k)) es ≡ None
  new_number_end es below =
      new_end nat_cmp k v es (λ i d within. greater k _ (below i d within))
