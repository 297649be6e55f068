-- Entries by number: what is found under a number once one is put there, changed or taken away.
use Rattle.std.proofs.Common.{◌≡◌, ◌∙◌, ℕ, ◌<◌, ◌≤◌, Bool, true, false, cond, eqb, List, [], ◌∷◌, ◌++◌, Some, None, refl, sym, ap, subst, arith, Ordering, Less, Equal, Greater}
use Rattle.std.specs.BTreeMap.{insert_entry, is_at}
use Rattle.std.specs.List.{AllPairs, Contains}
use Rattle.std.specs.Map.{lookup, remove_entry, set_value}
use Rattle.std.specs.Ordering.{match_ordering, nat_cmp}
use Rattle.std.specs.Prelude.{All, nat_lt, ◌==◌}
use Rattle.std.proofs.lemmas.Bool.{cond_both, eqb-true, eqb-false, ltb-true, ltb-false, ne_eqb, eq-eqb}
use Rattle.std.proofs.lemmas.Bool.Decides.{nat_tests}
use Rattle.std.proofs.lemmas.List.Elements.{All-cons, All-head, All-nil, All-tail, All-weaker}
use Rattle.std.proofs.lemmas.List.Kept.{AllPairs-cons}
use Rattle.fan_lists.proofs.Pairs.{AllPairs-append, AllPairs-head, AllPairs-nil, AllPairs-tail, Contains-first, Contains-later}

-- the test of the number under which an entry stands
abbrev pub at : ℕ → ℕ → Bool
at number = is_at (nat_cmp number)

-- it is that number's own alone
pub at_number : (number other : ℕ) → at number other ≡ eqb number other
at_number number other = grind (arith, nat_tests)

-- what a comparison of two numbers says
pub by_order : (P : Ordering → Type 0) (a b : ℕ) → (a < b → P Less) → (a ≡ b → P Equal) → (b < a → P Greater)
    → P (nat_cmp a b)
by_order P a b less equal greater =
    cond_both (nat_lt a b) Less (cond (a == b) Equal Greater) P (λ is. less (ltb-true a b is))
    (λ not. cond_both (a == b) Equal Greater P (λ is. equal (eqb-true a b is))
    (λ differ. let apart : a ≡ b → ⊥ = eqb-false a b differ in let upto : b ≤ a = ltb-false a b not in
    greater (grind arith)))

module _ {X : Type 0} where
  -- a look-up past the first entry
  pub lookup_past : (number : ℕ) (e : ℕ × X) (es : List (ℕ × X)) → (number ≡ e.0 → ⊥)
      → lookup (at number) (e ∷ es) ≡ lookup (at number) es
  lookup_past number e es differ = rw (at_number number e.0, ne_eqb number e.0 differ) refl

  -- a look-up that ends at the first entry
  pub lookup_first : (number : ℕ) (e : ℕ × X) (es : List (ℕ × X)) → number ≡ e.0
      → lookup (at number) (e ∷ es) ≡ Some e.1
  lookup_first number e es same = rw (at_number number e.0, eq-eqb number e.0 same) refl

  -- under its number an entry is found that was put there
  pub found_inserted : (number : ℕ) (x : X) (es : List (ℕ × X))
      → lookup (at number) (insert_entry nat_cmp es number x) ≡ Some x
  found_inserted number x [] = lookup_first number (number, x) [] refl
  found_inserted number x (e ∷ es) =
      by_order (λ order. lookup (at number) (match_ordering order ((number, x) ∷ e ∷ es) ((e.0, x) ∷ es)
      (e ∷ insert_entry nat_cmp es number x)) ≡ Some x) number e.0
      (λ below. lookup_first number (number, x) (e ∷ es) refl)
      (λ same. lookup_first number (e.0, x) es same)
      (λ above. lookup_past number e (insert_entry nat_cmp es number x) (λ same. omega (arith, above, same))
      ∙ found_inserted number x es)

  -- and under any other number what was there
  pub other_inserted : (number other : ℕ) (x : X) (es : List (ℕ × X)) → (number ≡ other → ⊥)
      → lookup (at number) (insert_entry nat_cmp es other x) ≡ lookup (at number) es
  other_inserted number other x [] differ = lookup_past number (other, x) [] differ
  other_inserted number other x (e ∷ es) differ =
      by_order (λ order. lookup (at number) (match_ordering order ((other, x) ∷ e ∷ es) ((e.0, x) ∷ es)
      (e ∷ insert_entry nat_cmp es other x)) ≡ lookup (at number) (e ∷ es)) other e.0
      (λ below. lookup_past number (other, x) (e ∷ es) differ)
      (λ same. let apart : number ≡ e.0 → ⊥ = λ is. differ (is ∙ sym same) in
      lookup_past number (e.0, x) es apart ∙ sym (lookup_past number e es apart))
      (λ above. ap (λ rest. cond (at number e.0) (Some e.1) rest) (other_inserted number other x es differ))

  -- a number that isn't there stays away if an entry is taken away or changed
  pub none_removed : (number other : ℕ) (es : List (ℕ × X)) → lookup (at number) es ≡ None
      → lookup (at number) (remove_entry (at other) es) ≡ None
  none_removed number other [] none = refl
  none_removed number other (e ∷ es) none =
      (elim (at number e.0) as (λ b. cond b (Some e.1) (lookup (at number) es) ≡ None
      → (at number e.0 ≡ b) → lookup (at number) (remove_entry (at other) (e ∷ es)) ≡ None) [
        | true ↦ λ found is. absurd cc
        | false ↦ λ rest is. cond_both (at other e.0) es (e ∷ remove_entry (at other) es)
            (λ left. lookup (at number) left ≡ None) (λ taken. rest)
            (λ kept. rw is (none_removed number other es rest))
      ]) none refl

  pub none_set : (number other : ℕ) (x : X) (es : List (ℕ × X)) → lookup (at number) es ≡ None
      → lookup (at number) (set_value (at other) es x) ≡ None
  none_set number other x [] none = refl
  none_set number other x (e ∷ es) none =
      (elim (at number e.0) as (λ b. cond b (Some e.1) (lookup (at number) es) ≡ None
      → (at number e.0 ≡ b) → lookup (at number) (set_value (at other) (e ∷ es) x) ≡ None) [
        | true ↦ λ found is. absurd cc
        | false ↦ λ rest is. cond_both (at other e.0) ((e.0, x) ∷ es) (e ∷ set_value (at other) es x)
            (λ left. lookup (at number) left ≡ None) (λ changed. rw is rest)
            (λ kept. rw is (none_set number other x es rest))
      ]) none refl

  -- and any other is found as before
  pub other_removed : (number other : ℕ) (es : List (ℕ × X)) → (number ≡ other → ⊥)
      → lookup (at number) (remove_entry (at other) es) ≡ lookup (at number) es
  other_removed number other [] differ = refl
  other_removed number other (e ∷ es) differ =
      cond_both (at other e.0) es (e ∷ remove_entry (at other) es)
      (λ left. lookup (at number) left ≡ lookup (at number) (e ∷ es))
      (λ is. let its : other ≡ e.0 = eqb-true other e.0 (sym (at_number other e.0) ∙ is) in
      sym (lookup_past number e es (λ same. differ (same ∙ sym its))))
      (λ not. ap (λ rest. cond (at number e.0) (Some e.1) rest) (other_removed number other es differ))

  pub other_set : (number other : ℕ) (x : X) (es : List (ℕ × X)) → (number ≡ other → ⊥)
      → lookup (at number) (set_value (at other) es x) ≡ lookup (at number) es
  other_set number other x [] differ = refl
  other_set number other x (e ∷ es) differ =
      cond_both (at other e.0) ((e.0, x) ∷ es) (e ∷ set_value (at other) es x)
      (λ left. lookup (at number) left ≡ lookup (at number) (e ∷ es))
      (λ is. let its : other ≡ e.0 = eqb-true other e.0 (sym (at_number other e.0) ∙ is) in
      let past : number ≡ e.0 → ⊥ = λ same. differ (same ∙ sym its) in
      lookup_past number (e.0, x) es past ∙ sym (lookup_past number e es past))
      (λ not. ap (λ rest. cond (at number e.0) (Some e.1) rest) (other_set number other x es differ))

  -- a changed entry is found so
  pub found_set : (number : ℕ) (old x : X) (es : List (ℕ × X)) → lookup (at number) es ≡ Some old
      → lookup (at number) (set_value (at number) es x) ≡ Some x
  found_set number old x [] found = absurd cc
  found_set number old x (e ∷ es) found =
      (elim (at number e.0) as (λ b. at number e.0 ≡ b → cond b (Some e.1) (lookup (at number) es) ≡ Some old
      → lookup (at number) (cond b ((e.0, x) ∷ es) (e ∷ set_value (at number) es x)) ≡ Some x) [
        | true ↦ λ is here. rw is refl
        | false ↦ λ is rest. rw is (found_set number old x es rest)
      ]) refl found

  -- each entry has a lesser number than all that follow it
  abbrev pub Rise : List (ℕ × X) → Type 0
  Rise es = AllPairs (λ (a b : ℕ × X). a.0 < b.0) es

  -- a number below all isn't there
  pub none_below : (number : ℕ) (es : List (ℕ × X)) → All (λ e. number < e.0) es → lookup (at number) es
      ≡ None
  none_below number [] above = refl
  none_below number (e ∷ es) above =
      let P : ℕ × X → Type 0 = λ e. number < e.0 in
      let first : number < e.0 = All-head P e es above in
      lookup_past number e es (λ same. omega (arith, first, same)) ∙ none_below number es
      (All-tail P e es above)

  -- an entry that is taken away isn't there any more
  pub none_taken : (number : ℕ) (es : List (ℕ × X)) → Rise es
      → lookup (at number) (remove_entry (at number) es) ≡ None
  none_taken number [] rise = refl
  none_taken number (e ∷ es) rise =
      let R : ℕ × X → ℕ × X → Type 0 = λ a b. a.0 < b.0 in
      (elim (at number e.0) as (λ b. at number e.0 ≡ b
      → lookup (at number) (cond b es (e ∷ remove_entry (at number) es)) ≡ None) [
        | true ↦ λ is. let its : number ≡ e.0 = eqb-true number e.0 (sym (at_number number e.0) ∙ is) in
            none_below number es (All-weaker (R e) (λ b. number < b.0) (λ b above. omega
            (arith, above, its)) es
            (AllPairs-head R e es rise))
        | false ↦ λ is. rw is (none_taken number es (AllPairs-tail R e es rise))
      ]) refl

  -- what holds of all entries holds of those that are left
  pub All-removed : (P : ℕ × X → Type 0) (other : ℕ) (es : List (ℕ × X)) → All P es
      → All P (remove_entry (at other) es)
  All-removed P other [] each = each
  All-removed P other (e ∷ es) each =
      cond_both (at other e.0) es (e ∷ remove_entry (at other) es) (All P) (λ is. All-tail P e es each)
      (λ not. All-cons P e (remove_entry (at other) es) (All-head P e es each)
      (All-removed P other es (All-tail P e es each)))

  -- and of those with one changed, if it holds of this
  pub All-set : (P : ℕ × X → Type 0) (number : ℕ) (x : X) (es : List (ℕ × X)) → All P es
      → ((e : ℕ × X) → number ≡ e.0 → P e → P (e.0, x)) → All P (set_value (at number) es x)
  All-set P number x [] each keeps = each
  All-set P number x (e ∷ es) each keeps =
      let first = All-head P e es each in
      let rest = All-tail P e es each in
      cond_both (at number e.0) ((e.0, x) ∷ es) (e ∷ set_value (at number) es x) (All P)
      (λ is. All-cons P (e.0, x) es (keeps e (eqb-true number e.0 (sym
      (at_number number e.0) ∙ is)) first) rest)
      (λ not. All-cons P e (set_value (at number) es x) first (All-set P number x es rest keeps))

  -- and of those with one more
  pub All-inserted : (P : ℕ × X → Type 0) (number : ℕ) (x : X) (es : List (ℕ × X)) → All P es → P (number, x)
      → All P (insert_entry nat_cmp es number x)
  All-inserted P number x [] each new = All-cons P (number, x) [] new (All-nil P)
  All-inserted P number x (e ∷ es) each new =
      let first = All-head P e es each in
      let rest = All-tail P e es each in
      by_order (λ order. All P (match_ordering order ((number, x) ∷ e ∷ es) ((e.0, x) ∷ es)
      (e ∷ insert_entry nat_cmp es number x))) number e.0
      (λ below. All-cons P (number, x) (e ∷ es) new each)
      (λ same. All-cons P (e.0, x) es (subst (λ n. P (n, x)) same new) rest)
      (λ above. All-cons P e (insert_entry nat_cmp es number x) first (All-inserted P number x es rest new))

  -- entries keep rising as one is taken away or changed, and as one with a greater number is put there
  pub Rise-removed : (other : ℕ) (es : List (ℕ × X)) → Rise es → Rise (remove_entry (at other) es)
  Rise-removed other [] rise = rise
  Rise-removed other (e ∷ es) rise =
      let R : ℕ × X → ℕ × X → Type 0 = λ a b. a.0 < b.0 in
      cond_both (at other e.0) es (e ∷ remove_entry (at other) es) Rise (λ is. AllPairs-tail R e es rise)
      (λ not. AllPairs-cons R e (remove_entry (at other) es) (All-removed (R e) other es
      (AllPairs-head R e es rise))
      (Rise-removed other es (AllPairs-tail R e es rise)))

  pub Rise-set : (number : ℕ) (x : X) (es : List (ℕ × X)) → Rise es → Rise (set_value (at number) es x)
  Rise-set number x [] rise = rise
  Rise-set number x (e ∷ es) rise =
      let R : ℕ × X → ℕ × X → Type 0 = λ a b. a.0 < b.0 in
      let head = AllPairs-head R e es rise in
      let tail = AllPairs-tail R e es rise in
      cond_both (at number e.0) ((e.0, x) ∷ es) (e ∷ set_value (at number) es x) Rise
      (λ is. AllPairs-cons R (e.0, x) es head tail)
      (λ not. AllPairs-cons R e (set_value (at number) es x) (All-set (R e) number x es head
      (λ b same below. below))
      (Rise-set number x es tail))

  pub insert_last : (number : ℕ) (x : X) (es : List (ℕ × X)) → All (λ e. e.0 < number) es
      → insert_entry nat_cmp es number x ≡ es ++ (number, x) ∷ []
  insert_last number x [] below = refl
  insert_last number x (e ∷ es) below =
      let P : ℕ × X → Type 0 = λ e. e.0 < number in
      let first : e.0 < number = All-head P e es below in
      by_order (λ order. match_ordering order ((number, x) ∷ e ∷ es) ((e.0, x) ∷ es)
      (e ∷ insert_entry nat_cmp es number x) ≡ e ∷ es ++ (number, x) ∷ []) number e.0
      (λ is. absurd (omega arith)) (λ is. absurd (omega arith))
      (λ above. ap (λ rest. e ∷ rest) (insert_last number x es (All-tail P e es below)))

  pub Rise-inserted : (number : ℕ) (x : X) (es : List (ℕ × X)) → All (λ e. e.0 < number) es → Rise es
      → Rise (insert_entry nat_cmp es number x)
  Rise-inserted number x es below rise =
      let R : ℕ × X → ℕ × X → Type 0 = λ a b. a.0 < b.0 in
      let one : ℕ × X = (number, x) in
      rw (insert_last number x es below)
      (AllPairs-append R es (one ∷ []) rise (AllPairs-cons R one [] (All-nil (R one)) (AllPairs-nil R))
      (All-weaker (λ e. e.0 < number) (λ e. All (R e) (one ∷ []))
      (λ e is. All-cons (R e) one [] is (All-nil (R e))) es below))

  -- an entry that is found is there
  pub found_contained : (number : ℕ) (x : X) (es : List (ℕ × X)) → lookup (at number) es ≡ Some x
      → Contains es (number, x)
  found_contained number x [] found = absurd cc
  found_contained number x (e ∷ es) found =
      (elim (at number e.0) as (λ b. at number e.0 ≡ b → cond b (Some e.1) (lookup (at number) es) ≡ Some x
      → Contains (e ∷ es) (number, x)) [
        | true ↦ λ is here. let its : e.0 ≡ number = sym (eqb-true number e.0 (sym
            (at_number number e.0) ∙ is)) in
            let value : e.1 ≡ x = cc in
            subst (λ (n : ℕ). Contains (e ∷ es) (n, x)) its
            (subst (λ (y : X). Contains (e ∷ es) (e.0, y)) value (Contains-first e es))
        | false ↦ λ is rest. Contains-later (number, x) e es (found_contained number x es rest)
      ]) refl found
