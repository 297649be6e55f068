-- The open accesses stay counted as they begin, step and end.
use Rattle.std.proofs.Common.{◌≡◌, ◌∙◌, ℕ, ◌+◌, ◌<◌, ◌≤◌, Bool, true, false, cond, List, [], ◌∷◌, ◌++◌, Option, Some, None, length, refl, sym, ap, subst, arith}
use Rattle.std.specs.Prelude.{All, nat_le, nat_lt, slice_get, ◌==◌}
use Rattle.std.specs.BTreeMap.{insert_entry, is_at}
use Rattle.std.specs.List.{AllByRecursion, list_any}
use Rattle.std.specs.List.Sorted.{IsStrictlySortedBy}
use Rattle.std.specs.Map.{keys_of, lookup, remove_entry, set_value, values_of}
use Rattle.std.specs.Option.{option_map, unwrap_or}
use Rattle.std.specs.Ordering.{nat_cmp}
use Rattle.std.proofs.lemmas.Bool.Decides.{nat_tests}
use Rattle.std.proofs.lemmas.List.Elements.{All-weaker}
use Rattle.std.proofs.lemmas.Map.{keys-set_value, length-set_value}
use Rattle.std.proofs.lemmas.Map.Entries.{sum_by-remove_entry, sum_by-set_value}
use Rattle.std.proofs.lemmas.Map.Views.{All-keys-insert_entry, All-map-remove_entry}
use Rattle.std.proofs.lemmas.Map.Keys.{sorted_head}
use Rattle.std.specs.declared.cmp.Ordering.TheVariants.{Less}
use Rattle.fan_access.specs.declared.spot.Spot.{Spot}
use Rattle.fan_access.specs.Operations.{first_mount}
use Rattle.fan_lists.proofs.Counts.{any_from_count, count_by-cons, count_from_any}
use Rattle.fan_map.proofs.Keys.{insert_number_end, new_number_end}
use Rattle.fan_world.specs.declared.open_accesses.OpenAccess.{OpenAccess}
use Rattle.fan_map.specs.Counts.{number_at}
use Rattle.fan_world.specs.Opened.{AreCounted, count_through, is_through}
use Rattle.fan_world.specs.Retired.{has_up_to}

-- an access that is removed was one of the accesses
pub length_removed : {K X : Type 0} (test : K → Bool) (es : List (K × X)) → length (remove_entry test es) ≤ length es
length_removed test [] = omega arith
length_removed test (e ∷ es) = by (test e.0) refl (length_removed test es)
  where
    by : (b : Bool) → test e.0 ≡ b → length (remove_entry test es) ≤ length es
        → length (remove_entry test (e ∷ es)) ≤ length (e ∷ es)
    by true i ih = grind (arith, i)
    by false i ih = grind (arith, i, ih)

pub removed_none : {K X : Type 0} (test : K → Bool) (es : List (K × X)) → lookup test es ≡ None
    → remove_entry test es ≡ es
removed_none test [] none = refl
removed_none test (e ∷ es) none = by (test e.0) refl none (removed_none test es)
  where
    by : (b : Bool) → test e.0 ≡ b → lookup test (e ∷ es) ≡ None
        → (lookup test es ≡ None → remove_entry test es ≡ es) → remove_entry test (e ∷ es) ≡ e ∷ es
    by true i none ih = absurd (grind (arith, i, none))
    by false i none ih = grind (arith, i, ih, none)

-- what is counted with one more at the end
counted_end : (mount number : ℕ) (begun : OpenAccess) (es : List (ℕ × OpenAccess))
    → count_through (es ++ (number, begun) ∷ []) mount ≡ count_through es mount + cond (is_through mount begun) 1 0
counted_end mount number begun [] = grind (arith, count_by-cons (is_through mount) begun [])
counted_end mount number begun (e ∷ es) =
    grind (
      arith,
      counted_end mount number begun es,
      count_by-cons (is_through mount) e.1 (values_of es),
      count_by-cons (is_through mount) e.1 (values_of (es ++ (number, begun) ∷ [])),
    )

pub length_end : {X : Type 0} (es : List X) (e : X) → length (es ++ e ∷ []) ≡ length es + 1
length_end [] e = refl
length_end (x ∷ es) e = let ih = length_end es e in omega (arith, ih)

module _ (entries : List (ℕ × OpenAccess)) (through : List (ℕ × ℕ)) (last : ℕ)
    (counted : AreCounted entries through last) where
  -- a number above the last one is new
  pub number_is_new : (number : ℕ) (begun : OpenAccess) → last < number → lookup (is_at (nat_cmp number)) entries ≡ None
  number_is_new number begun above =
      new_number_end number begun entries (All-weaker (λ q. q ≤ last) (λ q. q < number)
      (λ q within. omega (arith, within, above)) (keys_of entries) counted.begun)

  -- it comes last
  pub begun_last : (number : ℕ) (begun : OpenAccess) → last < number
      → insert_entry nat_cmp entries number begun ≡ entries ++ (number, begun) ∷ []
  begun_last number begun above =
      insert_number_end number begun entries (All-weaker (λ q. q ≤ last) (λ q. q < number)
      (λ q within. omega (arith, within, above)) (keys_of entries) counted.begun)

  -- an access that begins is counted
  pub counted_add : (new : List (ℕ × ℕ)) (number : ℕ) (begun : OpenAccess) → last < number
      → ((other : ℕ) → number_at new other
      ≡ number_at through other + cond (first_mount begun.access.spots == other) 1 0)
      → AreCounted (insert_entry nat_cmp entries number begun) new number
  counted_add new number begun above more =
      let below : All (λ q. q < number) (keys_of entries) =
      All-weaker (λ q. q ≤ last) (λ q. q < number) (λ q within. omega (arith, within, above)) (keys_of entries)
      counted.begun in
      let end = insert_number_end number begun entries below in record {
        begun = All-keys-insert_entry nat_cmp number begun (λ q. q ≤ number) entries
            (All-weaker (λ q. q < number) (λ q. q ≤ number) (λ q within. omega (arith, within)) (keys_of entries) below)
            (omega arith);
        few = rw end (omega (arith, length_end entries (number, begun), counted.few, above));
        counts = λ mount. more mount ∙ ap (λ n. n + cond (first_mount begun.access.spots == mount) 1 0) (counted.counts mount)
            ∙ sym (ap (λ es. count_through es mount) end ∙ counted_end mount number begun entries);
      }

  -- one that takes the place of another at the same spots is counted as that was
  pub counted_set : (number : ℕ) (held other : OpenAccess) → lookup (is_at (nat_cmp number)) entries ≡ Some held
      → held.access.spots ≡ other.access.spots
      → AreCounted (set_value (is_at (nat_cmp number)) entries other) through last
  counted_set number held other found same =
      let test = is_at (nat_cmp number) in record {
        begun = subst (All (λ q. q ≤ last)) (sym (keys-set_value test entries other)) counted.begun;
        few = rw (length-set_value test entries other) counted.few;
        counts = λ mount.
            let set = sum_by-set_value (λ x. cond (is_through mount x) 1 0) test entries held other found in
            let one : is_through mount held ≡ is_through mount other = ap (λ (spots : List Spot). first_mount spots == mount) same in
            let f : Bool → ℕ = λ b. cond b 1 0 in
            let bit = ap f one in
            omega (arith, counted.counts mount, set, bit);
      }

  -- one that ends is counted no more
  pub counted_less : (new : List (ℕ × ℕ)) (number : ℕ) (ended : OpenAccess)
      → lookup (is_at (nat_cmp number)) entries ≡ Some ended
      → ((other : ℕ) → number_at new other + cond (first_mount ended.access.spots == other) 1 0
      ≡ number_at through other)
      → AreCounted (remove_entry (is_at (nat_cmp number)) entries) new last
  counted_less new number ended found less =
      let test = is_at (nat_cmp number) in record {
        begun = All-map-remove_entry test (λ e. e.0) (λ q. q ≤ last) entries counted.begun;
        few = omega (arith, length_removed test entries, counted.few);
        counts = λ mount.
            let f : OpenAccess → ℕ = λ x. cond (is_through mount x) 1 0 in
            let gone = sum_by-remove_entry f test entries in
            let one = ap (λ (o : Option OpenAccess). unwrap_or (option_map f o) 0) found in
            omega (arith, counted.counts mount, gone, one, less mount);
      }

  -- it was counted
  pub count_before : (number : ℕ) (ended : OpenAccess) → lookup (is_at (nat_cmp number)) entries ≡ Some ended
      → 1 ≤ number_at through (first_mount ended.access.spots)
  count_before number ended found =
      let mount = first_mount ended.access.spots in
      let f : OpenAccess → ℕ = λ x. cond (is_through mount x) 1 0 in
      let gone = sum_by-remove_entry f (is_at (nat_cmp number)) entries in
      let one = ap (λ (o : Option OpenAccess). unwrap_or (option_map f o) 0) found in
      let here : f ended ≡ 1 = grind (arith, nat_tests) in
      omega (arith, counted.counts mount, gone, one, here)

  -- where no access has the number, nothing ends
  pub counted_same : (number : ℕ) → lookup (is_at (nat_cmp number)) entries ≡ None
      → AreCounted (remove_entry (is_at (nat_cmp number)) entries) through last
  counted_same number none =
      subst (λ es. AreCounted es through last) (sym (removed_none (is_at (nat_cmp number)) entries none)) counted

  -- an access through a mount is open exactly if its count isn't 0
  pub through_counted : (mount : ℕ)
      → nat_lt 0 (number_at through mount) ≡ list_any (is_through mount) (values_of entries)
  through_counted mount =
      by (list_any (is_through mount) (values_of entries)) refl
    where
      by : (b : Bool) → list_any (is_through mount) (values_of entries) ≡ b → nat_lt 0 (number_at through mount) ≡ b
      by true some = grind (
        arith,
        nat_tests,
        counted.counts mount,
        count_from_any (is_through mount) (values_of entries) some,
      )
      by false none =
          not_counted (nat_lt 0 (number_at through mount)) refl
        where
          not_counted : (b : Bool) → nat_lt 0 (number_at through mount) ≡ b → b ≡ false
          not_counted false is = refl
          not_counted true is =
              let most : 1 ≤ count_through entries mount = grind (arith, nat_tests, counted.counts mount, is) in
              let some = any_from_count (is_through mount) (values_of entries) most in
              absurd (let never : true ≡ false = sym some ∙ none in cc)

-- behind a number that is above another, none is up to that
none_up_to : (number first : ℕ) (es : List (ℕ × OpenAccess)) → AllByRecursion (λ q. nat_cmp first q ≡ Less) (keys_of es)
    → number < first → has_up_to es number ≡ false
none_up_to number first [] above less = refl
none_up_to number first (e ∷ es) above less =
    let here : first < e.0 = grind (arith, nat_tests, above.0) in
    grind (arith, nat_tests, here, less, none_up_to number first es above.1 less)

-- the least number tells whether one is up to a number
least_in : (number : ℕ) (first : ℕ × OpenAccess) (more : List (ℕ × OpenAccess))
    → IsStrictlySortedBy nat_cmp (keys_of (first ∷ more)) → has_up_to (first ∷ more) number ≡ nat_le first.0 number
least_in number first more sorted = by (nat_le first.0 number) refl
  where
    by : (b : Bool) → nat_le first.0 number ≡ b → has_up_to (first ∷ more) number ≡ b
    by true up = grind (arith, up)
    by false above =
        let less : number < first.0 = grind (arith, nat_tests, above) in
        grind (
          arith,
          above,
          none_up_to number first.0 more (sorted_head nat_cmp first.0 (keys_of more) sorted) less,
        )

pub least_up_to : (number : ℕ) (es : List (ℕ × OpenAccess)) (least : ℕ)
    → Some least ≡ option_map (λ e. e.0) (slice_get es 0) → IsStrictlySortedBy nat_cmp (keys_of es)
    → has_up_to es number ≡ nat_le least number
least_up_to number [] least is sorted = absurd cc
least_up_to number (first ∷ more) least is sorted =
    let same : least ≡ first.0 = cc in rw same (least_in number first more sorted)

-- without a first there is none
pub empty_up_to : (number : ℕ) (es : List (ℕ × OpenAccess)) → None ≡ option_map (λ e. e.0) (slice_get es 0)
    → has_up_to es number ≡ false
empty_up_to number [] is = refl
empty_up_to number (first ∷ more) is = absurd cc
