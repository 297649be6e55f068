-- The entries that a group has made, against the fates of its events so far: what one more deed keeps.
use Rattle.std.proofs.Common.{◌≡◌, ◌∙◌, ℕ, ◌+◌, ◌<◌, ◌≤◌, true, false, cond, List, [], ◌∷◌, ◌++◌, append-nil, length, length-append, refl, ap, sym, subst, arith, ◌==◌}
use Rattle.std.proofs.lemmas.Bool.Decides.{nat_tests}
use Rattle.std.proofs.lemmas.List.{map-append}
use Rattle.std.proofs.lemmas.List.Elements.{All-append, All-cons, All-head, All-nil, All-push, All-tail, All-weaker}
use Rattle.std.specs.Int.RustNames.{bit_or}
use Rattle.std.specs.Int.Bits.{or_zero_l}
use Rattle.std.specs.List.{AllPairs, range_with_len}
use Rattle.std.specs.Prelude.{All}
use Rattle.fan_fates.specs.Calls.{Came, Deed, Freed, Left}
use Rattle.fan_fates.specs.Bits.{HasBits, HasBitsIn, IsLike, StandsFor, with_all}
use Rattle.fan_fates.specs.Fates.{firsts, is_in, lost, lost_by, made, named, named_by, one_if, told, told_by}
use Rattle.fan_fates.specs.Rules.{IsAlone, IsAloneIn}
use Rattle.fan_fates.proofs.Lists.{All-first, All-middle, All-second, below_range, firsts_push, flat_map_push, is_in_middle, not_in, pairs_after, pairs_before, range_push, range_rises}
use Rattle.fan_laws.specs.Whole.{numbers_in}
use Rattle.fan_event.specs.declared.event.Event.{Event}
use Rattle.fan_queue.specs.declared.entry.Body.{Body}
use Rattle.fan_queue.specs.declared.entry.Body.TheVariants as bodies
use Rattle.fan_queue.specs.declared.entry.Entry.{Entry}
use Rattle.fan_queue.specs.declared.entry.Put.{Put}
use Rattle.fan_queue.specs.declared.entry.Put.TheVariants as puts

-- the entries made so far, in order, are those that fates name; each has the bits that they give it
pub record Fits (deeds : List Deed) (entries : List Entry) (next : ℕ) : Type 0 where
  pub those : made deeds ≡ numbers_in entries
  pub counted : numbers_in entries ≡ range_with_len 1 (length entries)
  pub last : next ≡ length entries + 1
  pub bits : All (HasBitsIn deeds) entries
  pub fresh : (number : ℕ) → next ≤ number → (told deeds number ≡ []) × (lost deeds number ≡ [])
  pub alone : All (IsAloneIn deeds) deeds

-- ---- one deed more

told_push : (deeds : List Deed) (deed : Deed) (number : ℕ)
    → told (deeds ++ deed ∷ []) number ≡ told deeds number ++ told_by number deed
told_push deeds deed number = flat_map_push (told_by number) deeds deed

lost_push : (deeds : List Deed) (deed : Deed) (number : ℕ)
    → lost (deeds ++ deed ∷ []) number ≡ lost deeds number ++ lost_by number deed
lost_push deeds deed number = flat_map_push (lost_by number) deeds deed

made_none : (deeds : List Deed) (deed : Deed) → named_by deed ≡ [] → made (deeds ++ deed ∷ []) ≡ made deeds
made_none deeds deed none =
    ap firsts (flat_map_push named_by deeds deed ∙ ap (λ more. named deeds ++ more) none
    ∙ append-nil (named deeds))

made_one : (deeds : List Deed) (deed : Deed) (number : ℕ) → named_by deed ≡ number ∷ []
    → made (deeds ++ deed ∷ [])
    ≡ made deeds ++ cond {A = List ℕ} (is_in (made deeds) number) [] (number ∷ [])
made_one deeds deed number one =
    ap firsts (flat_map_push named_by deeds deed ∙ ap (λ more. named deeds ++ more) one)
    ∙ firsts_push (named deeds) number

-- an entry that the deed says nothing of has its bits as before
pub record Untold (deeds : List Deed) (deed : Deed) (number : ℕ) : Type 0 where
  pub told_none : told_by number deed ≡ []
  pub lost_none : lost_by number deed ≡ []

module _ (deeds : List Deed) (deed : Deed) where
  told_same : (number : ℕ) → Untold deeds deed number → told (deeds ++ deed ∷ []) number ≡ told deeds number
  told_same number un =
      told_push deeds deed number ∙ ap (λ more. told deeds number ++ more) (un.told_none)
      ∙ append-nil (told deeds number)

  lost_same : (number : ℕ) → Untold deeds deed number → lost (deeds ++ deed ∷ []) number ≡ lost deeds number
  lost_same number un =
      lost_push deeds deed number ∙ ap (λ more. lost deeds number ++ more) (un.lost_none)
      ∙ append-nil (lost deeds number)

  bits_same : (entry : Entry) → Untold deeds deed entry.number → HasBitsIn deeds entry
      → HasBitsIn (deeds ++ deed ∷ []) entry
  bits_same entry un has =
      subst (λ (some : List Event). HasBits some (lost (deeds ++ deed ∷ []) entry.number) entry.body)
      (sym (told_same entry.number un))
      (subst (λ (some : List Event). HasBits (told deeds entry.number) some entry.body)
      (sym (lost_same entry.number un)) has)

  alone_same : (event : Event) (fate : Put)
      → ((number : ℕ) → event.perm ≡ true → told deeds number ≡ event ∷ [] → Untold deeds deed number)
      → IsAlone deeds event fate → IsAlone (deeds ++ deed ∷ []) event fate
  alone_same event (puts.Queued number) keeps is = λ asks.
      let its = is asks in
      let un = keeps number asks its.0 in
      (told_same number un ∙ its.0, lost_same number un ∙ its.1)
  alone_same event (puts.Merged number) keeps is = is
  alone_same event (puts.Overflow number) keeps is = is
  alone_same event puts.Closed keeps is = is

  -- a permission event that was queued is named no more
  KeepsAlone : Type 0
  KeepsAlone = (event : Event) (number : ℕ) → event.perm ≡ true → told deeds number ≡ event ∷ []
      → Untold deeds deed number

  alone_in : KeepsAlone → (other : Deed) → IsAloneIn deeds other → IsAloneIn (deeds ++ deed ∷ []) other
  unfolding KeepsAlone
  alone_in keeps (Came event fate) is = alone_same event fate (λ number. keeps event number) is
  alone_in keeps (Left entries) is = tt
  alone_in keeps (Freed entries) is = tt

  alone_push : KeepsAlone → All (IsAloneIn deeds) deeds → IsAloneIn (deeds ++ deed ∷ []) deed
      → All (IsAloneIn (deeds ++ deed ∷ [])) (deeds ++ deed ∷ [])
  alone_push keeps each last =
      All-push (IsAloneIn (deeds ++ deed ∷ [])) deeds deed
      (All-weaker (IsAloneIn deeds) (IsAloneIn (deeds ++ deed ∷ [])) (λ other is. alone_in keeps other is)
      deeds each) last

-- a deed that names no entry keeps all
pub fits_quiet : (deeds : List Deed) (deed : Deed) (entries : List Entry) (next : ℕ) → named_by deed ≡ []
    → ((number : ℕ) → Untold deeds deed number) → IsAloneIn (deeds ++ deed ∷ []) deed
    → Fits deeds entries next → Fits (deeds ++ deed ∷ []) entries next
unfolding KeepsAlone
fits_quiet deeds deed entries next none quiet last fits = record {
  those = made_none deeds deed none ∙ fits.those;
  counted = fits.counted;
  last = fits.last;
  bits = All-weaker (HasBitsIn deeds) (HasBitsIn (deeds ++ deed ∷ []))
      (λ entry is. bits_same deeds deed entry (quiet entry.number) is) entries fits.bits;
  fresh = λ number above.
      let was = fits.fresh number above in (
        told_same deeds deed number (quiet number) ∙ was.0,
        lost_same deeds deed number (quiet number)
            ∙ was.1,
      );
  alone = alone_push deeds deed (λ event number asks is. quiet number) fits.alone last;
}

pub fits_closed : (deeds : List Deed) (event : Event) (entries : List Entry) (next : ℕ)
    → Fits deeds entries next → Fits (deeds ++ Came event puts.Closed ∷ []) entries next
fits_closed deeds event entries next =
    fits_quiet deeds (Came event puts.Closed) entries next refl
    (λ number. record { told_none = refl; lost_none = refl }) tt

pub fits_left : (deeds : List Deed) (some entries : List Entry) (next : ℕ)
    → Fits deeds entries next → Fits (deeds ++ Left some ∷ []) entries next
fits_left deeds some entries next =
    fits_quiet deeds (Left some) entries next refl
    (λ number. record { told_none = refl; lost_none = refl }) tt

pub fits_freed : (deeds : List Deed) (some entries : List Entry) (next : ℕ)
    → Fits deeds entries next → Fits (deeds ++ Freed some ∷ []) entries next
fits_freed deeds some entries next =
    fits_quiet deeds (Freed some) entries next refl
    (λ number. record { told_none = refl; lost_none = refl }) tt

-- ---- one that names an entry

one_not : (number other : ℕ) (event : Event) → (number ≡ other → ⊥) → one_if (number == other) event ≡ []
one_not number other event differ = grind (arith, nat_tests, differ)

one_is : (number : ℕ) (event : Event) → one_if (number == number) event ≡ event ∷ []
one_is number event = grind (arith, nat_tests)

module _ (deeds : List Deed) (event : Event) (number other : ℕ) (differ : number ≡ other → ⊥) where
  untold_queued : Untold deeds (Came event (puts.Queued number)) other
  untold_queued = record { told_none = one_not number other event differ; lost_none = refl }

  untold_merged : Untold deeds (Came event (puts.Merged number)) other
  untold_merged = record { told_none = one_not number other event differ; lost_none = refl }

  untold_lost : Untold deeds (Came event (puts.Overflow number)) other
  untold_lost = record { told_none = refl; lost_none = one_not number other event differ }

-- more elements are some
some_more : {X : Type 0} (xs ys : List X) → (xs ≡ [] → ⊥) → xs ++ ys ≡ [] → ⊥
some_more [] ys some none = some refl
some_more (x ∷ xs) ys some none = absurd cc

-- an entry is one that a fate named
bits_known : (deeds : List Deed) (entry : Entry) (number : ℕ) → HasBitsIn deeds entry → told deeds number ≡ []
    → lost deeds number ≡ [] → entry.number ≡ number → ⊥
bits_known deeds entry number has no_told no_lost same =
    by entry.body has (ap (told deeds) same ∙ no_told) (ap (lost deeds) same ∙ no_lost)
  where
    by : {some others : List Event} (body : Body) → HasBits some others body → some ≡ [] → others ≡ [] → ⊥
    by (bodies.Told event) has no_told no_lost = has.some no_told
    by bodies.Lost has no_told no_lost = has.1 no_lost

-- numbers of entries with one more
numbers_push : (entries : List Entry) (entry : Entry)
    → numbers_in (entries ++ entry ∷ []) ≡ numbers_in entries ++ entry.number ∷ []
numbers_push entries entry = map-append (λ (one : Entry). one.number) entries (entry ∷ [])

module _ (deeds : List Deed) (deed : Deed) (entries : List Entry) (next : ℕ) (body : Body)
    (one : named_by deed ≡ next ∷ []) (fits : Fits deeds entries next) where
  abbrev made_entry : Entry
  made_entry = record { number = next; body = body }

  numbers_below : All (λ n. n < next) (numbers_in entries)
  numbers_below =
      let upto : 1 + length entries ≤ next = omega (arith, fits.last) in
      subst (All (λ (n : ℕ). n < next)) (sym fits.counted) (below_range 1 (length entries) next upto)

  those_new : made (deeds ++ deed ∷ []) ≡ numbers_in (entries ++ made_entry ∷ [])
  those_new =
      let absent : is_in (made deeds) next ≡ false =
      ap (λ numbers. is_in numbers next) fits.those ∙ not_in next (numbers_in entries) numbers_below in
      made_one deeds deed next one
      ∙ ap (λ b. made deeds ++ cond {A = List ℕ} b [] (next ∷ [])) absent
      ∙ ap (λ numbers. numbers ++ next ∷ []) fits.those
      ∙ sym (numbers_push entries made_entry)

  counted_new : numbers_in (entries ++ made_entry ∷ [])
      ≡ range_with_len 1 (length (entries ++ made_entry ∷ []))
  counted_new =
      let longer : length (entries ++ made_entry ∷ []) ≡ length entries + 1 =
      length-append entries (made_entry ∷ []) in
      let its : next ≡ 1 + length entries = omega (arith, fits.last) in
      numbers_push entries made_entry
      ∙ ap (λ numbers. numbers ++ next ∷ []) fits.counted
      ∙ ap (λ (n : ℕ). range_with_len 1 (length entries) ++ n ∷ []) its
      ∙ sym (range_push 1 (length entries))
      ∙ ap (range_with_len 1) (sym longer)

  last_new : next + 1 ≡ length (entries ++ made_entry ∷ []) + 1
  last_new = omega (arith, fits.last, length-append entries (made_entry ∷ []))

  -- the entries that were there are others
  others_known : (other : Entry) → HasBitsIn deeds other → next ≡ other.number → ⊥
  others_known other has same =
      let none = fits.fresh next (omega arith) in bits_known deeds other next has none.0 none.1 (sym same)

  -- and so are those of permission events that were queued
  asks_known : (event : Event) (number : ℕ) → told deeds number ≡ event ∷ [] → next ≡ number → ⊥
  asks_known event number is same =
      let none = fits.fresh next (omega arith) in
      let clash : event ∷ [] ≡ [] = sym is ∙ ap (told deeds) (sym same) ∙ none.0 in absurd cc

pub fits_queued : (deeds : List Deed) (event : Event) (entries : List Entry) (next : ℕ)
    → Fits deeds entries next
    → Fits (deeds ++ Came event (puts.Queued next) ∷ [])
    (entries ++ (record { number = next; body = bodies.Told event }) ∷ []) (next + 1)
unfolding KeepsAlone
fits_queued deeds event entries next fits =
    let deed = Came event (puts.Queued next) in
    let body = bodies.Told event in
    let entry : Entry = record { number = next; body = body } in
    let none = fits.fresh next (omega arith) in
    let told_it : told (deeds ++ deed ∷ []) next ≡ event ∷ [] =
    told_push deeds deed next ∙ ap (λ some. some ++ one_if (next == next) event) none.0 ∙ one_is next event in
    let lost_it : lost (deeds ++ deed ∷ []) next ≡ [] =
    lost_push deeds deed next ∙ append-nil (lost deeds next) ∙ none.1 in record {
      those = those_new deeds deed entries next body refl fits;
      counted = counted_new deeds deed entries next body refl fits;
      last = last_new deeds deed entries next body refl fits;
      bits = All-push (HasBitsIn (deeds ++ deed ∷ [])) entries entry
          (All-weaker (HasBitsIn deeds) (HasBitsIn (deeds ++ deed ∷ [])) (λ other has.
          bits_same deeds deed other (untold_queued deeds event next other.number
          (others_known deeds deed entries next body refl fits other has)) has) entries fits.bits)
          (stands told_it lost_it);
      fresh = λ number above.
          let was = fits.fresh number (omega arith) in
          let un = untold_queued deeds event next number (λ same. omega (arith, same, above)) in
          (told_same deeds deed number un ∙ was.0, lost_same deeds deed number un ∙ was.1);
      alone = alone_push deeds deed (λ other number asks is. untold_queued deeds event next number
          (asks_known deeds deed entries next body refl fits other number is)) fits.alone
          (λ asks. (told_it, lost_it));
    }
  where
    stands : {some others : List Event} → some ≡ event ∷ [] → others ≡ [] → StandsFor event some others
    stands told_it lost_it = record {
      some = λ none. let clash : event ∷ [] ≡ [] = sym told_it ∙ none in absurd cc;
      alike =
          subst (All (IsLike event)) (sym told_it)
          (All-cons (IsLike event) event [] refl (All-nil (IsLike event)));
      bits = sym (or_zero_l event.bits) ∙ ap (with_all 0) (sym told_it);
      none_lost = lost_it;
    }

pub fits_lost_first : (deeds : List Deed) (event : Event) (entries : List Entry) (next : ℕ)
    → Fits deeds entries next
    → Fits (deeds ++ Came event (puts.Overflow next) ∷ [])
    (entries ++ (record { number = next; body = bodies.Lost }) ∷ []) (next + 1)
unfolding KeepsAlone
fits_lost_first deeds event entries next fits =
    let deed = Came event (puts.Overflow next) in
    let body = bodies.Lost in
    let entry : Entry = record { number = next; body = body } in
    let none = fits.fresh next (omega arith) in
    let told_it : told (deeds ++ deed ∷ []) next ≡ [] =
    told_push deeds deed next ∙ append-nil (told deeds next) ∙ none.0 in
    let lost_it : lost (deeds ++ deed ∷ []) next ≡ event ∷ [] =
    lost_push deeds deed next ∙ ap (λ some. some ++ one_if (next == next) event) none.1
    ∙ one_is next event in record {
      those = those_new deeds deed entries next body refl fits;
      counted = counted_new deeds deed entries next body refl fits;
      last = last_new deeds deed entries next body refl fits;
      bits = All-push (HasBitsIn (deeds ++ deed ∷ [])) entries entry
          (All-weaker (HasBitsIn deeds) (HasBitsIn (deeds ++ deed ∷ [])) (λ other has.
          bits_same deeds deed other (untold_lost deeds event next other.number
          (others_known deeds deed entries next body refl fits other has)) has) entries fits.bits)
          (told_it, λ nothing. let clash : event ∷ [] ≡ [] = sym lost_it ∙ nothing in absurd cc);
      fresh = λ number above.
          let was = fits.fresh number (omega arith) in
          let un = untold_lost deeds event next number (λ same. omega (arith, same, above)) in
          (told_same deeds deed number un ∙ was.0, lost_same deeds deed number un ∙ was.1);
      alone = alone_push deeds deed (λ other number asks is. untold_lost deeds event next number
          (asks_known deeds deed entries next body refl fits other number is)) fits.alone tt;
    }

-- ---- one that names an entry that is there

-- the number of an entry in the middle
numbers_about : (before later : List Entry) (entry : Entry)
    → numbers_in (before ++ entry ∷ later) ≡ numbers_in before ++ entry.number ∷ numbers_in later
numbers_about before later entry = map-append (λ (one : Entry). one.number) before (entry ∷ later)

those_old : (deeds : List Deed) (deed : Deed) (before later : List Entry) (entry : Entry)
    → named_by deed ≡ entry.number ∷ [] → made deeds ≡ numbers_in (before ++ entry ∷ later)
    → made (deeds ++ deed ∷ []) ≡ numbers_in (before ++ entry ∷ later)
those_old deeds deed before later entry one those =
    let there : is_in (made deeds) entry.number ≡ true =
    ap (λ numbers. is_in numbers entry.number) (those ∙ numbers_about before later entry)
    ∙ is_in_middle entry.number (numbers_in before) (numbers_in later) in
    made_one deeds deed entry.number one
    ∙ ap (λ b. made deeds ++ cond {A = List ℕ} b [] (entry.number ∷ [])) there
    ∙ append-nil (made deeds) ∙ those

-- one more that is lost leaves the bits of all entries
lost_bits : (deeds : List Deed) (event : Event) (number : ℕ) (entry : Entry) → told deeds number ≡ []
    → HasBitsIn deeds entry → HasBitsIn (deeds ++ Came event (puts.Overflow number) ∷ []) entry
lost_bits deeds event number entry none has = by entry.body has
  where
    by : (body : Body) → HasBits (told deeds entry.number) (lost deeds entry.number) body
        → HasBits (told (deeds ++ Came event (puts.Overflow number) ∷ []) entry.number)
        (lost (deeds ++ Came event (puts.Overflow number) ∷ []) entry.number) body
    by (bodies.Told whole) has =
        let same : Entry = record { number = entry.number; body = bodies.Told whole } in
        bits_same deeds (Came event (puts.Overflow number)) same (untold_lost deeds event number entry.number
        (λ its. has.some (ap (told deeds) (sym its) ∙ none))) has
    by bodies.Lost has =
        let deed = Came event (puts.Overflow number) in (
          told_push deeds deed entry.number ∙ append-nil (told deeds entry.number) ∙ has.0,
          λ nothing. some_more (lost deeds entry.number) (one_if (number == entry.number) event) has.1
              (sym (lost_push deeds deed entry.number) ∙ nothing),
        )

pub fits_lost : (deeds : List Deed) (event : Event) (before later : List Entry) (entry : Entry) (next : ℕ)
    → entry.body ≡ bodies.Lost → Fits deeds (before ++ entry ∷ later) next
    → Fits (deeds ++ Came event (puts.Overflow entry.number) ∷ []) (before ++ entry ∷ later) next
unfolding KeepsAlone
fits_lost deeds event before later entry next overflows fits =
    let deed = Came event (puts.Overflow entry.number) in
    let its = All-middle (HasBitsIn deeds) before later entry fits.bits in
    let none = subst (HasBits (told deeds entry.number) (lost deeds entry.number)) overflows its in record {
      those = those_old deeds deed before later entry refl fits.those;
      counted = fits.counted;
      last = fits.last;
      bits = All-weaker (HasBitsIn deeds) (HasBitsIn (deeds ++ deed ∷ [])) (λ other has.
          lost_bits deeds event entry.number other none.0 has)
          (before ++ entry ∷ later) fits.bits;
      fresh = λ number above.
          let was = fits.fresh number above in
          let un =
          untold_lost deeds event entry.number number (bits_known deeds entry number its was.0 was.1) in
          (told_same deeds deed number un ∙ was.0, lost_same deeds deed number un ∙ was.1);
      alone = alone_push deeds deed (λ other number asks is. untold_lost deeds event entry.number number
          (λ same. let clash : other ∷ [] ≡ [] = sym is ∙ ap (told deeds) (sym same) ∙ none.0 in absurd cc))
          fits.alone tt;
    }

-- ---- one that is merged

-- bits together with those of one event more
with_all_push : (bits : ℕ) (some : List Event) (event : Event)
    → with_all bits (some ++ event ∷ []) ≡ bit_or (with_all bits some) event.bits
with_all_push bits [] event = refl
with_all_push bits (other ∷ some) event = with_all_push (bit_or bits other.bits) some event

-- the numbers of the others are other ones
pub rising : (deeds : List Deed) (entries : List Entry) (next : ℕ) → Fits deeds entries next
    → AllPairs (λ (a b : ℕ). a < b) (numbers_in entries)
rising deeds entries next fits =
    subst (AllPairs (λ (a b : ℕ). a < b)) (sym fits.counted) (range_rises 1 (length entries))

-- what holds of the numbers of entries, and what is known of entries
All-numbers : (P : ℕ → Type 0) (Q R : Entry → Type 0) (entries : List Entry) → All P (numbers_in entries)
    → ((entry : Entry) → P entry.number → Q entry → R entry) → All Q entries → All R entries
All-numbers P Q R [] numbers holds each = All-nil R
All-numbers P Q R (entry ∷ entries) numbers holds each =
    All-cons R entry entries
    (holds entry (All-head P entry.number (numbers_in entries) numbers) (All-head Q entry entries each))
    (All-numbers P Q R entries (All-tail P entry.number (numbers_in entries) numbers) holds
    (All-tail Q entry entries each))

pub fits_merged : (deeds : List Deed) (event old : Event) (before later : List Entry) (number next : ℕ)
    → event.perm ≡ false → old.perm ≡ false → IsLike old event
    → Fits deeds (before ++ (record { number = number; body = bodies.Told old }) ∷ later) next
    → Fits (deeds ++ Came event (puts.Merged number) ∷ [])
    (before ++ (record {
      number = number;
      body = bodies.Told (record old { bits = bit_or old.bits event.bits });
    }) ∷ later) next
unfolding KeepsAlone
fits_merged deeds event old before later number next notice unasked like fits =
    let deed = Came event (puts.Merged number) in
    let whole : Event = record old { bits = bit_or old.bits event.bits } in
    let was : Entry = record { number = number; body = bodies.Told old } in
    let now : Entry = record { number = number; body = bodies.Told whole } in
    let same_numbers : numbers_in (before ++ now ∷ later) ≡ numbers_in (before ++ was ∷ later) =
    numbers_about before later now ∙ sym (numbers_about before later was) in
    let same_length : length (before ++ now ∷ later) ≡ length (before ++ was ∷ later) =
    length-append before (now ∷ later) ∙ sym (length-append before (was ∷ later)) in
    let its : StandsFor old (told deeds number) (lost deeds number) =
    All-middle (HasBitsIn deeds) before later was fits.bits in
    let rises = subst (AllPairs (λ (a b : ℕ). a < b)) (numbers_about before later was)
    (rising deeds (before ++ was ∷ later) next fits) in
    let others : (entry : Entry) → (number ≡ entry.number → ⊥) → HasBitsIn deeds entry
    → HasBitsIn (deeds ++ deed ∷ []) entry =
    λ entry differ has. bits_same deeds deed entry
    (untold_merged deeds event number entry.number differ) has in
    let told_it =
    told_push deeds deed number ∙ ap (λ more. told deeds number ++ more) (one_is number event) in
    let lost_it = lost_push deeds deed number ∙ append-nil (lost deeds number) ∙ its.none_lost in record {
      those = those_old deeds deed before later was refl fits.those ∙ sym same_numbers;
      counted = same_numbers ∙ fits.counted ∙ ap (range_with_len 1) (sym same_length);
      last = omega (arith, fits.last, same_length);
      bits = All-both (HasBitsIn (deeds ++ deed ∷ [])) before later now
          (All-numbers (λ n. n < number) (HasBitsIn deeds) (HasBitsIn (deeds ++ deed ∷ [])) before
          (pairs_before (λ (a b : ℕ). a < b) (numbers_in before) (numbers_in later) number rises)
          (λ entry below has. others entry (λ same. omega (arith, same, below)) has)
          (All-first (HasBitsIn deeds) before (was ∷ later) fits.bits))
          (stands its told_it lost_it)
          (All-numbers (λ n. number < n) (HasBitsIn deeds) (HasBitsIn (deeds ++ deed ∷ [])) later
          (pairs_after (λ (a b : ℕ). a < b) (numbers_in before) (numbers_in later) number rises)
          (λ entry above has. others entry (λ same. omega (arith, same, above)) has)
          (All-tail (HasBitsIn deeds) was later
          (All-second (HasBitsIn deeds) before (was ∷ later) fits.bits)));
      fresh = λ other above.
          let none = fits.fresh other above in
          let un =
          untold_merged deeds event number other (λ same. its.some (ap (told deeds) same ∙ none.0)) in
          (told_same deeds deed other un ∙ none.0, lost_same deeds deed other un ∙ none.1);
      alone = alone_push deeds deed (λ other at asks is. untold_merged deeds event number at
          (λ same. unlike its other asks (ap (told deeds) same ∙ is))) fits.alone notice;
    }
  where
    -- the entry with one event more
    stands : {some others all none : List Event} → StandsFor old some others → all ≡ some ++ event ∷ []
        → none ≡ []
        → StandsFor (record old { bits = bit_or old.bits event.bits }) all none
    stands {some} its all_is none_is = record {
      some = λ nothing. some_more some (event ∷ []) its.some (sym all_is ∙ nothing);
      alike = subst (All (IsLike old)) (sym all_is) (All-push (IsLike old) some event its.alike like);
      bits = ap (λ bits. bit_or bits event.bits) its.bits ∙ sym (with_all_push 0 some event)
          ∙ ap (with_all 0) (sym all_is);
      none_lost = none_is;
    }

    -- it stands for no permission event
    unlike : {some others : List Event} → StandsFor old some others → (other : Event) → other.perm ≡ true
        → some ≡ other ∷ [] → ⊥
    unlike its other asks is =
        let first : IsLike old other =
        All-head (IsLike old) other [] (subst (All (IsLike old)) is its.alike) in
        let same : other.perm ≡ old.perm = ap (λ (one : Event). one.perm) first in
        let clash : true ≡ false = sym asks ∙ same ∙ unasked in absurd cc

    All-both : (P : Entry → Type 0) (xs ys : List Entry) (x : Entry) → All P xs → P x → All P ys
        → All P (xs ++ x ∷ ys)
    All-both P xs ys x first here second = All-append P xs (x ∷ ys) first (All-cons P x ys here second)
