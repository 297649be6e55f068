-- Open accesses as they are kept, beside those that they stand for.
use Rattle.std.proofs.Common.{◌≡◌, ◌∙◌, ℕ, ◌≤◌, Bool, true, false, cond, List, [], ◌∷◌, Some, None, length, refl, sym, ap, subst, arith}
use Rattle.std.specs.Prelude.{slice_get}
use Rattle.std.specs.BTreeMap.{insert_entry, is_at}
use Rattle.std.specs.List.{AllZip}
use Rattle.std.specs.Map.{lookup, remove_entry, set_value}
use Rattle.std.specs.Ordering.{nat_cmp}
use Rattle.std.specs.declared.cmp.Ordering.{Ordering}
use Rattle.std.specs.declared.cmp.Ordering.TheVariants.{Less, Equal, Greater}
use Rattle.std.proofs.lemmas.Map.{length-set_value}
use Rattle.std.proofs.lemmas.Map.Steps.{set_value_same}
use Rattle.fan_access.specs.Access.{AccessState, Phase, Asking, Waiting, Telling, access_step, asks, asks_next, step_at, tells, tells_next}
use Rattle.fan_access.specs.Kept.{IsAccess, IsStepped, KeptAccess}
use Rattle.fan_bits.specs.declared.mark.Mark.{Mark}
use Rattle.fan_bits.specs.declared.outcome.StepOutcome.{StepOutcome}
use Rattle.fan_bits.specs.Outcomes.{ends_access}
use Rattle.fan_grace.specs.declared.section.Section.{Section}
use Rattle.fan_listener.specs.ListenerState.{ListenerState}
use Rattle.fan_world.specs.declared.open_accesses.OpenAccess.{OpenAccess}
use Rattle.fan_machine.specs.Accesses.{accesses_after}
use Rattle.fan_world.specs.Machine.{IsOpen, sections_of}
use Rattle.fan_world.specs.Opened.{HasStepped, kept_after}
use Rattle.fan_world.proofs.OpenLemmas.{length_removed}

-- ---- a step keeps the spots of an access and its view

pub record KeepsView (access next : AccessState) : Type 0 where
  pub spots : next.spots ≡ access.spots
  pub view : next.view ≡ access.view

tells_keep : (at : ℕ) (groups : List ListenerState) (access : AccessState)
    → KeepsView access (tells_next (slice_get (tells access) at) at groups access).access
tells_keep at groups access =
    elim (slice_get (tells access) at) as (λ turn. KeepsView access (tells_next turn at groups access).access) [
      | None ↦ record { spots = refl; view = refl }
      | Some turn ↦ record { spots = refl; view = refl }
    ]

asks_keep : (at : ℕ) (groups : List ListenerState) (access : AccessState)
    → KeepsView access (asks_next (slice_get (asks access) at) at groups access).access
asks_keep at groups access =
    elim (slice_get (asks access) at) as (λ turn. KeepsView access (asks_next turn at groups access).access) [
      | None ↦ tells_keep 0 groups access
      | Some turn ↦ record { spots = refl; view = refl }
    ]

at_keeps : (phase : Phase) (groups : List ListenerState) (access : AccessState)
    → KeepsView access (step_at phase groups access).access
at_keeps (Asking at) groups access = asks_keep at groups access
at_keeps (Waiting at group entry) groups access = record { spots = refl; view = refl }
at_keeps (Telling at) groups access = tells_keep at groups access

pub step_keeps : (groups : List ListenerState) (access : AccessState) → KeepsView access (access_step groups access).access
unfolding access_step
step_keeps groups access = at_keeps access.phase groups access

-- ---- the same place of both lists

-- an access stands for what is kept of it
pub record StandsFor {S : Type 0} (shows : S → Section → List Mark → Type 0) (table : S) (kept : OpenAccess)
    (access : AccessState) : Type 0 where
  pub shown : shows table kept.section access.view
  pub goes_on : IsAccess access.view kept.access access

module _ (S : Type 0) (shows : S → Section → List Mark → Type 0) (table : S) (test : ℕ → Bool) where
  -- what is not found among those that are kept is not found
  pub none_both : (es : List (ℕ × OpenAccess)) (accesses : List (ℕ × AccessState)) → AllZip (IsOpen shows table) es accesses
      → lookup test es ≡ None → lookup test accesses ≡ None
  none_both [] [] zipped none = refl
  none_both [] (a ∷ bs) zipped none = absurd zipped
  none_both (e ∷ es) [] zipped none = absurd zipped
  none_both (e ∷ es) (a ∷ bs) zipped none =
      by (test e.0) refl (sym (ap test zipped.0.number)) none (none_both es bs zipped.1)
    where
      by : (b : Bool) → test e.0 ≡ b → test a.0 ≡ test e.0 → lookup test (e ∷ es) ≡ None
          → (lookup test es ≡ None → lookup test bs ≡ None) → lookup test (a ∷ bs) ≡ None
      by true i same none ih = absurd (grind (arith, i, none))
      by false i same none ih =
          let rest : lookup test es ≡ None = grind (arith, i, none) in
          grind (arith, i, same, ih rest)

  -- and what is found stands for an access that is found
  pub found_both : (es : List (ℕ × OpenAccess)) (accesses : List (ℕ × AccessState)) → AllZip (IsOpen shows table) es accesses
      → (kept : OpenAccess) → lookup test es ≡ Some kept
      → (access : AccessState) × (lookup test accesses ≡ Some access) × StandsFor shows table kept access
  found_both [] accesses zipped kept found = absurd cc
  found_both (e ∷ es) [] zipped kept found = absurd zipped
  found_both (e ∷ es) (a ∷ bs) zipped kept found =
      by (test e.0) refl (sym (ap test zipped.0.number)) found (found_both es bs zipped.1 kept)
    where
      by : (b : Bool) → test e.0 ≡ b → test a.0 ≡ test e.0 → lookup test (e ∷ es) ≡ Some kept
          → (lookup test es ≡ Some kept
          → (access : AccessState) × (lookup test bs ≡ Some access) × StandsFor shows table kept access)
          → (access : AccessState) × (lookup test (a ∷ bs) ≡ Some access) × StandsFor shows table kept access
      by true i same found ih =
          let is : e.1 ≡ kept = grind (arith, i, found) in (
            a.1,
            grind (arith, i, same),
            subst (λ (kept : OpenAccess). StandsFor shows table kept a.1) is
                (record { shown = zipped.0.shown; goes_on = zipped.0.goes_on }),
          )
      by false i same found ih =
          let rest : lookup test es ≡ Some kept = grind (arith, i, found) in
          let more = ih rest in (more.0, grind (arith, i, same, more.1), more.2)

  -- another access takes its place in both
  pub set_both : (es : List (ℕ × OpenAccess)) (accesses : List (ℕ × AccessState)) → AllZip (IsOpen shows table) es accesses
      → (kept : OpenAccess) (access : AccessState) → StandsFor shows table kept access
      → AllZip (IsOpen shows table) (set_value test es kept) (set_value test accesses access)
  set_both [] [] zipped kept access stands = tt
  set_both [] (a ∷ bs) zipped kept access stands = absurd zipped
  set_both (e ∷ es) [] zipped kept access stands = absurd zipped
  set_both (e ∷ es) (a ∷ bs) zipped kept access stands =
      by (test e.0) refl (sym (ap test zipped.0.number)) (set_both es bs zipped.1 kept access stands)
    where
      by : (b : Bool) → test e.0 ≡ b → test a.0 ≡ test e.0
          → AllZip (IsOpen shows table) (set_value test es kept) (set_value test bs access)
          → AllZip (IsOpen shows table) (set_value test (e ∷ es) kept) (set_value test (a ∷ bs) access)
      by true i same ih =
          rw (same, i) (record { number = zipped.0.number; shown = stands.shown; goes_on = stands.goes_on }, zipped.1)
      by false i same ih = rw (same, i) (zipped.0, ih)

  -- or goes from both
  pub removed_both : (es : List (ℕ × OpenAccess)) (accesses : List (ℕ × AccessState)) → AllZip (IsOpen shows table) es accesses
      → AllZip (IsOpen shows table) (remove_entry test es) (remove_entry test accesses)
  removed_both [] [] zipped = tt
  removed_both [] (a ∷ bs) zipped = absurd zipped
  removed_both (e ∷ es) [] zipped = absurd zipped
  removed_both (e ∷ es) (a ∷ bs) zipped =
      by (test e.0) refl (sym (ap test zipped.0.number)) (removed_both es bs zipped.1)
    where
      by : (b : Bool) → test e.0 ≡ b → test a.0 ≡ test e.0
          → AllZip (IsOpen shows table) (remove_entry test es) (remove_entry test bs)
          → AllZip (IsOpen shows table) (remove_entry test (e ∷ es)) (remove_entry test (a ∷ bs))
      by true i same ih = rw (same, i) zipped.1
      by false i same ih = rw (same, i) (zipped.0, ih)

module _ (S : Type 0) (shows : S → Section → List Mark → Type 0) (table : S) where
  -- an access that begins comes to its place in both
  pub insert_both : (es : List (ℕ × OpenAccess)) (accesses : List (ℕ × AccessState)) → AllZip (IsOpen shows table) es accesses
      → (number : ℕ) (kept : OpenAccess) (access : AccessState) → IsOpen shows table (number, kept) (number, access)
      → AllZip (IsOpen shows table) (insert_entry nat_cmp es number kept) (insert_entry nat_cmp accesses number access)
  insert_both [] [] zipped number kept access is = (is, tt)
  insert_both [] (a ∷ bs) zipped number kept access is = absurd zipped
  insert_both (e ∷ es) [] zipped number kept access is = absurd zipped
  insert_both (e ∷ es) (a ∷ bs) zipped number kept access is =
      by (nat_cmp number e.0) refl (sym (ap (nat_cmp number) zipped.0.number))
      (insert_both es bs zipped.1 number kept access is)
    where
      by : (r : Ordering) → nat_cmp number e.0 ≡ r → nat_cmp number a.0 ≡ nat_cmp number e.0
          → AllZip (IsOpen shows table) (insert_entry nat_cmp es number kept) (insert_entry nat_cmp bs number access)
          → AllZip (IsOpen shows table) (insert_entry nat_cmp (e ∷ es) number kept) (insert_entry nat_cmp (a ∷ bs) number access)
      by Less i same ih = rw (same, i) (is, zipped)
      by Equal i same ih =
          rw (same, i) (record { number = zipped.0.number; shown = is.shown; goes_on = is.goes_on }, zipped.1)
      by Greater i same ih = rw (same, i) (zipped.0, ih)

  -- the same choice in both lists
  both_after : (b other : Bool) (set removed : List (ℕ × OpenAccess)) (all gone : List (ℕ × AccessState)) → other ≡ b
      → AllZip (IsOpen shows table) set all → AllZip (IsOpen shows table) removed gone
      → AllZip (IsOpen shows table) (cond b removed set) (cond other gone all)
  both_after true other set removed all gone same kept ended = rw same ended
  both_after false other set removed all gone same kept ended = rw same kept

  -- the access that is found does the step that what is kept of it does
  pub stepped_both : (number : ℕ) (kept : OpenAccess) (access : AccessState) (outcome : StepOutcome)
      (groups new_groups : List ListenerState) (es new : List (ℕ × OpenAccess)) (accesses : List (ℕ × AccessState))
      → StandsFor shows table kept access
      → HasStepped number kept.section access.view (access_step groups access) outcome new_groups es new
      → AllZip (IsOpen shows table) es accesses
      → AllZip (IsOpen shows table) new (accesses_after number (access_step groups access) accesses)
  stepped_both number kept access outcome groups new_groups es new accesses stands did zipped =
      let test = is_at (nat_cmp number) in
      let stepped = access_step groups access in
      let keeps = step_keeps groups access in
      let next : StandsFor shows table (record { access = did.next; section = kept.section }) stepped.access = record {
        shown = rw keeps.view stands.shown;
        goes_on = rw keeps.view did.goes_on;
      } in
      rw did.accesses
      (both_after (ends_access stepped.outcome) (ends_access stepped.outcome) _ _ _ _ refl
      (set_both S shows table test es accesses zipped _ stepped.access next)
      (removed_both S shows table test es accesses zipped))

-- ---- in its place

-- what stood at a place goes from there, whatever was put there before
pub set_removed : (test : ℕ → Bool) (es : List (ℕ × OpenAccess)) (kept : OpenAccess)
    → remove_entry test (set_value test es kept) ≡ remove_entry test es
set_removed test [] kept = refl
set_removed test (e ∷ es) kept = by (test e.0) refl (set_removed test es kept)
  where
    by : (b : Bool) → test e.0 ≡ b → remove_entry test (set_value test es kept) ≡ remove_entry test es
        → remove_entry test (set_value test (e ∷ es) kept) ≡ remove_entry test (e ∷ es)
    by true i ih = grind (arith, i)
    by false i ih = grind (arith, i, ih)

-- an access did its step in its place
module _ (number : ℕ) (es : List (ℕ × OpenAccess)) (kept : OpenAccess) (next : KeptAccess) where
  abbrev pub stood : List (ℕ × OpenAccess)
  stood = set_value (is_at (nat_cmp number)) es (record { access = next; section = kept.section })

  -- it goes where the outcome ends it
  pub goes_after : (outcome : StepOutcome) (new : List (ℕ × OpenAccess)) → ends_access outcome ≡ true
      → new ≡ remove_entry (is_at (nat_cmp number)) stood
      → new ≡ kept_after number outcome (record { access = next; section = kept.section }) es
  goes_after outcome new ends gone = rw ends (gone ∙ set_removed (is_at (nat_cmp number)) es _)

  -- there are no more then
  pub goes_few : (new : List (ℕ × OpenAccess)) → new ≡ remove_entry (is_at (nat_cmp number)) stood
      → length new ≤ length es
  goes_few new gone =
      rw gone (omega (
        arith,
        length_removed (is_at (nat_cmp number)) stood,
        length-set_value (is_at (nat_cmp number)) es (record { access = next; section = kept.section }),
      ))

  -- and else stays there
  pub stays_after : (outcome : StepOutcome) → ends_access outcome ≡ false
      → stood ≡ kept_after number outcome (record { access = next; section = kept.section }) es
  stays_after outcome goes_on = rw goes_on refl

  pub stays_few : length stood ≤ length es
  stays_few =
      omega (arith, length-set_value (is_at (nat_cmp number)) es (record { access = next; section = kept.section }))

  -- where it stands as before, nothing changed
  pub stays_same : lookup (is_at (nat_cmp number)) es ≡ Some kept → next ≡ kept.access → stood ≡ es
  stays_same found stays = rw stays (set_value_same (is_at (nat_cmp number)) es kept found)

-- the step that what is kept did is that of each access for which it stands
pub has_stepped : (S : Type 0) (shows : S → Section → List Mark → Type 0) (table : S) (number : ℕ)
    (outcome : StepOutcome) (groups new_groups : List ListenerState) (es new : List (ℕ × OpenAccess))
    (kept : OpenAccess) (next : KeptAccess) → lookup (is_at (nat_cmp number)) es ≡ Some kept
    → ((marks : List Mark) (state : AccessState) → shows table kept.section marks → IsAccess marks kept.access state
    → IsStepped marks outcome new_groups next (access_step groups state))
    → new ≡ kept_after number outcome (record { access = next; section = kept.section }) es
    → (found : OpenAccess) (access : AccessState) → lookup (is_at (nat_cmp number)) es ≡ Some found
    → shows table found.section access.view → IsAccess access.view found.access access
    → HasStepped number found.section access.view (access_step groups access) outcome new_groups es new
has_stepped S shows table number outcome groups new_groups es new kept next here step is found access there shown stands =
    let same : found ≡ kept = let both = sym there ∙ here in cc in
    let did : IsStepped access.view outcome new_groups next (access_step groups access) =
    step access.view access (rw same at shown) (rw same at stands) in
    record {
      answers = did.answers;
      listeners = did.listeners;
      next = next;
      goes_on = did.goes_on;
      accesses = rw (← did.answers, same) is;
    }
