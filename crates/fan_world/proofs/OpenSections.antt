-- The sections of the open accesses, as accesses begin, step and end.
use Rattle.std.proofs.Common.{◌≡◌, ◌∙◌, ℕ, ◌<◌, ◌≤◌, ◌^◌, Bool, true, false, List, [], ◌∷◌, ◌++◌, Some, None, length, refl, sym, ap, subst, arith}
use Rattle.std.specs.List.{AllZip}
use Rattle.std.specs.Map.{lookup, remove_entry, set_value}
use Rattle.std.proofs.Common.{append_assoc}
use Rattle.std.proofs.lemmas.List.{append-nil, length-map}
use Rattle.fan_access.specs.Access.{AccessState}
use Rattle.fan_bits.specs.declared.mark.Mark.{Mark}
use Rattle.fan_grace.specs.declared.section.Section.{Section}
use Rattle.fan_world.specs.declared.open_accesses.OpenAccess.{OpenAccess}
use Rattle.fan_world.specs.Machine.{IsOpen, sections_of}
use Rattle.fan_world.specs.Opened.{OpenState}
use Rattle.fan_world.specs.Sections.{HasEntered, HasRoom, IsThere, Keeps}

-- where the section of an access stands among those of all, and what is left without it
pub record StandsAt (test : ℕ → Bool) (es : List (ℕ × OpenAccess)) (section : Section) : Type 0 where
  pub before : List Section
  pub after : List Section
  pub all : sections_of es ≡ before ++ section ∷ after
  pub left : sections_of (remove_entry test es) ≡ before ++ after

pub stands_at : (test : ℕ → Bool) (es : List (ℕ × OpenAccess)) (kept : OpenAccess) → lookup test es ≡ Some kept
    → StandsAt test es kept.section
stands_at test [] kept found = absurd cc
stands_at test (e ∷ es) kept found = by (test e.0) refl found (stands_at test es kept)
  where
    by : (b : Bool) → test e.0 ≡ b → lookup test (e ∷ es) ≡ Some kept
        → (lookup test es ≡ Some kept → StandsAt test es kept.section) → StandsAt test (e ∷ es) kept.section
    by true i found ih =
        let is : e.1 ≡ kept = grind (arith, i, found) in record {
          before = [];
          after = sections_of es;
          all = ap (λ (kept : OpenAccess). kept.section ∷ sections_of es) is;
          left = rw i refl;
        }
    by false i found ih =
        let rest : lookup test es ≡ Some kept = grind (arith, i, found) in
        let more = ih rest in record {
          before = e.1.section ∷ more.before;
          after = more.after;
          all = ap (λ sections. e.1.section ∷ sections) more.all;
          left = rw i (ap (λ sections. e.1.section ∷ sections) more.left);
        }

-- what is said of the entries of a state, of those of a state that is the same
pub of_entries : (P : List (ℕ × OpenAccess) → Type 0) (kept state : OpenState) → kept ≡ state → P state.entries
    → P kept.entries
of_entries P kept state is said = subst (λ (state : OpenState). P state.entries) (sym is) said

-- an access that goes on by its section leaves the sections as they are
pub same_sections : (test : ℕ → Bool) (es : List (ℕ × OpenAccess)) (kept next : OpenAccess)
    → lookup test es ≡ Some kept → next.section ≡ kept.section
    → sections_of (set_value test es next) ≡ sections_of es
same_sections test [] kept next found same = refl
same_sections test (e ∷ es) kept next found same = by (test e.0) refl found (same_sections test es kept next)
  where
    by : (b : Bool) → test e.0 ≡ b → lookup test (e ∷ es) ≡ Some kept
        → (lookup test es ≡ Some kept → next.section ≡ kept.section
        → sections_of (set_value test es next) ≡ sections_of es)
        → sections_of (set_value test (e ∷ es) next) ≡ sections_of (e ∷ es)
    by true i found ih =
        let is : e.1 ≡ kept = grind (arith, i, found) in
        rw i (ap (λ section. section ∷ sections_of es)
        (same ∙ ap (λ (kept : OpenAccess). kept.section) (sym is)))
    by false i found ih =
        let rest : lookup test es ≡ Some kept = grind (arith, i, found) in
        rw i (ap (λ sections. e.1.section ∷ sections) (ih rest same))

-- the section of an access that comes last stands last
pub last_section : (es : List (ℕ × OpenAccess)) (number : ℕ) (kept : OpenAccess)
    → sections_of (es ++ (number, kept) ∷ []) ≡ sections_of es ++ kept.section ∷ []
last_section [] number kept = refl
last_section (e ∷ es) number kept = ap (λ sections. e.1.section ∷ sections) (last_section es number kept)

module _ (S : Type 0) (inside : S → List Section → Type 0) (shows : S → Section → List Mark → Type 0)
    (honest : S → Type 0) where
  -- nothing changed
  pub keeps_itself : (table : S) (sections : List Section) → inside table sections
      → Keeps inside shows honest table table sections
  keeps_itself table sections there = record {
    there = there;
    stays = λ before after section marks is shown. shown;
    same_honest = (λ is. is, λ is. is);
  }

  -- an access goes on in its place
  pub keeps_stepped : (old new : S) (test : ℕ → Bool) (es : List (ℕ × OpenAccess)) (kept next : OpenAccess)
      → inside old (sections_of es) → lookup test es ≡ Some kept → next.section ≡ kept.section → new ≡ old
      → Keeps inside shows honest old new (sections_of (set_value test es next))
  keeps_stepped old new test es kept next there found same is =
      rw (is, same_sections test es kept next found same) (keeps_itself old (sections_of es) there)

  -- the section of an open access is there
  pub is_there : (table : S) (test : ℕ → Bool) (es : List (ℕ × OpenAccess)) (kept : OpenAccess)
      → inside table (sections_of es) → lookup test es ≡ Some kept → IsThere inside table kept.section
  is_there table test es kept there found =
      let at = stands_at test es kept found in (at.before, at.after, subst (inside table) at.all there)

  -- an access ended, and left its section
  pub keeps_left : (old new : S) (test : ℕ → Bool) (es : List (ℕ × OpenAccess)) (kept : OpenAccess)
      → inside old (sections_of es) → lookup test es ≡ Some kept
      → ((before after : List Section) → inside old (before ++ kept.section ∷ after)
      → Keeps inside shows honest old new (before ++ after))
      → Keeps inside shows honest old new (sections_of (remove_entry test es))
  keeps_left old new test es kept there found keeps =
      let at = stands_at test es kept found in
      subst (Keeps inside shows honest old new) (sym at.left)
      (keeps at.before at.after (subst (inside old) at.all there))

  -- accesses whose sections show what they showed stand for the same states
  shown_behind : (old new : S) (all front : List Section)
      → ((before after : List Section) (section : Section) (marks : List Mark) → all ≡ before ++ section ∷ after
      → shows old section marks → shows new section marks) → (es : List (ℕ × OpenAccess))
      (accesses : List (ℕ × AccessState)) → all ≡ front ++ sections_of es
      → AllZip (IsOpen shows old) es accesses → AllZip (IsOpen shows new) es accesses
  shown_behind old new all front stays [] [] is zipped = tt
  shown_behind old new all front stays [] (a ∷ more) is zipped = absurd zipped
  shown_behind old new all front stays (e ∷ es) [] is zipped = absurd zipped
  shown_behind old new all front stays (e ∷ es) (a ∷ more) is zipped = (
    record {
      number = zipped.0.number;
      shown = stays front (sections_of es) e.1.section a.1.view is zipped.0.shown;
      goes_on = zipped.0.goes_on;
    },
    shown_behind old new all (front ++ e.1.section ∷ []) stays es more
        (is ∙ sym (append_assoc front (e.1.section ∷ []) (sections_of es))) zipped.1,
  )

  pub shown_still : (old new : S) (es : List (ℕ × OpenAccess)) (accesses : List (ℕ × AccessState))
      → Keeps inside shows honest old new (sections_of es) → AllZip (IsOpen shows old) es accesses
      → AllZip (IsOpen shows new) es accesses
  shown_still old new es accesses keeps zipped =
      shown_behind old new (sections_of es) [] keeps.stays es accesses refl zipped

  -- and so they do as another access begins
  pub shown_entered : (old new : S) (section : Section) (view : List Mark) (es : List (ℕ × OpenAccess))
      (accesses : List (ℕ × AccessState)) → HasEntered inside shows honest old new section view
      → inside old (sections_of es) → AllZip (IsOpen shows old) es accesses → AllZip (IsOpen shows new) es accesses
  shown_entered old new section view es accesses entered there zipped =
      shown_behind old new (sections_of es) []
      (λ before after other marks is shown. entered.stays before after other marks (subst (inside old) is there) shown)
      es accesses refl zipped

  -- its section is there behind the others
  pub there_behind : (old new : S) (section : Section) (view : List Mark) (sections all : List Section)
      → HasEntered inside shows honest old new section view → inside old sections → all ≡ sections ++ section ∷ []
      → inside new all
  there_behind old new section view sections all entered there is =
      rw is (entered.there sections [] (subst (inside old) (sym (append-nil sections)) there))

-- one section more could enter as long as few accesses are open
pub has_room : (S : Type 0) (inside : S → List Section → Type 0) (table : S) (es : List (ℕ × OpenAccess)) (calls : ℕ)
    → inside table (sections_of es) → length es ≤ calls → calls < 2 ^ 30 → HasRoom inside table
has_room S inside table es calls there opened few = (
  sections_of es,
  there,
  rw (length-map) (omega (arith, opened, few)),
)
