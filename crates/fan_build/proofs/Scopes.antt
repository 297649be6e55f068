-- What edits make of a list of marks: a change where it is made, and its part on one object.
use Rattle.std.proofs.Common.{◌≡◌, ◌≢◌, ◌∙◌, ℕ, ◌<◌, ◌^◌, Bool, true, false, List, [], ◌⊎◌, inl, inr, ⊎_elim, length, refl, sym, ap, subst, arith, eqb-true, eq-eqb}
use Rattle.std.proofs.lemmas.Bool.{cond_both, false≢true}
use Rattle.std.proofs.lemmas.Bool.Decides.{nat_tests}
use Rattle.std.specs.Prelude.{nat_lt, ◌==◌}
use Rattle.fan_bits.specs.declared.change.Change.{Change}
use Rattle.fan_bits.specs.declared.change.Change.TheVariants.{Put, Flush, Clear, DropGroup, DropObject}
use Rattle.fan_bits.specs.declared.kind.Kind.{Kind}
use Rattle.fan_bits.specs.declared.mark.Mark.{Mark}
use Rattle.fan_bits.specs.Marks.{IsChange, IsMarkList, changed, gone, on, retired}
use Rattle.fan_bits.proofs.MarkLists.{changed_keeps_list}
use Rattle.fan_bits.proofs.OnObjects.{drop_group_on, flush_on}
use Rattle.fan_build.specs.declared.edit.Scope.{Scope}
use Rattle.fan_build.specs.declared.edit.Scope.TheVariants.{Everywhere, Object, Nowhere}
use Rattle.fan_build.specs.Building.{IsIn, IsNumbered, IsOut, Makes}
use Rattle.fan_build.specs.Edits.{edit_of, edit_on, scope_at, scope_of, scope_on}
use Rattle.fan_build.specs.Objects.{changed_on}
use Rattle.fan_build.proofs.FewRetired.{few_on, few_retired, gone_at}
use Rattle.fan_build.proofs.ObjectEdits.{IsAtObject, IsElsewhere, edited_on, same_elsewhere}
use Rattle.fan_build.proofs.Objects.{changed_on_keeps_list, elsewhere_on, here_on}

-- ---- one object

at_numbered : (own : ℕ) → IsNumbered (scope_at own)
at_numbered own =
    cond_both (nat_lt 65535 own) Nowhere (Object own) IsNumbered (λ large. tt)
    (λ small. grind (arith, nat_tests, small))

in_at : (own object : ℕ) → IsIn (scope_at own) object → object ≡ own
in_at own object =
    cond_both (nat_lt 65535 own) Nowhere (Object own) (λ scope. IsIn scope object → object ≡ own)
    (λ large never. absurd never) (λ small same. same)

out_at : (own object : ℕ) → object < 2 ^ 16 → IsOut (scope_at own) object → object ≢ own
out_at own object bound =
    cond_both (nat_lt 65535 own) Nowhere (Object own) (λ scope. IsOut scope object → object ≢ own)
    (λ large out same. absurd (grind (arith, nat_tests, large, bound, same))) (λ small differs. differs)

one_scope : (own : ℕ) → scope_at own ≢ Everywhere
one_scope own =
    cond_both (nat_lt 65535 own) Nowhere (Object own) (λ scope. scope ≢ Everywhere)
    (λ large never. absurd cc) (λ small never. absurd cc)

-- ---- a change where it is made

of_numbered : (change : Change) → IsNumbered (scope_of change)
of_numbered (Put group class words own) = at_numbered own
of_numbered (Flush group kind) = tt
of_numbered (Clear own) = at_numbered own
of_numbered (DropGroup group) = tt
of_numbered (DropObject own) = at_numbered own

of_in : (change : Change) (object : ℕ) → IsIn (scope_of change) object → IsAtObject change object
of_in (Put group class words own) object is = in_at own object is
of_in (Flush group kind) object is = tt
of_in (Clear own) object is = tt
of_in (DropGroup group) object is = tt
of_in (DropObject own) object is = tt

of_out : (marks : List Mark) (change : Change) → IsMarkList marks → (object : ℕ) → object < 2 ^ 16
    → IsOut (scope_of change) object → on object (changed marks change) ≡ on object marks
of_out marks (Put group class words own) list object bound out =
    same_elsewhere marks (Put group class words own) list object (out_at own object bound out)
of_out marks (Flush group kind) list object bound never = absurd never
of_out marks (Clear own) list object bound out =
    same_elsewhere marks (Clear own) list object (out_at own object bound out)
of_out marks (DropGroup group) list object bound never = absurd never
of_out marks (DropObject own) list object bound out =
    same_elsewhere marks (DropObject own) list object (out_at own object bound out)

-- nothing becomes of no marks
empty_flush : (group : ℕ) (kind : Kind) → changed [] (Flush group kind) ≡ []
unfolding changed
empty_flush group kind = refl

empty_drop : (group : ℕ) → changed [] (DropGroup group) ≡ []
unfolding changed
empty_drop group = refl

of_nothing : (marks : List Mark) (change : Change) → scope_of change ≡ Everywhere → (object : ℕ)
    → on object marks ≡ [] → on object (changed marks change) ≡ []
of_nothing marks (Put group class words own) all object none = absurd (one_scope own all)
of_nothing marks (Flush group kind) all object none =
    flush_on marks object group kind ∙ ap (λ l. changed l (Flush group kind)) none ∙ empty_flush group kind
of_nothing marks (Clear own) all object none = absurd (one_scope own all)
of_nothing marks (DropGroup group) all object none =
    drop_group_on marks object group ∙ ap (λ l. changed l (DropGroup group)) none ∙ empty_drop group
of_nothing marks (DropObject own) all object none = absurd (one_scope own all)

of_few : (marks : List Mark) (change : Change) → IsMarkList marks
    → length (gone marks (changed marks change)) < 2 ^ 32
unfolding retired
of_few marks change list = few_retired marks change list

pub makes_change : (marks : List Mark) (change : Change) → IsMarkList marks → IsChange marks change
    → Makes (edit_of change) marks (changed marks change)
makes_change marks change list allowed = record {
  numbered = of_numbered change;
  before = list;
  list = changed_keeps_list marks change allowed list;
  here = λ object bound is. edited_on marks change list allowed object (of_in change object is);
  elsewhere = λ object bound out. of_out marks change list object bound out;
  nothing = of_nothing marks change;
  few = of_few marks change list;
}

-- ---- its part on one object

-- that is on the object alone; or the change is a Put on another one, and it is none
abbrev Part : Change → ℕ → Scope → Type 0
Part change object scope =
    ((scope ≡ scope_at object) × IsAtObject change object)
    ⊎ ((scope ≡ Nowhere) × IsElsewhere change object)

part_of : (change : Change) (object : ℕ) → Part change object (scope_on change object)
part_of (Put group class words own) object =
    cond_both (own == object) (scope_at object) Nowhere (Part (Put group class words own) object)
    (λ same. inl (refl, sym (eqb-true own object same)))
    (λ other. inr (refl, λ same. false≢true (sym other ∙ eq-eqb own object (sym same))))
part_of (Flush group kind) object = inl (refl, tt)
part_of (Clear own) object = inl (refl, tt)
part_of (DropGroup group) object = inl (refl, tt)
part_of (DropObject own) object = inl (refl, tt)

module _ (marks : List Mark) (change : Change) (object : ℕ) (list : IsMarkList marks)
    (allowed : IsChange marks change) where
  abbrev after : List Mark
  after = changed_on marks change object

  -- the marks on the object are those of the changed list
  on_here : (other : ℕ) → other ≡ object → on other after ≡ on other (changed marks change)
  on_here other same =
      subst (λ o. on o after ≡ on o (changed marks change)) (sym same) (here_on marks change object)

  -- and those on others stay, or all do
  on_other : (other : ℕ) → other ≢ object → on other after ≡ on other marks
  on_other other differs = elsewhere_on marks change object other differs

  on_any : IsElsewhere change object → (other : ℕ) → on other after ≡ on other marks
  on_any elsewhere other = by (other == object) refl
    where
      by : (same : Bool) → (other == object) ≡ same → on other after ≡ on other marks
      by true is =
          let one : other ≡ object = eqb-true other object is in
          on_here other one
          ∙ same_elsewhere marks change list other (subst (IsElsewhere change) (sym one) elsewhere)
      by false is = on_other other (λ same. false≢true (sym is ∙ eq-eqb other object same))

  makes_by : (scope : Scope) → Part change object scope
      → Makes (record { change = change; scope = scope }) marks after
  makes_by scope part = record {
    numbered = ⊎_elim (λ at. subst IsNumbered (sym at.0) (at_numbered object))
        (λ off. subst IsNumbered (sym off.0) tt) part;
    before = list;
    list = changed_on_keeps_list marks change object list allowed;
    here = λ other bound is. ⊎_elim
        (λ at.
        let same = in_at object other (subst (λ s. IsIn s other) at.0 is) in
        edited_on marks change list allowed other (subst (IsAtObject change) (sym same) at.1)
        ∙ sym (on_here other same))
        (λ off. absurd (subst (λ s. IsIn s other) off.0 is)) part;
    elsewhere = λ other bound out. ⊎_elim
        (λ at. on_other other (out_at object other bound (subst (λ s. IsOut s other) at.0 out)))
        (λ off. on_any off.1 other) part;
    nothing = λ all other none. ⊎_elim (λ at. absurd (one_scope object (sym at.0 ∙ all)))
        (λ off. on_any off.1 other ∙ none) part;
    few = omega (arith, gone_at object marks after on_other, few_on marks list object);
  }

  pub makes_change_on : Makes (edit_on change object) marks after
  makes_change_on = makes_by (scope_on change object) (part_of change object)
