-- A table without marks, and the marks of a table.
use Rattle.std.proofs.Common.{◌≡◌, ◌∙◌, ℕ, List, [], ◌∷◌, Some, refl, sym, ap, subst, arith, slice_get, nat_eq, true, not, eq-eqb}
use Rattle.std.proofs.lemmas.Bool.{false≢true, ne_eqb}
use Rattle.std.proofs.lemmas.List.Elements.{All-nil}
use Rattle.std.specs.Prelude.{All}
use Rattle.fan_bits.specs.declared.change.Change.{Change}
use Rattle.fan_bits.specs.declared.mark.Mark.{Mark}
use Rattle.fan_bits.specs.Marks.{IsChange, IsMark, IsMarkList, changed}
use Rattle.fan_rows.specs.Trees.{Chain, Pictures, PicturesBy, Tree, chain_at, digits, marks_in}
use Rattle.fan_rows.proofs.SameLists.{one_list}
use Rattle.fan_grace.specs.declared.made.Made.{Made}
use Rattle.fan_grace.specs.Noted.{AreNoted, noted_at, place_of}
use Rattle.fan_grace.specs.Stored.{CanMake, IsKept, IsKeptBy, IsMade, StoredState}

-- from a chain without marks digits lead to no marks
pub none_at : (digits : List ℕ) → chain_at (Chain []) digits ≡ []
none_at [] = refl
none_at (digit ∷ digits) = none_at digits

-- from root 0 no marks are pictured
no_marks : (words : List ℕ) → PicturesBy (slice_get words) 0 (Chain []) []
no_marks words = record {
  root_is = refl;
  lies = refl;
  once = λ row. omega arith;
  told = λ object small. ap marks_in (none_at (digits object));
}

no_list : IsMarkList []
no_list = record {
  each = All-nil IsMark;
  rises = tt;
  classes = All-nil (λ (mark : Mark). All (λ (other : Mark). mark.group ≡ other.group → mark.class ≡ other.class) []);
}

-- all of none are noted
pub none_noted : (noted : List (ℕ × ℕ)) → AreNoted noted []
none_noted noted =
    All-nil (λ (mark : Mark). noted_at noted (place_of mark.group mark.kind mark.object) ≡ Some mark.object)

-- and no row is reached
pub kept_empty : (stored : StoredState) → stored.words ≡ 0 ∷ 0 ∷ 0 ∷ 0 ∷ [] → stored.next ≡ 1
    → stored.retired ≡ [] → IsKeptBy stored 0 [] (Chain [])
kept_empty stored words next retired = record {
  full = rw (words, next) refl;
  pictured = no_marks stored.words;
  list = no_list;
  counts = λ row. rw (retired, next) refl;
}

-- the marks of a table are those that are pictured
pub marks_are : (stored : StoredState) (root : ℕ) (kept : IsKept stored root) (marks : List Mark)
    → Pictures (slice_get stored.words) root marks → IsMarkList marks → kept.0 ≡ marks
marks_are stored root kept marks pictured list =
    one_list (slice_get stored.words) root kept.0 marks (kept.1, kept.2.pictured) pictured kept.2.list list

-- so a change that is possible of them can be made
pub can_make : (stored : StoredState) (root : ℕ) (kept : IsKept stored root) (marks : List Mark)
    (change : Change) → Pictures (slice_get stored.words) root marks → IsMarkList marks → IsChange marks change
    → CanMake stored root kept.0 kept.1 change
can_make stored root kept marks change pictured list possible = record {
  kept = kept.2;
  allowed = subst (λ all. IsChange all change) (sym (marks_are stored root kept marks pictured list)) possible;
}

-- and what is told of the marks that are pictured is told of the marks of the table
pub made_of : (old new : StoredState) (root : ℕ) (kept : IsKept old root) (Marked : List Mark → Type 0)
    → Marked kept.0 → (asked : List Mark) (change : Change) (made : Made)
    → Pictures (slice_get old.words) root asked → IsMarkList asked → IsChange asked change
    → ((marks : List Mark) (tree : Tree) → CanMake old root marks tree change → Marked marks
    → IsMade old new root marks (changed marks change) made)
    → (marks : List Mark) → Pictures (slice_get old.words) root marks → IsMarkList marks
    → IsMade old new root marks (changed marks change) made
made_of old new root kept Marked marked asked change made pictured list possible told marks present is =
    subst (λ all. IsMade old new root all (changed all change) made) (marks_are old root kept marks present is)
    (told kept.0 kept.1 (can_make old root kept asked change pictured list possible) marked)

-- a root differs from another if and only if the marks do
pub differs : (root other : ℕ) {P : Type 0} → (P → root ≡ other) → (root ≡ other → P)
    → (not (nat_eq root other) ≡ true → P → ⊥) × ((P → ⊥) → not (nat_eq root other) ≡ true)
differs root other same back = (
  λ is unchanged. absurd (false≢true (sym (ap not (eq-eqb root other (same unchanged))) ∙ is)),
  λ changes. ap not (ne_eqb root other (λ is. changes (back is))),
)
