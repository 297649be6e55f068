-- What a reading says of the word.
use Rattle.std.proofs.Common.{◌≡◌, Option, Some, None, refl}
use Rattle.std.specs.Prelude.{◌↔◌, IfSome, IfNone}

found : {A : Type 0} (read result : Option A) (P : A → Type 0) → ((x : A) → (read ≡ Some x) ↔ P x)
    → read ≡ result → IfSome result P
found read (Some x) P iff e = (iff x).0 e
found read None P iff e = tt

missed : {A : Type 0} (read result : Option A) (P : A → Type 0) → ((x : A) → (read ≡ Some x) ↔ P x)
    → read ≡ result → IfNone result ((x : A) → P x → ⊥)
missed read (Some x) P iff e = tt
missed read None P iff e = λ x h. let again : read ≡ Some x = (iff x).1 h in cc

-- what is read is what the word spells
pub found_by : {A : Type 0} (read : Option A) (P : A → Type 0) → ((x : A) → (read ≡ Some x) ↔ P x)
    → IfSome read P
found_by read P iff = found read read P iff refl

-- where nothing is read, the word spells nothing
pub missed_by : {A : Type 0} (read : Option A) (P : A → Type 0) → ((x : A) → (read ≡ Some x) ↔ P x)
    → IfNone read ((x : A) → P x → ⊥)
missed_by read P iff = missed read read P iff refl
