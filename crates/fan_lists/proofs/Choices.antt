-- Choices by a test, and optional values that a choice gave.
use Rattle.std.proofs.Common.{◌≡◌, Bool, true, false, cond, Option, Some, None, refl}

-- a choice keeps what holds of each side where it is taken
pub either : {X : Type 0} (P : X → Type 0) (b : Bool) (x y : X) → (b ≡ true → P x) → (b ≡ false → P y)
    → P (cond b x y)
either P true x y here there = here refl
either P false x y here there = there refl

-- a choice gave a value by one of its sides
pub choice_some : {A P : Type 0} (b : Bool) (x z : Option A) (y : A) → cond b x z ≡ Some y
    → (b ≡ true → x ≡ Some y → P) → (b ≡ false → z ≡ Some y → P) → P
choice_some true x z y is passed failed = passed refl is
choice_some false x z y is passed failed = failed refl is

-- a choice gave none by one of its sides
pub choice_none : {A P : Type 0} (b : Bool) (x z : Option A) → cond b x z ≡ None
    → (b ≡ true → x ≡ None → P) → (b ≡ false → z ≡ None → P) → P
choice_none true x z is passed failed = passed refl is
choice_none false x z is passed failed = failed refl is

-- a value behind a test that turns it away: the test failed
pub some_past : {A : Type 0} (b : Bool) (x : Option A) (y : A) → cond b None x ≡ Some y
    → (b ≡ false) × (x ≡ Some y)
some_past true x y is = absurd cc
some_past false x y is = (refl, is)

-- and so it did where a test behind it passed
pub true_past : (b c : Bool) → cond b false c ≡ true → (b ≡ false) × (c ≡ true)
true_past true c is = absurd cc
true_past false c is = (refl, is)
