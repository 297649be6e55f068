-- What is known of what is tried in turn: each part of it is done, or all of it is refused.
use Rattle.std.proofs.Common.{◌≡◌, Bool, true, false, Option, Some, None, Result, Ok, Err, refl, subst}
use Rattle.std.specs.Prelude.{IfOk}
use Rattle.fan_bits.specs.declared.errno.Errno.{Errno}
use Rattle.fan_machine.specs.Outcome.{◌>>=◌, found_or, refuse_if, refuse_unless}

-- what may be refused and is done gives what is done with it
pub done_does : {A B : Type 0} (P : B → Type 0) (tried : Result A Errno) (then : A → Result B Errno)
    → ((given : A) → tried ≡ Ok given → IfOk (then given) P) → IfOk (tried >>= then) P
done_does P (Ok given) then each = each given refl
done_does P (Err errno) then each = tt

-- a test that isn't refused holds
pub unless_does : {B : Type 0} (P : B → Type 0) (test : Bool) (errno : Errno) (then : Unit {0}
    → Result B Errno)
    → (test ≡ true → IfOk (then tt) P) → IfOk (refuse_unless test errno >>= then) P
unless_does P true errno then each = each refl
unless_does P false errno then each = tt

-- there is no refusal
pub refusal_does : {B : Type 0} (P : B → Type 0) (refusal : Option Errno) (then : Unit {0} → Result B Errno)
    → (refusal ≡ None → IfOk (then tt) P) → IfOk (refuse_if refusal >>= then) P
refusal_does P None then each = each refl
refusal_does P (Some errno) then each = tt

-- what isn't refused was found
pub found_does : {A B : Type 0} (P : B → Type 0) (errno : Errno) (found : Option A) (then : A
    → Result B Errno)
    → ((given : A) → found ≡ Some given → IfOk (then given) P) → IfOk (found_or errno found >>= then) P
found_does P errno (Some given) then each = each given refl
found_does P errno None then each = tt

-- what holds of whatever is done holds of what was done
pub was_done : {A : Type 0} (P : A → Type 0) (tried : Result A Errno) (given : A)
    → tried ≡ Ok given → IfOk tried P → P given
was_done P (Ok done) given is its = let same : done ≡ given = cc in subst P same its
was_done P (Err errno) given is its = absurd cc
