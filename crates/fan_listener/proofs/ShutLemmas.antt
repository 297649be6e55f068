-- What is left of a listener that was closed, with nothing in its queue and no room for a verdict.
use Rattle.std.proofs.Common.{◌≡◌, ℕ, List, [], ◌∷◌, Option, Some, None, refl, subst}
use Rattle.std.proofs.lemmas.List.Elements.{All-head}
use Rattle.std.specs.Prelude.{All}
use Rattle.fan_listener.specs.declared.answers.Pending.{Pending}
use Rattle.fan_listener.specs.declared.answers.Verdict.{Verdict}
use Rattle.fan_listener.specs.Stored.{rooms_of}

-- without a room nothing waits
pub none_waits : (rooms : List (ℕ × Option Verdict)) → rooms ≡ [] → (asked : List Pending)
    → All (λ pending. rooms_of rooms pending.entry ≡ Some None) asked → asked ≡ []
none_waits rooms empty [] roomy = refl
none_waits rooms empty (pending ∷ asked) roomy =
    let room : ◌≡◌ {A = Option (Option Verdict)} None (Some None) =
    subst (λ (rooms : List (ℕ × Option Verdict)). rooms_of rooms pending.entry ≡ Some None) empty
    (All-head (λ (pending : Pending). rooms_of rooms pending.entry ≡ Some None) pending asked roomy) in absurd cc
