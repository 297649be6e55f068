-- A group that is open can be closed, and no other.
use Rattle.std.proofs.Common.{◌≡◌, Bool, true, false, ℕ, List, Option, Some, None, refl}
use Rattle.std.specs.Prelude.{is_some, option_map}
use Rattle.fan_listener.specs.Groups.{closed_in, open_listener}
use Rattle.fan_listener.specs.ListenerState.{ListenerState}
use Rattle.fan_listener.specs.Groups.{with_listener}
use Rattle.fan_listener.specs.Responses.{closed_of}

module _ {A : Type 0} (found : Option A) (groups : List ListenerState) (group : ℕ)
    (is : is_some found ≡ is_some (open_listener groups group)) where
  -- one that is not open
  pub not_closed : is_some found ≡ false → closed_in groups group ≡ None
  unfolding closed_in
  not_closed none = by found (open_listener groups group) is none
    where
      by : (found : Option A) (listener : Option ListenerState) → is_some found ≡ is_some listener → is_some found ≡ false
          → option_map (λ listener. with_listener groups group (closed_of listener)) listener ≡ None
      by None None is none = refl
      by None (Some listener) is none = absurd cc
      by (Some x) listener is none = absurd cc

  -- one that is
  pub can_close : is_some found ≡ true → closed_in groups group ≡ None → ⊥
  unfolding closed_in
  can_close some none = by found (open_listener groups group) is some none
    where
      by : (found : Option A) (listener : Option ListenerState) → is_some found ≡ is_some listener → is_some found ≡ true
          → option_map (λ listener. with_listener groups group (closed_of listener)) listener ≡ None → ⊥
      by None listener is some none = absurd cc
      by (Some x) None is some none = absurd cc
      by (Some x) (Some listener) is some none = absurd cc
