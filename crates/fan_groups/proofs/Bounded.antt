-- Entries and descriptors grow by one a call at most.
use Rattle.std.proofs.Common.{◌≡◌, ℕ, ◌+◌, ◌≤◌, List, [], ◌∷◌, ◌++◌, Some, get_or, arith, set, length-append, length-set}
use Rattle.std.specs.Prelude.{slice_get}
use Rattle.std.proofs.lemmas.List.Elements.{All-set, All-push}
use Rattle.std.proofs.lemmas.Option.{get_or_from_slice_get, slice_get_within}
use Rattle.fan_groups.specs.Bounds.{IsBounded, AreBounded}
use Rattle.fan_listener.specs.Bounds.{Makes}
use Rattle.fan_listener.specs.ListenerState.{ListenerState, new_listener}

-- a bound that holds still holds with more calls
pub bounded_up : (calls limit : ℕ) (listeners : List ListenerState) → calls ≤ limit
    → AreBounded calls listeners → AreBounded limit listeners
bounded_up calls limit listeners less bounded = record {
  count = omega (arith, bounded.count);
  each = λ index other within. record {
    entries = omega (arith, (bounded.each index other within).entries);
    descriptors = omega (arith, (bounded.each index other within).descriptors);
  };
}

-- a bound that holds still holds a call later
pub bounded_later : (calls : ℕ) (listeners : List ListenerState) → AreBounded calls listeners
    → AreBounded (calls + 1) listeners
bounded_later calls listeners bounded = bounded_up calls (calls + 1) listeners (omega arith) bounded

-- the listener at an index is bounded
pub bounded_at : (calls index : ℕ) (listeners : List ListenerState) (listener : ListenerState)
    → AreBounded calls listeners → slice_get listeners index ≡ Some listener → IsBounded calls listener
bounded_at calls index listeners listener bounded here =
    let same : get_or listeners index listener ≡ listener =
    get_or_from_slice_get listeners index listener listener here in
    rw same at (bounded.each index listener (slice_get_within listeners index listener here))

-- the listener at an index was called once
pub bounded_call : (calls index : ℕ) (listeners : List ListenerState) (old new : ListenerState)
    → AreBounded calls listeners → slice_get listeners index ≡ Some old → Makes 1 old new
    → AreBounded (calls + 1) (set listeners index new)
bounded_call calls index listeners old new bounded here makes =
    let later : AreBounded (calls + 1) listeners = bounded_later calls listeners bounded in
    let before : IsBounded calls old = bounded_at calls index listeners old bounded here in
    record {
      count = simp length-set later.count;
      each = All-set (IsBounded (calls + 1)) listeners index new
          (record {
            entries = omega (arith, before.entries, makes.made);
            descriptors = omega (arith, before.descriptors, makes.given);
          }) later.each;
    }

-- a call that makes nothing makes no more than one entry
pub makes_less : (old new : ListenerState) → Makes 0 old new → Makes 1 old new
makes_less old new makes = record {
  made = omega (arith, makes.made);
  given = omega (arith, makes.given);
  same_flags = makes.same_flags;
  same_limit = makes.same_limit;
}

-- there is one group more
pub bounded_new : (calls flags limit : ℕ) (listeners : List ListenerState) → AreBounded calls listeners
    → AreBounded (calls + 1) (listeners ++ new_listener flags limit ∷ [])
unfolding new_listener
bounded_new calls flags limit listeners bounded = record {
  count = simp length-append (omega (arith, bounded.count));
  each =
      All-push (IsBounded (calls + 1)) listeners (new_listener flags limit)
      (bounded_later calls listeners bounded).each (record { entries = omega arith; descriptors = omega arith });
}
