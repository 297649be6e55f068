-- What is true of every queue.
use Rattle.std.specs.Prelude.{◌≡◌, ⊤, ℕ, ◌+◌, ◌≤◌, Bool, false, List, [], ◌∷◌, length, count_by, find, None}
use Rattle.std.specs.List.{AllPairs}
use Rattle.fan_queue.specs.declared.entry.Body.{Body}
use Rattle.fan_queue.specs.declared.entry.Body.TheVariants.{Told, Lost}
use Rattle.fan_queue.specs.declared.entry.Entry.{Entry}
use Rattle.fan_queue.specs.Queue.{is_lost, takes}
use Rattle.fan_queue.specs.QueueState.{QueueState}

-- consecutive numbers, up to the one before the next
abbrev pub AreNumbered : ℕ → List Entry → Type 0
AreNumbered next_entry [] = ⊤
AreNumbered next_entry (entry ∷ rest) =
    (entry.number + length (entry ∷ rest) ≡ next_entry) × AreNumbered next_entry rest

-- what is queued would be merged into an entry before it
abbrev pub goes_into : Entry → Body → Bool
goes_into entry (Told event) = takes event entry
goes_into entry Lost = false

-- no entry would be merged into one before it: no two that aren't permission events have the same key
abbrev pub AreApart : List Entry → Type 0
AreApart entries = AllPairs (λ entry later. goes_into entry later.body ≡ false) entries

-- what is true of what is queued: consecutive numbers, each key once at most, and the lost entry once at most
pub record AreQueued (next_entry : ℕ) (entries : List Entry) : Type 0 where
  pub numbered : AreNumbered next_entry entries
  pub apart : AreApart entries
  pub lost_once : count_by is_lost entries ≤ 1

-- what is true of every queue
abbrev pub IsQueue : QueueState → Type 0
IsQueue state = AreQueued state.next_entry state.entries

-- nothing queued takes it: an event that no entry takes, or the lost entry where there is none
abbrev pub CanBeQueued : List Entry → Body → Type 0
CanBeQueued entries (Told event) = find (takes event) entries ≡ None
CanBeQueued entries Lost = find is_lost entries ≡ None
