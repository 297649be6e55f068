-- Which permission events wait, once some were queued, merged or read.
use Rattle.std.proofs.Common.{◌≡◌, ◌∙◌, ℕ, ◌+◌, ◌<◌, ◌≤◌, Bool, true, false, cond, ◌&&◌, not, List, [], ◌∷◌, ◌++◌, append_assoc, append-nil, refl, ap, arith}
use Rattle.std.proofs.lemmas.Bool.Decides.{nat_tests}
use Rattle.std.proofs.lemmas.List.Elements.{All-append, All-cons, All-nil, All-weaker, filter-append, filter_passes}
use Rattle.std.specs.Prelude.{All, filter}
use Rattle.fan_event.specs.declared.event.Event.{Event}
use Rattle.fan_lists.proofs.Filters.{filter_all, filter_none}
use Rattle.fan_lists.specs.First.{change_first}
use Rattle.fan_queue.specs.declared.entry.Body.{Body}
use Rattle.fan_queue.specs.declared.entry.Body.TheVariants.{Told, Lost}
use Rattle.fan_queue.specs.declared.entry.Entry.{Entry}
use Rattle.fan_queue.specs.Queue.{body_takes, merged, takes, with_more}
use Rattle.fan_listener.specs.declared.answers.Pending.{Pending}
use Rattle.fan_listener.specs.Records.{fd_after, has_fd, next_fd_after, pending_of, pendings, takes_fd}
use Rattle.fan_listener.specs.Stored.{is_read}

-- ---- descriptors only rise

fd_after-ge : (fd : ℕ) (body : Body) → fd ≤ fd_after fd body
fd_after-ge fd body = by (takes_fd body)
  where
    by : (takes : Bool) → fd ≤ cond takes (fd + 1) fd
    by true = omega arith
    by false = omega arith

-- the next one after entries is not before the first
pub next_fd_after-ge : (fd : ℕ) (entries : List Entry) → fd ≤ next_fd_after fd entries
next_fd_after-ge fd [] = omega arith
next_fd_after-ge fd (entry ∷ rest) =
    omega (arith, fd_after-ge fd entry.body, next_fd_after-ge (fd_after fd entry.body) rest)

-- the descriptor of an event is one of those that its entries take
abbrev pub IsWithin : ℕ → ℕ → Pending → Type 0
IsWithin from until pending = (from ≤ pending.fd) × (pending.fd < until)

one_within : (asks under : Bool) (pending : Pending)
    → All (IsWithin pending.fd (cond under (pending.fd + 1) pending.fd))
    (cond (asks && under) (pending ∷ []) [])
one_within true true pending =
    All-cons (IsWithin pending.fd (pending.fd + 1)) pending [] (omega arith, omega arith)
    (All-nil (IsWithin pending.fd (pending.fd + 1)))
one_within true false pending = All-nil (IsWithin pending.fd pending.fd)
one_within false under pending = All-nil (IsWithin pending.fd (cond under (pending.fd + 1) pending.fd))

pending_of-within : (fd number : ℕ) (body : Body)
    → All (IsWithin fd (fd_after fd body)) (pending_of fd number body)
pending_of-within fd number (Told event) =
    one_within event.perm (has_fd event.target) (record { fd = fd; entry = number; event = event })
pending_of-within fd number Lost = All-nil (IsWithin fd fd)

-- so is each of those of entries
pub pendings-within : (fd : ℕ) (entries : List Entry)
    → All (IsWithin fd (next_fd_after fd entries)) (pendings fd entries)
pendings-within fd [] = All-nil (IsWithin fd fd)
pendings-within fd (entry ∷ rest) =
    let after = fd_after fd entry.body in
    let until = next_fd_after after rest in
    let first = fd_after-ge fd entry.body in
    let later = next_fd_after-ge after rest in
    All-append (IsWithin fd until) (pending_of fd entry.number entry.body) (pendings after rest)
    (All-weaker (IsWithin fd after) (IsWithin fd until) (λ pending is. (is.0, omega (arith, is.1, later)))
    (pending_of fd entry.number entry.body) (pending_of-within fd entry.number entry.body))
    (All-weaker (IsWithin after until) (IsWithin fd until) (λ pending is. (omega (arith, is.0, first), is.1))
    (pendings after rest) (pendings-within after rest))

-- ---- entries that come last

-- more entries take the descriptors after those of the first
pub next_fd_after-append : (fd : ℕ) (entries more : List Entry)
    → next_fd_after fd (entries ++ more) ≡ next_fd_after (next_fd_after fd entries) more
next_fd_after-append fd [] more = refl
next_fd_after-append fd (entry ∷ rest) more = next_fd_after-append (fd_after fd entry.body) rest more

-- and their events wait behind theirs
pub pendings-append : (fd : ℕ) (entries more : List Entry)
    → pendings fd (entries ++ more) ≡ pendings fd entries ++ pendings (next_fd_after fd entries) more
pendings-append fd [] more = refl
pendings-append fd (entry ∷ rest) more =
    rw (pendings-append (fd_after fd entry.body) rest more, append_assoc) refl

-- ---- an event that takes no descriptor

-- it never waits
pub pending_of-handles : (event : Event) (fd number : ℕ) → has_fd event.target ≡ false
    → pending_of fd number (Told event) ≡ []
pending_of-handles event fd number handles = by event.perm (has_fd event.target) handles _
  where
    by : (asks under : Bool) → under ≡ false → (pending : Pending) → cond (asks && under) (pending ∷ []) [] ≡ []
    by true under none pending = rw none refl
    by false under none pending = refl

-- ---- a merge

-- no permission event takes the bits of another
plain_taker : (asking old same : Bool) → (not asking && not old && same) ≡ true → old ≡ false
plain_taker true old same takes = absurd cc
plain_taker false true same takes = absurd cc
plain_taker false false same takes = refl

pending_of-merged : (event : Event) (fd number : ℕ) (body : Body) → body_takes event body ≡ true
    → pending_of fd number (with_more event.bits body) ≡ pending_of fd number body
pending_of-merged event fd number (Told old) takes =
    let plain : old.perm ≡ false = plain_taker event.perm old.perm _ takes in rw plain refl
pending_of-merged event fd number Lost takes = absurd cc

fd_after-merged : (event : Event) (fd : ℕ) (body : Body)
    → fd_after fd (with_more event.bits body) ≡ fd_after fd body
fd_after-merged event fd (Told old) = refl
fd_after-merged event fd Lost = refl

-- an entry that takes bits changes neither the events that will wait
pub pendings-change_first : (event : Event) (fd : ℕ) (entries : List Entry)
    → pendings fd (change_first (takes event) (merged event) entries) ≡ pendings fd entries
unfolding takes merged
pendings-change_first event fd [] = refl
pendings-change_first event fd (entry ∷ rest) =
    by (takes event entry) refl (pendings-change_first event (fd_after fd entry.body) rest)
  where
    by : (b : Bool) → takes event entry ≡ b
        → pendings (fd_after fd entry.body) (change_first (takes event) (merged event) rest)
        ≡ pendings (fd_after fd entry.body) rest
        → pendings fd (cond b (merged event entry ∷ rest)
        (entry ∷ change_first (takes event) (merged event) rest)) ≡ pendings fd (entry ∷ rest)
    by true takes later =
        rw (
          pending_of-merged event fd entry.number entry.body takes,
          fd_after-merged event fd entry.body,
        ) refl
    by false takes later = rw later refl

-- nor their descriptors
pub next_fd_after-change_first : (event : Event) (fd : ℕ) (entries : List Entry)
    → next_fd_after fd (change_first (takes event) (merged event) entries) ≡ next_fd_after fd entries
unfolding takes merged
next_fd_after-change_first event fd [] = refl
next_fd_after-change_first event fd (entry ∷ rest) =
    by (takes event entry) (next_fd_after-change_first event (fd_after fd entry.body) rest)
  where
    by : (b : Bool)
        → next_fd_after (fd_after fd entry.body) (change_first (takes event) (merged event) rest)
        ≡ next_fd_after (fd_after fd entry.body) rest
        → next_fd_after fd (cond b (merged event entry ∷ rest)
        (entry ∷ change_first (takes event) (merged event) rest)) ≡ next_fd_after fd (entry ∷ rest)
    by true later = ap (λ after. next_fd_after after rest) (fd_after-merged event fd entry.body)
    by false later = later

-- ---- what was read

-- events behind a descriptor were not read
pub none_read : (next_fd until : ℕ) (pending : List Pending) → All (IsWithin next_fd until) pending
    → filter (is_read next_fd) pending ≡ []
none_read next_fd until pending within =
    filter_none (is_read next_fd) pending
    (All-weaker (IsWithin next_fd until) (λ p. is_read next_fd p ≡ false)
    (λ p is. grind (arith, nat_tests, is.0)) pending within)

-- events before it were
all_read : (from next_fd : ℕ) (pending : List Pending) → All (IsWithin from next_fd) pending
    → filter (is_read next_fd) pending ≡ pending
all_read from next_fd pending within =
    filter_all (is_read next_fd) pending
    (All-weaker (IsWithin from next_fd) (λ p. is_read next_fd p ≡ true)
    (λ p is. grind (arith, nat_tests, is.1)) pending within)

-- what was read stays so
still_read : (old new : ℕ) (asked : List Pending) → old ≤ new
    → filter (is_read new) (filter (is_read old) asked) ≡ filter (is_read old) asked
still_read old new asked rises =
    filter_all (is_read new) (filter (is_read old) asked)
    (All-weaker (λ p. is_read old p ≡ true) (λ p. is_read new p ≡ true)
    (λ p is. grind (arith, nat_tests, is, rises)) (filter (is_read old) asked)
    (filter_passes (is_read old) asked))

-- once a front is read, its events wait too
pub read_after : (next_fd : ℕ) (asked : List Pending) (front rest : List Entry)
    → asked ≡ filter (is_read next_fd) asked ++ pendings next_fd (front ++ rest)
    → filter (is_read (next_fd_after next_fd front)) asked
    ≡ filter (is_read next_fd) asked ++ pendings next_fd front
read_after next_fd asked front rest waits =
    let after = next_fd_after next_fd front in
    ap (filter (is_read after)) (waits ∙ ap (λ more. filter (is_read next_fd) asked ++ more)
    (pendings-append next_fd front rest))
    ∙ filter-append (is_read after) (filter (is_read next_fd) asked)
    (pendings next_fd front ++ pendings after rest)
    ∙ rw (
      filter-append (is_read after) (pendings next_fd front) (pendings after rest),
      still_read next_fd after asked (next_fd_after-ge next_fd front),
      all_read next_fd after (pendings next_fd front) (pendings-within next_fd front),
      none_read after (next_fd_after after rest) (pendings after rest) (pendings-within after rest),
      append-nil (pendings next_fd front),
    ) refl
