-- What a listener keeps, once an event was put on its queue, read, answered or forgotten.
use Rattle.std.proofs.Common.{◌≡◌, ◌≢◌, ◌∙◌, ℕ, ◌+◌, ◌<◌, ◌≤◌, ◌^◌, Bool, true, false, cond, List, [], ◌∷◌, ◌++◌, append_assoc, append-nil, drop, length, find, Option, Some, None, refl, ap, sym, subst, arith, ⊎_elim}
use Rattle.std.proofs.lemmas.Bool.{cases_lt}
use Rattle.std.proofs.lemmas.Bool.Decides.{nat_tests}
use Rattle.std.proofs.lemmas.Cmp.{nat_cmp_total}
use Rattle.std.proofs.lemmas.List.Elements.{All-append, All-cons, All-nil, All-weaker, filter-append, filter_passes}
use Rattle.std.proofs.Math.Seq.{drop-append_seam}
use Rattle.std.proofs.lemmas.List.Kept.{AllPairs-cons}
use Rattle.std.proofs.lemmas.Map.{keys-set_value}
use Rattle.std.specs.BTreeMap.{insert_entry, is_at}
use Rattle.std.specs.List.{AllPairs}
use Rattle.std.specs.List.Sorted.{IsStrictlySortedBy}
use Rattle.std.specs.Map.{keys_of, set_value}
use Rattle.std.specs.Option.{option_flatten}
use Rattle.std.specs.Ordering.{is_eq, nat_cmp}
use Rattle.std.specs.Prelude.{All, filter}
use Rattle.fan_event.specs.declared.event.Event.{Event}
use Rattle.fan_lists.proofs.Finds.{All-find}
use Rattle.fan_lists.proofs.FirstLemmas.{All-without_first}
use Rattle.fan_lists.proofs.Pairs.{AllPairs-append, AllPairs-head, AllPairs-nil, AllPairs-tail}
use Rattle.fan_lists.specs.First.{without_first}
use Rattle.fan_map.proofs.Insertions.{lookup-insert_entry, lookup_after_set, sorted-insert_entry}
use Rattle.fan_queue.specs.declared.entry.Body.TheVariants.{Told}
use Rattle.fan_queue.specs.declared.entry.Entry.{Entry}
use Rattle.fan_queue.specs.Queue.{queued}
use Rattle.fan_queue.specs.QueueState.{QueueState}
use Rattle.fan_listener.specs.declared.answers.Pending.{Pending}
use Rattle.fan_listener.specs.declared.answers.Verdict.{Verdict}
use Rattle.fan_listener.specs.ListenerState.{ListenerState}
use Rattle.fan_listener.specs.Records.{has_fd, next_fd_after, pending_of, pendings, read_front}
use Rattle.fan_listener.specs.Responses.{is_under, verdict_on}
use Rattle.fan_listener.specs.Stored.{CameBefore, IsStored, answers_in, is_read, rooms_of}
use Rattle.fan_listener.proofs.ListLemmas.{AllPairs-without_first, without_first-append}
use Rattle.fan_listener.proofs.PutLemmas.{Keeps}
use Rattle.fan_listener.proofs.ResponseLemmas.{without_read}
use Rattle.fan_listener.proofs.RoomLemmas.{verdict_on-answers_in}
use Rattle.fan_listener.proofs.WaitLemmas.{IsWithin, next_fd_after-append, next_fd_after-ge, pendings-append, pendings-within, read_after}

-- the others have other entries than the one that is taken out
other_entries : (test : Pending → Bool) (asked : List Pending) (pending : Pending) → AllPairs CameBefore asked
    → find test asked ≡ Some pending → All (λ other. other.entry ≢ pending.entry) (without_first test asked)
other_entries test [] pending ordered found = absurd cc
other_entries test (first ∷ asked) pending ordered found =
    by (test first) found
    (other_entries test asked pending (AllPairs-tail CameBefore first asked ordered))
  where
    P : Pending → Type 0
    P other = other.entry ≢ pending.entry

    head : All (CameBefore first) asked
    head = AllPairs-head CameBefore first asked ordered

    by : (b : Bool) → cond b (Some first) (find test asked) ≡ Some pending
        → (find test asked ≡ Some pending → All P (without_first test asked))
        → All P (cond b asked (first ∷ without_first test asked))
    by true found later =
        let same : first ≡ pending = cc in
        All-weaker (CameBefore first) P
        (λ other behind equal. absurd (omega (arith, behind, equal, ap (λ (p : Pending). p.entry) same)))
        asked head
    by false found later =
        let before = All-find test (CameBefore first) asked pending head found in
        All-cons P first (without_first test asked) (λ equal. absurd (omega (arith, before, equal)))
        (later found)

-- a permission event that is queued
abbrev pub fresh : ℕ → QueueState → Event → Pending
fresh ahead queue event = record { fd = ahead; entry = queue.next_entry; event = event }

module _ {flags limit ahead next_fd : ℕ} {queue : QueueState} {asked : List Pending}
    {rooms : List (ℕ × Option Verdict)} (stored : IsStored flags limit queue ahead next_fd asked rooms) where
  -- the next descriptor isn't behind that of the next event that is queued
  given_below : next_fd ≤ ahead
  given_below = rw stored.follows (next_fd_after-ge next_fd queue.entries)

  -- the descriptors of all events were given ahead
  pub asked_below : All (λ other. other.fd < ahead) asked
  asked_below =
      let P : Pending → Type 0 = λ other. other.fd < ahead in
      let below = given_below in
      subst (All P) (sym stored.waits)
      (All-append P (filter (is_read next_fd) asked) (pendings next_fd queue.entries)
      (All-weaker (λ p. is_read next_fd p ≡ true) P (λ p is. grind (arith, nat_tests, is, below))
      (filter (is_read next_fd) asked) (filter_passes (is_read next_fd) asked))
      (All-weaker (IsWithin next_fd (next_fd_after next_fd queue.entries)) P
      (λ p is. omega (arith, is.1, stored.follows)) (pendings next_fd queue.entries)
      (pendings-within next_fd queue.entries)))

  -- an entry with a room was made
  made : (entry : ℕ) → rooms_of rooms entry ≡ Some None → entry < queue.next_entry
  made entry there =
      ⊎_elim (λ below. below)
      (λ past. let none = stored.unused entry past in absurd cc) (cases_lt entry queue.next_entry)

  -- those of all events were
  asked_made : All (λ other. other.entry < queue.next_entry) asked
  asked_made =
      All-weaker (λ p. rooms_of rooms p.entry ≡ Some None) (λ p. p.entry < queue.next_entry)
      (λ p. made p.entry) asked stored.roomy

  -- no verdict on an event that waits was given
  pub none_given : All (λ p. verdict_on p.entry (answers_in rooms) ≡ None) asked
  none_given =
      All-weaker (λ p. rooms_of rooms p.entry ≡ Some None)
      (λ p. verdict_on p.entry (answers_in rooms) ≡ None)
      (λ p there. verdict_on-answers_in p.entry rooms stored.sorted ∙ ap option_flatten there)
      asked stored.roomy

  -- ---- an event is put on the queue

  -- a put that queues no event
  pub stored-kept : (new : QueueState) → Keeps queue new → IsStored flags limit new ahead next_fd asked rooms
  stored-kept new keeps = record {
    limited = keeps.limit ∙ stored.limited;
    follows = stored.follows ∙ sym (keeps.next next_fd);
    waits = stored.waits ∙ ap (λ more. filter (is_read next_fd) asked ++ more) (sym (keeps.waiting next_fd));
    ordered = stored.ordered;
    sorted = stored.sorted;
    roomy = stored.roomy;
    unused = λ entry past. stored.unused entry (omega (arith, past, keeps.made));
    few = omega (arith, stored.few, keeps.made);
    small = stored.small;
  }

  module _ (event : Event) (under : has_fd event.target ≡ true) where
    -- the event is queued under the descriptor that was next ahead
    follows-queued : ahead + 1 ≡ next_fd_after next_fd (queued queue (Told event)).entries
    unfolding queued
    follows-queued = rw stored.follows (sym (next_fd_after-append next_fd queue.entries _ ∙ rw under refl))

    pendings-queued : pendings next_fd (queued queue (Told event)).entries
        ≡ pendings next_fd queue.entries ++ pending_of ahead queue.next_entry (Told event)
    unfolding queued
    pendings-queued =
        pendings-append next_fd queue.entries _
        ∙ rw (← stored.follows, append-nil (pending_of ahead queue.next_entry (Told event))) refl

    -- an event that is no permission event
    pub stored-told : event.perm ≡ false
        → IsStored flags limit (queued queue (Told event)) (ahead + 1) next_fd asked rooms
    unfolding queued
    stored-told plain = record {
      limited = stored.limited;
      follows = follows-queued;
      waits = stored.waits ∙ ap (λ more. filter (is_read next_fd) asked ++ more)
          (sym (pendings-queued ∙ rw plain (append-nil (pendings next_fd queue.entries))));
      ordered = stored.ordered;
      sorted = stored.sorted;
      roomy = stored.roomy;
      unused = λ entry past. stored.unused entry (omega (arith, past));
      few = omega (arith, stored.few);
      small = stored.small;
    }

    -- a permission event, with a room for its verdict
    abbrev its : Pending
    its = fresh ahead queue event

    abbrev with_room : List (ℕ × Option Verdict)
    with_room = insert_entry nat_cmp rooms queue.next_entry None

    room_after : (entry : ℕ) → rooms_of with_room entry
        ≡ cond (is_eq (nat_cmp entry queue.next_entry)) (Some None) (rooms_of rooms entry)
    room_after entry = lookup-insert_entry nat_cmp nat_cmp_total queue.next_entry None entry rooms

    either : (b : Bool) (room : Option (Option Verdict)) → room ≡ Some None
        → cond b (Some None) room ≡ Some None
    either true room is = refl
    either false room is = is

    -- it was not read
    pub read-queued : filter (is_read next_fd) (asked ++ its ∷ []) ≡ filter (is_read next_fd) asked
    read-queued =
        let below = given_below in
        let ahead_of : is_read next_fd its ≡ false = grind (arith, nat_tests, below) in
        filter-append (is_read next_fd) asked (its ∷ [])
        ∙ rw ahead_of (append-nil (filter (is_read next_fd) asked))

    pub stored-asked : event.perm ≡ true
        → IsStored flags limit (queued queue (Told event)) (ahead + 1) next_fd (asked ++ its ∷ []) with_room
    unfolding queued
    stored-asked asks = record {
      limited = stored.limited;
      follows = follows-queued;
      waits = ap (λ front. front ++ its ∷ []) stored.waits
          ∙ append_assoc (filter (is_read next_fd) asked) (pendings next_fd queue.entries) (its ∷ [])
          ∙ rw (read-queued, pendings-queued, asks, under) refl;
      ordered = AllPairs-append CameBefore asked (its ∷ []) stored.ordered
          (AllPairs-cons CameBefore its [] (All-nil (CameBefore its)) (AllPairs-nil CameBefore))
          (All-weaker (λ p. p.entry < queue.next_entry) (λ p. All (CameBefore p) (its ∷ []))
          (λ p before. All-cons (CameBefore p) its [] before (All-nil (CameBefore p))) asked asked_made);
      sorted = sorted-insert_entry nat_cmp nat_cmp_total queue.next_entry None rooms
          (stored.unused queue.next_entry (omega arith)) stored.sorted;
      roomy = All-append (λ p. rooms_of with_room p.entry ≡ Some None) asked (its ∷ [])
          (All-weaker (λ p. rooms_of rooms p.entry ≡ Some None) (λ p. rooms_of with_room p.entry ≡ Some None)
          (λ p there. room_after p.entry ∙ either _ (rooms_of rooms p.entry) there) asked stored.roomy)
          (All-cons (λ p. rooms_of with_room p.entry ≡ Some None) its []
          (room_after queue.next_entry ∙ grind (arith, nat_tests))
          (All-nil (λ p. rooms_of with_room p.entry ≡ Some None)));
      unused = λ entry past.
          let other : is_eq (nat_cmp entry queue.next_entry) ≡ false = grind (arith, nat_tests, past) in
          room_after entry ∙ rw other (stored.unused entry (omega (arith, past)));
      few = omega (arith, stored.few);
      small = stored.small;
    }

  -- ---- a front is read

  pub stored-read : (new : QueueState) (front rest : List Entry) (after : ℕ) → queue.entries ≡ front ++ rest
      → new.entries ≡ rest → new.limit ≡ queue.limit → new.next_entry ≡ queue.next_entry
      → after ≡ next_fd_after next_fd front → after < 2 ^ 31
      → IsStored flags limit new ahead after asked rooms
  stored-read new front rest after whole left limit_stays number_stays is small = record {
    limited = limit_stays ∙ stored.limited;
    follows = stored.follows ∙ ap (next_fd_after next_fd) whole ∙ next_fd_after-append next_fd front rest
        ∙ rw (left, is) refl;
    waits = waits ∙ ap (λ more. filter (is_read next_fd) asked ++ more) (pendings-append next_fd front rest)
        ∙ sym (append_assoc (filter (is_read next_fd) asked) (pendings next_fd front) _)
        ∙ rw (left, is) (ap (λ read. read ++ pendings (next_fd_after next_fd front) rest)
        (sym (read_after next_fd asked front rest waits)));
    ordered = stored.ordered;
    sorted = stored.sorted;
    roomy = stored.roomy;
    unused = λ entry past. stored.unused entry (omega (arith, past, number_stays));
    few = omega (arith, stored.few, number_stays);
    small = small;
  }
    where
      waits : asked ≡ filter (is_read next_fd) asked ++ pendings next_fd (front ++ rest)
      waits = stored.waits ∙ ap (λ entries. filter (is_read next_fd) asked ++ pendings next_fd entries) whole

  -- ---- a verdict is given

  -- the rooms with a verdict in that of an entry
  abbrev with_given : ℕ → Verdict → List (ℕ × Option Verdict)
  with_given entry verdict = set_value (is_at (nat_cmp entry)) rooms (Some verdict)

  -- an event that waits has a room without a verdict
  pub room_of : (fd : ℕ) (pending : Pending) → find (is_under fd) asked ≡ Some pending
      → rooms_of rooms pending.entry ≡ Some None
  room_of fd pending found =
      All-find (is_under fd) (λ p. rooms_of rooms p.entry ≡ Some None) asked pending stored.roomy found

  pub stored-answered : (fd : ℕ) (pending : Pending) (verdict : Verdict) → fd < next_fd
      → find (is_under fd) asked ≡ Some pending
      → IsStored flags limit queue ahead next_fd (without_first (is_under fd) asked)
      (with_given pending.entry verdict)
  stored-answered fd pending verdict given found = record {
    limited = stored.limited;
    follows = stored.follows;
    waits = ap (without_first (is_under fd)) stored.waits
        ∙ without_first-append (is_under fd) (filter (is_read next_fd) asked)
        (pendings next_fd queue.entries) later
        ∙ ap (λ read. read ++ pendings next_fd queue.entries) (sym (without_read fd next_fd asked given));
    ordered = AllPairs-without_first CameBefore (is_under fd) asked stored.ordered;
    sorted = subst (IsStrictlySortedBy nat_cmp)
        (sym (keys-set_value (is_at (nat_cmp pending.entry)) rooms _)) stored.sorted;
    roomy = both (without_first (is_under fd) asked)
        (other_entries (is_under fd) asked pending stored.ordered found)
        (All-without_first (λ p. rooms_of rooms p.entry ≡ Some None) (is_under fd) asked stored.roomy);
    unused = λ entry past.
        let below = made pending.entry there in
        others entry (λ same. absurd (omega (arith, same, past, below))) ∙ stored.unused entry past;
    few = stored.few;
    small = stored.small;
  }
    where
      later : All (λ p. is_under fd p ≡ false) (pendings next_fd queue.entries)
      later =
          All-weaker (IsWithin next_fd (next_fd_after next_fd queue.entries)) (λ p. is_under fd p ≡ false)
          (λ p is. grind (arith, nat_tests, is.0, given)) (pendings next_fd queue.entries)
          (pendings-within next_fd queue.entries)

      there : rooms_of rooms pending.entry ≡ Some None
      there = room_of fd pending found

      others : (entry : ℕ) → entry ≢ pending.entry
          → rooms_of (with_given pending.entry verdict) entry ≡ rooms_of rooms entry
      others entry differs =
          let other : is_at (nat_cmp entry) pending.entry ≡ false = grind (arith, nat_tests, differs) in
          lookup_after_set nat_cmp nat_cmp_total pending.entry entry rooms (Some verdict) ∙ rw other refl

      both : (left : List Pending) → All (λ p. p.entry ≢ pending.entry) left
          → All (λ p. rooms_of rooms p.entry ≡ Some None) left
          → All (λ p. rooms_of (with_given pending.entry verdict) p.entry ≡ Some None) left
      both left differs there = λ k d within. others _ (differs k d within) ∙ there k d within

  -- ---- a verdict is taken, and a listener is closed

  pub stored-taken : (new : List (ℕ × Option Verdict))
      → ((entry : ℕ) → rooms_of rooms entry ≡ Some None → rooms_of new entry ≡ Some None)
      → ((entry : ℕ) → rooms_of rooms entry ≡ None → rooms_of new entry ≡ None)
      → IsStrictlySortedBy nat_cmp (keys_of new) → IsStored flags limit queue ahead next_fd asked new
  stored-taken new waiting unused sorted = record {
    limited = stored.limited;
    follows = stored.follows;
    waits = stored.waits;
    ordered = stored.ordered;
    sorted = sorted;
    roomy = All-weaker (λ p. rooms_of rooms p.entry ≡ Some None) (λ p. rooms_of new p.entry ≡ Some None)
        (λ p. waiting p.entry) asked stored.roomy;
    unused = λ entry past. unused entry (stored.unused entry past);
    few = stored.few;
    small = stored.small;
  }

  pub stored-closed : (new : List (ℕ × Option Verdict))
      → ((entry : ℕ) → rooms_of rooms entry ≡ None → rooms_of new entry ≡ None)
      → IsStrictlySortedBy nat_cmp (keys_of new)
      → IsStored flags limit (record queue { entries = [] }) next_fd next_fd [] new
  stored-closed new unused sorted = record {
    limited = stored.limited;
    follows = refl;
    waits = refl;
    ordered = AllPairs-nil CameBefore;
    sorted = sorted;
    roomy = All-nil (λ p. rooms_of new p.entry ≡ Some None);
    unused = λ entry past. unused entry (stored.unused entry past);
    few = let below = given_below in omega (arith, stored.few, below);
    small = stored.small;
  }

-- what callers see of a listener from which a front was read
pub read_view : (state : ListenerState) (asked : List Pending) (front rest left : List Entry) (next after : ℕ)
    → state.queue ≡ front ++ rest → left ≡ rest → next ≡ state.next_entry
    → after ≡ next_fd_after state.next_fd front
    → state.pending ≡ filter (is_read state.next_fd) asked
    → asked ≡ filter (is_read state.next_fd) asked ++ pendings state.next_fd state.queue
    → (record state {
      queue = left;
      pending = filter (is_read after) asked;
      next_entry = next;
      next_fd = after;
    }) ≡ read_front state front
unfolding read_front
read_view state asked front rest left next after whole left_is next_is after_is pending_is waits =
    let queue_is : left ≡ drop (length front) state.queue =
    left_is ∙ sym (drop-append_seam front rest) ∙ ap (drop (length front)) (sym whole) in
    let read_is : filter (is_read after) asked ≡ state.pending ++ pendings state.next_fd front =
    ap (λ fd. filter (is_read fd) asked) after_is
    ∙ read_after state.next_fd asked front rest
    (waits ∙ ap (λ queue. filter (is_read state.next_fd) asked ++ pendings state.next_fd queue) whole)
    ∙ ap (λ read. read ++ pendings state.next_fd front) (sym pending_is) in
    λ i. record state {
      queue = queue_is i;
      pending = read_is i;
      next_entry = next_is i;
      next_fd = after_is i;
    }
