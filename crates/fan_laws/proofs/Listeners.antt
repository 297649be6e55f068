-- Listeners by the numbers of their groups, and what calls leave of them.
use Rattle.std.proofs.Common.{◌≡◌, ◌∙◌, ℕ, zero, suc, ◌+◌, ◌-◌, ◌<◌, ◌≤◌, Bool, true, false, cond, List, [], ◌∷◌, ◌++◌, Option, Some, None, Result, Ok, Err, length, set, drop, refl, sym, ap, subst, arith, not, ⊎_elim}
use Rattle.std.proofs.lemmas.Bool.{cases_eq, cond_both, ltb-true}
use Rattle.std.proofs.lemmas.List.{map-append}
use Rattle.std.proofs.lemmas.List.Elements.{All-cons, All-drop, All-nil, All-push, All-set, All-weaker}
use Rattle.std.proofs.lemmas.List.Kept.{AllPairs-cons}
use Rattle.std.proofs.lemmas.List.Sums.{sum_by-append}
use Rattle.std.specs.List.{AllPairs}
use Rattle.std.specs.Prelude.{◌==◌, All, count_by, slice_get}
use Rattle.fan_bits.specs.declared.class.Class.{Class}
use Rattle.fan_bits.specs.declared.errno.Errno.{Errno}
use Rattle.fan_bits.specs.declared.errno.Errno.TheVariants as errno
use Rattle.fan_bits.specs.Words.{class_of}
use Rattle.fan_lists.proofs.Counts.{count_by-cons}
use Rattle.fan_lists.proofs.Pairs.{AllPairs-append, AllPairs-nil, AllPairs-tail}
use Rattle.fan_lists.proofs.Places.{All-slice_get}
use Rattle.fan_listener.specs.declared.answers.Answered.{Answered}
use Rattle.fan_listener.specs.declared.answers.Verdict.{Verdict}
use Rattle.fan_event.specs.declared.event.Event.{Event}
use Rattle.fan_queue.specs.declared.entry.Body.{Body}
use Rattle.fan_queue.specs.declared.entry.Body.TheVariants.{Lost, Told}
use Rattle.fan_queue.specs.declared.entry.Entry.{Entry}
use Rattle.fan_lists.specs.First.{change_first}
use Rattle.fan_listener.specs.Groups.{is_open, listener_at, with_listener}
use Rattle.fan_listener.specs.ListenerState.{ListenerState, new_listener}
use Rattle.fan_listener.specs.Queue.{queue_of, with_queue}
use Rattle.fan_listener.proofs.PutLemmas.{by_put_to}
use Rattle.fan_queue.specs.Queue.{merged, queued, takes}
use Rattle.fan_listener.specs.Records.{front_read, front_within, read_front, read_of}
use Rattle.fan_listener.specs.Responses.{answer_of, answered, closed_of, fd_in, responded, value_in, verdict, waiting_under, written}
use Rattle.fan_machine.specs.Groups.{max_open_groups}
use Rattle.fan_laws.specs.Whole.{IsOpenOf, IsQueue, numbers_in}
use Rattle.fan_laws.proofs.Moves.{Called, Calls, Moves, called, calls, closes, looked_for, open_is, opened_is, opens, put_one, read_some, stays, wrote}

module _ {X : Type 0} where
  set_here : (xs : List X) (i : ℕ) (old new : X) → slice_get xs i ≡ Some old → slice_get (set xs i new) i
      ≡ Some new
  set_here [] i old new is = absurd cc
  set_here (x ∷ xs) zero old new is = refl
  set_here (x ∷ xs) (suc i) old new is = set_here xs i old new is

  set_elsewhere : (xs : List X) (i j : ℕ) (new : X) → (i ≡ j → ⊥) → slice_get (set xs i new) j
      ≡ slice_get xs j
  set_elsewhere [] i j new differ = refl
  set_elsewhere (x ∷ xs) zero zero new differ = absurd (differ refl)
  set_elsewhere (x ∷ xs) zero (suc j) new differ = refl
  set_elsewhere (x ∷ xs) (suc i) zero new differ = refl
  set_elsewhere (x ∷ xs) (suc i) (suc j) new differ = set_elsewhere xs i j new (λ same. differ (ap suc same))

  pushed : (xs : List X) (i : ℕ) (old new : X) → slice_get xs i ≡ Some old → slice_get (xs ++ new ∷ []) i
      ≡ Some old
  pushed [] i old new is = absurd cc
  pushed (x ∷ xs) zero old new is = is
  pushed (x ∷ xs) (suc i) old new is = pushed xs i old new is

  -- no more elements pass a test if one is replaced that passes whenever the new one does
  count_set : (p : X → Bool) (xs : List X) (i : ℕ) (old new : X) → slice_get xs i ≡ Some old
      → (p new ≡ true → p old ≡ true) → count_by p (set xs i new) ≤ count_by p xs
  count_set p [] i old new is keeps = absurd cc
  count_set p (x ∷ xs) zero old new is keeps =
      let same : x ≡ old = cc in
      let fewer : cond (p new) 1 0 ≤ cond (p x) 1 0 = rw same (less (p new) (p old) keeps) in
      omega (arith, fewer, count_by-cons p new xs, count_by-cons p x xs)
    where
      less : (a b : Bool) → (a ≡ true → b ≡ true) → cond a 1 0 ≤ cond b 1 0
      less false b keeps = omega arith
      less true b keeps = rw (keeps refl) (omega arith)
  count_set p (x ∷ xs) (suc i) old new is keeps = omega (
    arith,
    count_set p xs i old new is keeps,
    count_by-cons p x (set xs i new),
    count_by-cons p x xs,
  )

below : (index : ℕ) → suc index - 1 ≡ index
below index = omega arith

-- a listener that is put in the place of another is found there
pub found_with : (groups : List ListenerState) (group : ℕ) (old new : ListenerState)
    → listener_at groups group ≡ Some old → listener_at (with_listener groups group new) group ≡ Some new
found_with groups zero old new is = absurd cc
found_with groups (suc index) old new is = rw (below index) (set_here groups index old new is)

-- and any other as before
pub other_with : (groups : List ListenerState) (group other : ℕ) (old new : ListenerState)
    → listener_at groups group ≡ Some old → (other ≡ group → ⊥)
    → listener_at (with_listener groups group new) other ≡ listener_at groups other
other_with groups zero other old new is differ = absurd cc
other_with groups (suc index) zero old new is differ = refl
other_with groups (suc index) (suc other) old new is differ =
    rw (below index) (set_elsewhere groups index other new (λ same. differ (ap suc (sym same))))

found_pushed : (groups : List ListenerState) (group : ℕ) (old new : ListenerState)
    → listener_at groups group ≡ Some old → listener_at (groups ++ new ∷ []) group ≡ Some old
found_pushed groups zero old new is = absurd cc
found_pushed groups (suc index) old new is = pushed groups index old new is

-- a listener is one of the list
pub All-listener : (P : ListenerState → Type 0) (groups : List ListenerState) (group : ℕ)
    (listener : ListenerState)
    → All P groups → listener_at groups group ≡ Some listener → P listener
All-listener P groups zero listener each is = absurd cc
All-listener P groups (suc index) listener each is = All-slice_get P groups index listener each is

count_with : (groups : List ListenerState) (group : ℕ) (old new : ListenerState)
    → listener_at groups group ≡ Some old → (is_open new ≡ true → is_open old ≡ true)
    → count_by is_open (with_listener groups group new) ≤ count_by is_open groups
count_with groups zero old new is keeps = absurd cc
count_with groups (suc index) old new is keeps = rw (below index)
    (count_set is_open groups index old new is keeps)

-- what a call leaves of a listener's flags, and of whether it is open
pub record Leaves (old new : ListenerState) : Type 0 where
  pub flags : new.flags ≡ old.flags
  pub opened : is_open new ≡ is_open old

-- what holds of what each call may leave holds of what a call leaves
pub record Kept (P : ListenerState → Type 0) (old : ListenerState) : Type 0 where
  pub same : P old
  pub longer : (body : Body) → P (with_queue old (queued (queue_of old) body))
  pub joined : (event : Event) → P (record old {
    queue = change_first (takes event)
        (merged event) old.queue;
  })
  pub shorter : (front : List Entry) → P (read_front old front)
  pub answered_one : (fd entry : ℕ) (verdict : Verdict) → P (answered old fd entry verdict)
  pub taken : (kept : List (ℕ × Verdict)) → P (record old { answers = kept })

module _ (P : ListenerState → Type 0) (old : ListenerState) (kept : Kept P old) where
  read_by : (a b c : Bool) (size : ℕ) (given : List ℕ × ListenerState)
      → cond {A = Result (List ℕ × ListenerState) Errno} a (Err errno.Ebadf)
      (cond {A = Result (List ℕ × ListenerState) Errno} b (Err errno.Eagain)
      (cond {A = Result (List ℕ × ListenerState) Errno} c (Err errno.Einval)
      (Ok (front_read old (front_within size old.queue))))) ≡ Ok given → P given.1
  read_by true b c size given is = absurd cc
  read_by false true c size given is = absurd cc
  read_by false false true size given is = absurd cc
  read_by false false false size given is =
      let same : front_read old (front_within size old.queue) ≡ given = cc in
      subst (λ (r : List ℕ × ListenerState). P r.1) same (kept.shorter (front_within size old.queue))

  responded_by : (fd : ℕ) (verdict : Option Verdict) (waiting : Option ℕ) (given : Answered × ListenerState)
      → responded old fd verdict waiting ≡ Ok given → P given.1
  responded_by fd None waiting given is = absurd cc
  responded_by fd (Some verdict) None given is = absurd cc
  responded_by fd (Some verdict) (Some entry) given is =
      let one : Answered = record { entry = entry } in
      let whole : Answered × ListenerState = (one, answered old fd entry verdict) in
      let same : whole ≡ given = cc in
      subst (λ (r : Answered × ListenerState). P r.1) same (kept.answered_one fd entry verdict)

  written_by : (a b : Bool) (fd : ℕ) (verdict : Option Verdict) (waiting : Option ℕ) (given : Answered
      × ListenerState)
      → cond {A = Result (Answered × ListenerState) Errno} a (Err errno.Ebadf)
      (cond {A = Result (Answered × ListenerState) Errno} b (Err errno.Einval)
      (responded old fd verdict waiting))
      ≡ Ok given → P given.1
  written_by true b fd verdict waiting given is = absurd cc
  written_by false true fd verdict waiting given is = absurd cc
  written_by false false fd verdict waiting given is = responded_by fd verdict waiting given is

  pub called_kept : (new : ListenerState) → Called old new → P new
  unfolding read_of written answer_of
  called_kept new (put_one event) =
      by_put_to (λ r. P r.1) old event (λ closed. kept.same) (λ entry opened. kept.same)
      (λ opened. kept.longer Lost) (λ entry opened plain. kept.joined event) (λ opened. kept.longer (Told event))
  called_kept new (read_some size given is) =
      read_by old.closed (length old.queue == 0) _ size given is
  called_kept new (wrote bytes given is) =
      written_by old.closed (not (length bytes == 8)) (fd_in bytes) (verdict (value_in bytes))
      (waiting_under (fd_in bytes) old.pending) given is
  called_kept new (looked_for entry) = kept.taken _

-- a call leaves the flags, and the listener open or closed
leaves_itself : (old : ListenerState) → Leaves old old
leaves_itself old = record { flags = refl; opened = refl }

pub called_leaves : (old new : ListenerState) → Called old new → Leaves old new
unfolding queued read_front
called_leaves old new call = called_kept (Leaves old) old (record {
  same = leaves_itself old;
  longer = λ body. record { flags = refl; opened = refl };
  joined = λ event. record { flags = refl; opened = refl };
  shorter = λ front. record { flags = refl; opened = refl };
  answered_one = λ fd entry verdict. record { flags = refl; opened = refl };
  taken = λ kept. record { flags = refl; opened = refl };
}) new call

-- ---- queues

numbers_merged : (event : Event) (queue : List Entry)
    → numbers_in (change_first (takes event) (merged event) queue) ≡ numbers_in queue
unfolding merged
numbers_merged event [] = refl
numbers_merged event (entry ∷ queue) =
    cond_both (takes event entry) (merged event entry ∷ queue)
    (entry ∷ change_first (takes event) (merged event) queue)
    (λ changed. numbers_in changed ≡ numbers_in (entry ∷ queue)) (λ is. refl)
    (λ not. ap (λ rest. entry.number ∷ rest) (numbers_merged event queue))

-- the numbers in a queue, in the form in which lists of them are put together
pub record Numbered (listener : ListenerState) : Type 0 where
  pub rises : AllPairs (λ (a b : ℕ). a < b) (numbers_in listener.queue)
  pub made : All (λ number. number < listener.next_entry) (numbers_in listener.queue)

numbers_dropped : (count : ℕ) (queue : List Entry) → numbers_in (drop count queue)
    ≡ drop count (numbers_in queue)
numbers_dropped zero queue = refl
numbers_dropped (suc count) [] = refl
numbers_dropped (suc count) (entry ∷ queue) = numbers_dropped count queue

drop_pairs : (count : ℕ) (xs : List ℕ) → AllPairs (λ (a b : ℕ). a < b) xs
    → AllPairs (λ (a b : ℕ). a < b) (drop count xs)
drop_pairs zero xs pairs = pairs
drop_pairs (suc count) [] pairs = pairs
drop_pairs (suc count) (x ∷ xs) pairs = drop_pairs count xs (AllPairs-tail (λ (a b : ℕ). a < b) x xs pairs)

called_numbered : (old new : ListenerState) → Numbered old → Called old new → Numbered new
unfolding queued read_front
called_numbered old new numbered call =
    let R : ℕ → ℕ → Type 0 = λ a b. a < b in
    called_kept Numbered old (record {
      same = numbered;
      longer = λ body. record {
        rises = rw (map-append (λ (entry : Entry). entry.number) old.queue _)
            (AllPairs-append R (numbers_in old.queue) (old.next_entry ∷ []) numbered.rises
            (AllPairs-cons R old.next_entry [] (All-nil (R old.next_entry)) (AllPairs-nil R))
            (All-weaker (λ n. n < old.next_entry) (λ n. All (R n) (old.next_entry ∷ []))
            (λ n is. All-cons (R n) old.next_entry [] is (All-nil (R n)))
            (numbers_in old.queue) numbered.made));
        made = rw (map-append (λ (entry : Entry). entry.number) old.queue _)
            (All-push (λ n. n < old.next_entry + 1) (numbers_in old.queue) old.next_entry
            (All-weaker (λ n. n < old.next_entry) (λ n. n < old.next_entry + 1) (λ n is. omega arith)
            (numbers_in old.queue) numbered.made) (omega arith));
      };
      joined = λ event. record {
        rises = rw (numbers_merged event old.queue) numbered.rises;
        made = rw (numbers_merged event old.queue) numbered.made;
      };
      shorter = λ front. record {
        rises = rw (numbers_dropped (length front) old.queue)
            (drop_pairs (length front) (numbers_in old.queue) numbered.rises);
        made = rw (numbers_dropped (length front) old.queue)
            (All-drop (λ n. n < old.next_entry) (length front) (numbers_in old.queue) numbered.made);
      };
      answered_one = λ fd entry verdict. record { rises = numbered.rises; made = numbered.made };
      taken = λ kept. record { rises = numbered.rises; made = numbered.made };
    }) new call

closed_numbered : (old : ListenerState) → Numbered (closed_of old)
unfolding closed_of
closed_numbered old = record {
  rises = AllPairs-nil (λ (a b : ℕ). a < b);
  made = All-nil (λ number. number < old.next_entry);
}

new_numbered : (flags limit : ℕ) → Numbered (new_listener flags limit)
unfolding new_listener
new_numbered flags limit = record {
  rises = AllPairs-nil (λ (a b : ℕ). a < b);
  made = All-nil (λ (number : ℕ). number < 1);
}

pub queue_is : (listener : ListenerState) → Numbered listener → IsQueue listener
queue_is listener numbered = record {
  rises = λ k within. numbered.rises k (k + 1) 0 (omega arith) within;
  made = numbered.made;
}

All-with : (P : ListenerState → Type 0) (groups : List ListenerState) (group : ℕ) (new : ListenerState)
    → All P groups → P new → All P (with_listener groups group new)
All-with P groups group new each is = All-set P groups (group - 1) new is each

-- each queue stays numbered, whatever moves the listeners
pub moves_numbered : (groups new : List ListenerState) → Moves groups new → All Numbered groups
    → All Numbered new
moves_numbered groups new (called _ stays) each = each
moves_numbered groups new (called _ (calls group old given is call)) each =
    All-with Numbered groups group given each
    (called_numbered old given (All-listener Numbered groups group old each is) call)
moves_numbered groups new (opens flags limit few) each =
    All-push Numbered groups (new_listener flags limit) each (new_numbered flags limit)
moves_numbered groups new (closes group old is) each =
    All-with Numbered groups group (closed_of old) each (closed_numbered old)

-- ---- how many are open

count_pushed : (groups : List ListenerState) (flags limit : ℕ)
    → count_by is_open (groups ++ new_listener flags limit ∷ []) ≡ count_by is_open groups + 1
unfolding new_listener
count_pushed groups flags limit =
    sum_by-append (λ l. cond (is_open l) 1 0) groups (new_listener flags limit ∷ [])

closed_shut : (old : ListenerState) → is_open (closed_of old) ≡ true → is_open old ≡ true
unfolding closed_of
closed_shut old is = absurd cc

pub moves_few : (groups new : List ListenerState) → Moves groups new
    → count_by is_open groups ≤ max_open_groups
    → count_by is_open new ≤ max_open_groups
moves_few groups new (called _ stays) few = few
moves_few groups new (called _ (calls group old given is call)) few =
    let leaves = called_leaves old given call in
    let fewer = count_with groups group old given is (λ opened. sym leaves.opened ∙ opened) in
    omega (arith, few, fewer)
moves_few groups new (opens flags limit room) few =
    let below = ltb-true (count_by is_open groups) max_open_groups room in
    let one = count_pushed groups flags limit in
    omega (arith, below, one)
moves_few groups new (closes group old is) few =
    let fewer = count_with groups group old (closed_of old) is (closed_shut old) in
    omega (arith, few, fewer)

-- ---- a group that is open, of a class

-- stays so by a call of any listener
pub open_called : (groups new : List ListenerState) (group : ℕ) (class : Class) → Calls groups new
    → IsOpenOf groups group class → IsOpenOf new group class
open_called groups new group class stays its = its
open_called groups new group class (calls other old given is call) its =
    let was = opened_is groups group its.listener its.found in
    ⊎_elim (λ same.
    let own : listener_at groups other ≡ Some its.listener = ap (listener_at groups) (sym same) ∙ was.there in
    let old_is : old ≡ its.listener = cc in
    let leaves = called_leaves old given call in record {
      listener = given;
      found = open_is (with_listener groups other given) group given (record {
        there = rw same (found_with groups other old given is);
        opened = leaves.opened ∙ ap is_open old_is ∙ was.opened;
      });
      named = ap class_of (leaves.flags ∙ ap (λ (l : ListenerState). l.flags) old_is) ∙ its.named;
    })
    (λ differ. record {
      listener = its.listener;
      found = open_is (with_listener groups other given) group its.listener (record {
        there = other_with groups other group old given is differ ∙ was.there;
        opened = was.opened;
      });
      named = its.named;
    }) (cases_eq group other)

-- or one more, and by the close of another
pub open_pushed : (groups : List ListenerState) (new : ListenerState) (group : ℕ) (class : Class)
    → IsOpenOf groups group class → IsOpenOf (groups ++ new ∷ []) group class
open_pushed groups new group class its =
    let was = opened_is groups group its.listener its.found in record {
      listener = its.listener;
      found = open_is (groups ++ new ∷ []) group its.listener (record {
        there = found_pushed groups group its.listener new was.there;
        opened = was.opened;
      });
      named = its.named;
    }

pub open_beside : (groups : List ListenerState) (other : ℕ) (old new : ListenerState) (group : ℕ)
    (class : Class)
    → listener_at groups other ≡ Some old → (group ≡ other → ⊥) → IsOpenOf groups group class
    → IsOpenOf (with_listener groups other new) group class
open_beside groups other old new group class is differ its =
    let was = opened_is groups group its.listener its.found in record {
      listener = its.listener;
      found = open_is (with_listener groups other new) group its.listener (record {
        there = other_with groups other group old new is differ ∙ was.there;
        opened = was.opened;
      });
      named = its.named;
    }
