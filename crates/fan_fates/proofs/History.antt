-- A listener after any calls, against what its events and entries went through: and what follows from this.
use Rattle.std.proofs.Common.{◌≡◌, ◌∙◌, ℕ, ◌+◌, ◌-◌, ◌<◌, Bool, true, false, not, ◌&&◌, ◌||◌, List, [], ◌∷◌, ◌++◌, append_assoc, append-nil, length, length-append, take, refl, ap, sym, subst, arith}
use Rattle.std.proofs.Math.Bool.{or-false, or-true}
use Rattle.std.proofs.Math.Seq.{take-append_seam}
use Rattle.std.proofs.lemmas.List.{length-map, map-append}
use Rattle.std.proofs.lemmas.List.Elements.{All-nil}
use Rattle.std.proofs.lemmas.List.Folds.{list_any-append}
use Rattle.std.specs.Int.RustNames.{bit_or}
use Rattle.std.specs.List.{AllPairs, range_with_len}
use Rattle.std.specs.List.Sorted.{IsStrictlyIncreasing}
use Rattle.fan_fates.specs.Calls.{Call, Came, Closes, Deed, Freed, Left, Looks, Puts, Reads, Writes, after_calls, called, deeds, deeds_of, gone}
use Rattle.fan_fates.specs.Bits.{HasBitsIn, IsLike}
use Rattle.fan_fates.specs.Fates.{frees, is_freed, left, left_in, made}
use Rattle.fan_fates.specs.Rules.{IsAloneIn}
use Rattle.fan_fates.proofs.CallForms.{PutForm, ReadForm, WriteForm, answers_one, came_last, covered, fronted, joined, lost_first, put_form, queued_in, read_form, shut, unanswered, unread, write_form, rest_left}
use Rattle.fan_fates.proofs.Fits.{Fits, fits_closed, fits_freed, fits_left, fits_lost, fits_lost_first, fits_merged, fits_queued, rising}
use Rattle.fan_fates.proofs.Lists.{flat_map_push, found_split, pairs_first}
use Rattle.fan_laws.specs.Whole.{numbers_in}
use Rattle.fan_lists.specs.First.{change_first}
use Rattle.fan_event.specs.declared.event.Event.{Event}
use Rattle.fan_queue.specs.declared.entry.Body.{Body}
use Rattle.fan_queue.specs.declared.entry.Body.TheVariants as bodies
use Rattle.fan_queue.specs.declared.entry.Entry.{Entry}
use Rattle.fan_queue.specs.declared.entry.Put.{Put}
use Rattle.fan_queue.specs.declared.entry.Put.TheVariants as puts
use Rattle.fan_listener.specs.ListenerState.{ListenerState, new_listener}
use Rattle.fan_event.specs.Keys.{same_key}
use Rattle.fan_event.proofs.KeyLemmas.{same_key_decides}
use Rattle.fan_queue.specs.Queue.{body_is_lost, body_takes, is_lost, merged, queued, takes, with_more}
use Rattle.fan_listener.specs.Records.{read_front}
use Rattle.fan_listener.specs.Responses.{answer_of, closed_of}

-- ---- an event that is taken

-- it is like the one that takes it, and neither asks permission
pub record Taken (event : Event) (entry : Entry) : Type 0 where
  pub old : Event
  pub is : entry.body ≡ bodies.Told old
  pub notice : event.perm ≡ false
  pub unasked : old.perm ≡ false
  pub key : same_key old event ≡ true

both_true : (a b : Bool) → (a && b) ≡ true → (a ≡ true) × (b ≡ true)
both_true true b is = (refl, is)
both_true false b is = absurd cc

not_true : (b : Bool) → not b ≡ true → b ≡ false
not_true true is = absurd cc
not_true false is = refl

pub taken_by : (event : Event) (entry : Entry) → takes event entry ≡ true → Taken event entry
unfolding takes
taken_by event entry passes = by entry.body refl passes
  where
    by : (body : Body) → entry.body ≡ body → body_takes event body ≡ true → Taken event entry
    by bodies.Lost is passes = absurd cc
    by (bodies.Told old) is passes =
        let first = both_true (not event.perm && not old.perm) (same_key old event) passes in
        let second = both_true (not event.perm) (not old.perm) first.0 in record {
          old = old;
          is = is;
          notice = not_true event.perm second.0;
          unasked = not_true old.perm second.1;
          key = first.1;
        }

-- two events with one key, neither of which asks permission, are alike
pub alike : (old event : Event) → event.perm ≡ false → old.perm ≡ false → same_key old event ≡ true
    → IsLike old event
alike old event notice unasked key =
    let same = (same_key_decides old event).0 key in
    let perm : old.perm ≡ event.perm = unasked ∙ sym notice in
    rw (same.who, same.ondir, same.target, perm) refl

-- ---- what left a queue

gone_front : (front rest : List Entry) → gone (front ++ rest) rest ≡ front
gone_front front rest =
    let count : length (front ++ rest) - length rest ≡ length front =
    omega (arith, length-append front rest) in
    ap (λ (n : ℕ). take n (front ++ rest)) count ∙ take-append_seam front rest

pub gone_is : (queue front rest : List Entry) → queue ≡ front ++ rest → gone queue rest ≡ front
gone_is queue front rest is = ap (λ all. gone all rest) is ∙ gone_front front rest

left_came : (past : List Deed) (event : Event) (fate : Put) → left (past ++ Came event fate ∷ []) ≡ left past
left_came past event fate = flat_map_push left_in past (Came event fate) ∙ append-nil (left past)

freed_push : (past : List Deed) (deed : Deed) → is_freed (past ++ deed ∷ []) ≡ (is_freed past || frees deed)
freed_push past deed =
    list_any-append frees past (deed ∷ []) ∙ ap (λ b. is_freed past || b) (or-false (frees deed))

-- ---- one call

-- what a listener's past says of it
pub record History (past : List Deed) (listener : ListenerState) : Type 0 where
  pub fits : Fits past (left past ++ listener.queue) listener.next_entry
  pub closed : listener.closed ≡ is_freed past

-- an event came, and this was kept
history_came : (past : List Deed) (event : Event) (fate : Put) (old new : ListenerState) → History past old
    → new.closed ≡ old.closed
    → Fits (past ++ Came event fate ∷ []) (left past ++ new.queue) new.next_entry
    → History (past ++ Came event fate ∷ []) new
history_came past event fate old new history same fits = record {
  fits = subst (λ gone. Fits (past ++ Came event fate ∷ []) (gone ++ new.queue) new.next_entry)
      (sym (left_came past event fate)) fits;
  closed = same ∙ history.closed ∙ sym (freed_push past (Came event fate) ∙ or-false (is_freed past));
}

pub overflows : (body : Body) → body_is_lost body ≡ true → body ≡ bodies.Lost
overflows (bodies.Told event) is = absurd cc
overflows bodies.Lost is = refl

abbrev pub entry_with : ℕ → Body → Entry
entry_with number body = record { number = number; body = body }

abbrev edited : Event → List Entry → List Entry
edited event queue = change_first (takes event) (merged event) queue

-- what an entry becomes by an event that is merged into it
pub merged_is : (event : Event) (entry : Entry) (old : Event) → entry.body ≡ bodies.Told old
    → merged event entry
    ≡ entry_with entry.number (bodies.Told (record old { bits = bit_or old.bits event.bits }))
unfolding merged
merged_is event entry old is = ap (λ (body : Body). entry_with entry.number (with_more event.bits body)) is

history_put : (past : List Deed) (old : ListenerState) (event : Event) (given : Put × ListenerState)
    → PutForm old event given → History past old → History (past ++ Came event given.0 ∷ []) given.1
unfolding queued
history_put past old event given (shut closed) history =
    history_came past event puts.Closed old old history refl
    (fits_closed past event (left past ++ old.queue) old.next_entry history.fits)
history_put past old event given (covered lost opened full is) history =
    let split = found_split is_lost (λ (entry : Entry). entry) old.queue lost is in
    let whole : left past ++ old.queue ≡ (left past ++ split.before) ++ lost ∷ split.later =
    ap (λ xs. left past ++ xs) split.whole
    ∙ sym (append_assoc (left past) split.before (lost ∷ split.later)) in
    let fate = puts.Overflow lost.number in
    let deed = Came event fate in
    let fits = subst (λ xs. Fits past xs old.next_entry) whole history.fits in
    history_came past event fate old old history refl
    (subst (λ xs. Fits (past ++ deed ∷ []) xs old.next_entry) (sym whole)
    (fits_lost past event (left past ++ split.before) split.later lost old.next_entry
    (overflows lost.body split.passes) fits))
history_put past old event given (lost_first opened full none) history =
    let entry : Entry = record { number = old.next_entry; body = bodies.Lost } in
    let fate = puts.Overflow old.next_entry in
    let deed = Came event fate in
    history_came past event fate old (queued_in old bodies.Lost) history refl
    (subst (λ xs. Fits (past ++ deed ∷ []) xs (old.next_entry + 1))
    (append_assoc (left past) old.queue (entry ∷ []))
    (fits_lost_first past event (left past ++ old.queue) old.next_entry history.fits))
history_put past old event given (came_last opened room none) history =
    let entry : Entry = record { number = old.next_entry; body = bodies.Told event } in
    let fate = puts.Queued old.next_entry in
    let deed = Came event fate in
    history_came past event fate old (queued_in old (bodies.Told event)) history refl
    (subst (λ xs. Fits (past ++ deed ∷ []) xs (old.next_entry + 1))
    (append_assoc (left past) old.queue (entry ∷ []))
    (fits_queued past event (left past ++ old.queue) old.next_entry history.fits))
history_put past old event given (joined same opened room is) history =
    let split = found_split (takes event) (merged event) old.queue same is in
    let its = taken_by event same split.passes in
    let was : Entry = record { number = same.number; body = bodies.Told its.old } in
    let now : Entry = record {
      number = same.number;
      body = bodies.Told (record its.old { bits = bit_or its.old.bits event.bits });
    } in
    let was_is : same ≡ was = ap (λ (body : Body). entry_with same.number body) its.is in
    let now_is : merged event same ≡ now = merged_is event same its.old its.is in
    let fate = puts.Merged same.number in
    let deed = Came event fate in
    let before : left past ++ old.queue ≡ (left past ++ split.before) ++ was ∷ split.later =
    ap (λ xs. left past ++ xs) (split.whole ∙ ap (λ (x : Entry). split.before ++ x ∷ split.later) was_is)
    ∙ sym (append_assoc (left past) split.before (was ∷ split.later)) in
    let after : left past ++ edited event old.queue ≡ (left past ++ split.before) ++ now ∷ split.later =
    ap (λ xs. left past ++ xs) (split.edited ∙ ap (λ (x : Entry). split.before ++ x ∷ split.later) now_is)
    ∙ sym (append_assoc (left past) split.before (now ∷ split.later)) in
    let fits = subst (λ xs. Fits past xs old.next_entry) before history.fits in
    history_came past event fate old (record old { queue = edited event old.queue }) history refl
    (subst (λ xs. Fits (past ++ deed ∷ []) xs old.next_entry) (sym after)
    (fits_merged past event its.old (left past ++ split.before) split.later same.number old.next_entry
    its.notice its.unasked (alike its.old event its.notice its.unasked its.key) fits))

-- entries left the queue, in order
module _ (past : List Deed) (old new : ListenerState) (front : List Entry)
    (whole : old.queue ≡ front ++ new.queue) (same : new.next_entry ≡ old.next_entry) where
  abbrev went : List Entry
  went = gone old.queue new.queue

  all_kept : (deed : Deed) → left_in deed ≡ went
      → left (past ++ deed ∷ []) ++ new.queue ≡ left past ++ old.queue
  all_kept deed is =
      let now : went ≡ front = gone_is old.queue front new.queue whole in
      ap (λ xs. xs ++ new.queue) (flat_map_push left_in past deed ∙ ap (λ xs. left past ++ xs) (is ∙ now))
      ∙ append_assoc (left past) front new.queue ∙ ap (λ xs. left past ++ xs) (sym whole)

  moved : (deed : Deed) → left_in deed ≡ went
      → Fits (past ++ deed ∷ []) (left past ++ old.queue) old.next_entry
      → Fits (past ++ deed ∷ []) (left (past ++ deed ∷ []) ++ new.queue) new.next_entry
  moved deed is fits =
      subst (λ xs. Fits (past ++ deed ∷ []) xs new.next_entry) (sym (all_kept deed is))
      (subst (λ (n : ℕ). Fits (past ++ deed ∷ []) (left past ++ old.queue) n) (sym same) fits)

  history_left : History past old → new.closed ≡ old.closed → History (past ++ Left went ∷ []) new
  history_left history closed = record {
    fits = moved (Left went) refl (fits_left past went (left past ++ old.queue) old.next_entry history.fits);
    closed = closed ∙ history.closed ∙ sym (freed_push past (Left went) ∙ or-false (is_freed past));
  }

  history_freed : History past old → new.closed ≡ true → History (past ++ Freed went ∷ []) new
  history_freed history closed = record {
    fits =
        moved (Freed went) refl (fits_freed past went (left past ++ old.queue) old.next_entry history.fits);
    closed = closed ∙ sym (freed_push past (Freed went) ∙ or-true (is_freed past));
  }

history_read : (past : List Deed) (old : ListenerState) (size : ℕ) (new : ListenerState)
    → ReadForm old size new
    → History past old → History (past ++ Left (gone old.queue new.queue) ∷ []) new
unfolding read_front
history_read past old size new unread history = history_left past old old [] refl refl history refl
history_read past old size new (fronted front its) history =
    let left = rest_left old.queue front its in
    history_left past old (read_front old front) front (its.whole ∙ ap (λ xs. front ++ xs) (sym left)) refl
    history refl

history_write : (past : List Deed) (old new : ListenerState) (entries : List ℕ) → WriteForm old new entries
    → History past old → History past new
history_write past old new entries unanswered history = history
history_write past old new entries (answers_one fd verdict waiting is) history =
    record { fits = history.fits; closed = history.closed }

history_called : (past : List Deed) (old : ListenerState) (call : Call) → History past old
    → History (past ++ deeds_of old call) (called old call)
unfolding answer_of closed_of
history_called past old (Puts event) history = history_put past old event _ (put_form old event) history
history_called past old (Reads size) history = history_read past old size _ (read_form old size) history
history_called past old (Writes bytes) history =
    subst (λ all. History all (called old (Writes bytes))) (sym (append-nil past))
    (history_write past old _ _ (write_form old bytes) history)
history_called past old (Looks entry) history =
    subst (λ all. History all (called old (Looks entry))) (sym (append-nil past))
    (record { fits = history.fits; closed = history.closed })
history_called past old Closes history =
    history_freed past old (closed_of old) old.queue (sym (append-nil old.queue)) refl history refl

history_after : (calls : List Call) (past : List Deed) (old : ListenerState) → History past old
    → History (past ++ deeds old calls) (after_calls old calls)
unfolding after_calls deeds
history_after [] past old history =
    subst (λ all. History all old) (sym (append-nil past)) history
history_after (call ∷ more) past old history =
    subst (λ all. History all (after_calls (called old call) more))
    (append_assoc past (deeds_of old call) (deeds (called old call) more))
    (history_after more (past ++ deeds_of old call) (called old call) (history_called past old call history))

-- the past of a new listener
pub history_new : (flags limit : ℕ) (calls : List Call)
    → History (deeds (new_listener flags limit) calls) (after_calls (new_listener flags limit) calls)
unfolding new_listener
history_new flags limit calls = history_after calls [] (new_listener flags limit) (record {
  fits = record {
    those = refl;
    counted = refl;
    last = refl;
    bits = All-nil (HasBitsIn []);
    fresh = λ number above. (refl, refl);
    alone = All-nil (IsAloneIn []);
  };
  closed = refl;
})

-- ---- what the past says

module _ (past : List Deed) (listener : ListenerState) (history : History past listener) where
  -- what left, and what is queued, is what was made
  pub left_once : numbers_in (left past) ++ numbers_in listener.queue ≡ made past
  left_once =
      sym (map-append (λ (entry : Entry). entry.number) (left past) listener.queue) ∙ sym history.fits.those

  -- what was made is counted
  pub made_counted : made past ≡ range_with_len 1 (length (made past))
  made_counted =
      let entries = left past ++ listener.queue in
      let count : length (made past) ≡ length entries =
      ap length history.fits.those ∙ length-map entries (λ (entry : Entry). entry.number) in
      history.fits.those ∙ history.fits.counted ∙ ap (range_with_len 1) (sym count)

  -- what left rises
  pub left_rises : IsStrictlyIncreasing (numbers_in (left past))
  left_rises =
      let all = rising past (left past ++ listener.queue) listener.next_entry history.fits in
      let pairs = pairs_first (λ (a b : ℕ). a < b) (numbers_in (left past)) (numbers_in listener.queue)
      (subst (AllPairs (λ (a b : ℕ). a < b))
      (map-append (λ (entry : Entry). entry.number) (left past) listener.queue) all) in
      λ k within. pairs k (k + 1) 0 (omega arith) within
