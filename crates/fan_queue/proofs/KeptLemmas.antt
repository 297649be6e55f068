-- What a queue keeps beside its entries, when an entry comes, takes bits or goes.
use Rattle.std.proofs.Common.{◌≡◌, ◌≢◌, ◌∙◌, ℕ, ◌+◌, ◌<◌, ◌≤◌, Bool, true, false, cond, List, [], ◌∷◌, ◌++◌, Option, Some, None, length, get_or, nat_lt, refl, ap, sym, subst, arith}
use Rattle.std.proofs.lemmas.Bool.Decides.{nat_tests}
use Rattle.std.proofs.lemmas.List.{get_or_default}
use Rattle.std.proofs.lemmas.List.Elements.{All-push, All-tail}
use Rattle.std.specs.Option.{ForSome, option_map}
use Rattle.std.specs.Prelude.{count_by, find}
use Rattle.fan_lists.specs.First.{change_first}
use Rattle.fan_lists.proofs.Counts.{count_by-cons, none_from_count}
use Rattle.fan_lists.proofs.FirstLemmas.{All-change_first}
use Rattle.fan_event.specs.declared.event.Event.{Event}
use Rattle.fan_queue.specs.declared.entry.Body.{Body}
use Rattle.fan_queue.specs.declared.entry.Body.TheVariants.{Told, Lost}
use Rattle.fan_queue.specs.declared.entry.Entry.{Entry}
use Rattle.fan_queue.specs.declared.keys.EntryKey.{EntryKey}
use Rattle.fan_queue.specs.Keys.{key_of}
use Rattle.fan_queue.specs.Kept.{IsKept, lost_number}
use Rattle.fan_queue.specs.Queue.{body_is_lost, is_lost, merged, takes}
use Rattle.fan_queue.specs.Queued.{AreNumbered, CanBeQueued}
use Rattle.fan_queue.specs.Table.{AreKnown, is_known}
use Rattle.fan_queue.specs.TableState.{TableState}
use Rattle.fan_queue.proofs.ChangeLemmas.{find-change_first, find-push, find-push_other}
use Rattle.fan_queue.proofs.KeyLemmas.{front_below, key-merged, key_number}
use Rattle.fan_queue.proofs.QueueLemmas.{lost-merged, number-merged, number_at, queued-merge, queued-push, queued-rest}

-- the key of an entry is found, if it has one
abbrev pub IsFound : TableState → Entry → Type 0
IsFound table entry = ForSome (key_of entry) (λ key. is_known key table ≡ true)

-- the key of one entry more is found, and those of the entries before it still are
pub found_more : (front : ℕ) (entries : List Entry) (index : ℕ) (e : Entry) (earlier later : TableState)
    → AreNumbered (front + length entries) entries → index < length entries → e ≡ get_or entries index e
    → ((k : ℕ) (d : Entry) → k < index → IsFound earlier (get_or entries k d))
    → ((key : EntryKey) → front ≤ key.number → is_known key earlier ≡ true → is_known key later ≡ true)
    → IsFound later e
    → (k : ℕ) (d : Entry) → k < index + 1 → IsFound later (get_or entries k d)
found_more front entries index e earlier later numbered within at found kept own k d below =
    by (nat_lt k index) refl
  where
    by : (b : Bool) → nat_lt k index ≡ b → IsFound later (get_or entries k d)
    by true before = λ key is.
        let less : k < index = grind (arith, nat_tests, before) in
        kept key (front_below front entries k d numbered (omega (arith, less, within)) key is)
        (found k d less key is)
    by false here =
        let same : k ≡ index = grind (arith, nat_tests, here, below) in
        let one : get_or entries k d ≡ e =
        ap (λ i. get_or entries i d) same ∙ get_or_default entries index d e within ∙ sym at in
        subst (IsFound later) (sym one) own

module _ (entries : List Entry) (table : TableState) (lost : Option ℕ) (next : ℕ)
    (kept : IsKept entries table lost next) where
  -- an entry comes
  pub kept-push : (entry : Entry) (later : TableState) → entry.number ≡ next
      → CanBeQueued entries entry.body → AreKnown entries later → IsFound later entry
      → IsKept (entries ++ entry ∷ []) later (cond (is_lost entry) (Some entry.number) lost) (next + 1)
  kept-push entry later is can known found =
      record {
        queued = queued-push next entries entry kept.queued is can;
        lost_is = lost_is entry.body refl can;
        known = All-push (IsFound later) entries entry known found;
      }
    where
      lost_is : (body : Body) → entry.body ≡ body → CanBeQueued entries body
          → cond (is_lost entry) (Some entry.number) lost ≡ lost_number (entries ++ entry ∷ [])
      lost_is (Told event) same none =
          let told : is_lost entry ≡ false = ap body_is_lost same in
          rw told (kept.lost_is
          ∙ ap (option_map (λ (entry : Entry). entry.number))
          (sym (find-push_other is_lost entries entry told)))
      lost_is Lost same none =
          let is : is_lost entry ≡ true = ap body_is_lost same in
          let found : find is_lost (entries ++ entry ∷ []) ≡ Some entry =
          find-push is_lost entries entry none ∙ ap (λ b. cond b (Some entry) None) is in
          ap (λ b. cond b (Some entry.number) lost) is
          ∙ sym (ap (option_map (λ (entry : Entry). entry.number)) found)

  -- the first entry that takes an event has its bits too
  pub kept-merge : (event : Event)
      → IsKept (change_first (takes event) (merged event) entries) table lost next
  kept-merge event = record {
    queued = queued-merge next entries event kept.queued;
    lost_is = kept.lost_is
        ∙ sym (find-change_first (takes event) (merged event) is_lost (λ entry. entry.number)
        (lost-merged event) (number-merged event) entries);
    known = All-change_first (IsFound table) (takes event) (merged event) entries
        (λ entry found. λ key is. found key (sym (key-merged event entry) ∙ is)) kept.known;
  }

-- the entry at the front goes
pub kept-rest : (entry : Entry) (rest : List Entry) (table later : TableState) (lost : Option ℕ)
    (next : ℕ) → IsKept (entry ∷ rest) table lost next
    → ((key : EntryKey) → key.number ≢ entry.number → is_known key table ≡ true
    → is_known key later ≡ true)
    → IsKept rest later (cond (is_lost entry) None lost) next
kept-rest entry rest table later lost next kept others =
    record {
      queued = queued-rest next entry rest kept.queued;
      lost_is = lost_is (is_lost entry) refl;
      known = λ k d within key is.
          others key (behind k d within key is)
          (All-tail (IsFound table) entry rest kept.known k d within key is);
    }
  where
    lost_is : (b : Bool) → is_lost entry ≡ b → cond b None lost ≡ lost_number rest
    lost_is true here =
        let once = kept.queued.lost_once in
        let count = count_by-cons is_lost entry rest in
        let none : count_by is_lost rest ≡ 0 = grind (arith, here, once, count) in
        ap (option_map (λ (entry : Entry). entry.number)) (sym (none_from_count is_lost rest none))
    lost_is false there =
        let is = kept.lost_is in grind (arith, there, is)

    behind : (k : ℕ) (d : Entry) → k < length rest → (key : EntryKey)
        → key_of (get_or rest k d) ≡ Some key → key.number ≢ entry.number
    behind k d within key is = λ same.
        omega (
          arith,
          same,
          within,
          key_number (get_or rest k d) key is,
          kept.queued.numbered.0,
          number_at next rest k d kept.queued.numbered.1 within,
        )
