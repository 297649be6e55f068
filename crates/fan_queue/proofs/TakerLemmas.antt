-- The entry that takes an event is found by the key of the event.
use Rattle.std.proofs.Common.{◌≡◌, ◌≢◌, ◌∙◌, ℕ, ◌+◌, ◌<◌, ◌≤◌, Bool, true, false, not, cond, ◌==◌, ◌&&◌, ◌||◌, List, [], ◌∷◌, Option, Some, None, is_some, length, get_or, nat_eq, position, refl, ap, sym, subst, arith}
use Rattle.std.proofs.lemmas.Bool.Decides.{nat_tests}
use Rattle.std.proofs.lemmas.List.Folds.{Any-from_list_any, list_any_at, list_any_none}
use Rattle.std.proofs.lemmas.List.Sums.{position_or_len_is, take_while-cons}
use Rattle.std.specs.BTreeMap.{is_at}
use Rattle.std.specs.BTreeMap.Range.{is_from_start}
use Rattle.std.specs.List.{position_or_len}
use Rattle.std.specs.List.Sorted.{IsStrictlySortedBy}
use Rattle.std.specs.Map.{keys_of, lookup}
use Rattle.std.specs.Ordering.{nat_cmp}
use Rattle.std.specs.Prelude.{All, IfNone, IfSome, filter, nat_le, slice_get, take_while}
use Rattle.std.specs.declared.cmp.Ordering.TheVariants.{Less}
use Rattle.std.specs.declared.ops.Bound.TheVariants.{Included}
use Rattle.fan_map.proofs.Keys.{filter_group, past_first_le}
use Rattle.fan_event.specs.declared.event.Event.{Event}
use Rattle.fan_event.specs.Keys.{key_hash, same_key}
use Rattle.fan_event.proofs.KeyLemmas.{same_key-sym, same_key-trans}
use Rattle.fan_queue.specs.declared.cells.Cell.{Cell}
use Rattle.fan_queue.specs.declared.cells.Group.{Group}
use Rattle.fan_queue.specs.declared.entry.Body.{Body}
use Rattle.fan_queue.specs.declared.entry.Body.TheVariants.{Told, Lost}
use Rattle.fan_queue.specs.declared.entry.Entry.{Entry}
use Rattle.fan_queue.specs.declared.keys.EntryKey.{EntryKey}
use Rattle.fan_queue.specs.Cells.{cell_of, group_index, has_cell, same_cell, tag_of}
use Rattle.fan_queue.specs.Keys.{KeySet, event_key, is_noted, key_cmp}
use Rattle.fan_queue.specs.Queue.{body_takes, takes}
use Rattle.fan_queue.specs.Queued.{AreApart, AreNumbered, goes_into}
use Rattle.fan_queue.specs.Table.{AreKnown, is_known, known_by, number_takes}
use Rattle.fan_queue.specs.TableState.{TableState}
use Rattle.fan_queue.proofs.KeyLemmas.{noted_filter, number_from, same_entry_key, taker_key}

-- of two entries that take an event, the first takes the second
both_take : (event : Event) (first second : Entry) → takes event first ≡ true → takes event second ≡ true
    → goes_into first second.body ≡ true
unfolding takes
both_take event first second one two = by first.body second.body one two
  where
    by : (a b : Body) → body_takes event a ≡ true → body_takes event b ≡ true
        → goes_into (record first { body = a }) b ≡ true
    by (Told a) (Told b) one two = told event.perm a.perm b.perm one two
      where
        told : (perm p q : Bool) → (not perm && not p && same_key a event) ≡ true
            → (not perm && not q && same_key b event) ≡ true → (not q && not p && same_key a b) ≡ true
        told true p q one two = absurd cc
        told false true q one two = absurd cc
        told false false true one two = absurd cc
        told false false false one two = same_key-trans a event b one (same_key-sym b event two)
    by (Told a) Lost one two = absurd cc
    by Lost b one two = absurd cc

-- what holds where none was found
pub none_found : {X : Type 0} (P : Type 0) (found : Option X) → is_some found ≡ false → IfNone found P → P
none_found P (Some x) none holds = absurd cc
none_found P None none holds = holds

-- where all fail, no index is found
position_none : {X : Type 0} (p : X → Bool) (xs : List X) → All (λ x. p x ≡ false) xs → position p xs ≡ None
position_none p [] each = refl
position_none {X = X} p (x ∷ xs) each =
    let all : List X = x ∷ xs in
    let end : position_or_len p all ≡ length all =
    position_or_len_is p all (length all) x (omega arith) (λ k below. each k x below)
    (λ inside. absurd (omega arith)) in
    rw end (grind (arith, nat_tests))

module _ (entries : List Entry) (event : Event) where
  -- an entry that takes the event is the first that does
  pub taker_first : (index : ℕ) (d : Entry) → AreApart entries → index < length entries
      → takes event (get_or entries index d) ≡ true → position (takes event) entries ≡ Some index
  taker_first index d apart within taker =
      let at : position_or_len (takes event) entries ≡ index =
      position_or_len_is (takes event) entries index d (omega arith) before (λ inside. taker) in
      rw at (grind (arith, nat_tests))
    where
      before : (k : ℕ) → k < index → takes event (get_or entries k d) ≡ false
      before k below = by (takes event (get_or entries k d)) refl
        where
          by : (b : Bool) → takes event (get_or entries k d) ≡ b → b ≡ false
          by false is = refl
          by true is =
              let both = both_take event (get_or entries k d) (get_or entries index d) is taker in
              let never : false ≡ true = sym (apart k index d below within) ∙ both in
              absurd cc

  -- a number takes nothing where the entry that has it doesn't, if one has it
  pub none_at : (front number : ℕ) → AreNumbered (front + length entries) entries
      → ((k : ℕ) (d : Entry) → k < length entries → number ≡ front + k
      → takes event (get_or entries k d) ≡ false)
      → number_takes entries event number ≡ false
  none_at front number numbered fails =
      list_any_none (λ entry. entry.number == number && takes event entry) entries
      (λ k d within. by k d within (nat_eq (get_or entries k d).number number) refl)
    where
      by : (k : ℕ) (d : Entry) → k < length entries → (b : Bool)
          → nat_eq (get_or entries k d).number number ≡ b
          → (b && takes event (get_or entries k d)) ≡ false
      by k d within false other = refl
      by k d within true same =
          let at = number_from front entries k d numbered within in
          fails k d within (grind (arith, nat_tests, same, at))

  -- no entry takes the event if no key with the event's hash that is found has a number that takes it
  pub taker_none : (front : ℕ) (table : TableState) → AreNumbered (front + length entries) entries
      → AreKnown entries table
      → ((key : EntryKey) → key.hash ≡ key_hash event → front ≤ key.number → is_known key table ≡ true
      → number_takes entries event key.number ≡ false)
      → position (takes event) entries ≡ None
  taker_none front table numbered known none =
      position_none (takes event) entries (λ k d within. by k d within (takes event (get_or entries k d)) refl)
    where
      by : (k : ℕ) (d : Entry) → k < length entries → (b : Bool) → takes event (get_or entries k d) ≡ b
          → b ≡ false
      by k d within false is = refl
      by k d within true is =
          let entry = get_or entries k d in
          let key = event_key event entry.number in
          let found : is_known key table ≡ true = known k d within key (taker_key event entry is) in
          let at = number_from front entries k d numbered within in
          let same : nat_eq entry.number entry.number ≡ true = grind (arith, nat_tests) in
          let has : number_takes entries event entry.number ≡ true =
          list_any_at (λ other. other.number == entry.number && takes event other) entries k d within
          (rw same is) in
          sym has ∙ none key refl (omega (arith, at)) found

  -- cells with the tag of the event have its key
  pub none_in_cells : (cells : List Cell) (key : EntryKey) → key.hash ≡ key_hash event
      → All (λ cell. cell.tag ≡ tag_of (key_hash event)
      → number_takes entries event cell.number ≡ false) cells
      → has_cell (cell_of key) cells ≡ true → number_takes entries event key.number ≡ false
  none_in_cells cells key is each there =
      let one = Any-from_list_any (same_cell (cell_of key)) cells there in
      let cell = get_or cells one.0 one.1 in
      let here : cell ≡ one.1 = grind (arith, one.3) in
      let same : same_cell (cell_of key) cell ≡ true = rw here one.4 in
      let tag : tag_of key.hash ≡ cell.tag = grind (arith, nat_tests, same) in
      let number : key.number ≡ cell.number = grind (arith, nat_tests, same) in
      ap (number_takes entries event) number ∙ each one.0 one.1 one.2 (sym tag ∙ ap tag_of is)

-- ---- the search in a group, and then among the keys that were spilled

module _ (entries : List Entry) (event : Event) (front tag : ℕ) (table : TableState) (spilled : KeySet)
    (numbered : AreNumbered (front + length entries) entries) (known : AreKnown entries table)
    (same : spilled ≡ table.spilled) (tag_is : tag ≡ tag_of (key_hash event)) where
  abbrev own_group : Option Group
  own_group = slice_get table.groups (group_index tag (length table.groups))

  -- a number takes nothing
  abbrev Fails : ℕ → Type 0
  Fails number = number_takes entries event number ≡ false

  -- no key that was spilled takes the event
  abbrev NoneSpilled : Type 0
  NoneSpilled = (key : EntryKey) → is_noted key spilled ≡ true → key.hash ≡ key_hash event
      → Fails key.number

  -- no cell with the tag of the event takes it
  abbrev NoneInCells : Group → Type 0
  NoneInCells group = All (λ cell. cell.tag ≡ tag → Fails cell.number) group.cells

  -- a key with the hash of the event is found from the group of its tag
  known_in : (group : Option Group) → group ≡ own_group → (key : EntryKey) → key.hash ≡ key_hash event
      → is_known key table ≡ true → known_by key spilled group ≡ true
  known_in group is key hash there =
      let own : tag ≡ tag_of key.hash = tag_is ∙ ap tag_of (sym hash) in
      ap (λ keys. known_by key keys group) same
      ∙ ap (known_by key table.spilled)
      (is ∙ ap (λ tag. slice_get table.groups (group_index tag (length table.groups))) own)
      ∙ there

  -- so it has a cell there, or it was spilled
  in_group : (group : Group) → Some group ≡ own_group → NoneInCells group → (key : EntryKey)
      → key.hash ≡ key_hash event → is_known key table ≡ true
      → (key.number ≤ group.spilled → is_noted key spilled ≡ true → Fails key.number) → Fails key.number
  in_group group is none key hash there otherwise =
      by (has_cell (cell_of key) group.cells) refl (known_in (Some group) is key hash there)
    where
      by : (b : Bool) → has_cell (cell_of key) group.cells ≡ b
          → (b || (nat_le key.number group.spilled && is_noted key spilled)) ≡ true → Fails key.number
      by true cell there =
          none_in_cells entries event group.cells key hash
          (λ k d within tag. none k d within (tag ∙ sym tag_is)) cell
      by false cell there =
          let both : (nat_le key.number group.spilled && is_noted key spilled) ≡ true = there in
          otherwise (grind (arith, nat_tests, both)) (grind (arith, both))

  -- where there is no group, the keys that were spilled decide
  pub no_group : None ≡ own_group → (found : Option ℕ)
      → IfSome found (λ index. position (takes event) entries ≡ Some index) → IfNone found NoneSpilled
      → found ≡ position (takes event) entries
  no_group none (Some index) some fails = sym some
  no_group none None some fails =
      sym (taker_none entries event front table numbered known
      (λ key hash above there. fails key (known_in None none key hash there) hash))

  -- where no key of the group was spilled that is still queued, its cells decide
  pub cells_alone : (group : Group) → Some group ≡ own_group → NoneInCells group → group.spilled < front
      → None ≡ position (takes event) entries
  cells_alone group is none below =
      sym (taker_none entries event front table numbered known
      (λ key hash above there. in_group group is none key hash there (λ within noted. absurd (omega arith))))

  -- else the keys that were spilled decide after the cells
  pub cells_first : (group : Group) → Some group ≡ own_group → NoneInCells group → (found : Option ℕ)
      → IfSome found (λ index. position (takes event) entries ≡ Some index) → IfNone found NoneSpilled
      → found ≡ position (takes event) entries
  cells_first group is none (Some index) some fails = sym some
  cells_first group is none None some fails =
      sym (taker_none entries event front table numbered known
      (λ key hash above there. in_group group is none key hash there
      (λ within noted. fails key noted hash)))

-- ---- the walk over the keys that were spilled under one hash

-- the bucket of an event: the keys with its hash, which stand together at the head of a walk
abbrev bucket : Event → KeySet → KeySet
bucket event walk = take_while (λ e. e.0.hash == key_hash event) walk

-- what a walk still has: the keys in the bucket of the event whose numbers take it
abbrev pub IsWalk : List Entry → Event → KeySet → KeySet → Type 0
IsWalk entries event spilled walk = (number : ℕ) → is_noted (event_key event number) spilled ≡ true
    → number_takes entries event number ≡ true → is_noted (event_key event number) (bucket event walk) ≡ true

module _ (entries : List Entry) (event : Event) (spilled : KeySet) where
  abbrev has_hash : EntryKey → Bool
  has_hash key = key.hash == key_hash event

  abbrev from_start : EntryKey → Bool
  from_start key = is_from_start key_cmp (Included (event_key event 0)) key

  over : (x y : EntryKey) → from_start x ≡ true → has_hash x ≡ false → key_cmp x y ≡ Less
      → has_hash y ≡ false
  over x y from other less =
      past_first_le (key_hash event) x.hash y.hash (nat_cmp 0 x.number) (nat_cmp x.number y.number) from
      other less

  -- a key of the event is one of its bucket
  in_bucket : (number : ℕ) (key : EntryKey) → is_at (key_cmp (event_key event number)) key ≡ true
      → (from_start key && has_hash key) ≡ true
  in_bucket number key here =
      let same = same_entry_key (event_key event number) key in grind (arith, nat_tests, same, here)

  -- from the start of the bucket on
  pub walk_init : (walk : KeySet) → IsStrictlySortedBy key_cmp (keys_of spilled)
      → walk ≡ filter (λ e. from_start e.0) spilled → IsWalk entries event spilled walk
  walk_init walk sorted is = λ number noted takes.
      let key = event_key event number in
      let both : EntryKey → Bool = λ key. from_start key && has_hash key in
      let front : filter (λ e. both e.0) spilled ≡ bucket event walk =
      filter_group key_cmp from_start has_hash over spilled sorted ∙ ap (bucket event) (sym is) in
      ap (is_noted key) (sym front) ∙ noted_filter both key (in_bucket number) spilled ∙ noted

  -- behind a key whose number doesn't take the event
  pub walk_step : (walk rest : KeySet) (e : EntryKey × Unit {0}) → IsWalk entries event spilled walk
      → walk ≡ e ∷ rest → e.0.hash ≡ key_hash event → number_takes entries event e.0.number ≡ false
      → IsWalk entries event spilled rest
  walk_step walk rest e run is here fails = λ number noted takes.
      by number takes (is_at (key_cmp (event_key event number)) e.0) refl
      (ap (is_noted (event_key event number)) (sym (ap (bucket event) is ∙ head)) ∙ run number noted takes)
    where
      head : bucket event (e ∷ rest) ≡ e ∷ bucket event rest
      head =
          let passes : has_hash e.0 ≡ true = grind (arith, nat_tests, here) in
          take_while-cons (λ e. has_hash e.0) e rest ∙ ap (λ b. cond b (e ∷ bucket event rest) []) passes

      by : (number : ℕ) → number_takes entries event number ≡ true → (b : Bool)
          → is_at (key_cmp (event_key event number)) e.0 ≡ b
          → is_noted (event_key event number) (e ∷ bucket event rest) ≡ true
          → is_noted (event_key event number) (bucket event rest) ≡ true
      by number takes true own there =
          let both = same_entry_key (event_key event number) e.0 in
          let same : number ≡ e.0.number = grind (arith, nat_tests, both, own) in
          let never : true ≡ false = sym takes ∙ ap (number_takes entries event) same ∙ fails in
          absurd cc
      by number takes false other there =
          ap (λ b. is_some (cond b (Some e.1) (lookup (is_at (key_cmp (event_key event number)))
          (bucket event rest)))) (sym other) ∙ there

  -- where its bucket is at its end, no key that was spilled takes the event
  none_left : (walk : KeySet) → IsWalk entries event spilled walk → bucket event walk ≡ []
      → (key : EntryKey) → is_noted key spilled ≡ true → key.hash ≡ key_hash event
      → number_takes entries event key.number ≡ false
  none_left walk run none key noted is = by (number_takes entries event key.number) refl
    where
      own : is_noted (event_key event key.number) spilled ≡ true
      own = subst (λ hash. is_noted (record { hash = hash; number = key.number }) spilled ≡ true) is noted

      by : (b : Bool) → number_takes entries event key.number ≡ b → b ≡ false
      by false fails = refl
      by true takes =
          let never : false ≡ true =
          ap (is_noted (event_key event key.number)) (sym none) ∙ run key.number own takes in
          absurd cc

  -- so it is at the end of the walk
  pub walk_end : (walk : KeySet) → IsWalk entries event spilled walk → walk ≡ []
      → (key : EntryKey) → is_noted key spilled ≡ true → key.hash ≡ key_hash event
      → number_takes entries event key.number ≡ false
  walk_end walk run is = none_left walk run (ap (bucket event) is)

  -- and before a key with another hash
  pub walk_past : (walk rest : KeySet) (e : EntryKey × Unit {0}) → IsWalk entries event spilled walk
      → walk ≡ e ∷ rest → e.0.hash ≢ key_hash event
      → (key : EntryKey) → is_noted key spilled ≡ true → key.hash ≡ key_hash event
      → number_takes entries event key.number ≡ false
  walk_past walk rest e run is other =
      let fails : has_hash e.0 ≡ false = grind (arith, nat_tests, other) in
      none_left walk run (ap (bucket event) is ∙ take_while-cons (λ e. has_hash e.0) e rest ∙ rw fails refl)
