-- A batch as it is kept, beside the batch that it stands for.
use Rattle.std.proofs.Common.{◌≡◌, ◌∙◌, ℕ, ◌<◌, ◌≤◌, Bool, true, false, cond, ◌||◌, List, [], ◌∷◌, Option, Some, None, map, refl, sym, ap, arith}
use Rattle.std.specs.Prelude.{All, ◌==◌, is_some, nat_le}
use Rattle.std.specs.BTreeMap.{insert_entry, is_at}
use Rattle.std.specs.List.{AllZip, list_any}
use Rattle.std.specs.Map.{keys_of, remove_entry, set_value, values_of}
use Rattle.std.specs.Ordering.{nat_cmp}
use Rattle.std.proofs.lemmas.Bool.Decides.{nat_tests}
use Rattle.std.proofs.lemmas.List.Elements.{All-head, All-tail, All-weaker}
use Rattle.std.proofs.lemmas.List.Folds.{list_any_none}
use Rattle.std.proofs.lemmas.Map.{keys-set_value}
use Rattle.std.proofs.lemmas.Map.Made.{is_some-lookup}
use Rattle.std.proofs.lemmas.Map.Views.{All-keys-insert_entry, All-map-remove_entry}
use Rattle.fan_access.specs.Access.{AccessState, Stepped}
use Rattle.fan_access.specs.declared.spot.Spot.{Spot}
use Rattle.fan_access.specs.Operations.{first_mount}
use Rattle.fan_bits.specs.declared.mark.Mark.{Mark}
use Rattle.fan_bits.specs.Outcomes.{ends_access}
use Rattle.fan_bits.specs.Words.{is_among}
use Rattle.fan_grace.specs.declared.section.Section.{Section}
use Rattle.fan_listener.specs.ListenerState.{ListenerState}
use Rattle.fan_machine.specs.Accesses.{access_of, accesses_after}
use Rattle.fan_machine.specs.Batches.{is_held}
use Rattle.fan_machine.specs.Files as files
use Rattle.fan_machine.specs.World.{Batch, WorldState}
use Rattle.fan_map.proofs.Keys.{is_eq-nat_cmp}
use Rattle.fan_world.specs.declared.open_accesses.OpenAccess.{OpenAccess}
use Rattle.fan_world.specs.declared.retirement.KeptBatch.{KeptBatch}
use Rattle.fan_world.specs.Machine.{IsBatch, IsBatchIn, IsOpen}
use Rattle.fan_world.specs.Opened.{is_through}
use Rattle.fan_world.specs.Retired.{has_up_to}

-- ---- tests of lists

any_same : {X : Type 0} (p q : X → Bool) → ((x : X) → p x ≡ q x) → (xs : List X)
    → list_any p xs ≡ list_any q xs
any_same p q same [] = refl
any_same p q same (x ∷ xs) = rw (same x, any_same p q same xs) refl

any_agree : {X : Type 0} (p q : X → Bool) (xs : List X) → All (λ x. p x ≡ q x) xs
    → list_any p xs ≡ list_any q xs
any_agree p q [] each = refl
any_agree p q (x ∷ xs) each =
    let first : p x ≡ q x = All-head (λ x. p x ≡ q x) x xs each in
    rw (first, any_agree p q xs (All-tail (λ x. p x ≡ q x) x xs each)) refl

any_or : {X : Type 0} (p q : X → Bool) (xs : List X)
    → list_any (λ x. p x || q x) xs ≡ (list_any p xs || list_any q xs)
any_or p q [] = refl
any_or p q (x ∷ xs) = rw (any_or p q xs) (by (p x) (q x) (list_any p xs) (list_any q xs))
  where
    by : (a b c d : Bool) → ((a || b) || (c || d)) ≡ ((a || c) || (b || d))
    by true b c d = refl
    by false true true d = refl
    by false true false d = refl
    by false false c d = refl

any_map : {X Y : Type 0} (p : Y → Bool) (f : X → Y) (xs : List X)
    → list_any p (map f xs) ≡ list_any (λ x. p (f x)) xs
any_map p f [] = refl
any_map p f (x ∷ xs) = rw (any_map p f xs) refl

-- some of one list is related to some of another, whichever is gone through first
any_swap : {X Y : Type 0} (r : X → Y → Bool) (xs : List X) (ys : List Y)
    → list_any (λ x. list_any (r x) ys) xs ≡ list_any (λ y. list_any (λ x. r x y) xs) ys
any_swap r [] ys = sym (list_any_none (λ y. false) ys (λ k d within. refl))
any_swap r (x ∷ xs) ys = rw (any_swap r xs ys) (sym (any_or (r x) (λ y. list_any (λ x. r x y) xs) ys))

-- ---- the open accesses as they are kept

module _ (S : Type 0) (shows : S → Section → List Mark → Type 0) (table : S) where
  -- both lists have the same numbers
  pub keys_both : (es : List (ℕ × OpenAccess)) (accesses : List (ℕ × AccessState))
      → AllZip (IsOpen shows table) es accesses → keys_of es ≡ keys_of accesses
  keys_both [] [] zipped = refl
  keys_both [] (a ∷ more) zipped = absurd zipped
  keys_both (e ∷ es) [] zipped = absurd zipped
  keys_both (e ∷ es) (a ∷ more) zipped = rw (zipped.0.number, keys_both es more zipped.1) refl

  -- and the same mounts
  pub through_both : (mount : ℕ) (es : List (ℕ × OpenAccess)) (accesses : List (ℕ × AccessState))
      → AllZip (IsOpen shows table) es accesses
      → list_any (is_through mount) (values_of es) ≡ list_any (files.goes_through mount) accesses
  through_both mount [] [] zipped = refl
  through_both mount [] (a ∷ more) zipped = absurd zipped
  through_both mount (e ∷ es) [] zipped = absurd zipped
  through_both mount (e ∷ es) (a ∷ more) zipped =
      let same : (first_mount e.1.access.spots == mount) ≡ (first_mount a.1.spots == mount) =
      ap (λ (spots : List Spot). first_mount spots == mount) zipped.0.goes_on.spots in
      rw (same, through_both mount es more zipped.1) refl

-- ---- whether a batch is held

held_number : (world : WorldState) (batch : Batch)
    → is_held world batch ≡ list_any (λ key. is_among key batch.accesses) (keys_of world.accesses)
held_number world batch =
    let keys = keys_of world.accesses in
    any_same (λ number. is_some (access_of world number)) (λ number. list_any (is_at (nat_cmp number)) keys)
    (λ number. is_some-lookup (is_at (nat_cmp number)) world.accesses) batch.accesses
    ∙ any_swap (λ number. is_at (nat_cmp number)) batch.accesses keys
    ∙ any_same (λ key. list_any (λ number. is_at (nat_cmp number) key) batch.accesses)
    (λ key. is_among key batch.accesses)
    (λ key. any_same (λ number. is_at (nat_cmp number) key) (λ number. number == key)
    (λ number. is_eq-nat_cmp number key) batch.accesses) keys

-- a batch is held as long as an access is open with a number up to the last one at its start
pub held_both : (S : Type 0) (shows : S → Section → List Mark → Type 0) (table : S) (kept : KeptBatch)
    (batch : Batch) (world : WorldState) (es : List (ℕ × OpenAccess)) → IsBatch kept batch world
    → AllZip (IsOpen shows table) es world.accesses → is_held world batch ≡ has_up_to es kept.last_access
held_both S shows table kept batch world es is zipped =
    held_number world batch
    ∙ any_agree (λ number. is_among number batch.accesses) (λ number. nat_le number kept.last_access)
    (keys_of world.accesses) is.held
    ∙ ap (list_any (λ number. nat_le number kept.last_access)) (sym (keys_both S shows table es world.accesses zipped))
    ∙ any_map (λ number. nat_le number kept.last_access) (λ e. e.0) es

-- ---- what becomes of a batch that goes on

-- the numbers of the open accesses that are left are old ones
keys_after : (number : ℕ) (stepped : Stepped) (accesses : List (ℕ × AccessState)) (P : ℕ → Type 0)
    → All P (keys_of accesses) → All P (keys_of (accesses_after number stepped accesses))
keys_after number stepped accesses P each =
    by (ends_access stepped.outcome)
  where
    by : (b : Bool) → All P (keys_of (cond b (remove_entry (is_at (nat_cmp number)) accesses)
        (set_value (is_at (nat_cmp number)) accesses stepped.access)))
    by true = All-map-remove_entry (is_at (nat_cmp number)) (λ e. e.0) P accesses each
    by false = rw (keys-set_value (is_at (nat_cmp number)) accesses stepped.access) each

-- an access does a step
pub batch_stepped : (kept : Option KeptBatch) (batch : Option Batch) (world : WorldState) (number : ℕ)
    (stepped : Stepped) (groups : List ListenerState) → IsBatchIn kept batch world
    → IsBatchIn kept batch
    (record world { groups = groups; accesses = accesses_after number stepped world.accesses })
batch_stepped None None world number stepped groups is = tt
batch_stepped None (Some batch) world number stepped groups is = is
batch_stepped (Some kept) None world number stepped groups is = is
batch_stepped (Some kept) (Some batch) world number stepped groups is = record {
  count = is.count;
  begun = is.begun;
  own = is.own;
  held = keys_after number stepped world.accesses
      (λ number. is_among number batch.accesses ≡ nat_le number kept.last_access) is.held;
}

-- an access begins that isn't of the batch, since its number is above all before it
pub batch_begun : (kept : Option KeptBatch) (batch : Option Batch) (old new : WorldState) (number : ℕ)
    (access : AccessState) → old.last_access < number → new.last_access ≡ number
    → new.accesses ≡ insert_entry nat_cmp old.accesses number access → IsBatchIn kept batch old
    → IsBatchIn kept batch new
batch_begun None None old new number access above last accesses is = tt
batch_begun None (Some batch) old new number access above last accesses is = is
batch_begun (Some kept) None old new number access above last accesses is = is
batch_begun (Some kept) (Some batch) old new number access above last accesses is =
    let Good : ℕ → Type 0 = λ number. is_among number batch.accesses ≡ nat_le number kept.last_access in
    let none : is_among number batch.accesses ≡ false =
    list_any_none (λ other. other == number) batch.accesses
    (All-weaker (λ other. other ≤ kept.last_access) (λ other. (other == number) ≡ false)
    (λ other within. let begun = is.begun in grind (arith, nat_tests, within, above, begun))
    batch.accesses is.own) in
    let later : nat_le number kept.last_access ≡ false =
    let begun = is.begun in grind (arith, nat_tests, above, begun) in
    record {
      count = is.count;
      begun = let begun = is.begun in omega (arith, begun, above, last);
      own = is.own;
      held = rw accesses
          (All-keys-insert_entry nat_cmp number access Good old.accesses is.held (none ∙ sym later));
    }
