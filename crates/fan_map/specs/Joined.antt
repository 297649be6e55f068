-- How a map is laid out: rows in order, and an entry that is held beside them. No public clause cites this.
use Rattle.std.specs.Prelude.{◌≡◌, ⊤, ℕ, Bool, false, List, [], ◌∷◌, Option, Some, None, if◌then◌else◌}
use Rattle.std.specs.BTreeMap.{insert_entry, is_at}
use Rattle.std.specs.List.Sorted.{IsStrictlySortedBy}
use Rattle.std.specs.Map.{keys_of, lookup}
use Rattle.std.specs.Ordering.{is_lt}
use Rattle.std.specs.declared.cmp.Ordering.{Ordering}
use denote.Ref.{Bor}

-- the rows, with the entry that is held at its place
abbrev pub joined : {K X : Type 0} → (K → K → Ordering) → List (K × X) → Option (K × X) → List (K × X)
joined cmp rows None = rows
joined cmp rows (Some entry) = insert_entry cmp rows entry.0 entry.1

-- room for one entry, if none is held
abbrev pub room : {K X : Type 0} → Option (K × X) → ℕ
room None = 1
room (Some entry) = 0

-- whether an entry with this key is held
abbrev pub is_held : {K X : Type 0} → (K → K → Ordering) → K → Option (K × X) → Bool
is_held cmp key None = false
is_held cmp key (Some entry) = is_at (cmp key) entry.0

-- no row has the key of the entry that is held
abbrev pub IsApart : {K X : Type 0} → (K → K → Ordering) → List (K × X) → Option (K × X) → Type 0
IsApart cmp rows None = ⊤
IsApart cmp rows (Some entry) = lookup (is_at (cmp entry.0)) rows ≡ None

-- rows in order, and an entry that is held apart from them
pub record IsMap {K X : Type 0} (cmp : K → K → Ordering) (rows : List (K × X))
    (held : Option (K × X)) : Type 0 where
  pub sorted : IsStrictlySortedBy cmp (keys_of rows)
  pub apart : IsApart cmp rows held

-- an entry, if there is one and it passes
abbrev pub if_passes : {X : Type 0} → (X → Bool) → Option X → Option X
if_passes test None = None
if_passes test (Some entry) = if test entry then Some entry else None

-- of two entries, the one whose key is less
abbrev pub first_of_two : {K X : Type 0} → (K → K → Ordering) → Option (K × X) → Option (K × X)
    → Option (K × X)
first_of_two cmp None held = held
first_of_two cmp (Some row) None = Some row
first_of_two cmp (Some row) (Some entry) = if is_lt (cmp entry.0 row.0) then Some entry else Some row

-- what a walk has left behind its first rows: the entry that was held, and the rows after it
abbrev pub left_after : {K X : Type 0} → Option (Bor (K × X) × List (K × X)) → List (K × X)
left_after None = []
left_after (Some rest) = rest.0.now ∷ rest.1
