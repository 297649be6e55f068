-- What std's words read in rows and an entry that is held beside them.
use Rattle.std.proofs.Common.{◌≡◌, ◌+◌, Bool, true, false, List, [], ◌∷◌, ◌++◌, Option, Some, None, length, refl, arith}
use Rattle.std.proofs.lemmas.Map.{keys-set_value}
use Rattle.std.specs.BTreeMap.{insert_entry, is_at}
use Rattle.std.specs.BTreeMap.Range.{entries_between, is_from_start}
use Rattle.std.specs.Cmp.{IsTotalOrder}
use Rattle.std.specs.List.{filter, find}
use Rattle.std.specs.List.Sorted.{IsStrictlySortedBy}
use Rattle.std.specs.Map.{keys_of, lookup, remove_entry, set_value}
use Rattle.fan_map.proofs.Insertions.{length-insert_entry, lookup-insert_entry, remove_entry-insert_entry, remove_entry-insert_other, set_value-insert_entry, sorted-insert_entry}
use Rattle.std.specs.declared.cmp.Ordering.{Ordering}
use Rattle.std.specs.declared.ops.Bound.{Bound}
use Rattle.std.specs.declared.ops.Bound.TheVariants.{Excluded, Unbounded}
use Rattle.fan_map.proofs.Parts.{filter-insert_entry, filter_around, find-insert_entry}
use Rattle.fan_map.specs.Joined.{IsMap, first_of_two, if_passes, is_held, joined, room}

-- a value put at one key puts none at another
lookup_kept : {K X : Type 0} (test other : K → Bool) (es : List (K × X)) (w : X) → lookup other es ≡ None
    → lookup other (set_value test es w) ≡ None
lookup_kept test other [] w none = refl
lookup_kept test other (e ∷ es) w none = grind (arith, none, lookup_kept test other es w)

-- a value put at a key that nothing has is put nowhere
pub set_value_absent : {K X : Type 0} (test : K → Bool) (es : List (K × X)) (w : X) → lookup test es ≡ None
    → set_value test es w ≡ es
set_value_absent test [] w none = refl
set_value_absent test (e ∷ es) w none = grind (arith, none, set_value_absent test es w)

module _ {K X : Type 0} {R : K → K → Ordering} (o : IsTotalOrder R) (rows : List (K × X)) where
  pub joined_length : (held : Option (K × X)) → IsMap R rows held
      → length (joined R rows held) + room held ≡ length rows + 1
  joined_length None is = refl
  joined_length (Some e) is = grind (arith, length-insert_entry R o e.0 e.1 rows is.apart)

  pub joined_sorted : (held : Option (K × X)) → IsMap R rows held
      → IsStrictlySortedBy R (keys_of (joined R rows held))
  joined_sorted None is = is.sorted
  joined_sorted (Some e) is = sorted-insert_entry R o e.0 e.1 rows is.apart is.sorted

  -- a look-up for another key than that of the entry held reads the rows, and else that entry
  pub joined_lookup : (held : Option (K × X)) (q : K) → is_held R q held ≡ false
      → lookup (is_at (R q)) (joined R rows held) ≡ lookup (is_at (R q)) rows
  joined_lookup None q other = refl
  joined_lookup (Some e) q other = grind (arith, other, lookup-insert_entry R o e.0 e.1 q rows)

  pub joined_lookup_held : (held : Option (K × X)) (q : K) (e : K × X) → held ≡ Some e
      → is_held R q held ≡ true → lookup (is_at (R q)) (joined R rows held) ≡ Some e.1
  joined_lookup_held held q e is same = rw is
      (grind (arith, rw is at same, lookup-insert_entry R o e.0 e.1 q rows))

  -- and so does a new value
  pub joined_set : (held : Option (K × X)) (q : K) (w : X) → IsMap R rows held → is_held R q held ≡ false
      → set_value (is_at (R q)) (joined R rows held) w ≡ joined R (set_value (is_at (R q)) rows w) held
  joined_set None q w is other = refl
  joined_set (Some e) q w is other =
      grind (arith, other, set_value-insert_entry R o e.0 e.1 q w rows is.apart)

  pub joined_set_held : (held : Option (K × X)) (q : K) (w : X) (e : K × X) → held ≡ Some e
      → IsMap R rows held → is_held R q held ≡ true
      → set_value (is_at (R q)) (joined R rows held) w ≡ insert_entry R rows e.0 w
  joined_set_held held q w e is met same = rw is
      (grind (arith, rw is at same, set_value-insert_entry R o e.0 e.1 q w rows (rw is at met.apart)))

  -- and a removal
  pub joined_remove : (held : Option (K × X)) (q : K) → IsMap R rows held → is_held R q held ≡ false
      → remove_entry (is_at (R q)) (joined R rows held) ≡ joined R (remove_entry (is_at (R q)) rows) held
  joined_remove None q is other = refl
  joined_remove (Some e) q is other =
      remove_entry-insert_other R o e.0 e.1 q rows is.apart is.sorted other

  pub joined_remove_held : (held : Option (K × X)) (q : K) (e : K × X) → held ≡ Some e
      → IsMap R rows held → is_held R q held ≡ true
      → remove_entry (is_at (R q)) (joined R rows held) ≡ rows
  joined_remove_held held q e is met same = rw is
      (remove_entry-insert_entry R o e.0 e.1 q rows (rw is at met.apart) (rw is at same))

  -- other values keep the rows in order and the entry apart
  pub map_kept : (held : Option (K × X)) (q : K) (w : X) → IsMap R rows held
      → IsMap R (set_value (is_at (R q)) rows w) held
  map_kept None q w is = record { sorted = rw keys-set_value is.sorted; apart = is.apart }
  map_kept (Some e) q w is = record {
    sorted = rw keys-set_value is.sorted;
    apart = lookup_kept (is_at (R q)) (is_at (R e.0)) rows w is.apart;
  }

  -- the first entry from a start on is the first row or the entry held
  pub joined_find : (held : Option (K × X)) (p : K × X → Bool) → IsMap R rows held
      → find p (joined R rows held) ≡ first_of_two R (find p rows) (if_passes p held)
  joined_find None p is = by (find p rows)
    where
      by : (found : Option (K × X)) → found ≡ first_of_two R found None
      by None = refl
      by (Some e) = refl
  joined_find (Some e) p is = find-insert_entry R o e.0 e.1 p rows is.apart is.sorted

  -- a filter that loses the entry held reads the rows
  pub joined_filter : (held : Option (K × X)) (p : K × X → Bool) (e : K × X) → held ≡ Some e
      → IsMap R rows held → p e ≡ false → filter p (joined R rows held) ≡ filter p rows
  joined_filter held p e is met fails =
      rw is (filter-insert_entry R o e.0 e.1 p rows (rw is at met.apart) fails)

  pub joined_around : (held : Option (K × X)) (start : Bound K) (e : K × X) → held ≡ Some e
      → IsMap R rows held → is_from_start R start e.0 ≡ true
      → filter (λ f. is_from_start R start f.0) (joined R rows held)
      ≡ entries_between R start (Excluded e.0) rows ++ e ∷ entries_between R (Excluded e.0) Unbounded rows
  joined_around held start e is met from =
      rw is (filter_around R o e.0 e.1 start rows (rw is at met.apart) met.sorted from)
