-- What a table of names finds after a change of it.
use Rattle.std.proofs.Common.{◌≡◌, ◌≢◌, ◌∙◌, ℕ, ◌+◌, ◌<◌, ◌==◌, ◌&&◌, ◌||◌, Bool, true, false, List, Option, Some, None, All, length, get_or, refl, ap, sym, arith}
use Rattle.std.specs.Prelude.{IfNone, slice_get}
use Rattle.std.specs.Cmp.Lexicographic.{bytes_decides, nat_list_eq_equiv}
use Rattle.std.specs.Str.{bytes_eq}
use Rattle.std.proofs.lemmas.Bool.Decides.{nat_tests}
use Rattle.std.proofs.lemmas.List.Folds.{Any-from_list_any}
use Rattle.fan_tree.specs.declared.cells.Group.{Group}
use Rattle.fan_tree.specs.Cells.{KeepsKnown, group_index, has_cell, knows, same_cell}
use Rattle.fan_tree.specs.Entries.{AreUnique, Entries, NameIn, has_name, leads, slot_of, tag_of}
use Rattle.fan_tree.specs.Spilled.{AreSameBut, Dirs, is_number, number_in}
use Rattle.fan_tree.specs.Table.{AreKnown, KeepsOthers, TableState, is_known}
use Rattle.fan_tree.specs.Tags.{name_tag}

-- a name has itself, and one that has another is the same
pub has_own_name : (entry : NameIn) → has_name entry.dir entry.name entry ≡ true
has_own_name entry =
    let here : (entry.dir == entry.dir) ≡ true = grind (arith, nat_tests) in
    rw (here, (bytes_decides entry.name entry.name).1 refl) refl

pub name_is : (dir : ℕ) (name : List ℕ) (entry : NameIn) → has_name dir name entry ≡ true
    → (entry.dir ≡ dir) × (entry.name ≡ name)
name_is dir name entry has =
    (grind (arith, nat_tests, has), (bytes_decides entry.name name).0 (grind (arith, has)))

-- another name is asked for by another pair
other_pair : (dir : ℕ) (name : List ℕ) (entry : NameIn) → has_name dir name entry ≡ false
    → (dir == entry.dir && bytes_eq name entry.name) ≡ false
other_pair dir name entry differs =
    let turned = nat_list_eq_equiv.symm name entry.name in
    let dirs : (dir == entry.dir) ≡ (entry.dir == dir) = grind (arith, nat_tests) in
    rw (turned, dirs) differs

-- a group knows by what was spilled of a name alone
knows_same : (entry : NameIn) (number : ℕ) (old new : Dirs) (group : Option Group)
    → number_in new entry.dir entry.name ≡ number_in old entry.dir entry.name
    → knows entry number new group ≡ knows entry number old group
knows_same entry number old new None same = ap (is_number number) same
knows_same entry number old new (Some group) same =
    ap (λ found. has_cell (record { tag = tag_of entry; number = number }) group.cells
    || (group.spilled && is_number number found)) same

module _ (entries : Entries) (dir : ℕ) (name : List ℕ) where
  -- groups that keep what they know
  pub groups_keep : (groups later : List Group) (spilled : Dirs) → KeepsKnown entries groups later
      → KeepsOthers entries dir name (record { groups = groups; spilled = spilled })
      (record { groups = later; spilled = spilled })
  groups_keep groups later spilled keeps = record {
    each = λ number entry first there differs known.
        rw keeps.count
        (keeps.each (group_index (tag_of entry) (length groups)) number entry spilled first there known);
  }

  -- a name that was spilled, or is no more, leaves the others
  pub spilled_keep : (groups : List Group) (spilled later : Dirs) → AreSameBut dir name spilled later
      → KeepsOthers entries dir name (record { groups = groups; spilled = spilled })
      (record { groups = groups; spilled = later })
  spilled_keep groups spilled later same = record {
    each = λ number entry first there differs known.
        knows_same entry number spilled later
        (slice_get groups (group_index (tag_of entry) (length groups)))
        (same.each entry.dir entry.name (other_pair dir name entry differs))
        ∙ known;
  }

  -- one change after another
  pub keep_then : (old between new : TableState) → KeepsOthers entries dir name old between
      → KeepsOthers entries dir name between new → KeepsOthers entries dir name old new
  keep_then old between new before after = record {
    each = λ number entry first there differs known.
        after.each number entry first there differs (before.each number entry first there differs known);
  }

-- a name that its group knows is known
pub known_at : (groups later : List Group) (spilled : Dirs) (tag index number : ℕ) (entry : NameIn)
    → tag ≡ tag_of entry → index ≡ group_index tag (length groups) → length later ≡ length groups
    → knows entry number spilled (slice_get later index) ≡ true
    → is_known (record { groups = later; spilled = spilled }) number entry ≡ true
known_at groups later spilled tag index number entry tag_is index_is count knows =
    rw (count, ← tag_is, ← index_is) knows

-- a number is itself
pub is_own_number : (number : ℕ) (found : Option ℕ) → found ≡ Some number → is_number number found ≡ true
is_own_number number found is =
    let same : (number == number) ≡ true = grind (arith, nat_tests) in rw (is, same) refl

-- an entry that was noted beside those before it
pub noted : (entries : Entries) (old new : TableState) (number : ℕ) (entry : NameIn)
    → AreUnique entries → slot_of entries number ≡ Some entry → AreKnown entries old number
    → KeepsOthers entries entry.dir entry.name old new → is_known new number entry ≡ true
    → AreKnown entries new (number + 1)
noted entries old new number entry unique here known keeps one = record {
  each = λ other named first below there. by other named first below there (other == number) refl;
}
  where
    differs : (other : ℕ) (named : NameIn) → slot_of entries other ≡ Some named → other ≢ number
        → (b : Bool) → has_name entry.dir entry.name named ≡ b → b ≡ false
    differs other named there apart false is = refl
    differs other named there apart true is =
        let same = name_is entry.dir entry.name named is in
        absurd (apart (unique.same other number named entry there here same.0 same.1))

    by : (other : ℕ) (named : NameIn) → other ≢ 0 → other < number + 1 → slot_of entries other ≡ Some named
        → (b : Bool) → (other == number) ≡ b → is_known new other named ≡ true
    by other named first below there true same =
        let number_is : other ≡ number = grind (arith, nat_tests, same) in
        let own : Some named ≡ Some entry = sym there ∙ ap (slot_of entries) number_is ∙ here in
        let named_is : named ≡ entry = cc in
        rw (number_is, named_is) one
    by other named first below there false other_one =
        let apart : other ≢ number = grind (arith, nat_tests, other_one) in
        let before : other < number = omega (arith, below, apart) in
        keeps.each other named first there
        (differs other named there apart (has_name entry.dir entry.name named) refl)
        (known.each other named first before there)

-- what follows where nothing was found
pub none_where : {X P Q : Type 0} (found : Option X) → (P → Q) → IfNone found P → IfNone found Q
none_where None follows holds = follows holds
none_where (Some x) follows holds = tt

-- no number leads to a name that is in no cell and was not spilled
pub none_known : (entries : Entries) (dir : ℕ) (name : List ℕ) (tag : ℕ) (table : TableState) (group : Group)
    → tag ≡ name_tag dir name → Some group ≡ slice_get table.groups (group_index tag (length table.groups))
    → All (λ cell. cell.tag ≡ tag → leads entries dir name cell.number ≡ false) group.cells
    → ((number : ℕ) → (group.spilled && is_number number (number_in table.spilled dir name)) ≡ true
    → leads entries dir name number ≡ false)
    → (number : ℕ) → is_known table number (record { dir = dir; name = name }) ≡ true
    → leads entries dir name number ≡ false
none_known entries dir name tag table group tag_is own none spilled number known =
    by (has_cell (record { tag = name_tag dir name; number = number }) group.cells) refl
    (ap (knows (record { dir = dir; name = name }) number table.spilled)
    (own ∙ ap (λ tag. slice_get table.groups (group_index tag (length table.groups))) tag_is) ∙ known)
  where
    by : (b : Bool) → has_cell (record { tag = name_tag dir name; number = number }) group.cells ≡ b
        → (b || (group.spilled && is_number number (number_in table.spilled dir name))) ≡ true
        → leads entries dir name number ≡ false
    by true there all =
        let one = Any-from_list_any (same_cell (record { tag = name_tag dir name; number = number })) group.cells
        there in
        let cell = get_or group.cells one.0 one.1 in
        let here : cell ≡ one.1 = grind (arith, one.3) in
        let same : same_cell (record { tag = name_tag dir name; number = number }) cell ≡ true = rw here one.4 in
        let tags : name_tag dir name ≡ cell.tag = grind (arith, nat_tests, same) in
        let numbers : number ≡ cell.number = grind (arith, nat_tests, same) in
        ap (leads entries dir name) numbers ∙ none one.0 one.1 one.2 (sym tags ∙ sym tag_is)
    by false there all = spilled number all
