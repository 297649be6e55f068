-- Inodes in slots, by their numbers.
use Rattle.std.proofs.Common.{◌≡◌, ◌≢◌, ℕ, ◌+◌, ◌-◌, ◌<◌, ◌≤◌, ◌==◌, Bool, true, false, List, [], ◌∷◌, ◌++◌, Option, Some, None, All, refl, ap, arith, get_or, length, replicate, slice_set, take}
use Rattle.std.specs.Prelude.{IsSome, filter, find, nat_lt, not, option_map}
use Rattle.std.specs.Borrow.{Bor}
use Rattle.std.specs.Option.{option_copied, option_flatten}
use Rattle.std.specs.Slice.{IsItemAt}
use Rattle.std.proofs.lemmas.Bool.Decides.{nat_tests}
use Rattle.std.proofs.lemmas.List.{take_all}
use Rattle.std.proofs.lemmas.List.Elements.{All-tail}
use Rattle.fan_tree.specs.declared.inode.About.{About}
use Rattle.fan_tree.specs.Inodes.{inode_at}
use Rattle.fan_tree.specs.Slots.{in_slots}
use Rattle.fan_tree.specs.Tree.{Inode, about_of, root_inode}
use Rattle.fan_tree.proofs.Found.{has_number}
use Rattle.fan_tree.proofs.SlotLemmas.{find_at, find_below, in_slots-emptied, in_slots-last, in_slots-pad, slot_within}

-- the number of an inode
abbrev number_in : Inode → ℕ
number_in inode = inode.number

-- what is told of the inode with the number of a slot
pub told_in_slot : (slots : List (Option About)) (number index : ℕ)
    → number ≡ index + 4
    → get_or slots index None
    ≡ option_map about_of (find (has_number number) (root_inode 1 ∷ in_slots inode_at 4 slots))
told_in_slot slots number index is =
    let other : (2 == number) ≡ false = grind (arith, nat_tests) in
    rw (other, find_at inode_at number_in (λ number about. refl) 4 number index slots (omega (arith, is)))
    (by (get_or slots index None))
  where
    by : (slot : Option About) → slot ≡ option_map about_of (option_map (inode_at number) slot)
    by None = refl
    by (Some about) = refl

-- what is read of a slot, if there is one
pub read_slot : (slots : List (Option About)) (index : ℕ) (lent : Option (Bor (Option About)))
    → IsItemAt slots index lent → option_flatten (option_copied lent) ≡ get_or slots index None
read_slot slots index None is = is.4 (omega arith) None
read_slot slots index (Some slot) is = is.4 (omega arith) None

-- no other number but that of the first root is one of an inode
pub none_below_slots : (slots : List (Option About)) (number : ℕ)
    → number < 4 → number ≢ 2
    → option_map about_of (find (has_number number) (root_inode 1 ∷ in_slots inode_at 4 slots)) ≡ None
none_below_slots slots number below differs =
    let other : (2 == number) ≡ false = grind (arith, nat_tests) in
    rw (other, find_below inode_at number_in (λ number about. refl) 4 number slots below) refl

-- an inode in the slot of its number comes last, if that is above all others
pub last_in_slots : (slots : List (Option About)) (number : ℕ) (about : About)
    → 4 ≤ number → number < length slots + 4
    → All (λ inode. inode.number < number) (root_inode 1 ∷ in_slots inode_at 4 slots)
    → root_inode 1 ∷ in_slots inode_at 4 (slice_set slots (number - 4) (Some about))
    ≡ root_inode 1 ∷ in_slots inode_at 4 slots ++ inode_at number about ∷ []
last_in_slots slots number about first slot below =
    let rest = All-tail (λ (inode : Inode). inode.number < number) _ _ below in
    ap (λ rest. root_inode 1 ∷ rest)
    (in_slots-last inode_at number_in (λ number about. refl) 4 number (number - 4) slots about
    (omega (arith, first)) (omega (arith, first, slot)) rest)

-- slots that are filled up with empty ones keep their inodes
pub filled_up : (slots : List (Option About)) (enough count : ℕ)
    → length slots < enough
    → root_inode 1 ∷ in_slots inode_at 4 (take enough slots ++ replicate count None)
    ≡ root_inode 1 ∷ in_slots inode_at 4 slots
filled_up slots enough count more =
    rw (take_all enough slots (omega (arith, more)))
    (ap (λ rest. root_inode 1 ∷ rest) (in_slots-pad inode_at 4 count slots))

-- an inode that is there, other than the first root, has a slot
pub has_slot : (slots : List (Option About)) (number : ℕ)
    → number ≢ 2 → IsSome (find (has_number number) (root_inode 1 ∷ in_slots inode_at 4 slots))
    → (4 ≤ number) × (number < length slots + 4)
has_slot slots number differs there =
    let other : (2 == number) ≡ false = grind (arith, nat_tests) in
    by (nat_lt number 4) refl (rw other at there)
  where
    by : (below : Bool) → nat_lt number 4 ≡ below → IsSome (find (has_number number) (in_slots inode_at 4 slots))
        → (4 ≤ number) × (number < length slots + 4)
    by true is found =
        let less : number < 4 = grind (arith, nat_tests, is) in
        absurd (let none = rw (find_below inode_at number_in (λ number about. refl) 4 number slots less) at found in cc)
    by false is found =
        let above : 4 ≤ number = grind (arith, nat_tests, is) in
        let at = find_at inode_at number_in (λ number about. refl) 4 number (number - 4) slots (omega (arith, above)) in
        (above, within above (get_or slots (number - 4) None) refl (rw at at found))
      where
        within : 4 ≤ number → (slot : Option About) → get_or slots (number - 4) None ≡ slot
            → IsSome (option_map (inode_at number) slot) → number < length slots + 4
        within above None at some = absurd (cc)
        within above (Some about) at some = omega (arith, above, slot_within slots (number - 4) about at)

-- it goes when its slot is emptied
pub taken_from_slots : (slots : List (Option About)) (number : ℕ)
    → number ≢ 2 → 4 ≤ number
    → root_inode 1 ∷ in_slots inode_at 4 (slice_set slots (number - 4) None)
    ≡ filter (λ inode. not (inode.number == number)) (root_inode 1 ∷ in_slots inode_at 4 slots)
taken_from_slots slots number differs above =
    let other : (2 == number) ≡ false = grind (arith, nat_tests) in
    rw other
    (ap (λ rest. root_inode 1 ∷ rest)
    (in_slots-emptied inode_at number_in (λ number about. refl) 4 number (number - 4) slots (omega (arith, above))))
