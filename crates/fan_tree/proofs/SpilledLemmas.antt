-- Names that are looked up among those that were spilled.
use Rattle.std.proofs.Common.{◌≡◌, ◌∙◌, ℕ, Bool, true, false, List, [], ◌∷◌, ◌++◌, Some, cond, refl, ap, sym, suc, zero}
use Rattle.std.specs.BTreeMap.{insert_entry, is_at}
use Rattle.std.specs.Cmp.Lexicographic.{bytes_decides, nat_list_eq_equiv, slice_cmp}
use Rattle.std.specs.Global.{Vec}
use Rattle.std.specs.Map.{lookup, remove_entry}
use Rattle.std.specs.Ordering.{is_eq, nat_cmp}
use Rattle.std.specs.Str.{bytes_eq}
use Rattle.std.specs.declared.cmp.Ordering.{Ordering}
use Rattle.std.specs.declared.cmp.Ordering.TheVariants.{Equal, Greater, Less}
use Rattle.std.proofs.lemmas.Map.Text.{is_eq-slice_cmp}
use Rattle.fan_tree.specs.Spilled.{AreSame, Dirs, named, names_in, number_of}

-- a name is looked up by its bytes
pub number_kept : (entries : List (Vec ℕ × ℕ)) (name : List ℕ)
    → lookup (is_at (λ key. slice_cmp nat_cmp name key.items)) entries ≡ number_of (named entries) name
number_kept [] name = refl
number_kept (one ∷ more) name =
    rw (is_eq-slice_cmp name one.0.items)
    (ap (λ rest. cond (bytes_eq name one.0.items) (Some one.1) rest) (number_kept more name))

-- how names compare
abbrev name_cmp : Vec ℕ → Vec ℕ → Ordering
name_cmp one other = slice_cmp nat_cmp one.items other.items

-- a name that isn't the other one doesn't compare with it as one that is
other_name : (name other third : List ℕ) → bytes_eq name other ≡ false → bytes_eq name third ≡ true
    → bytes_eq other third ≡ false
other_name name other third differs same =
    let is : name ≡ third = (bytes_decides name third).0 same in
    nat_list_eq_equiv.symm other third ∙ rw is at differs

-- a name that is put leaves the others
pub others_put : (entries : List (Vec ℕ × ℕ)) (name : Vec ℕ) (number : ℕ)
    → AreSame name.items (named entries) (named (insert_entry name_cmp entries name number))
others_put entries name number = record { each = λ other differs. by entries other differs }
  where
    by : (entries : List (Vec ℕ × ℕ)) (other : List ℕ) → bytes_eq name.items other ≡ false
        → number_of (named (insert_entry name_cmp entries name number)) other ≡ number_of (named entries) other
    by [] other differs = let new = nat_list_eq_equiv.symm other name.items ∙ differs in rw new refl
    by (one ∷ more) other differs = step (name_cmp name one.0) refl (by more other differs)
      where
        step : (order : Ordering) → name_cmp name one.0 ≡ order
            → number_of (named (insert_entry name_cmp more name number)) other ≡ number_of (named more) other
            → number_of (named (insert_entry name_cmp (one ∷ more) name number)) other
            ≡ number_of (named (one ∷ more)) other
        step Less is rest = let new = nat_list_eq_equiv.symm other name.items ∙ differs in rw (is, new) refl
        step Equal is rest =
            let same : bytes_eq name.items one.0.items ≡ true =
            sym (is_eq-slice_cmp name.items one.0.items) ∙ ap is_eq is in
            let old = other_name name.items other one.0.items differs same in
            rw (is, old) refl
        step Greater is rest = rw is (ap (λ found. cond (bytes_eq other one.0.items) (Some one.1) found) rest)

-- and so does one that is taken away
pub others_left : (entries : List (Vec ℕ × ℕ)) (name : List ℕ)
    → AreSame name (named entries) (named (remove_entry (is_at (λ key. slice_cmp nat_cmp name key.items)) entries))
others_left entries name = record { each = λ other differs. by entries other differs }
  where
    by : (entries : List (Vec ℕ × ℕ)) (other : List ℕ) → bytes_eq name other ≡ false
        → number_of (named (remove_entry (is_at (λ key. slice_cmp nat_cmp name key.items)) entries)) other
        ≡ number_of (named entries) other
    by [] other differs = refl
    by (one ∷ more) other differs =
        rw (is_eq-slice_cmp name one.0.items) (step (bytes_eq name one.0.items) refl (by more other differs))
      where
        step : (here : Bool) → bytes_eq name one.0.items ≡ here
            → number_of (named (remove_entry (is_at (λ key. slice_cmp nat_cmp name key.items)) more)) other
            ≡ number_of (named more) other
            → number_of (named (cond here more
            (one ∷ remove_entry (is_at (λ key. slice_cmp nat_cmp name key.items)) more))) other
            ≡ number_of (named (one ∷ more)) other
        step true is rest = let old = other_name name other one.0.items differs is in rw old refl
        step false is rest = ap (λ found. cond (bytes_eq other one.0.items) (Some one.1) found) rest

-- a directory without names changes nothing
pub names_padded : (dirs : Dirs) (dir : ℕ) → names_in (dirs ++ [] ∷ []) dir ≡ names_in dirs dir
names_padded [] zero = refl
names_padded [] (suc dir) = refl
names_padded (names ∷ more) zero = refl
names_padded (names ∷ more) (suc dir) = names_padded more dir
