-- The way up in a tree, step by step.
use Rattle.std.proofs.Common.{◌≡◌, ◌≢◌, ◌∙◌, ℕ, ◌+◌, ◌<◌, ◌≤◌, ◌==◌, ◌||◌, Bool, true, false, List, [], ◌∷◌, Option, Some, None, All, length, refl, sym, ap, subst, arith, suc, zero}
use Rattle.std.proofs.Math.Dec.{eqb}
use Rattle.std.specs.List.{AllByRecursion, IsDistinct, list_any}
use Rattle.std.specs.Option.{option_map_or}
use Rattle.std.specs.Prelude.{find, option_map}
use Rattle.std.proofs.lemmas.Bool.{false_from_ne_true, or_parts}
use Rattle.std.proofs.lemmas.Bool.Decides.{nat_tests}
use Rattle.std.proofs.lemmas.Map.Steps.{length-le_from_distinct_below}
use Rattle.std.proofs.lemmas.Option.{option_and_then_some}
use Rattle.fan_lists.proofs.Finds.{All-find, find_passes}
use Rattle.fan_tree.specs.Ancestors.{LiesWithin, ancestor, is_met, leads_to, lies_within, parent_of}
use Rattle.fan_tree.specs.Tree.{DirEntry, Inode, TreeState, inode_of, is_root}
use Rattle.fan_tree.specs.Whole.{IsEntry, IsRooted, IsTree}
use Rattle.fan_tree.proofs.Found.{has_number, inode_of_is, inode_of_number}

-- what is not met here is met from the parent on
pub met_next : (tree : TreeState) (steps rest at dir parent : ℕ)
    → steps ≡ rest + 1 → at ≢ dir → Some parent ≡ parent_of tree at
    → is_met tree steps at dir ≡ is_met tree rest parent dir
met_next tree steps rest at dir parent more differ up =
    let next : steps ≡ suc rest = omega arith in
    let here : (at == dir) ≡ false = grind (arith, nat_tests, differ) in
    rw (next, here, ← up) refl

-- one step up from an inode is by the entry that leads to it
pub record IsStep (tree : TreeState) (number parent : ℕ) : Type 0 where
  pub entry : DirEntry
  pub is : IsEntry tree entry
  pub found : find (leads_to number) tree.names ≡ Some entry
  pub leads : entry.inode ≡ number
  pub dir : entry.dir ≡ parent

pub step_up : (tree : TreeState) (number parent : ℕ)
    → All (IsEntry tree) tree.names → parent_of tree number ≡ Some parent → IsStep tree number parent
step_up tree number parent entries up = by (find (leads_to number) tree.names) refl up
  where
    by : (found : Option DirEntry) → find (leads_to number) tree.names ≡ found
        → option_map (λ (entry : DirEntry). entry.dir) found ≡ Some parent → IsStep tree number parent
    by None at none = absurd (cc)
    by (Some entry) at some =
        let passes = find_passes (leads_to number) tree.names entry at in
        record {
          entry = entry;
          is = All-find (leads_to number) (IsEntry tree) tree.names entry entries at;
          found = at;
          leads = grind (arith, nat_tests, passes);
          dir = cc;
        }

-- the first step of a way up, and the rest
pub record HasSteps (tree : TreeState) (steps number above : ℕ) : Type 0 where
  pub parent : ℕ
  pub up : parent_of tree number ≡ Some parent
  pub rest : ancestor tree steps parent ≡ Some above

pub first_step : (tree : TreeState) (steps number above : ℕ)
    → ancestor tree (suc steps) number ≡ Some above → HasSteps tree steps number above
first_step tree steps number above is =
    option_and_then_some (ancestor tree steps) (parent_of tree number) above is
    (λ parent up rest. record { parent = parent; up = up; rest = rest })

pub one_more : (tree : TreeState) (steps number above parent : ℕ)
    → parent_of tree number ≡ Some parent → ancestor tree steps parent ≡ Some above
    → ancestor tree (suc steps) number ≡ Some above
one_more tree steps number above parent up rest = rw up rest

-- what is above an inode is there, in the same filesystem
pub record IsAbove (tree : TreeState) (inode : Inode) (above : ℕ) : Type 0 where
  pub up : Inode
  pub there : inode_of tree above ≡ Some up
  pub same_fs : up.fs ≡ inode.fs

pub above_is : (tree : TreeState) (steps number above : ℕ) (inode : Inode)
    → All (IsEntry tree) tree.names → inode_of tree number ≡ Some inode
    → ancestor tree steps number ≡ Some above → IsAbove tree inode above
above_is tree zero number above inode entries at is =
    let same : number ≡ above = cc in
    record { up = inode; there = rw same at at; same_fs = refl }
above_is tree (suc steps) number above inode entries at is =
    let first = first_step tree steps number above is in
    let step = step_up tree number first.parent entries first.up in
    let one = step.is in
    let leads : inode_of tree number ≡ Some one.inode = rw step.leads at one.leads_to in
    let same : one.inode ≡ inode = cc in
    let there : inode_of tree first.parent ≡ Some one.parent = rw step.dir at one.in_dir in
    let rest = above_is tree steps first.parent above one.parent entries there first.rest in
    record {
      up = rest.up;
      there = rest.there;
      same_fs = rest.same_fs ∙ sym one.same_fs ∙ ap (λ (x : Inode). x.fs) same;
    }

-- a root is in no directory
pub root_up : (tree : TreeState) (number : ℕ) (root : Inode)
    → All (IsEntry tree) tree.names → inode_of tree number ≡ Some root → is_root root ≡ true
    → parent_of tree number ≡ None
root_up tree number root entries at is = by (parent_of tree number) refl
  where
    by : (up : Option ℕ) → parent_of tree number ≡ up → up ≡ None
    by None none = refl
    by (Some parent) some =
        let step = step_up tree number parent entries some in
        let one = step.is in
        let leads : inode_of tree number ≡ Some one.inode = rw step.leads at one.leads_to in
        let same : one.inode ≡ root = cc in
        let no_root = rw same at one.no_root in
        absurd (cc)

-- what is met on the way up to its end is at most as far, and the end is as far from there as is left
pub record IsOnWay (tree : TreeState) (steps all above end : ℕ) : Type 0 where
  pub most : steps ≤ all
  pub rest : ℕ
  pub left : steps + rest ≡ all
  pub up : ancestor tree rest above ≡ Some end

pub on_way : (tree : TreeState) (steps all number above end : ℕ)
    → parent_of tree end ≡ None → ancestor tree all number ≡ Some end
    → ancestor tree steps number ≡ Some above → IsOnWay tree steps all above end
on_way tree zero all number above end none way is =
    let same : number ≡ above = cc in
    record { most = omega arith; rest = all; left = omega arith; up = rw same at way }
on_way tree (suc steps) zero number above end none way is =
    let same : number ≡ end = cc in
    let none_here = rw (← same) at none in
    let first = first_step tree steps number above is in
    let up = first.up in
    absurd (cc)
on_way tree (suc steps) (suc all) number above end none way is =
    let first = first_step tree steps number above is in
    let whole = first_step tree all number end way in
    let one = first.up in
    let other = whole.up in
    let same : whole.parent ≡ first.parent = cc in
    let more = on_way tree steps all first.parent above end none (rw same at whole.rest) first.rest in
    let left = more.left in
    record { most = omega arith; rest = more.rest; left = omega arith; up = more.up }

-- the way up doesn't come back to where it began
no_return : (tree : TreeState) (steps length number end : ℕ)
    → parent_of tree end ≡ None → ancestor tree length number ≡ Some end
    → ancestor tree (suc steps) number ≡ Some number → ⊥
no_return tree steps length number end none way back =
    let there = on_way tree (suc steps) length number number end none way back in
    let again = on_way tree length there.rest number end end none there.up way in
    let left = there.left in
    let most = again.most in
    absurd (omega arith)

-- an inode, and what is above it
line : TreeState → ℕ → ℕ → List ℕ
line tree zero number = number ∷ []
line tree (suc steps) number = number ∷ option_map_or (line tree steps) (parent_of tree number) []

line-length : (tree : TreeState) (steps number end : ℕ)
    → ancestor tree steps number ≡ Some end → length (line tree steps number) ≡ steps + 1
unfolding line
line-length tree zero number end is = refl
line-length tree (suc steps) number end is =
    let first = first_step tree steps number end is in
    let rest = line-length tree steps first.parent end first.rest in
    rw (first.up, rest) (omega arith)

-- each is on the way
line-has : (tree : TreeState) (steps number end one : ℕ)
    → ancestor tree steps number ≡ Some end → list_any (eqb one) (line tree steps number) ≡ true
    → LiesWithin tree number one
unfolding line
line-has tree zero number end one is has = by (eqb one number) refl has
  where
    by : (here : Bool) → eqb one number ≡ here → (here || false) ≡ true → LiesWithin tree number one
    by true here has = let same : number ≡ one = grind (arith, nat_tests, here) in (0, ap Some same)
    by false here has = absurd (cc)
line-has tree (suc steps) number end one is has =
    let first = first_step tree steps number end is in
    let has_so = rw first.up at has in
    (elim (eqb one number) as (λ here. eqb one number ≡ here
    → (here || list_any (eqb one) (line tree steps first.parent)) ≡ true → LiesWithin tree number one) [
      | true ↦ λ here some. let same : number ≡ one = grind (arith, nat_tests, here) in (0, ap Some same)
      | false ↦ λ here some.
          let rest = line-has tree steps first.parent end one first.rest some in
          (suc rest.0, one_more tree rest.0 number one first.parent first.up rest.1)
    ]) refl has_so

-- no two of them are one, where the way ends
line-distinct : (tree : TreeState) (steps number end : ℕ)
    → parent_of tree end ≡ None → ancestor tree steps number ≡ Some end
    → IsDistinct eqb (line tree steps number)
unfolding line IsDistinct
line-distinct tree zero number end none way = (tt, tt)
line-distinct tree (suc steps) number end none way =
    let first = first_step tree steps number end way in
    let rest = line-distinct tree steps first.parent end none first.rest in
    let apart : list_any (eqb number) (line tree steps first.parent) ≡ false =
    false_from_ne_true _ (λ has. let back = line-has tree steps first.parent end number first.rest has in
    no_return tree back.0 (suc steps) number end none way
    (one_more tree back.0 number number first.parent first.up back.1)) in
    rw first.up (none_equal number (line tree steps first.parent) apart, rest)
  where
    none_equal : (one : ℕ) (others : List ℕ)
        → list_any (eqb one) others ≡ false → AllByRecursion (λ other. eqb one other ≡ false) others
    none_equal one [] none = tt
    none_equal one (other ∷ more) none =
        let parts = or_parts (eqb one other) (list_any (eqb one) more) none in
        (parts.0, none_equal one more parts.1)

-- an inode that is there lies within the root of its filesystem
pub within_root : (tree : TreeState) (number fs : ℕ) (inode : Inode)
    → All (IsRooted tree) tree.inodes → inode_of tree number ≡ Some inode → inode.fs ≡ fs
    → LiesWithin tree number (fs + 1)
within_root tree number fs inode rooted at same =
    let own = inode_of_number tree number inode at in
    let way : IsRooted tree inode = All-find (has_number number) (IsRooted tree) tree.inodes inode rooted at in
    subst (λ one. LiesWithin tree one (fs + 1)) own (subst (λ one. LiesWithin tree inode.number (one + 1)) same way)

-- the way up from an inode to a root, which is shorter than numbers were drawn
pub record HasWay (tree : TreeState) (number : ℕ) : Type 0 where
  pub steps : ℕ
  pub root : ℕ
  pub way : ancestor tree steps number ≡ Some root
  pub none : parent_of tree root ≡ None
  pub short : steps < tree.next

pub way_up : (tree : TreeState) (number : ℕ) (inode : Inode)
    → IsTree tree → inode_of tree number ≡ Some inode → HasWay tree number
way_up tree number inode is at = by (within_root tree number inode.fs inode is.rooted at refl)
  where
    by : LiesWithin tree number (inode.fs + 1) → HasWay tree number
    by (steps, way) =
        let above = above_is tree steps number (inode.fs + 1) inode is.entries at way in
        let own = inode_of_number tree (inode.fs + 1) above.up above.there in
        let same = above.same_fs in
        let root : is_root above.up ≡ true = grind (arith, nat_tests, own, same) in
        let none = root_up tree (inode.fs + 1) above.up is.entries above.there root in
        let few = length-le_from_distinct_below (line tree steps number) tree.next
        (line-distinct tree steps number (inode.fs + 1) none way) (drawn steps way) in
        let count = line-length tree steps number (inode.fs + 1) way in
        record { steps = steps; root = inode.fs + 1; way = way; none = none; short = omega (arith, few, count) }
      where
        drawn : (steps : ℕ) → ancestor tree steps number ≡ Some (inode.fs + 1)
            → (one : ℕ) → list_any (eqb one) (line tree steps number) ≡ true → one < tree.next
        drawn steps way one has =
            let on = line-has tree steps number (inode.fs + 1) one way has in
            let there = above_is tree on.0 number one inode is.entries at on.1 in
            let below = (inode_of_is tree one there.up is there.there).drawn in
            rw (inode_of_number tree one there.up there.there) at below

-- what is above in few steps is met in as many
met_from : (tree : TreeState) (steps more number above : ℕ)
    → steps ≤ more → ancestor tree steps number ≡ Some above → is_met tree more number above ≡ true
met_from tree zero zero number above few is =
    let same : number ≡ above = cc in let here : (number == above) ≡ true = grind (arith, nat_tests) in here
met_from tree zero (suc more) number above few is =
    let same : number ≡ above = cc in let here : (number == above) ≡ true = grind (arith, nat_tests) in rw here refl
met_from tree (suc steps) zero number above few is = absurd (omega arith)
met_from tree (suc steps) (suc more) number above few is =
    let first = first_step tree steps number above is in
    let rest = met_from tree steps more first.parent above (omega arith) first.rest in
    rw (first.up, rest) (either (number == above))
  where
    either : (here : Bool) → (here || true) ≡ true
    either true = refl
    either false = refl

-- and what is met is above
above_from : (tree : TreeState) (steps number above : ℕ)
    → is_met tree steps number above ≡ true → LiesWithin tree number above
above_from tree zero number above met = let same : number ≡ above = grind (arith, nat_tests, met) in (0, ap Some same)
above_from tree (suc steps) number above met =
    (elim (number == above) as (λ here. (number == above) ≡ here
    → (here || option_map_or (λ parent. is_met tree steps parent above) (parent_of tree number) false) ≡ true
    → LiesWithin tree number above) [
      | true ↦ λ here some. let same : number ≡ above = grind (arith, nat_tests, here) in (0, ap Some same)
      | false ↦ λ here some.
          (elim (parent_of tree number) as (λ up. parent_of tree number ≡ up
          → option_map_or (λ parent. is_met tree steps parent above) up false ≡ true → LiesWithin tree number above) [
            | None ↦ λ at none. absurd (cc)
            | Some parent ↦ λ at more.
                let rest = above_from tree steps parent above more in
                (suc rest.0, one_more tree rest.0 number above parent at rest.1)
          ]) refl some
    ]) refl met

-- what is told of a way up is so
pub within_told : (tree : TreeState) (number dir : ℕ) → lies_within tree number dir ≡ true → LiesWithin tree number dir
unfolding lies_within
within_told tree number dir told = above_from tree tree.next number dir told

pub told_within : (tree : TreeState) (number dir : ℕ)
    → IsTree tree → LiesWithin tree number dir → lies_within tree number dir ≡ true
unfolding lies_within
told_within tree number dir is (zero, up) = met_from tree zero tree.next number dir (omega arith) up
told_within tree number dir is (suc steps, up) =
    let first = first_step tree steps number dir up in
    let step = step_up tree number first.parent is.entries first.up in
    let one = step.is in
    let at : inode_of tree number ≡ Some one.inode = rw step.leads at one.leads_to in
    let way = way_up tree number one.inode is at in
    let on = on_way tree (suc steps) way.steps number dir way.root way.none way.way up in
    let most = on.most in
    let short = way.short in
    met_from tree (suc steps) tree.next number dir (omega arith) up
