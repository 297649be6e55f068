-- Mounts and their ends keep the list and its index in step.
use Rattle.std.proofs.Common.{◌≡◌, ◌∙◌, ℕ, ◌==◌, ◌&&◌, Bool, true, false, not, cond, List, [], ◌∷◌, ◌++◌, Option, Some, None, All, refl, sym, ap, arith}
use Rattle.std.proofs.lemmas.Bool.Decides.{nat_tests}
use Rattle.std.proofs.lemmas.List.Elements.{All-filter, All-head, All-push, All-tail, All-weaker}
use Rattle.std.proofs.lemmas.List.Folds.{find-append}
use Rattle.std.proofs.lemmas.List.Kept.{AllPairs-filter}
use Rattle.std.proofs.lemmas.List.Quantifiers.{all_pairs_push}
use Rattle.std.specs.List.{AllPairs}
use Rattle.std.specs.Option.{option_or}
use Rattle.fan_bits.specs.Places.{IsObject}
use Rattle.fan_lists.proofs.Finds.{find_none, find_wider}
use Rattle.fan_lists.proofs.Pairs.{AllPairs-head, AllPairs-tail}
use Rattle.fan_tree.proofs.Lists.{each_fails}
use Rattle.fan_mounts.specs.declared.mount.Mount.{Mount}
use Rattle.fan_mounts.specs.declared.mount.MountPoint.{MountPoint}
use Rattle.fan_mounts.specs.Kept.{AreIndexed, AreKept, StandApart}
use Rattle.fan_mounts.specs.Mounts.{is_at, mount_at, others, root_mount}
use Rattle.fan_mounts.specs.Pairs.{Drops, Entries, IsSame, Puts, left_at, standing}

-- an index that has the same everywhere serves as well
pub indexed_same : (mounts : List Mount) (before after : Entries) → AreIndexed mounts before
    → IsSame (standing before) (standing after) → AreIndexed mounts after
indexed_same mounts before after is same = record {
  kept = is.kept;
  alone = is.alone;
  finds = λ mount dir. same mount dir ∙ is.finds mount dir;
}

-- one mount more
pub kept_more : (mounts : List Mount) (mount : Mount) → AreKept mounts → IsObject mount.number
    → AreKept (mounts ++ mount ∷ [])
kept_more mounts mount kept object = record {
  each = All-push (λ one. IsObject one.number) mounts mount kept.each object;
  root = find-append (λ one. one.number == root_mount) mounts (mount ∷ []) ∙ rw kept.root refl;
}

-- one mount less, which is not the one at `/`
pub kept_less : (mounts : List Mount) (number : ℕ) → AreKept mounts → (number == root_mount) ≡ false
    → AreKept (others number mounts)
kept_less mounts number kept other = record {
  each = All-filter (λ mount. not (mount.number == number)) (λ mount. IsObject mount.number) mounts kept.each;
  root = find_wider (λ mount. mount.number == root_mount) (λ mount. not (mount.number == number))
      (λ mount is. stays mount is) mounts
      ∙ kept.root;
}
  where
    stays : (mount : Mount) → (mount.number == root_mount) ≡ true → not (mount.number == number) ≡ true
    stays mount is = grind (arith, nat_tests)

-- where a mount is put, none stood
free_at : (mounts : List Mount) (mount dir a b : ℕ) → mount_at mounts mount dir ≡ None
    → (mount == a && dir == b) ≡ true → mount_at mounts a b ≡ None
free_at mounts mount dir a b none here =
    let first : mount ≡ a = grind (arith, nat_tests) in
    let second : dir ≡ b = grind (arith, nat_tests) in
    rw (← first, ← second) none

-- what an index has where a mount was put is what a search of the longer list finds
found_more : (here : Bool) (old new : Option Mount) (mount : Mount) → (here ≡ true → old ≡ None)
    → new ≡ cond here (Some mount) old → new ≡ option_or old (cond here (Some mount) None)
found_more true old new mount none is = is ∙ rw (none refl) refl
found_more false None new mount none is = is
found_more false (Some other) new mount none is = is

-- one mount more, on a place on which none stands
pub indexed_more : (mounts : List Mount) (before after : Entries) (number fs : ℕ) (point : MountPoint)
    → AreIndexed mounts before → mount_at mounts point.mount point.dir ≡ None → IsObject number
    → Puts (standing before) (standing after) point.mount point.dir
    (Some (record { number = number; fs = fs; point = Some point }))
    → AreIndexed (mounts ++ record { number = number; fs = fs; point = Some point } ∷ []) after
indexed_more mounts before after number fs point is none object put = record {
  kept = kept_more mounts mount is.kept object;
  alone = all_pairs_push StandApart mounts mount is.alone (λ k d within. apart k d within);
  finds = λ a b.
      found_more (point.mount == a && point.dir == b) (mount_at mounts a b) (standing after a b) mount
      (free_at mounts point.mount point.dir a b none)
      (put a b
      ∙ ap (λ some. cond (point.mount == a && point.dir == b) (Some mount) some) (is.finds a b))
      ∙ sym (find-append (λ other. is_at a b other.point) mounts (mount ∷ []));
}
  where
    mount : Mount
    mount = record { number = number; fs = fs; point = Some point }

    stands : (other : Mount) → is_at point.mount point.dir other.point ≡ false → StandApart other mount
    stands other fails = λ a b here. by (point.mount == a && point.dir == b) a b refl here
      where
        by : (same : Bool) (a b : ℕ) → (point.mount == a && point.dir == b) ≡ same
            → is_at a b other.point ≡ true → same ≡ false
        by false a b at here = refl
        by true a b at here =
            let first : point.mount ≡ a = grind (arith, nat_tests, at) in
            let second : point.dir ≡ b = grind (arith, nat_tests, at) in
            absurd (let there = rw (first, second) at fails in cc)

    apart : All (λ other. StandApart other mount) mounts
    apart =
        All-weaker (λ other. is_at point.mount point.dir other.point ≡ false)
        (λ other. StandApart other mount) (λ other fails. stands other fails) mounts
        (each_fails (λ other. is_at point.mount point.dir other.point) mounts none)

-- nothing stays where nothing stood
left_none : (a b number : ℕ) (mounts : List Mount) → left_at a b number mounts None ≡ None
left_none a b number [] = refl
left_none a b number (mount ∷ more) =
    by (mount.number == number && is_at a b mount.point) (left_none a b number more)
  where
    by : (gone : Bool) → left_at a b number more None ≡ None → left_at a b number more (cond gone None None) ≡ None
    by true rest = rest
    by false rest = rest

-- what stands stays, if none of the mounts stands there
left_same : (a b number : ℕ) (mounts : List Mount) (found : Option Mount)
    → All (λ mount. is_at a b mount.point ≡ false) mounts → left_at a b number mounts found ≡ found
left_same a b number [] found none = refl
left_same a b number (mount ∷ more) found none =
    let head = All-head (λ one. is_at a b one.point ≡ false) mount more none in
    let rest = left_same a b number more found (All-tail (λ one. is_at a b one.point ≡ false) mount more none) in
    by (mount.number == number) (is_at a b mount.point) head rest
  where
    by : (same at : Bool) → at ≡ false → left_at a b number more found ≡ found
        → left_at a b number more (cond (same && at) None found) ≡ found
    by true false is rest = rest
    by false false is rest = rest
    by same true is rest = absurd cc

-- what is left of what a search finds is what a search of the others finds
left_other : (number a b : ℕ) (mounts : List Mount) → AllPairs StandApart mounts
    → left_at a b number mounts (mount_at mounts a b) ≡ mount_at (others number mounts) a b
left_other number a b [] alone = refl
left_other number a b (first ∷ more) alone =
    by (is_at a b first.point) (first.number == number) refl refl
    (left_other number a b more (AllPairs-tail StandApart first more alone))
  where
    -- no other stands there
    elsewhere : is_at a b first.point ≡ true → All (λ mount. is_at a b mount.point ≡ false) more
    elsewhere at =
        All-weaker (StandApart first) (λ mount. is_at a b mount.point ≡ false)
        (λ mount apart. apart a b at) more (AllPairs-head StandApart first more alone)

    gone : is_at a b first.point ≡ true → mount_at (others number more) a b ≡ None
    gone at =
        find_none (λ mount. is_at a b mount.point) (others number more)
        (All-filter (λ mount. not (mount.number == number)) (λ mount. is_at a b mount.point ≡ false) more
        (elsewhere at))

    by : (at same : Bool) → is_at a b first.point ≡ at → (first.number == number) ≡ same
        → left_at a b number more (mount_at more a b) ≡ mount_at (others number more) a b
        → left_at a b number (first ∷ more) (mount_at (first ∷ more) a b)
        ≡ mount_at (others number (first ∷ more)) a b
    by true true at same rest = rw (at, same) (left_none a b number more ∙ sym (gone at))
    by true false at same rest = rw (at, same, at) (left_same a b number more (Some first) (elsewhere at))
    by false true at same rest = rw (at, same) rest
    by false false at same rest = rw (at, same, at) rest

-- one mount less, which is not the one at `/`
pub indexed_less : (mounts : List Mount) (before after : Entries) (number : ℕ)
    → AreIndexed mounts before → (number == root_mount) ≡ false
    → Drops (standing before) (standing after) number mounts → AreIndexed (others number mounts) after
indexed_less mounts before after number is other drops = record {
  kept = kept_less mounts number is.kept other;
  alone = AllPairs-filter StandApart (λ mount. not (mount.number == number)) mounts is.alone;
  finds = λ a b.
      drops a b ∙ ap (left_at a b number mounts) (is.finds a b) ∙ left_other number a b mounts is.alone;
}
