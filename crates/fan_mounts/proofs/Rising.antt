-- Mounts and their ends keep what holds of every list of mounts, if all numbers come from one tree.
use Rattle.std.proofs.Common.{◌≡◌, ℕ, ◌<◌, ◌==◌, Bool, true, false, not, cond, List, [], ◌∷◌, ◌++◌, Option, Some, None, Result, Ok, Err, is_none, refl, arith}
use Rattle.std.proofs.lemmas.List.Elements.{All-cons, All-filter, All-nil, All-push, All-weaker}
use Rattle.std.proofs.lemmas.List.Kept.{AllPairs-filter}
use Rattle.std.proofs.lemmas.List.Quantifiers.{all_pairs_push}
use Rattle.fan_bits.specs.Places.{IsObject}
use Rattle.fan_bits.specs.declared.errno.Errno.{Errno}
use Rattle.fan_bits.specs.declared.errno.Errno.TheVariants as errno
use Rattle.fan_bits.specs.declared.place.Place.{Place}
use Rattle.fan_mounts.proofs.Standing.{kept_less, kept_more}
use Rattle.fan_mounts.specs.declared.mount.Mount.{Mount}
use Rattle.fan_mounts.specs.Kept.{AreKept}
use Rattle.fan_mounts.specs.Mounts.{AreDrawn, AreMounts, carries, initial_mounts, is_mount_root, mounted, others, root_mount, unmounted, with_mount}
use Rattle.fan_tree.specs.Tree.{TreeState, drawn, initial_tree, root_of}
use Rattle.fan_tree.specs.Whole.{IsTree}
use Rattle.fan_tree.proofs.Kept.{IsDrawn, drawn_some}

-- the parts of a list of mounts that `Mounts` keeps
kept_from : (mounts : List Mount) → AreMounts mounts → AreKept mounts
kept_from mounts are = record { each = are.each; root = are.root }

-- a list of mounts whose numbers were drawn from a tree
abbrev pub AreOf : TreeState → List Mount → Type 0
AreOf tree mounts = AreMounts mounts × AreDrawn tree mounts

-- at the start
pub initial_of : AreOf initial_tree initial_mounts
initial_of = (
  record {
    each = All-cons (λ mount. IsObject mount.number) first [] (omega arith, omega arith)
        (All-nil (λ mount. IsObject mount.number));
    rises = λ i j d before within. absurd (omega (arith, before, within));
    root = refl;
  },
  All-cons (λ mount. mount.number < 4) first [] (omega arith) (All-nil (λ mount. mount.number < 4)),
)
  where
    first : Mount
    first = record { number = 3; fs = 1; point = None }

-- one mount more, whose number was drawn for it
one_more : (tree after : TreeState) (mounts : List Mount) (mount : Mount) → IsTree tree → AreOf tree mounts
    → IsDrawn tree mount.number after → AreOf after (mounts ++ mount ∷ [])
one_more tree after mounts mount whole are draw =
    let kept = kept_more mounts mount (kept_from mounts are.0) draw.object in
    let below = All-weaker (λ one. one.number < tree.next) (λ one. one.number < mount.number)
    (λ one less. rw draw.drew less) mounts are.1 in
    let later = All-weaker (λ one. one.number < tree.next) (λ one. one.number < after.next)
    (λ one less. rw draw.next (omega (arith, less))) mounts are.1 in (
      record {
        each = kept.each;
        rises = all_pairs_push (λ one other. one.number < other.number) mounts mount are.0.rises
            (λ k d within. below k d within);
        root = kept.root;
      },
      All-push (λ one. one.number < after.next) mounts mount later (rw (draw.next, draw.drew) (omega arith)),
    )

-- a test that refuses was not met
past : {A : Type 0} (refused : Bool) (why : Errno) (rest : Result A Errno) (done : A)
    → cond refused (Err why) rest ≡ Ok done → (refused ≡ false) × (rest ≡ Ok done)
past true why rest done is = absurd cc
past false why rest done is = (refl, is)

with_more : (tree : TreeState) (mounts : List Mount) (fs : ℕ) (at : Place) (draw : Option (ℕ × TreeState))
    (done : ℕ × TreeState × List Mount)
    → drawn tree ≡ draw → IsTree tree → AreOf tree mounts → with_mount draw mounts fs at ≡ Ok done
    → AreOf done.1 done.2
with_more tree mounts fs at None done is whole are made = absurd cc
with_more tree mounts fs at (Some draw) done is whole are made =
    let mount : Mount =
    record { number = draw.0; fs = fs; point = Some (record { mount = at.mount; dir = at.inode }) } in
    let new : ℕ × TreeState × List Mount = (draw.0, draw.1, mounts ++ mount ∷ []) in
    let same : new ≡ done = cc in
    rw (← same) (one_more tree draw.1 mounts mount whole are (drawn_some tree draw whole is))

-- a mount keeps what holds of every list of mounts, if its number comes from the tree of theirs
pub mounted_keeps : (tree : TreeState) (mounts : List Mount) (fs : ℕ) (at : Place)
    (done : ℕ × TreeState × List Mount)
    → IsTree tree → AreOf tree mounts → mounted tree mounts fs at ≡ Ok done → AreOf done.1 done.2
unfolding mounted
mounted_keeps tree mounts fs at done whole are is =
    let first = past (is_none (root_of tree fs)) errno.Enoent _ done is in
    let second = past (not at.dir) errno.Enotdir _ done first.1 in
    let third = past (is_mount_root at) errno.Ebusy _ done second.1 in
    with_more tree mounts fs at (drawn tree) done refl whole are third.1

-- and so does the end of one
pub unmounted_keeps : (tree : TreeState) (mounts left : List Mount) (number : ℕ)
    → AreOf tree mounts → unmounted mounts number ≡ Ok left → AreOf tree left
unfolding unmounted
unmounted_keeps tree mounts left number are is =
    let first = past (number == root_mount) errno.Ebusy _ left is in
    let second = past (carries mounts number) errno.Ebusy _ left first.1 in
    let same : others number mounts ≡ left = let so = second.1 in cc in
    let kept = kept_less mounts number (kept_from mounts are.0) first.0 in
    rw (← same) (
      record {
        each = kept.each;
        rises = AllPairs-filter (λ one other. one.number < other.number)
            (λ mount. not (mount.number == number)) mounts are.0.rises;
        root = kept.root;
      },
      All-filter (λ mount. not (mount.number == number)) (λ mount. mount.number < tree.next) mounts are.1,
    )
