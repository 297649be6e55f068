-- The file tree and its mounts, whatever steps come.
use Rattle.std.proofs.Common.{◌≡◌, ℕ, ◌<◌, ◌≤◌, true, false, cond, List, [], ◌∷◌, Option, Some, None, Result, Ok, Err, refl, subst, arith, not}
use Rattle.std.proofs.lemmas.Bool.{cond_both}
use Rattle.std.proofs.lemmas.List.Elements.{All-weaker}
use Rattle.std.specs.Prelude.{IfOk, is_none}
use Rattle.fan_bits.specs.declared.errno.Errno.{Errno}
use Rattle.fan_bits.specs.declared.errno.Errno.TheVariants as errno
use Rattle.fan_bits.specs.declared.place.Place.{Place}
use Rattle.fan_machine.specs.Accesses.{op_of}
use Rattle.fan_machine.specs.Next.{after, next}
use Rattle.fan_machine.specs.Outcome.{Outcome}
use Rattle.fan_machine.specs.World.{WorldState, initial_world}
use Rattle.fan_mounts.specs.declared.mount.Mount.{Mount}
use Rattle.fan_mounts.specs.Mounts.{is_mount_root, mounted, with_mount}
use Rattle.fan_mounts.proofs.Rising.{AreOf, initial_of, mounted_keeps, unmounted_keeps}
use Rattle.fan_script.specs.declared.step.Step.{Step}
use Rattle.fan_tree.specs.Tree.{TreeState, drawn, root_of}
use Rattle.fan_tree.specs.Whole.{IsTree}
use Rattle.fan_tree.proofs.Kept.{drawn_keeps, initial_is, made_fs_keeps, made_keeps}
use Rattle.fan_laws.proofs.Attempts.{was_done}
use Rattle.fan_laws.proofs.Deeds.{deed_is}
use Rattle.fan_laws.proofs.Forms.{Form, dir_made, file_made, fs_was_made, has_begun, step_form, was_mounted, was_unmounted}
use Rattle.fan_laws.proofs.Later.{IsLater, made_fs_later, made_later}

-- the numbers of mounts were drawn from a tree, and so from one that draws later numbers
later_of : (tree new : TreeState) (mounts : List Mount) → tree.next ≤ new.next → AreOf tree mounts
    → AreOf new mounts
later_of tree new mounts upto (are, drew) = (
  are,
  All-weaker (λ (mount : Mount). mount.number < tree.next) (λ mount. mount.number < new.next)
      (λ mount below. omega (arith, below, upto)) mounts drew,
)

-- a tree that a mount's number is drawn from stays a tree
mounted_tree : (tree : TreeState) (mounts : List Mount) (fs : ℕ) (at : Place) (new : ℕ × TreeState
    × List Mount)
    → IsTree tree → mounted tree mounts fs at ≡ Ok new → IsTree new.1
unfolding mounted
mounted_tree tree mounts fs at new whole is =
    let P : Result (ℕ × TreeState × List Mount) Errno → Type 0 = λ r. IfOk r (λ new. IsTree new.1) in
    let last = with_mount (drawn tree) mounts fs at in
    let inner : Result (ℕ × TreeState × List Mount) Errno = cond (is_mount_root at) (Err errno.Ebusy) last in
    let middle : Result (ℕ × TreeState × List Mount) Errno = cond (not at.dir) (Err errno.Enotdir) inner in
    subst P is
    (cond_both (is_none (root_of tree fs)) (Err errno.Enoent) middle P (λ none. tt)
    (λ there. cond_both (not at.dir) (Err errno.Enotdir) inner P (λ file. tt)
    (λ dir. cond_both (is_mount_root at) (Err errno.Ebusy) last P (λ root. tt)
    (λ below. drew (drawn tree) refl))))
  where
    drew : (draw : Option (ℕ × TreeState)) → drawn tree ≡ draw
        → IfOk (with_mount draw mounts fs at) (λ new. IsTree new.1)
    drew None is = tt
    drew (Some draw) is = drawn_keeps tree draw whole is

-- what holds of the files
pub record AreFiles (world : WorldState) : Type 0 where
  pub tree : IsTree world.tree
  pub mounts : AreOf world.tree world.mounts

files_form : (world : WorldState) (step : Step) (outcome : Outcome) → Form world step outcome → AreFiles world
    → AreFiles outcome.world
files_form world step outcome (file_made path dir name new is) files = record {
  tree = made_keeps world.tree dir.inode name false new files.tree is;
  mounts = later_of world.tree new.1 world.mounts
      (was_done (IsLater world.tree) _ new is (made_later world.tree dir.inode name false)) files.mounts;
}
files_form world step outcome (dir_made path dir name new is) files = record {
  tree = made_keeps world.tree dir.inode name true new files.tree is;
  mounts = later_of world.tree new.1 world.mounts
      (was_done (IsLater world.tree) _ new is (made_later world.tree dir.inode name true)) files.mounts;
}
files_form world step outcome (fs_was_made new is) files = record {
  tree = made_fs_keeps world.tree new files.tree is;
  mounts = later_of world.tree new.1 world.mounts (was_done (IsLater world.tree) _ new is (made_fs_later world.tree)) files.mounts;
}
files_form world step outcome (was_mounted fs path at new is) files = record {
  tree = mounted_tree world.tree world.mounts fs at new files.tree is;
  mounts = mounted_keeps world.tree world.mounts fs at new files.tree files.mounts is;
}
files_form world step outcome (was_unmounted path at left unused is) files = record {
  tree = files.tree;
  mounts = unmounted_keeps world.tree world.mounts left at.mount files.mounts is;
}
files_form world step outcome (has_begun number pid tid word path second deed free does) files =
    let its = (deed_is world (op_of word) path second deed does).tree in record {
      tree = its.whole files.tree;
      mounts = later_of world.tree deed.tree world.mounts its.later files.mounts;
    }
files_form world step outcome form files = record { tree = files.tree; mounts = files.mounts }

files_after : (steps : List Step) (world : WorldState) → AreFiles world → AreFiles (after world steps)
files_after [] world files = files
files_after (step ∷ more) world files =
    files_after more (next world step).world (files_form world step (next world step)
    (step_form world step) files)

-- whatever steps come
pub files_from_first : (steps : List Step) → AreFiles (after initial_world steps)
files_from_first steps = files_after steps initial_world (record { tree = initial_is; mounts = initial_of })
