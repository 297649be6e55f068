-- What `unlink` and `rmdir` remove: the tree has it no more, and no mark is on it.
use Rattle.std.proofs.Common.{◌≡◌, ◌≢◌, ℕ, ◌==◌, Bool, true, false, List, [], ◌∷◌, Option, Some, None, Result, Ok, Err, refl, not, inl, inr}
use Rattle.std.proofs.lemmas.Bool.{cond_both, eq-eqb}
use Rattle.std.proofs.lemmas.List.Elements.{All-weaker, filter_passes}
use Rattle.std.specs.Prelude.{◌⊎◌, All, IfOk, filter}
use Rattle.fan_access.specs.declared.op.Op.{Op}
use Rattle.fan_access.specs.declared.op.Op.TheVariants as ops
use Rattle.fan_bits.specs.declared.change.Change.{Change}
use Rattle.fan_bits.specs.declared.change.Change.TheVariants.{DropObject}
use Rattle.fan_bits.specs.declared.errno.Errno.{Errno}
use Rattle.fan_bits.specs.declared.errno.Errno.TheVariants as errno
use Rattle.fan_bits.specs.declared.mark.Mark.{Mark}
use Rattle.fan_bits.specs.declared.place.Place.{Place}
use Rattle.fan_bits.specs.Marks.{changed}
use Rattle.fan_lists.proofs.Finds.{find_none}
use Rattle.fan_machine.specs.Accesses.{op_of}
use Rattle.fan_machine.specs.Deeds.{Deed, deed_of, entry_spot, names_up, removes, spot_by, taken}
use Rattle.fan_machine.specs.World.{WorldState, changed_if}
use Rattle.fan_script.specs.declared.step.OpWord.{OpWord}
use Rattle.fan_script.specs.declared.step.OpWord.TheVariants as words
use Rattle.fan_tree.specs.Changes.{has_entries, removed, removed_by, without_entry}
use Rattle.fan_tree.specs.Tree.{Inode, TreeState, entry_of, inode_of}
use Rattle.fan_laws.specs.InOrder.{Begin, begun_world}
use Rattle.fan_laws.proofs.Attempts.{done_does, refusal_does, was_done}
use Rattle.fan_laws.proofs.Ordered.{begun_is, marks_begun}

-- what passes a test is found no more among those that don't
not_found : {X : Type 0} (test : X → Bool) (xs : List X)
    → All (λ x. test x ≡ false) (filter (λ x. not (test x)) xs)
not_found test xs =
    All-weaker (λ x. not (test x) ≡ true) (λ x. test x ≡ false) (λ x is. fails (test x) is)
    (filter (λ x. not (test x)) xs) (filter_passes (λ x. not (test x)) xs)
  where
    fails : (b : Bool) → not b ≡ true → b ≡ false
    fails true is = absurd cc
    fails false is = refl

-- an inode that was removed isn't there
abbrev IsGone : ℕ × TreeState → Type 0
IsGone left = inode_of left.1 left.0 ≡ None

gone_by : (found : Option Inode) (tree : TreeState) (dir : ℕ) (name : List ℕ)
    → IfOk (removed_by found tree dir name) IsGone
gone_by None tree dir name = tt
gone_by (Some inode) tree dir name =
    let its : Inode → Bool = λ other. other.number == inode.number in
    let last : Result (ℕ × TreeState) Errno = Ok (inode.number, without_entry tree dir name inode.number) in
    cond_both (has_entries tree inode.number) (Err errno.Enotempty) last (λ r. IfOk r IsGone) (λ full. tt)
    (λ empty. find_none its (filter (λ other. not (its other)) tree.inodes) (not_found its tree.inodes))

removed_gone : (tree : TreeState) (dir : ℕ) (name : List ℕ) → IfOk (removed tree dir name) IsGone
unfolding removed
removed_gone tree dir name = gone_by (entry_of tree dir name) tree dir name

-- what is done takes an inode out of the tree, and then the marks on it
pub record Takes (deed : Deed) : Type 0 where
  pub inode : ℕ
  pub gone : inode_of deed.tree inode ≡ None
  pub drops : deed.last ≡ Some (DropObject inode)

takes_at : (tree : TreeState) (place dir : Place) (last : List ℕ) (before : List (List ℕ))
    (left : ℕ × TreeState)
    → removed tree dir.inode last ≡ Ok left
    → Takes (record {
      spots = entry_spot dir last ∷ spot_by (last ∷ before) place ∷ [];
      first = None;
      tree = left.1;
      last = Some (DropObject left.0);
    })
takes_at tree place dir last before left is = record {
  inode = left.0;
  gone = was_done IsGone (removed tree dir.inode last) left is (removed_gone tree dir.inode last);
  drops = refl;
}

taken_takes : (world : WorldState) (place : Place) (names : List (List ℕ))
    → IfOk (taken world place names) Takes
taken_takes world place [] = tt
taken_takes world place (last ∷ before) = search (done_does, takes_at) depth 9

removes_takes : (world : WorldState) (op : Op) (names : List (List ℕ)) → IfOk (removes world op names) Takes
removes_takes world op names = search (done_does, refusal_does, taken_takes) depth 9

-- the word of an operation that removes something
abbrev pub IsRemoval : OpWord → Type 0
IsRemoval word = (word ≡ words.Unlinks) ⊎ (word ≡ words.RemovesDir)

deed_takes : (world : WorldState) (word : OpWord) (path : List ℕ) (second : Option (List ℕ)) (deed : Deed)
    → IsRemoval word → deed_of world (op_of word) path second ≡ Ok deed → Takes deed
unfolding deed_of
deed_takes world word path second deed (inl file) is =
    let its : removes world ops.Unlinks (names_up path) ≡ Ok deed = rw file at is in
    was_done Takes _ deed its (removes_takes world ops.Unlinks (names_up path))
deed_takes world word path second deed (inr dir) is =
    let its : removes world ops.RemovesDir (names_up path) ≡ Ok deed = rw dir at is in
    was_done Takes _ deed its (removes_takes world ops.RemovesDir (names_up path))

-- no mark is on an object once the marks on it went
dropped : (marks : List Mark) (object : ℕ)
    → All (λ mark. mark.object ≢ object) (changed marks (DropObject object))
unfolding changed
dropped marks object =
    let its : Mark → Bool = λ mark. mark.object == object in
    All-weaker (λ mark. its mark ≡ false) (λ mark. mark.object ≢ object)
    (λ mark not same. let here = eq-eqb mark.object object same in absurd cc)
    (filter (λ mark. not (its mark)) marks) (not_found its marks)

dropped_last : (marks : List Mark) (last : Option Change) (object : ℕ) (new : List Mark)
    → last ≡ Some (DropObject object) → new ≡ changed_if last marks → All (λ mark. mark.object ≢ object) new
dropped_last marks last object new drops is = rw (is, drops) (dropped marks object)

-- what a removal leaves
pub takes_marks : (world : WorldState) (number : ℕ) (begin : Begin world number) → IsRemoval begin.word →
    let new = begun_world world number begin in
    (removed : ℕ) × (begin.deed.last ≡ Some (DropObject removed)) × (inode_of new.tree removed ≡ None)
    × All (λ mark. mark.object ≢ removed) new.marks
takes_marks world number begin removal =
    let takes = deed_takes world begin.word begin.path begin.second begin.deed removal begin.does in
    let view = changed_if begin.deed.first world.marks in
    let begun = begun_is world number begin in (
      takes.inode,
      takes.drops,
      rw (begun.is) takes.gone,
      dropped_last view begin.deed.last takes.inode _ takes.drops (marks_begun world number begin),
    )
