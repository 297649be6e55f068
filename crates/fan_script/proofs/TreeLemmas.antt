-- The lines of the tree: what is read is spelled so, and what is spelled so is read.
use Rattle.std.proofs.Common.{◌≡◌, ℕ, ◌≤◌, List, ◌∷◌, ◌++◌, Some, refl, arith}
use Rattle.std.specs.Prelude.{codes}
use Rattle.std.specs.Fmt.{decimal}
use Rattle.std.proofs.lemmas.Option.{option_and_then_some, same_Some}
use Rattle.fan_text.specs.Spelling.{IsPath}
use Rattle.fan_script.specs.declared.line.Line.{Line}
use Rattle.fan_script.specs.declared.line.Line.TheVariants.{One}
use Rattle.fan_script.specs.declared.step.Step.TheVariants as steps
use Rattle.fan_script.specs.Reading.{mkfile_at, mkdir_at, mount_at, umount_at}
use Rattle.fan_script.proofs.WordLemmas.{Spells}
use Rattle.fan_script.proofs.FieldLemmas.{path_takes, path_again, split_number_takes, split_number_again}

-- the fields that are read as `mkfile` are spelled so
pub mkfile_takes : (fields : List ℕ) (line : Line) → mkfile_at fields ≡ Some line
    → Spells (codes "mkfile") fields line
unfolding mkfile_at
mkfile_takes fields line e =
    option_and_then_some _ _ _ e (λ path p same.
    let word = path_takes fields path p in
    rw (← same_Some _ _ same, word.0) (refl, word.1))

-- fields of `mkfile` are read again
pub mkfile_again : (path : List ℕ) → IsPath path → mkfile_at path ≡ Some (One (steps.MkFile path))
unfolding mkfile_at
mkfile_again path p = rw (path_again path p) refl

-- the fields that are read as `mkdir` are spelled so
pub mkdir_takes : (fields : List ℕ) (line : Line) → mkdir_at fields ≡ Some line
    → Spells (codes "mkdir") fields line
unfolding mkdir_at
mkdir_takes fields line e =
    option_and_then_some _ _ _ e (λ path p same.
    let word = path_takes fields path p in
    rw (← same_Some _ _ same, word.0) (refl, word.1))

-- fields of `mkdir` are read again
pub mkdir_again : (path : List ℕ) → IsPath path → mkdir_at path ≡ Some (One (steps.MkDir path))
unfolding mkdir_at
mkdir_again path p = rw (path_again path p) refl

-- the fields that are read as `mount` are spelled so
pub mount_takes : (fields : List ℕ) (line : Line) → mount_at fields ≡ Some line
    → Spells (codes "mount") fields line
unfolding mount_at
mount_takes fields line e =
    option_and_then_some _ _ _ e (λ (fs : ℕ × List ℕ) f e.
    option_and_then_some _ _ _ e (λ path p same.
    let number = split_number_takes 1 65535 fields fs.0 fs.1 f in
    let word = path_takes fs.1 path p in
    rw (← same_Some _ _ same, number.spelled, word.0) (refl, ((number.low, number.high), word.1))))

-- fields of `mount` are read again
pub mount_again : (fs : ℕ) (path : List ℕ) → 1 ≤ fs → fs ≤ 65535 → IsPath path
    → mount_at (decimal fs ++ 32 ∷ path) ≡ Some (One (steps.Mount fs path))
unfolding mount_at
mount_again fs path low high p =
    rw (split_number_again 1 65535 fs path low high (omega arith), path_again path p) refl

-- the fields that are read as `umount` are spelled so
pub umount_takes : (fields : List ℕ) (line : Line) → umount_at fields ≡ Some line
    → Spells (codes "umount") fields line
unfolding umount_at
umount_takes fields line e =
    option_and_then_some _ _ _ e (λ path p same.
    let word = path_takes fields path p in
    rw (← same_Some _ _ same, word.0) (refl, word.1))

-- fields of `umount` are read again
pub umount_again : (path : List ℕ) → IsPath path → umount_at path ≡ Some (One (steps.Umount path))
unfolding umount_at
umount_again path p = rw (path_again path p) refl
