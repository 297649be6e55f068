-- What an operation does, as it is planned before anything changes. No public clause cites this module.
use Rattle.std.specs.Prelude.{◌≡◌, ℕ, List, ◌∷◌, Result, Ok, Err, All, length}
use Rattle.fan_access.specs.declared.op.Op.{Op}
use Rattle.fan_access.specs.declared.op.Op.TheVariants as ops
use Rattle.fan_access.specs.declared.spot.Spot.{Spot}
use Rattle.fan_bits.specs.declared.errno.Errno.{Errno}
use Rattle.fan_bits.specs.declared.errno.Errno.TheVariants as errno
use Rattle.fan_bits.specs.Places.{IsPlace}
use Rattle.fan_machine.specs.Deeds.{Deed}
use Rattle.fan_machine.specs.Outcome.{◌>>=◌}
use Rattle.fan_tree.specs.Changes.{removed, renamed}
use Rattle.fan_tree.specs.Tree.{TreeState, made}
use Rattle.fan_world.specs.declared.plans.Plan.{Plan}
use Rattle.fan_world.specs.declared.deeds.TreeChange.{TreeChange}
use Rattle.fan_world.specs.declared.deeds.TreeChange.TheVariants.{Makes, Removes, Renames, Uses, Writes}
use Rattle.fan_world.specs.declared.refused.Refused.{Refused}
use Rattle.fan_world.specs.declared.refused.Refused.TheVariants.{No, NoMemory}
use Rattle.fan_world.specs.Marks.{Dropped, Emptied, MarkEdit, Stays, first_of, last_of}

-- a deed at these spots that leaves this tree, and changes the marks so
abbrev pub deed_with : List Spot → TreeState → MarkEdit → Deed
deed_with spots tree edit =
    record { spots = spots; first = first_of edit; tree = tree; last = last_of edit }

-- what an operation that leaves the tree does
abbrev pub change_by : Op → TreeChange
change_by ops.Writes = Writes
change_by _ = Uses

-- the change of the tree at some spots, and the deed that this makes; EINVAL for fewer spots than a plan has
abbrev pub carried : TreeState → TreeChange → List Spot → Result Deed Errno
carried tree Uses spots = Ok (deed_with spots tree Stays)
carried tree Writes (file ∷ more) = Ok (deed_with (file ∷ more) tree (Emptied file.place.inode))
carried tree (Makes is_dir) (entry ∷ more) =
    made tree entry.place.inode entry.name is_dir
    >>= λ new. Ok (deed_with (entry ∷ more) new.1 Stays)
carried tree Removes (entry ∷ more) =
    removed tree entry.place.inode entry.name
    >>= λ left. Ok (deed_with (entry ∷ more) left.1 (Dropped left.0))
carried tree Renames (old ∷ new ∷ more) =
    renamed tree old.place.inode old.name new.place.inode new.name
    >>= λ moved. Ok (deed_with (old ∷ new ∷ more) moved.1 Stays)
carried tree change spots = Err errno.Einval

-- so many spots, each at a place
pub record HasSpots (count : ℕ) (spots : List Spot) : Type 0 where
  pub each : All (λ spot. IsPlace spot.place) spots
  pub are : length spots ≡ count

-- a refusal is that of a result; want of memory may take its place
abbrev pub IsCause : {A : Type 0} → Refused → Result A Errno → Type 0
IsCause (No errno) result = result ≡ Err errno
IsCause NoMemory result = Unit {0}

-- a plan does what an operation does, or is refused as that is
abbrev pub IsPlanned : TreeState → Result Plan Refused → Result Deed Errno → Type 0
IsPlanned tree (Ok plan) deed = deed ≡ carried tree plan.change plan.spots.items
IsPlanned tree (Err why) deed = IsCause why deed
