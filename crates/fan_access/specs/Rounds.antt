-- Whom an access asks and whom it tells, by its operation, its spots and a list of marks: fanotify_mark(2).
use Rattle.std.specs.Prelude.{ℕ, Bool, false, true, List, [], ◌∷◌, ◌++◌, map}
use Rattle.std.specs.List.{zip}
use Rattle.fan_access.specs.declared.op.Op.{Op}
use Rattle.fan_access.specs.declared.report.Report.{Report}
use Rattle.fan_access.specs.declared.report.Report.TheVariants.{Itself, OfEntry}
use Rattle.fan_access.specs.declared.spot.Spot.{Spot}
use Rattle.fan_access.specs.Operations.{asked_events, is_dir_entry, told_events}
use Rattle.fan_bits.specs.declared.mark.Mark.{Mark}
use Rattle.fan_bits.specs.declared.place.Happening.{Happening}
use Rattle.fan_bits.specs.declared.place.Interest.{Interest}
use Rattle.fan_bits.specs.declared.place.Place.{Place}
use Rattle.fan_bits.specs.Interest.{interests}

-- one thing that groups are asked about or told of, and the name that goes with it
pub record Round : Type 0 where
  pub happening : Happening
  pub name : List ℕ

-- what happens at a place: events of an entry tell whether the entry is a directory, and all others whether the
-- object at the place is one
abbrev pub happening_at : Bool → Place → Report → Happening
happening_at is_dir place (Itself bits) =
    record { place = place; bits = bits; ondir = place.dir; entry = false }
happening_at is_dir place (OfEntry bits) =
    record { place = place; bits = bits; ondir = is_dir; entry = true }

-- a round at a spot
abbrev pub round_at : Bool → Spot → Report → Round
round_at is_dir spot report =
    record { happening = happening_at is_dir spot.place report; name = spot.name }

-- what an operation asks about, one round after the other: it asks at its first spot alone
abbrev pub asked_rounds : Op → List Spot → List Round
asked_rounds op [] = []
asked_rounds op (spot ∷ more) = map (λ bits. round_at false spot (Itself bits)) (asked_events op)

-- what it tells of, one round after the other: each report at its own spot, as far as there are spots
abbrev pub told_rounds : Op → List Spot → List Round
told_rounds op spots = map (λ pair. round_at (is_dir_entry op spots) pair.0 pair.1) (zip spots (told_events op))

-- the turn of one group in a round: the events that it wants of what happens
pub record Turn : Type 0 where
  pub happening : Happening
  pub name : List ℕ
  pub interest : Interest

-- the turns of the groups that want something of a round, in their order
abbrev pub turns_of : Round → List Interest → List Turn
turns_of round wanting =
    map (λ interest. record { happening = round.happening; name = round.name; interest = interest }) wanting

-- the turns of all groups, one round after the other
abbrev pub turns : List Mark → List Round → List Turn
turns marks [] = []
turns marks (round ∷ more) = turns_of round (interests marks round.happening) ++ turns marks more
