-- The rounds of an operation: each is at one of its spots, and has the name that is there.
use Rattle.std.proofs.Common.{◌≡◌, ◌≤◌, ◌⊎◌, inl, inr, length, ℕ, Bool, false, List, [], ◌∷◌, Option, Some, None, zero, suc, map, ◌∙◌, refl, sym, ap}
use Rattle.std.specs.Prelude.{All, option_map, slice_get}
use Rattle.std.specs.List.{zip}
use Rattle.std.proofs.lemmas.List.Elements.{All-cons, All-head, All-map, All-nil, All-tail}
use Rattle.std.proofs.lemmas.Option.{slice_get_past}
use Rattle.fan_access.specs.Kept.{KeptAccess}
use Rattle.fan_access.specs.Operations.{asked_events, is_dir_entry, told_events}
use Rattle.fan_access.specs.Rounds.{Round, asked_rounds, round_at, told_rounds}
use Rattle.fan_access.specs.declared.op.Op.{Op}
use Rattle.fan_access.specs.declared.report.Report.{Report}
use Rattle.fan_access.specs.declared.report.Report.TheVariants.{Itself, OfEntry}
use Rattle.fan_access.specs.declared.spot.Spot.{Spot}
use Rattle.fan_bits.specs.declared.place.Happening.{Happening}
use Rattle.fan_bits.specs.declared.place.Place.{Place}

-- the reports of a list, each at its own spot
abbrev pub rounds_at : Bool → List Spot → List Report → List Round
rounds_at is_dir spots reports = map (λ pair. round_at is_dir pair.0 pair.1) (zip spots reports)

-- ---- the place of a round

-- a round is at the place of its spot
place_at : (P : Place → Type 0) (is_dir : Bool) (spot : Spot) (report : Report) → P spot.place
    → P (round_at is_dir spot report).happening.place
place_at P is_dir spot (Itself bits) here = here
place_at P is_dir spot (OfEntry bits) here = here

-- what is true of the place of each spot is true of that of each round of asks
pub asked_each : (P : Place → Type 0) (op : Op) (spots : List Spot) → All (λ spot. P spot.place) spots
    → All (λ round. P round.happening.place) (asked_rounds op spots)
asked_each P op [] each = All-nil (λ (round : Round). P round.happening.place)
asked_each P op (spot ∷ more) each =
    All-map (λ (round : Round). P round.happening.place) (λ bits. round_at false spot (Itself bits))
    (asked_events op) (λ at bits within. All-head (λ (spot : Spot). P spot.place) spot more each)

each_at : (P : Place → Type 0) (is_dir : Bool) (spots : List Spot) (reports : List Report)
    → All (λ spot. P spot.place) spots
    → All (λ round. P round.happening.place) (rounds_at is_dir spots reports)
each_at P is_dir [] reports each = All-nil (λ (round : Round). P round.happening.place)
each_at P is_dir (spot ∷ more) [] each = All-nil (λ (round : Round). P round.happening.place)
each_at P is_dir (spot ∷ more) (report ∷ rest) each =
    All-cons (λ (round : Round). P round.happening.place) (round_at is_dir spot report)
    (rounds_at is_dir more rest)
    (place_at P is_dir spot report (All-head (λ (spot : Spot). P spot.place) spot more each))
    (each_at P is_dir more rest (All-tail (λ (spot : Spot). P spot.place) spot more each))

-- and of that of each round of tells
pub told_each : (P : Place → Type 0) (op : Op) (spots : List Spot) → All (λ spot. P spot.place) spots
    → All (λ round. P round.happening.place) (told_rounds op spots)
told_each P op spots each = each_at P (is_dir_entry op spots) spots (told_events op) each

-- ---- the name of a round

name_asked : (spot : Spot) (events : List ℕ) (number : ℕ) (round : Round)
    → slice_get (map (λ bits. round_at false spot (Itself bits)) events) number ≡ Some round
    → spot.name ≡ round.name
name_asked spot [] number round got = absurd cc
name_asked spot (bits ∷ more) zero round got = cc
name_asked spot (bits ∷ more) (suc number) round got = name_asked spot more number round got

-- a round of asks has the name at the first spot
pub asked_name : (op : Op) (spots : List Spot) (number : ℕ) (round : Round)
    → slice_get (asked_rounds op spots) number ≡ Some round
    → (spot : Spot) × (slice_get spots 0 ≡ Some spot) × (spot.name ≡ round.name)
asked_name op [] number round got = absurd cc
asked_name op (spot ∷ more) number round got =
    (spot, refl, name_asked spot (asked_events op) number round got)

name_told : (is_dir : Bool) (spots : List Spot) (reports : List Report) (number : ℕ) (round : Round)
    → slice_get (rounds_at is_dir spots reports) number ≡ Some round
    → (spot : Spot) × (slice_get spots number ≡ Some spot) × (spot.name ≡ round.name)
name_told is_dir [] reports number round got = absurd cc
name_told is_dir (spot ∷ more) [] number round got = absurd cc
name_told is_dir (spot ∷ more) (report ∷ rest) zero round got = (spot, refl, cc)
name_told is_dir (spot ∷ more) (report ∷ rest) (suc number) round got =
    name_told is_dir more rest number round got

-- a round of tells has the name at the spot with its number
pub told_name : (op : Op) (spots : List Spot) (number : ℕ) (round : Round)
    → slice_get (told_rounds op spots) number ≡ Some round
    → (spot : Spot) × (slice_get spots number ≡ Some spot) × (spot.name ≡ round.name)
told_name op spots number round got =
    name_told (is_dir_entry op spots) spots (told_events op) number round got

-- ---- what happens in a round

-- a happening that is found is that of a round
pub has_round : (found : Option Round) (happening : Happening)
    → Some happening ≡ option_map (λ round. round.happening) found
    → (round : Round) × (found ≡ Some round) × (happening ≡ round.happening)
has_round None happening is = absurd cc
has_round (Some round) happening is = (round, refl, cc)

-- where none is found, there is no round
pub no_round : (found : Option Round) → None ≡ option_map (λ round. round.happening) found → found ≡ None
no_round None is = refl
no_round (Some round) is = absurd cc

-- the rounds at the spots of what an access is inside are those of the access
pub rounds_inside : (rounds_of : Op → List Spot → List Round) (inside kept : KeptAccess) (spots : List Spot)
    → inside ≡ kept → spots ≡ inside.spots → rounds_of inside.op spots ≡ rounds_of kept.op kept.spots
rounds_inside rounds_of inside kept spots same these =
    ap (λ at. rounds_of inside.op at) these ∙ ap (λ k. rounds_of k.op k.spots) same

-- the round of a happening of asks, and the spot whose name it has
pub asked_spot : (kept : KeptAccess) (rounds : List Round) → rounds ≡ asked_rounds kept.op kept.spots
    → (number : ℕ) (happening : Happening)
    → Some happening ≡ option_map (λ round. round.happening) (slice_get rounds number)
    → (round : Round) × (slice_get rounds number ≡ Some round)
    × ((spot : Spot) × (slice_get kept.spots 0 ≡ Some spot) × (spot.name ≡ round.name))
asked_spot kept rounds these number happening is =
    let here = has_round (slice_get rounds number) happening is in
    (here.0, here.1, asked_name kept.op kept.spots number here.0 (rw (sym these) here.1))

-- the same of tells
pub told_spot : (kept : KeptAccess) (rounds : List Round) → rounds ≡ told_rounds kept.op kept.spots
    → (number : ℕ) (happening : Happening)
    → Some happening ≡ option_map (λ round. round.happening) (slice_get rounds number)
    → (round : Round) × (slice_get rounds number ≡ Some round)
    × ((spot : Spot) × (slice_get kept.spots number ≡ Some spot) × (spot.name ≡ round.name))
told_spot kept rounds these number happening is =
    let here = has_round (slice_get rounds number) happening is in
    (here.0, here.1, told_name kept.op kept.spots number here.0 (rw (sym these) here.1))

none_at : (is_dir : Bool) (spots : List Spot) (reports : List Report) (number : ℕ)
    → (slice_get spots number ≡ None) ⊎ (slice_get reports number ≡ None)
    → slice_get (rounds_at is_dir spots reports) number ≡ None
none_at is_dir [] reports number none = refl
none_at is_dir (spot ∷ more) [] number none = refl
none_at is_dir (spot ∷ more) (report ∷ rest) zero (inl none) = absurd cc
none_at is_dir (spot ∷ more) (report ∷ rest) zero (inr none) = absurd cc
none_at is_dir (spot ∷ more) (report ∷ rest) (suc number) none = none_at is_dir more rest number none

-- behind the spots or the reports nothing is told of
pub none_told : (op : Op) (spots : List Spot) (number : ℕ)
    → (length spots ≤ number) ⊎ (length (told_events op) ≤ number)
    → None ≡ option_map (λ round. round.happening) (slice_get (told_rounds op spots) number)
none_told op spots number (inl past) =
    rw (none_at (is_dir_entry op spots) spots (told_events op) number
    (inl (slice_get_past spots number past))) refl
none_told op spots number (inr past) =
    rw (none_at (is_dir_entry op spots) spots (told_events op) number
    (inr (slice_get_past (told_events op) number past))) refl
