-- What the objects of a place answer when they are asked for their next marks.
use Rattle.std.specs.Prelude.{ℕ, List, ◌∷◌, Option, Some, None, map, nat_lt, if◌then◌else◌}
use Rattle.std.specs.List.{fold}
use Rattle.std.specs.Option.{option_to_list}
use Rattle.fan_bits.specs.declared.mark.Mark.{Mark}
use Rattle.fan_bits.specs.declared.place.Happening.{Happening}
use Rattle.fan_bits.specs.declared.place.Interest.{Interest}
use Rattle.fan_bits.specs.declared.place.Place.{Place}
use Rattle.fan_bits.specs.Marks.{next_on, order_of}
use Rattle.fan_decide.specs.Words.{wanted_by}

-- the objects of a place: the only ones whose marks can reach it
abbrev pub objects : Place → List ℕ
objects place = place.inode ∷ place.mount ∷ place.fs ∷ option_to_list place.parent

-- the next mark after an order on each of some objects
abbrev pub answers : List Mark → List ℕ → ℕ → List (Option Mark)
answers marks asked after = map (λ object. next_on marks object after) asked

-- the earlier one of two answers, by the order of its group
abbrev pub earlier : Option Mark → Option Mark → Option Mark
earlier None other = other
earlier (Some mark) None = Some mark
earlier (Some mark) (Some other) = if nat_lt (order_of other) (order_of mark) then Some other else Some mark

-- the first mark among some answers, by the order of its group
abbrev pub first_of : List (Option Mark) → Option Mark
first_of given = fold earlier None given

-- what the group of a mark wants, by some answers
abbrev pub interest_by : List (Option Mark) → Happening → Option Mark → Option Interest
interest_by given happening None = None
interest_by given happening (Some first) = Some (record {
  group = first.group;
  class = first.class;
  bits = wanted_by given first.group happening;
})

-- the first group after an order that has a mark on an object of the place, and what it wants
abbrev pub next_marked : List Mark → Happening → ℕ → Option Interest
next_marked marks happening after =
    let given = answers marks (objects happening.place) after in
    interest_by given happening (first_of given)
