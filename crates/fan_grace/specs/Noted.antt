-- On which objects a group has marks, or had them: places for them, kind by kind. No public clause cites this
-- module.
use Rattle.std.specs.Prelude.{◌≡◌, ℕ, ◌+◌, ◌*◌, List, Option, Some, All, Bool, ◌&&◌, nat_le, nat_lt}
use Rattle.std.specs.BTreeMap.{is_at}
use Rattle.std.specs.Map.{lookup}
use Rattle.std.specs.Ordering.{nat_cmp}
use Rattle.fan_bits.specs.declared.change.Change.{Change}
use Rattle.fan_bits.specs.declared.change.Change.TheVariants.{Flush, DropGroup}
use Rattle.fan_bits.specs.declared.kind.Kind.{Kind}
use Rattle.fan_bits.specs.declared.mark.Mark.{Mark}
use Rattle.fan_rows.specs.Coding.{kind_number}
use Rattle.fan_grace.specs.declared.noted.Span.{Span}

-- the number of a group's object of a kind: those of one kind follow each other, and those of one group
abbrev pub place_of : ℕ → Kind → ℕ → ℕ
place_of group kind object = (group * 4 + kind_number kind) * 65536 + object

-- the object that is noted at a place
abbrev pub noted_at : List (ℕ × ℕ) → ℕ → Option ℕ
noted_at entries place = lookup (is_at (nat_cmp place)) entries

-- each mark is noted
abbrev pub AreNoted : List (ℕ × ℕ) → List Mark → Type 0
AreNoted entries marks =
    All (λ mark. noted_at entries (place_of mark.group mark.kind mark.object) ≡ Some mark.object) marks

-- the places of a change's marks: from the first one, before an end
abbrev pub first_place : Change → ℕ
first_place (Flush group kind) = place_of group kind 0
first_place (DropGroup group) = group * 4 * 65536
first_place _ = 0

abbrev pub end_place : Change → ℕ
end_place (Flush group kind) = place_of group kind 0 + 65536
end_place (DropGroup group) = (group + 1) * 4 * 65536
end_place _ = 0

-- a place is within a span
abbrev pub is_within : Span → ℕ → Bool
is_within span place = nat_le span.first place && nat_lt place span.end
