-- A map from pairs of numbers, and what stands at two numbers. No public clause cites this.
use Rattle.std.specs.Prelude.{◌≡◌, ℕ, ◌==◌, ◌&&◌, Bool, List, [], ◌∷◌, Option, None, if◌then◌else◌}
use Rattle.std.specs.BTreeMap.{is_at}
use Rattle.std.specs.Map.{lookup}
use Rattle.std.specs.Ordering.{nat_cmp, ordering_then}
use Rattle.std.specs.declared.cmp.Ordering.{Ordering}
use Rattle.fan_mounts.specs.declared.mount.Mount.{Mount}
use Rattle.fan_mounts.specs.declared.mount.MountPoint.{MountPoint}
use Rattle.fan_mounts.specs.Mounts as points

-- pairs stand in order by their first numbers, and by their second ones if these are the same
abbrev pub pair_cmp : ℕ × ℕ → ℕ × ℕ → Ordering
pair_cmp a b = ordering_then (nat_cmp a.0 b.0) (nat_cmp a.1 b.1)

-- mounts by pairs of numbers
abbrev pub Entries : Type 0
Entries = List ((ℕ × ℕ) × Mount)

-- what stands at two numbers
abbrev pub Standing : Type 0
Standing = ℕ → ℕ → Option Mount

-- what entries have at two numbers
abbrev pub standing : Entries → Standing
standing entries first second = lookup (is_at (pair_cmp (first, second))) entries

-- the same stands everywhere
abbrev pub IsSame : Standing → Standing → Type 0
IsSame before after = (first second : ℕ) → after first second ≡ before first second

-- the same stands everywhere but at two numbers
abbrev pub Puts : Standing → Standing → ℕ → ℕ → Option Mount → Type 0
Puts before after first second found =
    (a b : ℕ) → after a b ≡ (if first == a && second == b then found else before a b)

-- the same stands everywhere, with both numbers turned round
abbrev pub IsTurned : Standing → Standing → Type 0
IsTurned one other = (first second : ℕ) → other second first ≡ one first second

-- the same stands everywhere but at a point, if it is one
abbrev pub IsEmptied : Standing → Standing → Option MountPoint → Type 0
IsEmptied before after point =
    (a b : ℕ) → after a b ≡ (if points.is_at a b point then None else before a b)

-- a mount has a number
abbrev pub has_number : ℕ → Mount → Bool
has_number number mount = mount.number == number

-- what is left at two numbers of what stood there, once the mounts with a number are gone
abbrev pub left_at : ℕ → ℕ → ℕ → List Mount → Option Mount → Option Mount
left_at a b number [] found = found
left_at a b number (mount ∷ more) found =
    left_at a b number more (if mount.number == number && points.is_at a b mount.point then None else found)

-- the same stands everywhere, but for those mounts of a list that have a number
abbrev pub Drops : Standing → Standing → ℕ → List Mount → Type 0
Drops before after number mounts = (a b : ℕ) → after a b ≡ left_at a b number mounts (before a b)
