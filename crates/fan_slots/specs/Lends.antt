-- What slots end as, once a `&mut` to one of the values has ended.
use Rattle.std.specs.Prelude.{ℕ, Option}
use Rattle.std.specs.Borrow.{Fml, RattleType, MutBor, LendsIf}
use Rattle.std.specs.BTreeMap.{is_at}
use Rattle.std.specs.Map.{set_value}
use Rattle.std.specs.Ordering.{nat_cmp}
use Rattle.fan_slots.specs.SlotsState.{SlotsState}
use Rattle.fan_slots.specs.contracts.slots.Slots.{the_row}

-- the number has the last value written through r, and at `None` all stays as it is
abbrev pub lends_value : (V : RattleType) → MutBor (SlotsState V.Denot) → ℕ → Option (MutBor V.Denot) → Fml
lends_value V slots number r = LendsIf (the_row V) V slots r
    (λ w. record slots.now { entries = set_value (is_at (nat_cmp number)) slots.now.entries w }) slots.now
