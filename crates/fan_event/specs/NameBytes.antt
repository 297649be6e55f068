-- How the bytes of a name are kept. No public clause cites this module.
use Rattle.std.specs.Prelude.{⊤, ℕ, ◌≤◌, List, take}
use Rattle.std.specs.Box.{box_value}
use Rattle.fan_event.specs.declared.name_bytes.NameBytes.{NameBytes}
use Rattle.fan_event.specs.declared.name_bytes.NameBytes.TheVariants.{Few, Many}

-- the bytes themselves
abbrev pub bytes_in : NameBytes → List ℕ
bytes_in (Few count bytes) = take count bytes
bytes_in (Many bytes) = box_value bytes

-- a few are no more than there is place for
abbrev pub IsHeld : NameBytes → Type 0
IsHeld (Few count bytes) = count ≤ 14
IsHeld (Many bytes) = ⊤
