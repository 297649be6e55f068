-- What an edit makes of a list of marks that is pictured from a root. No public clause cites this module.
use Rattle.std.specs.Prelude.{◌≡◌, ◌≢◌, ℕ, ◌+◌, ◌<◌, ◌≤◌, ◌^◌, List, [], Option, length}
use Rattle.fan_bits.specs.declared.mark.Mark.{Mark}
use Rattle.fan_bits.specs.Marks.{IsMarkList, gone, on}
use Rattle.fan_rows.specs.Rows.{Rows, times}
use Rattle.fan_rows.specs.Trees.{Pictures}
use Rattle.fan_build.specs.declared.edit.Edit.{Edit}
use Rattle.fan_build.specs.declared.edit.Scope.{Scope}
use Rattle.fan_build.specs.declared.edit.Scope.TheVariants.{Everywhere, Object, Nowhere}
use Rattle.fan_build.specs.declared.publish.Built.{Built}
use Rattle.fan_build.specs.Edits.{edited}
use Rattle.fan_build.specs.Needs.{needed_between}
use Rattle.fan_build.specs.Publishing.{Reaches, Wrote, given_since, retired_since}

-- a change is made on an object
abbrev pub IsIn : Scope → ℕ → Type 0
IsIn Everywhere object = Unit {0}
IsIn (Object one) object = object ≡ one
IsIn Nowhere object = ⊥

-- it isn't
abbrev pub IsOut : Scope → ℕ → Type 0
IsOut Everywhere object = ⊥
IsOut (Object one) object = object ≢ one
IsOut Nowhere object = Unit {0}

-- if a change is made on one object alone, its number is below 2^16
abbrev pub IsNumbered : Scope → Type 0
IsNumbered (Object one) = one < 2 ^ 16
IsNumbered _ = Unit {0}

-- an edit makes one list of marks of another, object by object
pub record Makes (edit : Edit) (marks after : List Mark) : Type 0 where
  pub numbered : IsNumbered edit.scope
  pub before : IsMarkList marks
  pub list : IsMarkList after
  pub here : (object : ℕ) → object < 2 ^ 16 → IsIn edit.scope object
      → edited edit.change (on object marks) ≡ on object after
  pub elsewhere : (object : ℕ) → object < 2 ^ 16 → IsOut edit.scope object
      → on object after ≡ on object marks
  pub nothing : edit.scope ≡ Everywhere → (object : ℕ) → on object marks ≡ [] → on object after ≡ []
  pub few : length (gone marks after) < 2 ^ 32

-- it can be made of a list that is pictured from a root
pub record CanBuild (words : ℕ → Option ℕ) (rows : Rows) (root : ℕ) (edit : Edit) (marks after : List Mark)
    : Type 0 where
  pub makes : Makes edit marks after
  pub pictured : Pictures words root marks
  pub enough : needed_between marks after ≤ length rows.free
  pub apart : (reached : List ℕ) → Reaches words root reached
      → (row : ℕ) → times row reached + times row rows.free + times row rows.retired ≤ 1

-- it was made
pub record IsBuilt (words later : ℕ → Option ℕ) (rows end : Rows) (root : ℕ) (marks after : List Mark)
    (built : Built) : Type 0 where
  pub pictures : Pictures later built.root after
  pub reached : (before last : List ℕ) → Reaches words root before → Reaches later built.root last
      → (row : ℕ) → times row last ≤ times row before + times row (given_since rows end)
  pub fresh : Wrote words later rows end
  pub needed : length (given_since rows end) ≡ needed_between marks after
  pub marks_is : built.marks_retired ≡ length (gone marks after)
  pub rows_is : built.rows_retired ≡ length (retired_since rows end)
  pub once : (before last : List ℕ) → Reaches words root before → Reaches later built.root last
      → (row : ℕ) → times row before + times row (given_since rows end)
      ≡ times row last + times row (retired_since rows end)
  pub same : after ≡ marks → built.root ≡ root
  pub kept : built.root ≡ root → after ≡ marks
