-- The lines of groups: what is read is spelled so, and what is spelled so is read.
use Rattle.std.proofs.Common.{◌≡◌, ℕ, ◌^◌, ◌<◌, ◌≤◌, List, ◌∷◌, ◌++◌, Some, refl, arith}
use Rattle.std.specs.Prelude.{codes}
use Rattle.std.specs.Fmt.{decimal}
use Rattle.std.proofs.lemmas.Option.{option_and_then_some, same_Some}
use Rattle.fan_text.specs.Spelling.{IsPath, IsResponse, hex, hex_text}
use Rattle.fan_text.proofs.BytesLemmas.{bytes_takes, bytes_again}
use Rattle.fan_script.specs.declared.line.Line.{Line}
use Rattle.fan_script.specs.declared.line.Line.TheVariants.{One}
use Rattle.fan_script.specs.declared.step.Step.TheVariants as steps
use Rattle.fan_script.specs.Lines.{IsNumber}
use Rattle.fan_script.specs.Reading.{limit_at, init_at, mark_at, read_at, write_at, close_at}
use Rattle.fan_script.proofs.FieldLemmas.{path_takes, path_again, number_takes, number_again, split_number_takes, split_number_again, flags_takes, flags_again, split_flags_takes, split_flags_again, split_mask_takes, split_mask_again}
use Rattle.fan_script.proofs.WordLemmas.{Spells}

-- the fields that are read as `limit` are spelled so
pub limit_takes : (fields : List ℕ) (line : Line) → limit_at fields ≡ Some line
    → Spells (codes "limit") fields line
unfolding limit_at
limit_takes fields line e =
    option_and_then_some _ _ _ e (λ entries n same.
    let number = number_takes 1 16384 fields entries n in
    rw (← same_Some _ _ same, number.spelled) (refl, (number.low, number.high)))

-- fields of `limit` are read again
pub limit_again : (entries : ℕ) → 1 ≤ entries → entries ≤ 16384
    → limit_at (decimal entries) ≡ Some (One (steps.Limit entries))
unfolding limit_at
limit_again entries low high = rw (number_again 1 16384 entries low high (omega arith)) refl

-- the fields that are read as `init` are spelled so
pub init_takes : (fields : List ℕ) (line : Line) → init_at fields ≡ Some line
    → Spells (codes "init") fields line
unfolding init_at
init_takes fields line e =
    option_and_then_some _ _ _ e (λ flags f same.
    let word = flags_takes fields flags f in
    rw (← same_Some _ _ same, word.0) (refl, word.1))

-- fields of `init` are read again
pub init_again : (flags : ℕ) → flags < 2 ^ 32 → init_at (hex flags) ≡ Some (One (steps.Init flags))
unfolding init_at
init_again flags f = rw (flags_again flags f) refl

-- the fields that are read as `mark` are spelled so
pub mark_takes : (fields : List ℕ) (line : Line) → mark_at fields ≡ Some line
    → Spells (codes "mark") fields line
unfolding mark_at
mark_takes fields line e =
    option_and_then_some _ _ _ e (λ (group : ℕ × List ℕ) g e.
    option_and_then_some _ _ _ e (λ (flags : ℕ × List ℕ) f e.
    option_and_then_some _ _ _ e (λ (mask : ℕ × List ℕ) m e.
    option_and_then_some _ _ _ e (λ path p same.
    let number = split_number_takes 1 4294967295 fields group.0 group.1 g in
    let first = split_flags_takes group.1 flags.0 flags.1 f in
    let second = split_mask_takes flags.1 mask.0 mask.1 m in
    let word = path_takes mask.1 path p in
    rw (← same_Some _ _ same, number.spelled, first.0, second.0, word.0)
    (refl, ((number.low, number.high), first.1, second.1, word.1))))))

-- fields of `mark` are read again
pub mark_again : (group flags mask : ℕ) (path : List ℕ) → IsNumber group → flags < 2 ^ 32 → mask < 2 ^ 64
    → IsPath path → mark_at (decimal group ++ 32 ∷ (hex flags ++ 32 ∷ (hex mask ++ 32 ∷ path)))
    ≡ Some (One (steps.Mark group flags mask path))
unfolding mark_at
mark_again group flags mask path g f m p =
    let last = hex mask ++ 32 ∷ path in
    rw (
      split_number_again 1 4294967295 group (hex flags ++ 32 ∷ last) g.0 g.1 (omega arith),
      split_flags_again flags last f,
      split_mask_again mask path m,
      path_again path p,
    ) refl

-- the fields that are read as `read` are spelled so
pub read_takes : (fields : List ℕ) (line : Line) → read_at fields ≡ Some line
    → Spells (codes "read") fields line
unfolding read_at
read_takes fields line e =
    option_and_then_some _ _ _ e (λ (group : ℕ × List ℕ) g e.
    option_and_then_some _ _ _ e (λ size s same.
    let number = split_number_takes 1 4294967295 fields group.0 group.1 g in
    let room = number_takes 0 1048576 group.1 size s in
    rw (← same_Some _ _ same, number.spelled, room.spelled) (refl, ((number.low, number.high), room.high))))

-- fields of `read` are read again
pub read_again : (group size : ℕ) → IsNumber group → size ≤ 1048576
    → read_at (decimal group ++ 32 ∷ decimal size) ≡ Some (One (steps.Read group size))
unfolding read_at
read_again group size g s =
    rw (
      split_number_again 1 4294967295 group (decimal size) g.0 g.1 (omega arith),
      number_again 0 1048576 size (omega arith) s (omega arith),
    ) refl

-- the fields that are read as `write` are spelled so
pub write_takes : (fields : List ℕ) (line : Line) → write_at fields ≡ Some line
    → Spells (codes "write") fields line
unfolding write_at
write_takes fields line e =
    option_and_then_some _ _ _ e (λ (group : ℕ × List ℕ) g e.
    option_and_then_some _ _ _ e (λ bytes b same.
    let number = split_number_takes 1 4294967295 fields group.0 group.1 g in
    let word = bytes_takes group.1 bytes b in
    rw (← same_Some _ _ same, number.spelled, word.0) (refl, ((number.low, number.high), word.1))))

-- fields of `write` are read again
pub write_again : (group : ℕ) (bytes : List ℕ) → IsNumber group → IsResponse bytes
    → write_at (decimal group ++ 32 ∷ hex_text bytes) ≡ Some (One (steps.Write group bytes))
unfolding write_at
write_again group bytes g b =
    rw (split_number_again 1 4294967295 group (hex_text bytes) g.0 g.1 (omega arith), bytes_again bytes b)
    refl

-- the fields that are read as `close` are spelled so
pub close_takes : (fields : List ℕ) (line : Line) → close_at fields ≡ Some line
    → Spells (codes "close") fields line
unfolding close_at
close_takes fields line e =
    option_and_then_some _ _ _ e (λ group g same.
    let number = number_takes 1 4294967295 fields group g in
    rw (← same_Some _ _ same, number.spelled) (refl, (number.low, number.high)))

-- fields of `close` are read again
pub close_again : (group : ℕ) → IsNumber group → close_at (decimal group) ≡ Some (One (steps.Close group))
unfolding close_at
close_again group g = rw (number_again 1 4294967295 group g.0 g.1 (omega arith)) refl
