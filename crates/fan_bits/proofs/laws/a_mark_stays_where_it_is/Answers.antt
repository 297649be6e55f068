use Rattle.std.proofs.Common.{◌≡◌, Some}
use Rattle.std.specs.Prelude.{IfSome}
use Rattle.std.proofs.lemmas.Option.{IfSome_then}
use Rattle.fan_bits.specs.declared.change.Change.{Change}
use Rattle.fan_bits.specs.declared.mark.Mark.{Mark}
use Rattle.fan_bits.specs.Marks.{updated}
use Rattle.fan_bits.proofs.Updates.{Keeps, updated_keeps}
use Rattle.fan_bits.proofs.laws.a_mark_stays_where_it_is.Goals as goal

part : (P : Mark → Mark → Type 0) → ((old new : Mark) → Keeps old new → P old new) → (old : Mark)
    (change : Change) → IfSome (updated (Some old) change) (P old)
part P of old change = IfSome_then (updated (Some old) change) (updated_keeps old change) (of old)

pub returns : goal.returns
returns c = record {
  group = part (λ old new. new.group ≡ old.group) (λ old new keeps. keeps.group);
  class = part (λ old new. new.class ≡ old.class) (λ old new keeps. keeps.class);
  object = part (λ old new. new.object ≡ old.object) (λ old new keeps. keeps.object);
  kind = part (λ old new. new.kind ≡ old.kind) (λ old new keeps. keeps.kind);
}
