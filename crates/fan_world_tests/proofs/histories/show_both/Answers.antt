use Rattle.std.proofs.Common.{[], ◌∷◌, sym, subst}
use Rattle.fan_grace.specs.Tables.{IsInside}
use Rattle.fan_world_tests.proofs.histories.show_both.Goals as goal

pub leave-requires : goal.leave-requires
leave-requires g c =
    record {
      there = (
        [],
        [],
        subst (λ both. IsInside both.table (c.enter-section.result ∷ [])) (sym c.show_section.ensures.same)
            (c.enter-section.ensures.inside [] c.requires.nobody),
      );
    }
