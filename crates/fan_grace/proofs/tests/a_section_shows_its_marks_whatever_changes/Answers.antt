use Rattle.std.proofs.Common.{◌∙◌, [], ◌∷◌, sym, subst, arith}
use Rattle.fan_grace.specs.Tables.{IsInside, ShowsSome}
use Rattle.fan_grace.proofs.tests.a_section_shows_its_marks_whatever_changes.Goals as goal

pub shown-requires-2-clause-shown : goal.shown-requires-2-clause-shown
shown-requires-2-clause-shown g c =
    let at = c.in_ok-table.field-0 in
    subst (λ table. ShowsSome table at.after) (sym c.shown.ensures)
    (c.in_ok-table.ensures.each 0 at.after (omega arith))

pub shown-requires-3-clause-shown : goal.shown-requires-3-clause-shown
shown-requires-3-clause-shown g c =
    let at = c.in_ok-table.field-0 in
    subst (λ table. ShowsSome table at.after) (sym (c.shown-2.ensures ∙ c.shown.ensures))
    (c.in_ok-table.ensures.each 0 at.after (omega arith))

pub shown-requires-4-clause-shown : goal.shown-requires-4-clause-shown
shown-requires-4-clause-shown g c =
    let at = c.in_ok-table.field-0 in
    subst (λ table. ShowsSome table at.before)
    (sym (c.shown-3.ensures ∙ c.shown-2.ensures ∙ c.shown.ensures))
    (c.in_ok-table.ensures.each 1 at.before (omega arith))

pub leave-requires : goal.leave-requires
leave-requires g c =
    let at = c.in_ok-table.field-0 in
    record {
      there = (
        at.after ∷ [],
        [],
        subst (λ table. IsInside table (at.after ∷ at.before ∷ []))
            (sym (c.shown-4.ensures ∙ c.shown-3.ensures ∙ c.shown-2.ensures ∙ c.shown.ensures))
            c.in_ok-table.ensures,
      );
    }

pub leave-requires-2 : goal.leave-requires-2
leave-requires-2 g c =
    let at = c.in_ok-table.field-0 in
    let inside = subst (λ table. IsInside table (at.after ∷ at.before ∷ []))
    (sym (c.shown-4.ensures ∙ c.shown-3.ensures ∙ c.shown-2.ensures ∙ c.shown.ensures))
    c.in_ok-table.ensures in
    record { there = ([], [], c.leave.ensures.inside (at.after ∷ []) [] inside) }
