use Rattle.std.proofs.Common.{◌≡◌, ◌∙◌, ◌*◌, ◌<◌, ℕ, Option, Some, ap, sym, subst, arith, rules}
use Rattle.fan_rows.specs.Trees.{IsChain, first_row}
use Rattle.fan_rows.proofs.Walks.{room}
use Rattle.fan_build.specs.Edits.{kept, stays}
use Rattle.fan_build.proofs.Chains.{falls, first_of}
use Rattle.fan_build.proofs.ChainEffects.{RestIs, rest_at, rest_on, rest_small, step_is}
use Rattle.fan_build.proofs.needed.+needed_chain.Goals as goal
use Rattle.fan_build.proofs.needed.+needed_chain.Goals.{then-is_at, else-is_at}

pub needed_chain-rest-requires : goal.needed_chain-rest-requires
needed_chain-rest-requires g t c κs within =
    let words = g.C.Cells.words c.args.cells.now in
    let same = c.word-next.ensures.words ∙ c.mark_at-mark.ensures.words in
    let word = ap (λ (w : ℕ → Option ℕ). w (4 * c.args.row)) (sym c.mark_at-mark.ensures.words)
    ∙ c.word-next.ensures.found in
    let first = first_of words c.args.row c.requires.0 c.requires.1 c.requires.2 c.if-row-eq0.false in
    let next : Some (first_row first.rest) ≡ Some c.word-next.result = sym first.at.at.word_0 ∙ word in
    let fall = falls words c.args.row c.requires.0 c.requires.1 c.requires.2 c.if-row-eq0.false
    c.word-next.result word in
    let fall_here : room (g.C.Cells.words c.word-next.new.self) c.word-next.result < room words c.args.row =
    rw same fall in
    (omega (arith, fall_here, c.decreases), (search rules, (first.rest, rw same first.chain, cc)))

pub replaced-requires-clause-taken : goal.replaced-requires-clause-taken
replaced-requires-clause-taken g t c =
    let words = g.C.Cells.words c.args.cells.now in
    let same = c.word-next.ensures.words ∙ c.mark_at-mark.ensures.words in
    let word = ap (λ (w : ℕ → Option ℕ). w (4 * c.args.row)) (sym c.mark_at-mark.ensures.words)
    ∙ c.word-next.ensures.found in
    let rest : RestIs words c.word-next.result c.args.change.now c.mark_at-mark.result c.if-is_at.rest =
    elim c.if-is_at.branch [
      | then-is_at w ↦ rw w.rest-is (rest_at words c.word-next.result c.args.change.now c.mark_at-mark.result
          w.none-rest.result (sym c.is_at.ensures ∙ w.if-is_at.true) w.none-rest.ensures)
      | else-is_at w ↦ rw w.rest-is (rest_on words c.word-next.result c.args.change.now c.mark_at-mark.result
          w.needed_chain-rest.result (sym c.is_at.ensures ∙ w.if-is_at.false)
          (λ all lies first. w.needed_chain-rest.ensures.effect all (subst (λ ws. IsChain ws all) (sym same) lies) first))
    ] in
    let small = rest_small words c.args.row c.word-next.result c.args.change.now c.mark_at-mark.result c.if-is_at.rest rest
    c.requires.0 c.requires.1 c.requires.2 c.if-row-eq0.false word in
    omega (arith, small.taken)

pub replaced-requires-clause-marks : goal.replaced-requires-clause-marks
replaced-requires-clause-marks g t c =
    let words = g.C.Cells.words c.args.cells.now in
    let same = c.word-next.ensures.words ∙ c.mark_at-mark.ensures.words in
    let word = ap (λ (w : ℕ → Option ℕ). w (4 * c.args.row)) (sym c.mark_at-mark.ensures.words)
    ∙ c.word-next.ensures.found in
    let rest : RestIs words c.word-next.result c.args.change.now c.mark_at-mark.result c.if-is_at.rest =
    elim c.if-is_at.branch [
      | then-is_at w ↦ rw w.rest-is (rest_at words c.word-next.result c.args.change.now c.mark_at-mark.result
          w.none-rest.result (sym c.is_at.ensures ∙ w.if-is_at.true) w.none-rest.ensures)
      | else-is_at w ↦ rw w.rest-is (rest_on words c.word-next.result c.args.change.now c.mark_at-mark.result
          w.needed_chain-rest.result (sym c.is_at.ensures ∙ w.if-is_at.false)
          (λ all lies first. w.needed_chain-rest.ensures.effect all (subst (λ ws. IsChain ws all) (sym same) lies) first))
    ] in
    let small = rest_small words c.args.row c.word-next.result c.args.change.now c.mark_at-mark.result c.if-is_at.rest rest
    c.requires.0 c.requires.1 c.requires.2 c.if-row-eq0.false word in
    omega (arith, small.retired)

pub returns-clause-effect : goal.returns-clause-effect
returns-clause-effect g t c = λ links chain is.
    let words = g.C.Cells.words c.args.cells.now in
    let same = c.word-next.ensures.words ∙ c.mark_at-mark.ensures.words in
    let word = ap (λ (w : ℕ → Option ℕ). w (4 * c.args.row)) (sym c.mark_at-mark.ensures.words)
    ∙ c.word-next.ensures.found in
    let rest : RestIs words c.word-next.result c.args.change.now c.mark_at-mark.result c.if-is_at.rest =
    elim c.if-is_at.branch [
      | then-is_at w ↦ rw w.rest-is (rest_at words c.word-next.result c.args.change.now c.mark_at-mark.result
          w.none-rest.result (sym c.is_at.ensures ∙ w.if-is_at.true) w.none-rest.ensures)
      | else-is_at w ↦ rw w.rest-is (rest_on words c.word-next.result c.args.change.now c.mark_at-mark.result
          w.needed_chain-rest.result (sym c.is_at.ensures ∙ w.if-is_at.false)
          (λ all lies first. w.needed_chain-rest.ensures.effect all (subst (λ ws. IsChain ws all) (sym same) lies) first))
    ] in
    let left = c.kept-left.ensures in
    let stay : c.stays.result ≡ stays (kept c.args.change.now c.mark_at-mark.result) c.mark_at-mark.result =
    c.stays.ensures ∙ ap (λ l. stays l c.mark_at-mark.result) left in
    c.replaced.ensures ∙ rw (left, stay) (step_is words c.args.row c.word-next.result c.args.change.now
    c.mark_at-mark.result c.if-is_at.rest rest links chain is c.if-row-eq0.false word c.mark_at-mark.ensures.found
    (sym c.is_past.ensures ∙ c.if-is_past.false))
