use Rattle.std.proofs.Common.{◌∙◌, ◌*◌, ◌<◌, ℕ, Option, ap, sym, arith, rules}
use Rattle.fan_rows.proofs.Walks.{room}
use Rattle.fan_build.proofs.Chains.{falls}
use Rattle.fan_build.proofs.ChainSteps.{RestMade, rest_made_at, rest_made_on}
use Rattle.fan_build.proofs.ChainWalks.{all_made, before_next, can_replace, past_before, past_made, stands}
use Rattle.fan_build.proofs.chain.+publish_chain.Goals as goal
use Rattle.fan_build.proofs.chain.+publish_chain.Goals.{then-is_at, else-is_at}

pub add_mark-requires-then-is_past : goal.add_mark-requires-then-is_past
add_mark-requires-then-is_past g t c =
    let words = g.N.Cells.words c.args.rows.now in
    let rows = g.N.Cells.rows c.args.rows.now in (
      c.requires.0,
      rw (c.mark_at-mark.ensures.words, c.mark_at-mark.ensures.rows, c.updated-then-is_past.ensures)
          (past_before words rows c.args.row c.args.change.now c.mark_at-mark.result
          c.mark_at-mark.ensures.found c.if-row-eq0.false c.requires.0 c.requires.1
          (sym c.is_past.ensures ∙ c.if-is_past.true)),
    )

pub returns-then-is_past : goal.returns-then-is_past
returns-then-is_past g t c = λ links before.
    let words = g.N.Cells.words c.args.rows.now in
    let rows = g.N.Cells.rows c.args.rows.now in
    let past = sym c.is_past.ensures ∙ c.if-is_past.true in
    let can = past_before words rows c.args.row c.args.change.now c.mark_at-mark.result
    c.mark_at-mark.ensures.found c.if-row-eq0.false links before past in
    let made = rw (c.mark_at-mark.ensures.words, c.mark_at-mark.ensures.rows, c.updated-then-is_past.ensures)
    at (c.add_mark-then-is_past.ensures.made links) in
    past_made words rows c.args.row c.args.change.now c.mark_at-mark.result
    c.mark_at-mark.ensures.found c.if-row-eq0.false links before past
    (g.N.Cells.words c.add_mark-then-is_past.new.rows) (g.N.Cells.rows c.add_mark-then-is_past.new.rows)
    c.add_mark-then-is_past.result (made can)

pub publish_chain-rest-requires : goal.publish_chain-rest-requires
publish_chain-rest-requires g t c κs within =
    let words = g.N.Cells.words c.args.rows.now in
    let rows = g.N.Cells.rows c.args.rows.now in
    let same_words = c.word-next.ensures.words ∙ c.mark_at-mark.ensures.words in
    let same_rows = c.word-next.ensures.rows ∙ c.mark_at-mark.ensures.rows in
    let word = ap (λ (w : ℕ → Option ℕ). w (4 * c.args.row)) (sym c.mark_at-mark.ensures.words)
    ∙ c.word-next.ensures.found in
    let on = sym c.is_past.ensures ∙ c.if-is_past.false in
    let can = before_next words rows c.args.row c.args.change.now c.mark_at-mark.result
    c.mark_at-mark.ensures.found c.if-row-eq0.false c.requires.0 c.requires.1 on c.word-next.result word
    (sym c.is_at.ensures ∙ c.if-is_at.false) in
    let fall = falls words c.args.row c.requires.0 c.requires.1.chain c.requires.1.first c.if-row-eq0.false
    c.word-next.result word in
    let fall_here : room (g.N.Cells.words c.word-next.new.self) c.word-next.result < room words c.args.row =
    rw same_words fall in
    (omega (arith, fall_here, c.decreases), (search rules, (can.0, rw (same_words, same_rows) can.1)))

pub returns-then-stands_as_is : goal.returns-then-stands_as_is
returns-then-stands_as_is g t c = λ links before.
    let words = g.N.Cells.words c.args.rows.now in
    let rows = g.N.Cells.rows c.args.rows.now in
    let same_words = c.word-next.ensures.words ∙ c.mark_at-mark.ensures.words in
    let same_rows = c.word-next.ensures.rows ∙ c.mark_at-mark.ensures.rows in
    let word = ap (λ (w : ℕ → Option ℕ). w (4 * c.args.row)) (sym c.mark_at-mark.ensures.words)
    ∙ c.word-next.ensures.found in
    let on = sym c.is_past.ensures ∙ c.if-is_past.false in
    let rest : RestMade words (g.N.Cells.words c.if-is_at.rows) rows (g.N.Cells.rows c.if-is_at.rows)
    c.word-next.result c.args.change.now c.mark_at-mark.result c.if-is_at.rest =
    elim c.if-is_at.branch [
      | then-is_at w ↦ rw (w.rows-is, w.rest-is, same_words, same_rows) (rest_made_at words rows c.word-next.result
          c.args.change.now c.mark_at-mark.result w.same-rest.result
          (sym c.is_at.ensures ∙ w.if-is_at.true) w.same-rest.ensures)
      | else-is_at w ↦ rw (w.rows-is, w.rest-is) (rest_made_on words
          (g.N.Cells.words w.publish_chain-rest.new.rows) rows (g.N.Cells.rows w.publish_chain-rest.new.rows)
          c.word-next.result c.args.change.now c.mark_at-mark.result w.publish_chain-rest.result
          (sym c.is_at.ensures ∙ w.if-is_at.false)
          (rw (same_words, same_rows) at w.publish_chain-rest.ensures))
    ] in
    rw c.same.ensures (stands words rows c.args.row c.args.change.now c.mark_at-mark.result c.mark_at-mark.ensures.found
    c.if-row-eq0.false links before on c.word-next.result word (g.N.Cells.words c.if-is_at.rows)
    (g.N.Cells.rows c.if-is_at.rows) c.if-is_at.rest rest c.kept-left.result c.stays-same.result
    c.kept-left.ensures c.stays-same.ensures (sym c.stands_as_is.ensures ∙ c.if-stands_as_is.true))

pub replace_mark-requires : goal.replace_mark-requires
replace_mark-requires g t c =
    let words = g.N.Cells.words c.args.rows.now in
    let rows = g.N.Cells.rows c.args.rows.now in
    let same_words = c.word-next.ensures.words ∙ c.mark_at-mark.ensures.words in
    let same_rows = c.word-next.ensures.rows ∙ c.mark_at-mark.ensures.rows in
    let word = ap (λ (w : ℕ → Option ℕ). w (4 * c.args.row)) (sym c.mark_at-mark.ensures.words)
    ∙ c.word-next.ensures.found in
    let on = sym c.is_past.ensures ∙ c.if-is_past.false in
    let rest : RestMade words (g.N.Cells.words c.if-is_at.rows) rows (g.N.Cells.rows c.if-is_at.rows)
    c.word-next.result c.args.change.now c.mark_at-mark.result c.if-is_at.rest =
    elim c.if-is_at.branch [
      | then-is_at w ↦ rw (w.rows-is, w.rest-is, same_words, same_rows) (rest_made_at words rows c.word-next.result
          c.args.change.now c.mark_at-mark.result w.same-rest.result
          (sym c.is_at.ensures ∙ w.if-is_at.true) w.same-rest.ensures)
      | else-is_at w ↦ rw (w.rows-is, w.rest-is) (rest_made_on words
          (g.N.Cells.words w.publish_chain-rest.new.rows) rows (g.N.Cells.rows w.publish_chain-rest.new.rows)
          c.word-next.result c.args.change.now c.mark_at-mark.result w.publish_chain-rest.result
          (sym c.is_at.ensures ∙ w.if-is_at.false)
          (rw (same_words, same_rows) at w.publish_chain-rest.ensures))
    ] in
    can_replace words rows c.args.row c.args.change.now c.mark_at-mark.result c.mark_at-mark.ensures.found
    c.if-row-eq0.false c.requires.0 c.requires.1 on c.word-next.result word (g.N.Cells.words c.if-is_at.rows)
    (g.N.Cells.rows c.if-is_at.rows) c.if-is_at.rest rest c.kept-left.result c.stays-same.result
    c.kept-left.ensures c.stays-same.ensures (sym c.stands_as_is.ensures ∙ c.if-stands_as_is.false)

pub returns : goal.returns
returns g t c = λ links before.
    let words = g.N.Cells.words c.args.rows.now in
    let rows = g.N.Cells.rows c.args.rows.now in
    let same_words = c.word-next.ensures.words ∙ c.mark_at-mark.ensures.words in
    let same_rows = c.word-next.ensures.rows ∙ c.mark_at-mark.ensures.rows in
    let word = ap (λ (w : ℕ → Option ℕ). w (4 * c.args.row)) (sym c.mark_at-mark.ensures.words)
    ∙ c.word-next.ensures.found in
    let on = sym c.is_past.ensures ∙ c.if-is_past.false in
    let rest : RestMade words (g.N.Cells.words c.if-is_at.rows) rows (g.N.Cells.rows c.if-is_at.rows)
    c.word-next.result c.args.change.now c.mark_at-mark.result c.if-is_at.rest =
    elim c.if-is_at.branch [
      | then-is_at w ↦ rw (w.rows-is, w.rest-is, same_words, same_rows) (rest_made_at words rows c.word-next.result
          c.args.change.now c.mark_at-mark.result w.same-rest.result
          (sym c.is_at.ensures ∙ w.if-is_at.true) w.same-rest.ensures)
      | else-is_at w ↦ rw (w.rows-is, w.rest-is) (rest_made_on words
          (g.N.Cells.words w.publish_chain-rest.new.rows) rows (g.N.Cells.rows w.publish_chain-rest.new.rows)
          c.word-next.result c.args.change.now c.mark_at-mark.result w.publish_chain-rest.result
          (sym c.is_at.ensures ∙ w.if-is_at.false)
          (rw (same_words, same_rows) at w.publish_chain-rest.ensures))
    ] in
    all_made words rows c.args.row c.args.change.now c.mark_at-mark.result c.mark_at-mark.ensures.found
    c.if-row-eq0.false links before on c.word-next.result word (g.N.Cells.words c.if-is_at.rows)
    (g.N.Cells.rows c.if-is_at.rows) c.if-is_at.rest rest c.kept-left.result c.stays-same.result
    c.kept-left.ensures c.stays-same.ensures (sym c.stands_as_is.ensures ∙ c.if-stands_as_is.false)
    (g.N.Cells.words c.replace_mark.new.rows) (g.N.Cells.rows c.replace_mark.new.rows) c.replace_mark.result
    c.replace_mark.ensures
