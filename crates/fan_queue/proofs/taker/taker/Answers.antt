use Rattle.std.proofs.Common.{◌∙◌, ap}
use Rattle.fan_queue.specs.Cells.{tag_of}
use Rattle.fan_queue.specs.TableState.{TableState}
use Rattle.fan_queue.proofs.TakerLemmas.{cells_alone, cells_first, no_group}
use Rattle.fan_queue.proofs.taker.taker.Goals as goal

pub returns-in_default : goal.returns-in_default
returns-in_default c =
    no_group c.args.entries.now.items c.args.event.now c.args.front c.tag_of-tag.result c.args.table.now
    c.table.inside.spilled.entries c.requires.queued.numbered c.requires.known
    (ap (λ (table : TableState). table.spilled) c.table.view_is)
    (c.tag_of-tag.ensures ∙ ap tag_of c.requires.hash)
    c.in_default.ensures c.taker_spilled.result c.taker_spilled.ensures.some c.taker_spilled.ensures.none

pub returns-then-group-front : goal.returns-then-group-front
returns-then-group-front c =
    cells_alone c.args.entries.now.items c.args.event.now c.args.front c.tag_of-tag.result c.args.table.now
    c.table.inside.spilled.entries c.requires.queued.numbered c.requires.known
    (ap (λ (table : TableState). table.spilled) c.table.view_is)
    (c.tag_of-tag.ensures ∙ ap tag_of c.requires.hash)
    c.in-Some.group.now c.in-Some.ensures c.in_default-taker_in_cells.ensures.none c.if-group-front.true

pub returns : goal.returns
returns c =
    cells_first c.args.entries.now.items c.args.event.now c.args.front c.tag_of-tag.result c.args.table.now
    c.table.inside.spilled.entries c.requires.queued.numbered c.requires.known
    (ap (λ (table : TableState). table.spilled) c.table.view_is)
    (c.tag_of-tag.ensures ∙ ap tag_of c.requires.hash)
    c.in-Some.group.now c.in-Some.ensures c.in_default-taker_in_cells.ensures.none
    c.taker_spilled-2.result c.taker_spilled-2.ensures.some c.taker_spilled-2.ensures.none
