use Rattle.std.proofs.Common.{◌<◌, ◌/◌, ◌*◌, length, arith}
use Rattle.std.proofs.lemmas.List.Elements.{All-push}
use Rattle.fan_grace.proofs.Numbers.{once_last, room_for}
use Rattle.fan_grace.proofs.Words.{within}
use Rattle.fan_grace.proofs.stored.StoredRowsNewRows.retire.Goals as goal

pub push_reserved-requires : goal.push_reserved-requires
push_reserved-requires c =
    let stored = c.self.invariant.0 in
    let asks = rw (← c.self.view_is) at c.requires in
    let words = c.self.inside.words.items in
    let count = length words / 4 in
    let below : 4 * c.args.row < length words = within words (4 * c.args.row) asks.there in
    let few = room_for count c.args.row c.self.inside.retired.items stored.each stored.once asks.once
    (omega (arith, stored.whole)) in
    omega (arith, few, c.self.invariant.1)

pub invariant_of-self : goal.invariant_of-self
invariant_of-self c =
    let stored = c.self.invariant.0 in
    let asks = rw (← c.self.view_is) at c.requires in
    let words = c.self.inside.words.items in
    let count = length words / 4 in
    let below : 4 * c.args.row < length words = within words (4 * c.args.row) asks.there in
    rw (c.push_reserved.ensures.items, c.push_reserved.ensures.capacity) (
      record {
        whole = stored.whole;
        above = stored.above;
        within = stored.within;
        each = All-push (λ row. row < count) c.self.inside.retired.items c.args.row stored.each
            (omega (arith, stored.whole));
        once = once_last c.args.row c.self.inside.retired.items stored.once asks.once;
      },
      c.self.invariant.1,
    )
