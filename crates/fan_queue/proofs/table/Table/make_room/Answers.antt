use Rattle.std.proofs.Common.{subst, sym}
use Rattle.fan_queue.specs.Table.{AreKnown}
use Rattle.fan_queue.specs.TableState.{TableState}
use Rattle.fan_queue.proofs.table.Table.make_room.Goals as goal

pub returns-in_ok-self-inside : goal.returns-in_ok-self-inside
returns-in_ok-self-inside c =
    subst (λ (table : TableState). AreKnown c.args.entries.now.items table) (sym c.drop.view_is)
    c.in_ok-self-inside.ensures
