use Rattle.std.proofs.Common.{sym}
use Rattle.std.proofs.lemmas.Result.{on_ok_weaker}
use Rattle.fan_tree.proofs.TableLemmas.{noted}
use Rattle.fan_tree.proofs.table.Table.note_entry.Goals as goal

pub returns-in-Some : goal.returns-in-Some
returns-in-Some c = record {
  ok = on_ok_weaker c.note.result
      (noted c.args.entries.now c.args.self.now c.note.new.self c.args.number c.in-Some.entry.now c.requires.unique
      (sym c.in-Some.ensures) c.requires.known c.note.ensures.kept)
      c.note.ensures.known;
}
