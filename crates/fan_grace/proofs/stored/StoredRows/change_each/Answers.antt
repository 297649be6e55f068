use Rattle.std.proofs.Common.{◌≡◌, ◌∙◌, Result, Ok, Err, sym, subst}
use Rattle.std.specs.Prelude.{OnErr}
use Rattle.fan_grace.specs.Stored.{IsStored}
use Rattle.fan_grace.proofs.InTurn.{cut_is}
use Rattle.fan_grace.proofs.stored.StoredRows.change_each.Goals as goal

pub cut_back-requires-clause-stored : goal.cut_back-requires-clause-stored
cut_back-requires-clause-stored c =
    let (marks, tree, can) = c.requires in
    let extent = c.extent-extent.ensures in
    rw (extent.rows, extent.retired) (subst IsStored
    (sym (cut_is c.args.self.now c.change_in_turn-made.new.self can.can.kept.full c.change_in_turn-made.ensures.grown))
    extent.stored)

-- what holds anyway holds in the case of an error
always : {A E P : Type 0} (result : Result A E) → P → OnErr result P
always (Ok value) holds = tt
always (Err why) holds = holds

pub returns-then-is_err-clause-err : goal.returns-then-is_err-clause-err
returns-then-is_err-clause-err c =
    let (marks, tree, can) = c.requires in
    let extent = c.extent-extent.ensures in
    let back : c.cut_back.new.self ≡ c.args.self.now =
    c.cut_back.ensures
    ∙ rw (extent.rows, extent.retired) (cut_is c.args.self.now c.change_in_turn-made.new.self can.can.kept.full
    c.change_in_turn-made.ensures.grown) in
    always c.change_in_turn-made.result back
