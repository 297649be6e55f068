use Rattle.std.proofs.Common.{◌≡◌, ◌∙◌, None, ap}
use Rattle.fan_listener.specs.Responses.{verdict_on}
use Rattle.fan_listener.specs.Stored.{answers_in}
use Rattle.fan_listener.proofs.ListLemmas.{first_and_rest}
use Rattle.fan_listener.proofs.RoomLemmas.{answers_in-remove, remove_absent, sorted-remove, unused-remove}
use Rattle.fan_listener.proofs.rooms.forget_all.Goals as goal

pub loop-pending-preserved : goal.loop-pending-preserved
loop-pending-preserved c =
    let old = c.loop-pending.invariant in
    let rooms = c.loop-pending.rooms.entries in
    let entry = c.in-Some.pending.entry in
    let each =
    first_and_rest (λ p. verdict_on p.entry (answers_in c.args.rooms.now.entries) ≡ None)
    c.in-Some.pending c.loop-pending.asked.events c.take_first.new.self.events
    c.in-Some.ensures.value c.in-Some.ensures.rest old.waiting in
    record {
      verdicts = ap answers_in c.forget.ensures ∙ answers_in-remove entry rooms old.sorted
          ∙ remove_absent entry (answers_in rooms) (ap (verdict_on entry) old.verdicts ∙ each.0)
          ∙ old.verdicts;
      unused = λ other none.
          rw c.forget.ensures (unused-remove entry other rooms old.sorted (old.unused other none));
      sorted = rw c.forget.ensures (sorted-remove entry rooms old.sorted);
      waiting = each.1;
    }
