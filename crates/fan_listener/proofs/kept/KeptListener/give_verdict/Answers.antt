use Rattle.std.proofs.Common.{◌≡◌, ◌∙◌, ap, filter, option_map, refl, sym}
use Rattle.fan_lists.specs.First.{without_first}
use Rattle.fan_listener.specs.Responses.{entry_of, is_under, with_verdict}
use Rattle.fan_listener.specs.Stored.{answers_in, is_read}
use Rattle.fan_listener.proofs.ResponseLemmas.{taken_given, waiting_found, without_read}
use Rattle.fan_listener.proofs.RoomLemmas.{answers_in-set}
use Rattle.fan_listener.proofs.StoredLemmas.{room_of, stored-answered}
use Rattle.fan_listener.proofs.kept.KeptListener.give_verdict.Goals as goal

pub returns-in_err-pending-clause-entry : goal.returns-in_err-pending-clause-entry
returns-in_err-pending-clause-entry c =
    let l = c.self.inside in
    rw (c.from_residual.ensures, ← c.self.view_is)
    (ap (option_map entry_of) (sym c.in_err-pending.was)
    ∙ waiting_found c.args.fd l.next_fd l.asked.events c.take_waiting.result c.self.invariant.small
    c.take_waiting.ensures.found)

pub returns-clause-entry : goal.returns-clause-entry
returns-clause-entry c =
    let l = c.self.inside in
    rw (← c.self.view_is)
    (ap (option_map entry_of) (sym c.in_ok-pending.was)
    ∙ waiting_found c.args.fd l.next_fd l.asked.events c.take_waiting.result c.self.invariant.small
    c.take_waiting.ensures.found)

pub invariant_of-self-2 : goal.invariant_of-self-2
invariant_of-self-2 c =
    let pending = c.in_ok-pending.pending in
    let done = c.in_ok-pending.ensures in
    let found = taken_given c.args.fd c.self.inside.next_fd c.self.inside.asked.events pending done.found in
    rw (done.taken, c.replace.ensures.entries)
    (stored-answered c.self.invariant c.args.fd pending c.args.verdict found.0 found.1)

pub returns-clause-given : goal.returns-clause-given
returns-clause-given c =
    let l = c.self.inside in
    let fd = c.args.fd in
    let pending = c.in_ok-pending.pending in
    let done = c.in_ok-pending.ensures in
    let found = taken_given fd l.next_fd l.asked.events pending done.found in
    let left : filter (is_read l.next_fd) c.take_waiting.new.asked.events
    ≡ without_first (is_under fd) (filter (is_read l.next_fd) l.asked.events) =
    ap (filter (is_read l.next_fd)) done.taken ∙ without_read fd l.next_fd l.asked.events found.0 in
    let answers : answers_in c.replace.new.self.entries
    ≡ with_verdict pending.entry c.args.verdict (answers_in l.rooms.entries) =
    ap answers_in c.replace.ensures.entries
    ∙ answers_in-set pending.entry c.args.verdict l.rooms.entries c.self.invariant.sorted
    (room_of c.self.invariant fd pending found.1) in
    rw (← c.self.view_is, left, answers) refl
