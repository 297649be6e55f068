use Rattle.std.proofs.Common.{◌∙◌, ap, sym}
use Rattle.std.specs.Option.{option_copied, option_flatten}
use Rattle.fan_listener.proofs.RoomLemmas.{answers_in-remove, sorted-remove, verdict_on-answers_in, without_none}
use Rattle.fan_listener.proofs.rooms.take_verdict.Goals as goal

pub returns-in_err-get-clause-verdict : goal.returns-in_err-get-clause-verdict
returns-in_err-get-clause-verdict c =
    let rooms = c.args.rooms.now.entries in
    let room = sym c.get.ensures.value ∙ ap option_copied c.in_err-get.was in
    c.from_residual.ensures
    ∙ sym (verdict_on-answers_in c.args.entry rooms c.get.ensures.sorted ∙ ap option_flatten room)

pub returns-in_err-get-clause-taken : goal.returns-in_err-get-clause-taken
returns-in_err-get-clause-taken c =
    let rooms = c.args.rooms.now.entries in
    let room = sym c.get.ensures.value ∙ ap option_copied c.in_err-get.was in
    sym (without_none c.args.entry rooms c.get.ensures.sorted (ap option_flatten room))

pub returns-in_err-verdict-clause-verdict : goal.returns-in_err-verdict-clause-verdict
returns-in_err-verdict-clause-verdict c =
    let rooms = c.args.rooms.now.entries in
    let room = sym c.get.ensures.value ∙ ap option_copied c.in_ok-get.was in
    c.from_residual-in_err-verdict.ensures
    ∙ sym (verdict_on-answers_in c.args.entry rooms c.get.ensures.sorted
    ∙ ap option_flatten room ∙ c.in_err-verdict.was)

pub returns-in_err-verdict-clause-taken : goal.returns-in_err-verdict-clause-taken
returns-in_err-verdict-clause-taken c =
    let rooms = c.args.rooms.now.entries in
    let room = sym c.get.ensures.value ∙ ap option_copied c.in_ok-get.was in
    sym (without_none c.args.entry rooms c.get.ensures.sorted
    (ap option_flatten room ∙ c.in_err-verdict.was))

pub returns-clause-verdict : goal.returns-clause-verdict
returns-clause-verdict c =
    let rooms = c.args.rooms.now.entries in
    let room = sym c.get.ensures.value ∙ ap option_copied c.in_ok-get.was in
    sym (verdict_on-answers_in c.args.entry rooms c.get.ensures.sorted
    ∙ ap option_flatten room ∙ c.in_ok-verdict.was)

pub returns-clause-taken : goal.returns-clause-taken
returns-clause-taken c =
    rw c.remove.ensures.entries (answers_in-remove c.args.entry c.args.rooms.now.entries c.get.ensures.sorted)

pub returns-clause-sorted : goal.returns-clause-sorted
returns-clause-sorted c =
    rw c.remove.ensures.entries (sorted-remove c.args.entry c.args.rooms.now.entries c.get.ensures.sorted)
