use Rattle.std.proofs.Common.{◌∙◌, ap, sym}
use Rattle.std.specs.BTreeMap.{is_at}
use Rattle.std.specs.Ordering.{nat_cmp}
use Rattle.std.specs.Prelude.{find}
use Rattle.fan_lists.specs.First.{without_first}
use Rattle.fan_listener.specs.Responses.{is_under}
use Rattle.fan_listener.proofs.AskedLemmas.{events_in, find_under, own_in, own_rest, rest_under}
use Rattle.fan_listener.proofs.asked.AskedEvents.remove.Goals as goal

pub invariant_of-self-2 : goal.invariant_of-self-2
invariant_of-self-2 c =
    let now = c.deref_mut.result.now in
    let own = own_in c.self.inside.by_fd c.in_ok-as_mut.field-0.now now (sym c.in_ok-as_mut.ensures.value)
    c.deref_mut.ensures.value c.self.invariant in
    rw c.remove.ensures.entries (own_rest (is_at (nat_cmp c.args.fd)) now.entries own)

pub returns-clause-value : goal.returns-clause-value
returns-clause-value c =
    let now = c.deref_mut.result.now in
    let is = sym c.in_ok-as_mut.ensures.value in
    let own = own_in c.self.inside.by_fd c.in_ok-as_mut.field-0.now now is c.deref_mut.ensures.value c.self.invariant in
    c.remove.ensures.value ∙ find_under c.args.fd now.entries own
    ∙ ap (find (is_under c.args.fd)) (events_in c.self.inside.by_fd c.in_ok-as_mut.field-0.now now is
    c.deref_mut.ensures.value c.args.self.now c.self.view_is)

pub returns-clause-rest : goal.returns-clause-rest
returns-clause-rest c =
    let now = c.deref_mut.result.now in
    let is = sym c.in_ok-as_mut.ensures.value in
    let own = own_in c.self.inside.by_fd c.in_ok-as_mut.field-0.now now is c.deref_mut.ensures.value c.self.invariant in
    rw c.remove.ensures.entries
    (rest_under c.args.fd now.entries own
    ∙ ap (without_first (is_under c.args.fd)) (events_in c.self.inside.by_fd c.in_ok-as_mut.field-0.now now is
    c.deref_mut.ensures.value c.args.self.now c.self.view_is))
