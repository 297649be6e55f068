use Rattle.std.proofs.Common.{◌∙◌, ap, drop, option_map, slice_get, sym}
use Rattle.std.specs.BTreeMap.{is_at}
use Rattle.std.specs.Map.{values_of}
use Rattle.std.specs.Ordering.{nat_cmp}
use Rattle.fan_slots.specs.SlotsState.{SlotsState}
use Rattle.fan_listener.specs.declared.answers.Pending.{Pending}
use Rattle.fan_listener.proofs.AskedLemmas.{events_in, find_under, first_found, first_under, own_in, own_rest, rest_under}
use Rattle.fan_listener.proofs.asked.AskedEvents.take_first.Goals as goal

pub invariant_of-self-2 : goal.invariant_of-self-2
invariant_of-self-2 c =
    let now = c.deref_mut.result.now in
    let own = own_in c.self.inside.by_fd c.in_ok-by_fd.by_fd.now now (sym c.in_ok-by_fd.ensures.value)
    c.deref_mut.ensures.value c.self.invariant in
    rw c.remove.ensures.entries (own_rest (is_at (nat_cmp c.in_ok-fd.fd)) now.entries own)

pub returns-clause-value : goal.returns-clause-value
returns-clause-value c =
    let now = c.deref_mut.result.now in
    let is = sym c.in_ok-by_fd.ensures.value in
    let own = own_in c.self.inside.by_fd c.in_ok-by_fd.by_fd.now now is c.deref_mut.ensures.value c.self.invariant in
    let least = c.in_ok-fd.ensures.least
    ∙ ap (λ (state : SlotsState Pending). option_map (λ entry. entry.0) (slice_get state.entries 0))
    (c.deref.ensures ∙ sym c.deref_mut.ensures.value) ∙ sym (first_under now.entries own) in
    c.remove.ensures.value ∙ find_under c.in_ok-fd.fd now.entries own
    ∙ (first_found c.in_ok-fd.fd (values_of now.entries) least).0
    ∙ ap (λ events. slice_get events 0) (events_in c.self.inside.by_fd c.in_ok-by_fd.by_fd.now now is
    c.deref_mut.ensures.value c.args.self.now c.self.view_is)

pub returns-clause-rest : goal.returns-clause-rest
returns-clause-rest c =
    let now = c.deref_mut.result.now in
    let is = sym c.in_ok-by_fd.ensures.value in
    let own = own_in c.self.inside.by_fd c.in_ok-by_fd.by_fd.now now is c.deref_mut.ensures.value c.self.invariant in
    let least = c.in_ok-fd.ensures.least
    ∙ ap (λ (state : SlotsState Pending). option_map (λ entry. entry.0) (slice_get state.entries 0))
    (c.deref.ensures ∙ sym c.deref_mut.ensures.value) ∙ sym (first_under now.entries own) in
    rw c.remove.ensures.entries
    (rest_under c.in_ok-fd.fd now.entries own
    ∙ (first_found c.in_ok-fd.fd (values_of now.entries) least).1
    ∙ ap (λ events. drop 1 events) (events_in c.self.inside.by_fd c.in_ok-by_fd.by_fd.now now is
    c.deref_mut.ensures.value c.args.self.now c.self.view_is))
