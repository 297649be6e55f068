use Rattle.std.proofs.Common.{◌<◌, ◌∙◌, [], ◌∷◌, ◌++◌, List, ap, subst, sym}
use Rattle.std.specs.Prelude.{All}
use Rattle.fan_listener.specs.declared.answers.Pending.{Pending}
use Rattle.fan_listener.proofs.AskedLemmas.{events_in, new_fd, own_in, pushed}
use Rattle.fan_listener.proofs.asked.AskedEvents.push_reserved.Goals as goal

pub insert_reserved-requires-clause-absent : goal.insert_reserved-requires-clause-absent
insert_reserved-requires-clause-absent c =
    let now = c.deref_mut.result.now in
    let events = events_in c.self.inside.by_fd c.in-Some.by_fd now c.in-Some.is c.deref_mut.ensures.value
    c.args.self.now c.self.view_is in
    let own = own_in c.self.inside.by_fd c.in-Some.by_fd now c.in-Some.is c.deref_mut.ensures.value c.self.invariant in
    new_fd c.args.asked now.entries own
    (subst (λ (events : List Pending). All (λ other. other.fd < c.args.asked.fd) events) (sym events) c.requires.last)

pub invariant_of-self : goal.invariant_of-self
invariant_of-self c =
    let now = c.deref_mut.result.now in
    let events = events_in c.self.inside.by_fd c.in-Some.by_fd now c.in-Some.is c.deref_mut.ensures.value
    c.args.self.now c.self.view_is in
    let own = own_in c.self.inside.by_fd c.in-Some.by_fd now c.in-Some.is c.deref_mut.ensures.value c.self.invariant in
    rw c.insert_reserved.ensures.entries
    (pushed c.args.asked now.entries own
    (subst (λ (events : List Pending). All (λ other. other.fd < c.args.asked.fd) events) (sym events)
    c.requires.last)).1

pub returns : goal.returns
returns c =
    let now = c.deref_mut.result.now in
    let events = events_in c.self.inside.by_fd c.in-Some.by_fd now c.in-Some.is c.deref_mut.ensures.value
    c.args.self.now c.self.view_is in
    let own = own_in c.self.inside.by_fd c.in-Some.by_fd now c.in-Some.is c.deref_mut.ensures.value c.self.invariant in
    rw c.insert_reserved.ensures.entries
    ((pushed c.args.asked now.entries own
    (subst (λ (events : List Pending). All (λ other. other.fd < c.args.asked.fd) events) (sym events)
    c.requires.last)).0
    ∙ ap (λ (events : List Pending). events ++ c.args.asked ∷ []) events)
