use Rattle.std.proofs.Common.{◌≡◌, ◌∙◌, ◌==◌, ◌++◌, ◌∷◌, [], Ok, not, drop, length, map, reverse, sym, ap, refl, rules, tests, ◌+◌}
use Rattle.std.proofs.lemmas.Iterator.Consumers.{YieldsList-at, YieldsList-from_filter}
use Rattle.std.proofs.lemmas.Iterator.Splits.{YieldsList-from_slice_split}
use Rattle.std.proofs.lemmas.List.{map-append}
use Rattle.std.proofs.lemmas.Result.{err_from_is_err_and}
use Rattle.fan_mounts.proofs.Walks.{place_holds, place_refused, reached_more}
use Rattle.fan_mounts.proofs.Walked.{walked_all, walked_front}
use Rattle.fan_mounts.specs.Reaches.{names_of, place_of, reached}
use Rattle.fan_mounts.proofs.mounts.Mounts.place.Goals as goal

pub returns-in_err-place-clause-place : goal.returns-in_err-place-clause-place
unfolding reached
returns-in_err-place-clause-place c =
    let p = err_from_is_err_and c.from_residual.result c.from_residual.ensures.1 in
    rw (p.1, p.2)
    (place_refused c.args.tree.now c.args.self.now c.args.path.now [] (names_of c.args.path.now)
    c.in_err-place.field-0.0 (sym c.start.ensures.root ∙ c.in_err-place.was) refl)

pub loop-name-init : goal.loop-name-init
unfolding reached
loop-name-init c = sym c.start.ensures.root ∙ c.in_ok-place.was

pub loop-name-preserved : goal.loop-name-preserved
loop-name-preserved c =
    rw map-append
    (reached_more c.args.tree.now c.args.self.now (map (λ name. name.now) c.loop-name.yielded)
    c.in-Some.name.now c.loop-name.place c.loop-name.invariant ∙ sym c.entered.ensures ∙ c.in_ok-place-2.was)

pub returns-in_err-place-2-clause-place : goal.returns-in_err-place-2-clause-place
returns-in_err-place-2-clause-place c =
    let front : (map (λ name. name.now) c.loop-name.yielded ++ c.in-Some.name.now ∷ [])
    ++ drop (length c.loop-name.yielded + 1) (names_of c.args.path.now) ≡ names_of c.args.path.now =
    walked_front (λ name. name.now) _ c.loop-name.yielded _ c.loop-name.yielded_by _ _ c.in-Some.name
    c.in-Some.is c.next.ensures.steps
    (YieldsList-at c.into_iter-name-iterator.ensures.into_iter_gives
    (YieldsList-from_filter _ (λ name. not (length name == 0))
    (YieldsList-at c.filter-name-items.ensures.source
    (YieldsList-from_slice_split _ (λ byte. byte == 47) c.args.path.now c.split.ensures.rest
    c.split.ensures.done c.split.ensures.closure (λ x b q k. search (rules, tests))))
    c.filter-name-items.ensures.closure (λ x r q k. search (rules, tests)))) in
    let residual = c.from_residual-in_err-place-2.ensures.1 in
    let p = err_from_is_err_and c.from_residual-in_err-place-2.result residual in
    rw (p.1, p.2)
    (place_refused c.args.tree.now c.args.self.now c.args.path.now
    (map (λ name. name.now) c.loop-name.yielded ++ c.in-Some.name.now ∷ [])
    (drop (length c.loop-name.yielded + 1) (names_of c.args.path.now)) c.in_err-place-2.field-0.0
    (reached_more c.args.tree.now c.args.self.now (map (λ name. name.now) c.loop-name.yielded)
    c.in-Some.name.now c.loop-name.place c.loop-name.invariant ∙ sym c.entered.ensures ∙ c.in_err-place-2.was)
    front)

pub returns : goal.returns
unfolding place_of
returns c =
    let all : map (λ name. name.now) c.loop-name.yielded ≡ names_of c.args.path.now =
    walked_all (λ name. name.now) _ c.loop-name.yielded _ c.loop-name.yielded_by _ _ c.in-None.is
    c.next.ensures.steps
    (YieldsList-at c.into_iter-name-iterator.ensures.into_iter_gives
    (YieldsList-from_filter _ (λ name. not (length name == 0))
    (YieldsList-at c.filter-name-items.ensures.source
    (YieldsList-from_slice_split _ (λ byte. byte == 47) c.args.path.now c.split.ensures.rest
    c.split.ensures.done c.split.ensures.closure (λ x b q k. search (rules, tests))))
    c.filter-name-items.ensures.closure (λ x r q k. search (rules, tests)))) in
    let place : Ok c.loop-name.place ≡ place_of c.args.tree.now c.args.self.now c.args.path.now =
    sym c.loop-name.invariant
    ∙ ap (λ names. reached c.args.tree.now c.args.self.now (reverse names)) all in
    let holds = place_holds c.args.tree.now c.args.self.now c.args.path.now c.loop-name.place
    c.in_ok-place.ensures.whole c.in_ok-place.ensures.kept place in
    record { place = place; within = holds.within; mounted = holds.mounted }
