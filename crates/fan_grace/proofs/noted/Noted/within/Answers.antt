use Rattle.std.proofs.Common.{◌≡◌, ◌∙◌, ◌++◌, ℕ, ◌≤◌, ◌<◌, List, [], ap, map, nat_lt, subst, sym}
use Rattle.std.specs.Prelude.{◌==◌, All, filter, take_while}
use Rattle.std.specs.List.{list_any}
use Rattle.fan_map.specs.MapState.{MapState}
use Rattle.fan_grace.specs.Noted.{is_within}
use Rattle.fan_grace.proofs.NotedLemmas.{all_within, inside_span, past_end, walk_next, walk_over, walk_within}
use Rattle.fan_grace.proofs.noted.Noted.within.Goals as goal
use Rattle.fan_grace.proofs.noted.Noted.within.Goals.{in-None, in-Some+then-place-span}

pub loop-place-init : goal.loop-place-init
loop-place-init c =
    let before : List (ℕ × ℕ) → List (ℕ × ℕ) = take_while (λ e. nat_lt e.0 c.args.span.now.end) in
    ap (λ (found : List (ℕ × ℕ)). found ++ before c.into_iter-place-iterator.result) c.new-found.ensures.items
    ∙ ap before (c.into_iter-place-iterator.ensures.into_iter_gives ∙ c.iter_from-place-items.ensures.rest)
    ∙ walk_within c.args.span.now c.self.inside.objects.entries c.iter_from-place-items.ensures.sorted
    ∙ ap (λ (state : MapState ℕ ℕ). filter (λ e. is_within c.args.span.now e.0) state.entries) c.self.view_is

pub loop-place-preserved : goal.loop-place-preserved
loop-place-preserved c =
    walk_next c.args.span.now c.loop-place.found.items c.push.new.self.items c.loop-place.place-iterator
    c.next.new.self (c.in-Some.place.now, c.in-Some.object.now) c.in-Some.ensures.steps c.if-place-span.false
    c.in_ok-push.ensures.items
    ∙ c.loop-place.invariant

-- what was found when the walk ends
found_is : (c : goal.Joined-next)
    → c.loop-place.found.items ≡ filter (λ e. is_within c.args.span.now e.0) c.args.self.now.entries
found_is c =
    let none : take_while (λ e. nat_lt e.0 c.args.span.now.end) c.loop-place.place-iterator ≡ [] =
    elim c.match-next.branch [
      | in-None w ↦ ap (take_while (λ e. nat_lt e.0 c.args.span.now.end)) w.in-None.ensures.steps.0
      | in-Some+then-place-span w ↦ past_end c.args.span.now c.loop-place.place-iterator c.next.new.self
          (w.in-Some.place.now, w.in-Some.object.now) w.in-Some.ensures.steps w.if-place-span.true
    ] in
    walk_over c.args.span.now c.loop-place.found.items _ c.loop-place.place-iterator c.loop-place.invariant none

pub returns-clause-all : goal.returns-clause-all
returns-clause-all c q o from before noted =
    ap (λ (found : List (ℕ × ℕ)). list_any (λ object. object == o) (map (λ e. e.1) found)) (found_is c)
    ∙ all_within c.args.span.now c.args.self.now.entries q o from before noted

pub returns-clause-inside : goal.returns-clause-inside
returns-clause-inside c =
    subst (All (λ (e : ℕ × ℕ). (c.args.span.now.first ≤ e.0) × (e.0 < c.args.span.now.end))) (sym (found_is c))
    (inside_span c.args.span.now c.args.self.now.entries)
