use Rattle.std.proofs.Common.{◌≡◌, ◌∙◌, ℕ, None, ap, below_more, slice_index_or}
use Rattle.std.proofs.lemmas.List.{get_or_default}
use Rattle.fan_grace.specs.Noted.{noted_at}
use Rattle.fan_grace.proofs.NotedLemmas.{gone_before, gone_there, others_stay}
use Rattle.fan_grace.proofs.noted.Noted.forget.Goals as goal

pub loop-place-preserved : goal.loop-place-preserved
loop-place-preserved c =
    let places = c.args.places.now in
    let at = c.loop-place.place-index in
    let old = c.loop-place.self-inside.objects.entries in
    let new = c.remove.new.self.entries in
    let place = (slice_index_or places at (0, 0)).0 in
    record {
      others = λ q apart. others_stay old new place c.remove.ensures.found q
          (apart at (0, 0) c.loop-place-test.true)
          ∙ c.loop-place.invariant.others q apart;
      gone = λ d. below_more (λ k. noted_at new (slice_index_or places k d).0 ≡ None) at
          (λ k before. gone_before old new place c.remove.ensures.found (slice_index_or places k d).0
          (c.loop-place.invariant.gone d k before))
          (ap (λ (e : ℕ × ℕ). noted_at new e.0)
          (get_or_default places at d (0, 0) c.loop-place-test.true)
          ∙ gone_there old new place c.remove.ensures.found);
    }
