use Rattle.std.proofs.Common.{◌≡◌, ℕ, subst, sym, ◌∙◌, take}
use Rattle.std.specs.Prelude.{IsTrue}
use Rattle.fan_record.specs.Infos.{IsInfo}
use Rattle.fan_record.proofs.InfoLemmas.{front-len}
use Rattle.fan_record.proofs.infos.front_len.Goals as goal

pub returns-then-not-has_parts-clause-none : goal.returns-then-not-has_parts-clause-none
returns-then-not-has_parts-clause-none c = λ len front.
    let read : len ≡ c.u16_at.result = sym (front-len c.args.bytes.now len front) ∙ sym c.u16_at.ensures in
    let same : len ≡ c.from-len.result = read ∙ sym c.from-len.ensures in
    let info = subst (λ (n : ℕ). IsInfo (take n c.args.bytes.now)) same front.info in
    let has : IsTrue c.has_parts.result = c.has_parts.ensures.only info.handle info.name in
    absurd cc
