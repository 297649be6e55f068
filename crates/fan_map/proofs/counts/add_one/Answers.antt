use Rattle.std.proofs.Common.{◌+◌, ◌∙◌, ℕ, Option, Some, ap, sym}
use Rattle.std.specs.Option.{unwrap_or}
use Rattle.fan_map.proofs.Numbers.{found_some, number_added}
use Rattle.fan_map.proofs.counts.add_one.Goals as goal

pub returns-in-Some : goal.returns-in-Some
returns-in-Some c =
    let old = c.args.counts.now.entries in
    let new = c.replace.new.self.entries in
    let some = sym c.get.ensures.value ∙ sym c.copied.ensures ∙ c.in-Some.is in
    number_added old new c.args.key (Some (c.in-Some.number + 1))
    (found_some old new c.args.key (c.in-Some.number + 1) c.replace.ensures.found c.in-Some.number some)
    (ap (λ (found : Option ℕ). unwrap_or found 0 + 1) (sym some))

pub returns-in-None : goal.returns-in-None
returns-in-None c =
    let none = sym c.get.ensures.value ∙ sym c.copied.ensures ∙ c.in-None.is in
    number_added c.args.counts.now.entries c.insert_reserved.new.self.entries c.args.key (Some 1)
    c.insert_reserved.ensures.found (ap (λ (found : Option ℕ). unwrap_or found 0 + 1) (sym none))
