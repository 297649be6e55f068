use Rattle.std.proofs.Common.{◌≡◌, ◌∙◌, Some, arith, rules, sym}
use Rattle.std.specs.Prelude.{find}
use Rattle.std.proofs.lemmas.Bool.Decides.{nat_tests}
use Rattle.fan_marks.specs.Keys.{has_object_key}
use Rattle.fan_marks.proofs.StoredLemmas.{storable_at}
use Rattle.fan_marks.proofs.tests.has_class.Goals as goal

pub returns-in-Some-get : goal.returns-in-Some-get
returns-in-Some-get c = λ is k d within same.
    let mark = c.in-Some-get.mark in
    let found : find (has_object_key c.in-Some.key) c.args.book.now.marks ≡ Some mark =
    sym c.get.ensures.mark ∙ c.in-Some-get.is in
    let selected = rw found at c.in-Some.ensures.found in
    let group : mark.group ≡ c.args.group = grind (arith, nat_tests, selected) in
    let class : mark.class ≡ c.args.class = search rules in
    let fits = storable_at c.args.book.now.marks c.in-Some.key mark c.get.ensures.whole.list found in
    fits.0.agrees k d within (same ∙ sym group) ∙ class
