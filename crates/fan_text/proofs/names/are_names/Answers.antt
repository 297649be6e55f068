use Rattle.std.proofs.Common.{◌≡◌, ◌==◌, true, false, rules}
use borrow.Author.Tests.{tests}
use Rattle.std.specs.List.{slice_split}
use Rattle.std.proofs.lemmas.Iterator.{cases_from_all}
use Rattle.std.proofs.lemmas.Iterator.Splits.{YieldsList-from_slice_split}
use Rattle.fan_text.specs.Reading.{is_name, are_names}
use Rattle.fan_text.proofs.PathLemmas.{all_answers}
use Rattle.fan_text.proofs.names.are_names.Goals as goal

pub returns : goal.returns
unfolding are_names
returns c =
    all_answers is_name (slice_split (λ byte. byte == 47) c.args.bytes.now) c.all.result
    (cases_from_all _ _ _ (λ name. is_name name ≡ true) (λ name. is_name name ≡ false) c.all.ensures.ran
    (YieldsList-from_slice_split _ (λ byte. byte == 47) c.args.bytes.now
    c.split.ensures.rest c.split.ensures.done c.split.ensures.closure (λ x r q k. search (rules, tests)))
    (λ x q k. search (rules, tests)) (λ x q k. search (rules, tests)))
