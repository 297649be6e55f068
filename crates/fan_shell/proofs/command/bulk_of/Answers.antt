use Rattle.std.proofs.Common.{◌≡◌, ◌∙◌, rules, sym}
use Rattle.std.specs.Prelude.{codes}
use Rattle.fan_shell.proofs.CommandLemmas.{three_words}
use Rattle.fan_shell.proofs.command.bulk_of.Goals as goal

pub returns-in_ok-count-in-len3-clause-found : goal.returns-in_ok-count-in-len3-clause-found
returns-in_ok-count-in-len3-clause-found c =
    let seed = c.in_ok-seed-in-len3.ensures.some in
    let count = c.in_ok-count-in-len3.ensures.some in
    let bulk : c.as_str.result.now ≡ codes "bulk" = search rules in
    record {
      words_are =
          three_words c.args.words.now c.word-item.result c.seed-item.result c.count-item.result
          c.in-len3.len_at_least c.in-len3.len_below c.word-item.is c.seed-item.is c.count-item.is
          (sym c.as_str.ensures.value ∙ bulk)
          (sym c.as_str-in-len3.ensures.value ∙ (sym c.as_bytes.ensures.value ∙ seed.0))
          (sym c.as_str-in-len3-2.ensures.value ∙ (sym c.as_bytes-in-len3.ensures.value ∙ count.0));
      seed_fits = seed.1;
      count_fits = count.1;
    }
