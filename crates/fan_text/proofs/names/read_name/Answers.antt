use Rattle.std.proofs.Common.{◌≡◌, rules}
use Rattle.fan_text.specs.Reading.{is_name}
use Rattle.fan_text.proofs.NameLemmas.{name_decides}
use Rattle.fan_text.proofs.names.read_name.Goals as goal

pub returns-clause-name : goal.returns-clause-name
unfolding is_name
returns-clause-name c =
    let value : c.are_name_bytes.result ≡ is_name c.args.word.now = search rules in
    rw value (name_decides c.args.word.now)
