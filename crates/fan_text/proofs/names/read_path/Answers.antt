use Rattle.std.proofs.Common.{◌≡◌, rules}
use Rattle.fan_text.specs.Reading.{is_path}
use Rattle.fan_text.proofs.PathLemmas.{path_decides}
use Rattle.fan_text.proofs.names.read_path.Goals as goal

pub returns-then-word-le-MOST_PATH_BYTES-clause-path : goal.returns-then-word-le-MOST_PATH_BYTES-clause-path
unfolding is_path
returns-then-word-le-MOST_PATH_BYTES-clause-path c =
    let value : c.is_path_of.result ≡ is_path c.args.word.now = search rules in
    rw value (path_decides c.args.word.now)
