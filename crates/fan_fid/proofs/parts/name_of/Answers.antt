use Rattle.std.proofs.Common.{sym}
use Rattle.fan_fid.proofs.NameLemmas.{splits}
use Rattle.fan_fid.proofs.parts.name_of.Goals as goal

pub returns : goal.returns
returns c = splits c.args.text.now c.in-Some.end (sym c.in-Some.ensures.value)
