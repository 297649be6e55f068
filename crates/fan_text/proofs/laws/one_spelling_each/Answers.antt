use Rattle.fan_text.proofs.BytesLemmas.{bytes_iff}
use Rattle.fan_text.proofs.DecimalLemmas.{decimal_iff}
use Rattle.fan_text.proofs.HexLemmas.{hex_iff}
use Rattle.fan_text.proofs.laws.one_spelling_each.Goals as goal

pub returns : goal.returns
returns c = record { decimal = decimal_iff; hex = hex_iff; bytes = bytes_iff }
