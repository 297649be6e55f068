use Rattle.std.proofs.lemmas.List.Elements.{All-replicate}
use Rattle.fan_grace.specs.Hints.{IsHint}
use Rattle.fan_grace.proofs.Hinted.{no_walk}
use Rattle.fan_grace.proofs.hints.Hints.new.Goals as goal

pub returns : goal.returns
returns c = λ words. All-replicate (IsHint words) 16 _ (no_walk words)
