use Rattle.fan_record.proofs.InfoLemmas.{len-is, only-one, rest-decides, only-nothing}
use Rattle.fan_record.proofs.infos.info_len.Goals as goal

pub returns-clause-value : goal.returns-clause-value
returns-clause-value c = len-is c.args.bytes.now c.front_len.result c.front_len.ensures.some

pub returns-clause-only : goal.returns-clause-only
returns-clause-only c = only-one c.args.bytes.now c.front_len.result c.front_len.ensures.some

pub returns-clause-rest : goal.returns-clause-rest
returns-clause-rest c = rest-decides c.args.bytes.now c.front_len.result c.front_len.ensures.some

pub returns-clause-empty : goal.returns-clause-empty
returns-clause-empty c = only-nothing c.args.bytes.now c.front_len.result c.front_len.ensures.none
