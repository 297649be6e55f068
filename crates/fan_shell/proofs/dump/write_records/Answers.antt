use Rattle.fan_shell.proofs.OutcomeLemmas.{dumped_front}
use Rattle.fan_shell.proofs.dump.write_records.Goals as goal

pub returns-in-Ok-None-clause-front : goal.returns-in-Ok-None-clause-front
returns-in-Ok-None-clause-front g c = dumped_front _ _ c.args.bytes.now c.write_dump.ensures.front

pub returns-in-Ok-Some-clause-front : goal.returns-in-Ok-Some-clause-front
returns-in-Ok-Some-clause-front g c = dumped_front _ _ c.args.bytes.now c.write_dump.ensures.front

pub returns-in-Err-Failed-clause-front : goal.returns-in-Err-Failed-clause-front
returns-in-Err-Failed-clause-front g c = dumped_front _ _ c.args.bytes.now c.write_dump.ensures.front

pub returns-in-Err-NoMemory-clause-front : goal.returns-in-Err-NoMemory-clause-front
returns-in-Err-NoMemory-clause-front g c = dumped_front _ _ c.args.bytes.now c.write_dump.ensures.front
