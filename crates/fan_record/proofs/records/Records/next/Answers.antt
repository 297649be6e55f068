use Rattle.std.proofs.Common.{subst, sym}
use Rattle.fan_record.specs.Records.{Reading, SpellsRecord}
use Rattle.fan_record.proofs.records.Records.next.Goals as goal

pub returns-in-None-clause-nothing : goal.returns-in-None-clause-nothing
returns-in-None-clause-nothing c = λ parts spelled.
    c.in-None.ensures.none parts
    (subst (λ (reading : Reading). SpellsRecord reading.bytes reading.at parts) (sym c.self.view_is) spelled)
