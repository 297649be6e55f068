use Rattle.fan_shell.proofs.CommandLemmas.{one_bulk, one_command}
use Rattle.fan_shell.proofs.plain.run_plain.Goals as goal

pub returns-in-Input-clause-told : goal.returns-in-Input-clause-told
returns-in-Input-clause-told g c = λ command names.
    rw (one_command c.args.words.now command c.in-Input.command names c.in-Input.ensures.0) c.run_command.ensures.told

pub returns-in-Input-clause-front : goal.returns-in-Input-clause-front
returns-in-Input-clause-front g c = λ command names.
    rw (one_command c.args.words.now command c.in-Input.command names c.in-Input.ensures.0) c.run_command.ensures.front

pub returns-in-Input-clause-ends : goal.returns-in-Input-clause-ends
returns-in-Input-clause-ends g c = λ command names.
    rw (one_command c.args.words.now command c.in-Input.command names c.in-Input.ensures.0) c.run_command.ensures.ends

pub returns-in-Input-clause-complete : goal.returns-in-Input-clause-complete
returns-in-Input-clause-complete g c = λ command names.
    rw (one_command c.args.words.now command c.in-Input.command names c.in-Input.ensures.0) c.run_command.ensures.complete

pub returns-in-Bulk-clause-bulk : goal.returns-in-Bulk-clause-bulk
returns-in-Bulk-clause-bulk g c = λ seed count names.
    let same = one_bulk c.args.words.now seed count c.in-Bulk.seed c.in-Bulk.count names c.in-Bulk.ensures.0 in
    rw (same.0, same.1) c.write_bulk.ensures.told

pub returns-in-Bulk-clause-bulk_front : goal.returns-in-Bulk-clause-bulk_front
returns-in-Bulk-clause-bulk_front g c = λ seed count names.
    let same = one_bulk c.args.words.now seed count c.in-Bulk.seed c.in-Bulk.count names c.in-Bulk.ensures.0 in
    rw (same.0, same.1) c.write_bulk.ensures.front

pub returns-in-Bulk-clause-bulk_too_long : goal.returns-in-Bulk-clause-bulk_too_long
returns-in-Bulk-clause-bulk_too_long g c = λ seed count names.
    let same = one_bulk c.args.words.now seed count c.in-Bulk.seed c.in-Bulk.count names c.in-Bulk.ensures.0 in
    rw same.1 c.write_bulk.ensures.too_long

pub returns-in-Bulk-clause-bulk_complete : goal.returns-in-Bulk-clause-bulk_complete
returns-in-Bulk-clause-bulk_complete g c = λ seed count names.
    let same = one_bulk c.args.words.now seed count c.in-Bulk.seed c.in-Bulk.count names c.in-Bulk.ensures.0 in
    rw same.1 c.write_bulk.ensures.complete
