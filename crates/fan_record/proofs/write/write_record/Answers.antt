use Rattle.std.specs.Int.{w32}
use Rattle.std.proofs.lemmas.Int.{to_z-of_z}
use Rattle.fan_record.specs.Written.{record_bytes}
use Rattle.fan_record.proofs.write.write_record.Goals as goal

-- each field in its turn, where the ones before it stand already
pub returns-clause-ok : goal.returns-clause-ok
unfolding record_bytes
returns-clause-ok c =
    let fits = c.ranges.fd in
    let len = c.write_u32.ensures in
    let metadata_len = rw len at c.write_u16.ensures in
    let mask = rw (len, metadata_len) at c.write_u64.ensures in
    let signed = rw (to_z-of_z w32 c.args.fd fits) at c.write_i32.ensures in
    let fd = rw (len, metadata_len, mask) at signed in
    let pid = rw (len, metadata_len, mask, fd) at c.write_u32-2.ensures in
    rw (len, metadata_len, mask, fd, pid) at c.in_ok-extend_from_slice.ensures.items
