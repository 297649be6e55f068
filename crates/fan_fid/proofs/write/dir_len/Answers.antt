use Rattle.std.proofs.Common.{ℕ, ◌+◌, List, length, ap, sym, ◌∙◌}
use Rattle.fan_fid.specs.Written.{name_bytes}
use Rattle.fan_fid.proofs.WrittenLemmas.{dfid_name_len}
use Rattle.fan_fid.proofs.write.dir_len.Goals as goal

pub returns-in-Some-name-clause-value : goal.returns-in-Some-name-clause-value
returns-in-Some-name-clause-value c = λ fs.
    let name = c.in-Some-name.name in
    let same = ap (λ (bytes : List ℕ). length (name_bytes bytes)) c.bytes.ensures.value in
    rw (c.in-Some.is, c.in-Some-name.is) (
    c.from.ensures ∙ ap (λ (n : ℕ). 28 + n) (c.name_len.ensures.value ∙ same)
    ∙ sym (dfid_name_len fs c.in-Some.field-0 name))
