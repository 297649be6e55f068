-- How long information records are.
use Rattle.std.proofs.Common.{◌≡◌, ℕ, ◌+◌, List, length, refl, ap, ◌∙◌}
use Rattle.std.proofs.lemmas.List.{length-append}
use Rattle.fan_fid.specs.Written.{ident_bytes, name_bytes, dfid_name_bytes}

-- up to the handle's end there are 28 bytes
pub ident_len : (kind len fs inode : ℕ) → length (ident_bytes kind len fs inode) ≡ 28
unfolding ident_bytes
ident_len kind len fs inode = refl

-- with a name there are its bytes more
pub dfid_name_len : (fs inode : ℕ) (name : List ℕ)
    → length (dfid_name_bytes fs inode name) ≡ 28 + length (name_bytes name)
dfid_name_len fs inode name =
    let len = 28 + length (name_bytes name) in
    length-append (ident_bytes 2 len fs inode) (name_bytes name)
    ∙ ap (λ (n : ℕ). n + length (name_bytes name)) (ident_len 2 len fs inode)
