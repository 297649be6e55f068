-- Hashes of events with the same key, and of events with descriptors.
use Rattle.std.proofs.Common.{◌≡◌, ◌∙◌, ℕ, ◌+◌, ◌*◌, ◌^◌, ◌%◌, ◌<◌, Bool, true, false, refl, sym, arith}
use Rattle.fan_event.specs.declared.event.Event.{Event}
use Rattle.fan_event.specs.declared.target.Target.{Target}
use Rattle.fan_event.specs.declared.target.Target.TheVariants.{Fd, Handle}
use Rattle.fan_event.specs.Keys.{HasDescriptor, IsDescriptorKey, key_hash, same_key, target_hash, who_number}
use Rattle.fan_event.proofs.KeyLemmas.{same_key_decides}

-- events with the same key have the same hash
pub same_hash : (a b : Event) → same_key a b ≡ true → key_hash a ≡ key_hash b
unfolding key_hash
same_hash a b same =
    let key = (same_key_decides a b).0 same in rw (key.who, key.ondir, key.target) refl

-- a number below 2^64 is its own remainder
whole : (n : ℕ) → n < 2 ^ 64 → n % 2 ^ 64 ≡ n
whole n below = omega arith

-- three numbers in one can be told apart
parts : (high middle low high' middle' low' : ℕ) → middle < 2 ^ 16 → middle' < 2 ^ 16
    → low < 2 ^ 32 → low' < 2 ^ 32
    → high * 2 ^ 48 + middle * 2 ^ 32 + low ≡ high' * 2 ^ 48 + middle' * 2 ^ 32 + low'
    → (high ≡ high') × (middle ≡ middle') × (low ≡ low')
parts high middle low high' middle' low' m m' l l' same = (omega arith, omega arith, omega arith)

small : (who : ℕ) (ondir : Bool) → who < 2 ^ 31 → who_number who ondir < 2 ^ 32
small who true below = omega arith
small who false below = omega arith

-- a process or thread and a directory bit can be told apart
who_parts : (who who' : ℕ) (ondir ondir' : Bool) → who_number who ondir ≡ who_number who' ondir'
    → (who ≡ who') × (ondir ≡ ondir')
who_parts who who' true true same = (omega arith, refl)
who_parts who who' true false same = absurd (omega arith)
who_parts who who' false true same = absurd (omega arith)
who_parts who who' false false same = (omega arith, refl)

-- so can a descriptor's objects and who did it
same_parts : (target target' : Target) (who who' : ℕ) (ondir ondir' : Bool) → HasDescriptor target
    → HasDescriptor target' → who < 2 ^ 31 → who' < 2 ^ 31
    → (target_hash target + who_number who ondir) % 2 ^ 64
    ≡ (target_hash target' + who_number who' ondir') % 2 ^ 64
    → (target ≡ target') × (who ≡ who') × (ondir ≡ ondir')
same_parts (Fd mount inode) (Fd mount' inode') who who' ondir ondir' has has' below below' same =
    let low = who_number who ondir in
    let low' = who_number who' ondir' in
    let s : low < 2 ^ 32 = small who ondir below in
    let s' : low' < 2 ^ 32 = small who' ondir' below' in
    let all = parts mount inode low mount' inode' low' has.1 has'.1 s s'
    (sym (whole (mount * 2 ^ 48 + inode * 2 ^ 32 + low) (omega (arith, has.0, has.1, s))) ∙ same
    ∙ whole (mount' * 2 ^ 48 + inode' * 2 ^ 32 + low') (omega (arith, has'.0, has'.1, s'))) in
    let one = who_parts who who' ondir ondir' all.2 in
    (cc, one.0, one.1)
same_parts (Fd mount inode) (Handle fs object dir name) who who' ondir ondir' has has' below below' same =
    absurd has'
same_parts (Handle fs object dir name) target' who who' ondir ondir' has has' below below' same = absurd has

-- events with descriptors have the same hash only if they have the same key
pub descriptors_apart : (a b : Event) → IsDescriptorKey a → IsDescriptorKey b → key_hash a ≡ key_hash b
    → same_key a b ≡ true
unfolding key_hash
descriptors_apart a b is is' same =
    let parts = same_parts a.target b.target a.who b.who a.ondir b.ondir is.1 is'.1 is.0 is'.0 same in
    (same_key_decides a b).1 (record { who = parts.1; ondir = parts.2; target = parts.0 })
