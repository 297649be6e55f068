-- The laws of records: one at most at a place, one reading of an input, and what was written is read again.
use Rattle.std.proofs.Common.{◌≡◌, ℕ, ℤ, pos, ◌+◌, ◌-◌, List, [], ◌∷◌, ◌++◌, length, take, drop, refl, sym, ap, subst, ◌∙◌, arith}
use Rattle.std.specs.Prelude.{slice_index}
use Rattle.std.specs.Int.{cast_signed, cast_unsigned, w32}
use Rattle.std.proofs.Math.Facts.{Fits-of_z}
use Rattle.std.proofs.lemmas.Int.{to_z-of_z, to_z_pos}
use Rattle.std.proofs.lemmas.List.{take_at, drop_at, drop-drop, get_or-append-add, length-append}
use Rattle.byteorder.specs.Endian.{little_number}
use Rattle.byteorder.specs.Numbers.{little_number-reads_back}
use Rattle.fan_record.specs.Fields.{u64_at, u32_at}
use Rattle.fan_record.specs.Records.{NoRecord, ReadsRecords, RecordParts, SpellsRecord, SpellsRecords, record_end}
use Rattle.fan_record.specs.Written.{IsWritable, record_bytes}

abbrev made : ℕ → ℤ → ℤ → List ℕ → RecordParts
made mask fd pid infos = record { mask = mask; fd = fd; pid = pid; infos = infos }

-- parts with the same fields are the same
same-parts : (m n : ℕ) (a b c d : ℤ) (x y : List ℕ) → m ≡ n → a ≡ b → c ≡ d → x ≡ y
    → made m a c x ≡ made n b d y
same-parts m n a b c d x y mask fd pid infos = cc

-- at most one record is spelled at a place
pub one-at-most : (bytes : List ℕ) (at : ℕ) (p q : RecordParts)
    → SpellsRecord bytes at p → SpellsRecord bytes at q → p ≡ q
one-at-most bytes at p q a b =
    same-parts p.mask q.mask p.fd q.fd p.pid q.pid p.infos q.infos
    (a.mask ∙ sym b.mask) (a.fd ∙ sym b.fd) (a.pid ∙ sym b.pid) (a.infos ∙ sym b.infos)

-- where no record is spelled, none is
absent : (bytes : List ℕ) (at stop : ℕ) (parts : RecordParts) → at ≡ stop → NoRecord bytes stop → SpellsRecord bytes at parts → ⊥
absent bytes at stop parts same none spelled =
    none parts (subst (λ (place : ℕ). SpellsRecord bytes place parts) same spelled)

-- records that are followed by none are all that there are
one-run : (bytes : List ℕ) (at m n : ℕ) (p q : List RecordParts) → SpellsRecords bytes at m p → SpellsRecords bytes at n q
    → NoRecord bytes m → NoRecord bytes n → (p ≡ q) × (m ≡ n)
one-run bytes at m n [] [] a b none_m none_n = (refl, sym a ∙ b)
one-run bytes at m n [] (y ∷ q) a b none_m none_n = absurd (absent bytes at m y a none_m b.0)
one-run bytes at m n (x ∷ p) [] a b none_m none_n = absurd (absent bytes at n x b none_n a.0)
one-run bytes at m n (x ∷ p) (y ∷ q) a b none_m none_n =
    let first : x ≡ y = one-at-most bytes at x y a.0 b.0 in
    let others = one-run bytes (record_end bytes at) m n p q a.1 b.1 none_m none_n in
    let rest : p ≡ q = others.0 in
    (cc, others.1)

-- an input has one reading
pub one-reading : (bytes : List ℕ) (p q : List RecordParts) (m n : ℕ) → ReadsRecords bytes p m → ReadsRecords bytes q n
    → (p ≡ q) × (m ≡ n)
one-reading bytes p q m n a b = one-run bytes 0 m n p q a.spelled b.spelled a.none b.none

-- a place behind what stands before
pub behind : (before text : List ℕ) (place : ℕ) → drop (length before + place) (before ++ text) ≡ drop place text
behind before text place =
    sym (drop-drop place (length before) (before ++ text)) ∙ ap (drop place) (drop_at before text (length before) refl)

-- what stands at a place behind what stands before
pub byte-behind : (before text : List ℕ) (place : ℕ)
    → slice_index (before ++ text) (length before + place) ≡ slice_index text place
byte-behind before text place = get_or-append-add before text place 0

-- how many bytes are written before the information records
pub length-record : (event_len mask : ℕ) (fd : ℤ) (pid : ℕ) (text : List ℕ)
    → length (record_bytes event_len mask fd pid ++ text) ≡ 24 + length text
unfolding record_bytes
length-record event_len mask fd pid text = omega arith

-- what was written is read again
pub read-again : (before infos rest : List ℕ) (event_len mask : ℕ) (fd : ℤ) (pid : ℕ)
    → IsWritable event_len mask fd pid infos
    → SpellsRecord (before ++ (record_bytes event_len mask fd pid ++ (infos ++ rest))) (length before)
    (record { mask = mask; fd = fd; pid = pos pid; infos = infos })
unfolding record_bytes
read-again before infos rest event_len mask fd pid can =
    let text : List ℕ = record_bytes event_len mask fd pid ++ (infos ++ rest) in
    let len : u32_at (length before) (before ++ text) ≡ event_len =
    ap (little_number 4) (drop_at before text (length before) refl)
    ∙ little_number-reads_back 4 event_len (drop 4 text) can.len_fits in
    let size : length (before ++ text) ≡ length before + (24 + (length infos + length rest)) =
    length-append before text ∙ ap (λ (n : ℕ). length before + n)
    (length-record event_len mask fd pid (infos ++ rest) ∙ ap (λ (n : ℕ). 24 + n) (length-append infos rest)) in
    let mask_read : u64_at (length before + 8) (before ++ text) ≡ mask =
    ap (little_number 8) (behind before text 8)
    ∙ little_number-reads_back 8 mask (drop 16 text) can.mask_fits in
    let fd_bits : u32_at (length before + 16) (before ++ text) ≡ cast_unsigned w32 fd =
    ap (little_number 4) (behind before text 16)
    ∙ little_number-reads_back 4 (cast_unsigned w32 fd) (drop 20 text) (Fits-of_z can.fd_fits).fits in
    let pid_bits : u32_at (length before + 20) (before ++ text) ≡ pid =
    ap (little_number 4) (behind before text 20)
    ∙ little_number-reads_back 4 pid (infos ++ rest) (omega (arith, can.pid_fits)) in
    let end : record_end (before ++ text) (length before) - (length before + 24) ≡ length infos =
    omega (arith, len, can.whole) in
    record {
      metadata = record {
        whole = omega (arith, size);
        least = rw len (omega (arith, can.whole));
        within = omega (arith, len, size, can.whole);
        version = byte-behind before text 4;
        metadata_len = ap (little_number 2) (behind before text 6);
      };
      mask = sym mask_read;
      fd = sym (ap (cast_signed w32) fd_bits ∙ to_z-of_z w32 fd can.fd_fits);
      pid = sym (ap (cast_signed w32) pid_bits ∙ to_z_pos w32 pid can.pid_fits);
      infos = sym (ap (λ (n : ℕ). take n (drop (length before + 24) (before ++ text))) end
          ∙ ap (take (length infos)) (behind before text 24) ∙ take_at infos rest (length infos) refl);
      filled = can.are_infos;
    }
