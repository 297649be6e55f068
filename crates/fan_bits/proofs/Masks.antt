-- Tests by masks are tests by numbers of bits.
use Rattle.std.proofs.Common.{◌≡◌, ◌↔◌, ◌∙◌, ℕ, ◌*◌, ◌^◌, ◌<◌, ◌==◌, Bool, true, false, not, ◌&&◌, ◌||◌, cond, min, arith, zero, suc, refl, sym, ap, eq-eqb, eqb-true, eqb, List, [], ◌∷◌}
use Rattle.std.specs.Int.{bit_at}
use Rattle.std.specs.Int.RustNames.{bit_and, bit_or}
use Rattle.std.specs.Int.Bits.{or_add_and}
use Rattle.std.proofs.lemmas.Nat.Bits.{and_pow, bit_at-lt, bit_at_and, bit_at_or, same_from_bits, same_from_bits_below}
use Rattle.std.proofs.lemmas.Nat.{pow_pos, and_comm, and_le_l, and_le_r}
use Rattle.std.proofs.lemmas.Bool.{and_parts}
use Rattle.std.proofs.lemmas.Bool.Decides.{nat_tests}
use Rattle.fan_bits.specs.MarkWords.{mark_flags, flush_flags, mask_bits}
use Rattle.fan_bits.specs.Words.{all_below, has_any, has_only, init_flags, is_among, occurs}

-- a bit times a power of two is that power exactly if the bit is 1
bit_times : (bit power : ℕ) → bit < 2 → 0 < power → (bit * power == power) ≡ (bit == 1)
bit_times zero power small some = grind (arith, nat_tests)
bit_times (suc zero) power small some = grind (arith, nat_tests)
bit_times (suc (suc more)) power small some = absurd (omega arith)

-- and is 0 exactly if it is not
bit_times_none : (bit power : ℕ) → bit < 2 → 0 < power → (bit * power == 0) ≡ not (bit == 1)
bit_times_none zero power small some = grind (arith, nat_tests)
bit_times_none (suc zero) power small some = grind (arith, nat_tests)
bit_times_none (suc (suc more)) power small some = absurd (omega arith)

-- a word has all of a mask of one bit exactly if this bit occurs
pub mask_occurs : (flags mask number : ℕ) → mask ≡ 2 ^ number
    → (bit_and flags mask == mask) ≡ occurs flags number
unfolding occurs
mask_occurs flags mask number is =
    rw (is, and_pow) (bit_times (bit_at flags number) (2 ^ number) (bit_at-lt flags number) (pow_pos number))

-- two tests of which each passes if the other does are the same
pub same_tests : (a b : Bool) → (a ≡ true → b ≡ true) → (b ≡ true → a ≡ true) → a ≡ b
same_tests true b there back = sym (there refl)
same_tests false true there back = back refl
same_tests false false there back = refl

-- what passes below a number passes at each one below it
all_below_at : (number at : ℕ) (test : ℕ → Bool) → at < number → all_below number test ≡ true → test at ≡ true
unfolding all_below
all_below_at zero at test below passes = absurd (omega arith)
all_below_at (suc number) at test below passes =
    let parts = and_parts (all_below number test) (test number) passes in
    elim (eqb at number) as (λ same. eqb at number ≡ same → test at ≡ true) [
      | true ↦ λ same. let here : at ≡ number = eqb-true at number same in rw here parts.1
      | false ↦ λ other. all_below_at number at test (grind (arith, nat_tests)) parts.0
    ] refl

-- what passes at each number below one passes below it
all_below_all : (number : ℕ) (test : ℕ → Bool) → ((at : ℕ) → at < number → test at ≡ true)
    → all_below number test ≡ true
unfolding all_below
all_below_all zero test each = refl
all_below_all (suc number) test each =
    let before : all_below number test ≡ true = all_below_all number test (λ at below. each at
    (omega arith)) in
    let here : test number ≡ true = each number (omega arith) in
    rw (before, here) refl

-- a bit that is 1 only if it is a flag's stays under the mask of all flags
kept_bit : (flag : Bool) (bit mask : ℕ) → bit < 2 → (mask == cond flag 1 0) ≡ true
    → (flag || not (bit == 1)) ≡ true → min bit mask ≡ bit
kept_bit true bit mask small is only = grind (arith, nat_tests)
kept_bit false bit mask small is only = grind (arith, nat_tests)

-- and one that stays under this mask is 1 only if it is a flag's
only_bit : (flag : Bool) (bit mask : ℕ) → bit < 2 → (mask == cond flag 1 0) ≡ true
    → min bit mask ≡ bit → (flag || not (bit == 1)) ≡ true
only_bit true bit mask small is kept = refl
only_bit false bit mask small is kept = grind (arith, nat_tests)

-- the mask has, below a width, just the bits whose numbers are in a list
abbrev pub is_mask_of : ℕ → List ℕ → ℕ → Bool
is_mask_of width numbers mask =
    all_below width (λ number. bit_at mask number == cond (is_among number numbers) 1 0)

-- a word keeps all its bits under the mask of a list exactly if it has only these bits
pub mask_has_only : (width : ℕ) (numbers : List ℕ) (mask word : ℕ) → is_mask_of width numbers mask ≡ true
    → word < 2 ^ width → (bit_and word mask == word) ≡ has_only width numbers word
unfolding has_only occurs
mask_has_only width numbers mask word is small =
    let test = λ (number : ℕ). is_among number numbers || not (bit_at word number == 1) in
    let masks = λ (number : ℕ). bit_at mask number == cond (is_among number numbers) 1 0 in
    same_tests _ _
    (λ kept. all_below_all width test (λ at below.
    only_bit (is_among at numbers) (bit_at word at) (bit_at mask at) (bit_at-lt word at)
    (all_below_at width at masks below is)
    (sym (bit_at_and word mask at) ∙ ap (λ n. bit_at n at) (eqb-true _ _ kept))))
    (λ only. eq-eqb _ _ (same_from_bits_below width _ _ (omega (arith, and_le_l word mask)) small (λ at below.
    bit_at_and word mask at
    ∙ kept_bit (is_among at numbers) (bit_at word at) (bit_at mask at) (bit_at-lt word at)
    (all_below_at width at masks below is) (all_below_at width at test below only))))

-- a test that a word keeps all its bits under a mask
pub kept_tests : (result : Bool) (word mask : ℕ) → ((result ≡ true) ↔ (bit_and word mask ≡ word))
    → result ≡ (bit_and word mask == word)
kept_tests result word mask known =
    same_tests _ _ (λ some. eq-eqb _ _ (known.0 some)) (λ kept. known.1 (eqb-true _ _ kept))

-- the flags of fanotify_init(2)
pub mask_has_only_flags : (flags : ℕ) → flags < 2 ^ 32
    → (bit_and flags 0xf3f == flags) ≡ has_only 32 init_flags flags
unfolding all_below
mask_has_only_flags flags small = mask_has_only 32 init_flags 0xf3f flags refl small

-- the flags of fanotify_mark(2)
pub mask_has_only_mark_flags : (flags : ℕ) → flags < 2 ^ 32
    → (bit_and flags 0x1ff == flags) ≡ has_only 32 mark_flags flags
unfolding all_below
mask_has_only_mark_flags flags small = mask_has_only 32 mark_flags 0x1ff flags refl small

-- those that may stand beside FAN_MARK_FLUSH
pub mask_has_only_flush_flags : (flags : ℕ) → flags < 2 ^ 32
    → (bit_and 0x190 flags == flags) ≡ has_only 32 flush_flags flags
unfolding all_below
mask_has_only_flush_flags flags small = rw and_comm (mask_has_only 32 flush_flags 0x190 flags refl small)

-- the bits of a mask
pub mask_has_only_mask_bits : (mask : ℕ) → mask < 2 ^ 64
    → (bit_and mask 0x48071fff == mask) ≡ has_only 64 mask_bits mask
unfolding all_below
mask_has_only_mask_bits mask small = mask_has_only 64 mask_bits 0x48071fff mask refl small

-- a mask that has only these is below 2 ^ 32
pub mask_small : (mask : ℕ) → mask < 2 ^ 64 → has_only 64 mask_bits mask ≡ true → mask < 2 ^ 32
mask_small mask small only =
    let kept : bit_and mask 0x48071fff ≡ mask = eqb-true _ _ (mask_has_only_mask_bits mask small ∙ only) in
    omega (arith, and_le_r mask 0x48071fff)

-- the word of the bits with these numbers
abbrev pub mask_of : List ℕ → ℕ
mask_of [] = 0
mask_of (number ∷ more) = bit_or (2 ^ number) (mask_of more)

-- what a word shares with two masks together is what it shares with each
and_or : (word a b : ℕ) → bit_and word (bit_or a b) ≡ bit_or (bit_and word a) (bit_and word b)
and_or word a b = same_from_bits _ _ (λ at.
    rw (
      bit_at_and word (bit_or a b) at,
      bit_at_or a b at,
      bit_at_or (bit_and word a) (bit_and word b) at,
      bit_at_and word a at,
      bit_at_and word b at,
    ) (omega arith))

-- two words joined have no bit exactly if neither has one
or_none : (a b : ℕ) → (bit_or a b == 0) ≡ ((a == 0) && (b == 0))
or_none a b = grind (arith, nat_tests, or_add_and a b, and_le_l a b, and_le_r a b)

-- neither of two
not_or : (a b : Bool) → (not a && not b) ≡ not (a || b)
not_or true b = refl
not_or false b = refl

-- a word shares no bit with the mask of a list exactly if it has none of these bits
mask_none : (numbers : List ℕ) (word : ℕ) → (bit_and word (mask_of numbers) == 0) ≡ not (has_any numbers word)
unfolding has_any occurs
mask_none [] word = eq-eqb _ _ (omega (arith, and_le_r word 0))
mask_none (number ∷ more) word =
    let here : (bit_and word (2 ^ number) == 0) ≡ not (bit_at word number == 1) =
    rw and_pow (bit_times_none (bit_at word number) (2 ^ number) (bit_at-lt word number) (pow_pos number)) in
    rw (and_or, or_none, here, mask_none more word) (not_or _ _)

-- two refusals leave a test as it is
not_not : (a : Bool) → not (not a) ≡ a
not_not true = refl
not_not false = refl

-- a word shares a bit with the mask of a list exactly if it has one of these bits
pub mask_has_any : (numbers : List ℕ) (word : ℕ)
    → not (bit_and word (mask_of numbers) == 0) ≡ has_any numbers word
mask_has_any numbers word = ap not (mask_none numbers word) ∙ not_not _
