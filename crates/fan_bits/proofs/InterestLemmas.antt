-- Words by their events, and the words of those events that pass a test.
use Rattle.std.proofs.Common.{◌≡◌, ◌≢◌, ◌∙◌, ℕ, ◌+◌, ◌-◌, ◌*◌, ◌^◌, ◌<◌, ◌==◌, Bool, true, false, not, ◌&&◌, ◌||◌, min, max, arith, zero, suc, refl, eqb, eqb-true}
use Rattle.std.specs.Int.{bit_at, w32}
use Rattle.std.specs.Int.RustNames.{bit_and, bit_or}
use Rattle.std.proofs.lemmas.Nat.Bits.{bit_at-lt, bit_at-zero, bit_at_and, bit_at_or, bit_at_ones, bit_at_not, bit_at_above, bit_at_cat_low, bit_at_cat_high, same_from_bits_below}
use Rattle.std.proofs.lemmas.Bool.Decides.{nat_tests}
use Rattle.std.proofs.lemmas.Grind.{pow_more}
use Rattle.std.specs.Prelude.{if◌then◌else◌}
use Rattle.fan_bits.specs.declared.class.Class.{Class}
use Rattle.fan_bits.specs.declared.class.Class.TheVariants.{PreContent, Content, Notif}
use Rattle.fan_bits.specs.Interest.{bits_that, child_events}
use Rattle.fan_bits.specs.Marks.{order_number}
use Rattle.fan_bits.specs.Words.{is_among, occurs}

-- the lesser of two bits is 1 if both are
both_bits : (a b : ℕ) → a < 2 → b < 2 → (min a b == 1) ≡ (a == 1 && b == 1)
both_bits a b left right = grind (arith, nat_tests)

-- the greater of two bits is 1 if one is
either_bit : (a b : ℕ) → a < 2 → b < 2 → (max a b == 1) ≡ (a == 1 || b == 1)
either_bit a b left right = grind (arith, nat_tests)

-- the other bit is 1 if a bit isn't
other_bit : (a : ℕ) → a < 2 → (1 - a == 1) ≡ not (a == 1)
other_bit a small = grind (arith, nat_tests)

-- in `a & b` occurs what occurs in both
pub occurs_and : (a b event : ℕ) → occurs (bit_and a b) event ≡ (occurs a event && occurs b event)
unfolding occurs
occurs_and a b event = rw bit_at_and
    (both_bits (bit_at a event) (bit_at b event) (bit_at-lt a event) (bit_at-lt b event))

-- in `a | b` occurs what occurs in one
pub occurs_or : (a b event : ℕ) → occurs (bit_or a b) event ≡ (occurs a event || occurs b event)
unfolding occurs
occurs_or a b event = rw bit_at_or
    (either_bit (bit_at a event) (bit_at b event) (bit_at-lt a event) (bit_at-lt b event))

-- in 0 occurs nothing
pub occurs_zero : (event : ℕ) → occurs 0 event ≡ false
unfolding occurs
occurs_zero event = rw bit_at-zero refl

-- below 32 all occur in the greatest word
pub occurs_all : (event : ℕ) → event < 32 → occurs 0xffffffff event ≡ true
unfolding occurs
occurs_all event below = rw (bit_at_ones 32 event below) refl

-- in `!a` occurs what doesn't in `a`
pub occurs_not : (a event : ℕ) → a < 2 ^ 32 → event < 32 → occurs (0xffffffff - a) event
    ≡ not (occurs a event)
unfolding occurs
occurs_not a event small below =
    rw (bit_at_not w32 a event small below) (other_bit (bit_at a event) (bit_at-lt a event))

-- two bits that are 1 at once are the same
same_bit : (a b : ℕ) → a < 2 → b < 2 → (a == 1) ≡ (b == 1) → a ≡ b
same_bit zero zero left right same = refl
same_bit zero (suc b) left right same = grind (arith, nat_tests)
same_bit (suc a) zero left right same = grind (arith, nat_tests)
same_bit (suc a) (suc b) left right same = grind (arith, nat_tests)

-- two words with the same events are equal
pub same_words : (a b : ℕ) → a < 2 ^ 32 → b < 2 ^ 32
    → ((event : ℕ) → event < 32 → occurs a event ≡ occurs b event) → a ≡ b
unfolding occurs
same_words a b left right same =
    same_from_bits_below 32 a b left right (λ event below.
    same_bit (bit_at a event) (bit_at b event) (bit_at-lt a event) (bit_at-lt b event) (same event below))

-- a word with one more bit, or without it
with_bit : ℕ → ℕ → Bool → ℕ
with_bit word number passes = word + (if passes then 2 ^ number else 0)

-- is below the next power of 2
with_bit-lt : (word number : ℕ) (passes : Bool) → word < 2 ^ number
    → with_bit word number passes < 2 ^ suc number
unfolding with_bit
with_bit-lt word number true small = omega (arith, pow_more 2 number)
with_bit-lt word number false small = omega (arith, pow_more 2 number)

-- has the bits below it
with_bit_below : (word number event : ℕ) (passes : Bool) → event < number
    → occurs (with_bit word number passes) event ≡ occurs word event
unfolding with_bit occurs
with_bit_below word number event true below =
    let turned : word + 2 ^ number ≡ 1 * 2 ^ number + word = omega arith in
    rw (turned, bit_at_cat_low 1 number word event below) refl
with_bit_below word number event false below =
    let same : word + 0 ≡ word = omega arith in rw same refl

-- and this one exactly if it was put there
with_bit_here : (word number : ℕ) (passes : Bool) → word < 2 ^ number
    → occurs (with_bit word number passes) number ≡ passes
unfolding with_bit occurs
with_bit_here word number true small =
    let turned : word + 2 ^ number ≡ 1 * 2 ^ number + word = omega arith in
    let none : number - number ≡ 0 = omega arith in
    rw (turned, bit_at_cat_high 1 number word number small (omega arith), none) refl
with_bit_here word number false small =
    let same : word + 0 ≡ word = omega arith in
    rw (same, bit_at_above word number number small (omega arith)) refl

-- the word of those of its first bits that pass a test has no others
pub bits_that-lt : (number : ℕ) (test : ℕ → Bool) → bits_that number test < 2 ^ number
unfolding bits_that with_bit
bits_that-lt zero test = omega arith
bits_that-lt (suc number) test =
    with_bit-lt (bits_that number test) number (test number) (bits_that-lt number test)

-- and has just those that pass
pub occurs_bits_that : (number event : ℕ) (test : ℕ → Bool) → event < number
    → occurs (bits_that number test) event ≡ test event
unfolding bits_that with_bit
occurs_bits_that zero event test below = absurd (omega arith)
occurs_bits_that (suc number) event test below =
    elim (eqb event number) as (λ same. eqb event number ≡ same
    → occurs (with_bit (bits_that number test) number (test number)) event ≡ test event) [
      | true ↦ λ same. let here : event ≡ number = eqb-true event number same in
          rw here (with_bit_here (bits_that number test) number (test number) (bits_that-lt number test))
      | false ↦ λ other. let lower : event < number = grind (arith, nat_tests) in
          with_bit_below (bits_that number test) number event (test number) lower
          ∙ occurs_bits_that number event test lower
    ] refl

-- tests that agree give the same word
pub bits_that_agree : (number : ℕ) (test other : ℕ → Bool)
    → ((event : ℕ) → event < number → test event ≡ other event)
    → bits_that number test ≡ bits_that number other
unfolding bits_that
bits_that_agree zero test other agree = refl
bits_that_agree (suc number) test other agree =
    rw (
      bits_that_agree number test other (λ event below. agree event (omega arith)),
      agree number
          (omega arith),
    ) refl

-- a word of bits that pass is 0 if none does
pub bits_that_none : (number : ℕ) (test : ℕ → Bool) → ((event : ℕ) → event < number → test event ≡ false)
    → bits_that number test ≡ 0
unfolding bits_that
bits_that_none zero test fails = refl
bits_that_none (suc number) test fails =
    rw (bits_that_none number test (λ event below. fails event (omega arith)), fails number (omega arith))
    refl

-- a word of bits that pass has one if it is not 0
pub bits_that_some : (number : ℕ) (test : ℕ → Bool) → bits_that number test ≢ 0
    → (event : ℕ) × (event < number) × (test event ≡ true)
unfolding bits_that
bits_that_some zero test some = absurd (some refl)
bits_that_some (suc number) test some =
    elim (test number) as (λ passes. test number ≡ passes → (event : ℕ) × (event < suc number)
    × (test event ≡ true)) [
      | true ↦ λ passes. (number, omega arith, passes)
      | false ↦ λ fails.
          let front : bits_that number test ≢ 0 = λ none. some (rw (none, fails) refl) in
          let found = bits_that_some number test front in
          (found.0, omega (arith, found.1), found.2)
    ] refl

-- the events of an entry that a mark on its directory asks for, as a word
pub occurs_child : (event : ℕ) → event < 32 → occurs 0x7103f event ≡ is_among event child_events
unfolding bits_that
occurs_child event below =
    let word : bits_that 32 (λ event. is_among event child_events) ≡ 0x7103f = refl in
    rw (← word) (occurs_bits_that 32 event (λ event. is_among event child_events) below)

-- the position in the order of groups tells class and group
pub same_group : (class other : Class) (group second : ℕ) → group < 2 ^ 32 → second < 2 ^ 32
    → order_number class group ≡ order_number other second → (class ≡ other) × (group ≡ second)
same_group PreContent PreContent group second small less same = (refl, omega arith)
same_group PreContent Content group second small less same = absurd (omega arith)
same_group PreContent Notif group second small less same = absurd (omega arith)
same_group Content PreContent group second small less same = absurd (omega arith)
same_group Content Content group second small less same = (refl, omega arith)
same_group Content Notif group second small less same = absurd (omega arith)
same_group Notif PreContent group second small less same = absurd (omega arith)
same_group Notif Content group second small less same = absurd (omega arith)
same_group Notif Notif group second small less same = (refl, omega arith)

-- and is below three times 2^32
pub order_number-lt : (class : Class) (group : ℕ) → group < 2 ^ 32 → order_number class group < 3 * 2 ^ 32
order_number-lt PreContent group small = omega arith
order_number-lt Content group small = omega arith
order_number-lt Notif group small = omega arith
