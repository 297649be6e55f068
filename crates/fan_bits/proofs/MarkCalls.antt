-- What callers know of the flags and the mask that a call with marks takes.
use Rattle.std.proofs.Common.{◌≡◌, ◌↔◌, ℕ, ◌+◌, ◌<◌, ◌^◌, ◌==◌, Bool, true, false, ◌||◌, cond, arith, refl}
use Rattle.std.proofs.lemmas.Bool.{and_parts}
use Rattle.fan_bits.specs.declared.kind.Verb.TheVariants as verbs
use Rattle.fan_bits.specs.MarkWords.{IsMarkCall, are_mark_flags, is_mark_call, is_mask, mask_bits, verb_flags, verb_of, mark_words_of, mark_add, mark_remove, mark_flush}
use Rattle.fan_bits.specs.Words.{has_one, has_only, occurs}
use Rattle.fan_bits.proofs.Masks.{mask_small}

-- if exactly one of three is given, it is the last exactly if neither of the others is
one_verb : (add remove flush : Bool) → (0 + cond add 1 0 + cond remove 1 0 + cond flush 1 0 == 1) ≡ true
    → (cond add verbs.Add (cond remove verbs.Remove verbs.Flush) ≡ verbs.Flush) ↔ (flush ≡ true)
one_verb true true true one = absurd cc
one_verb true true false one = absurd cc
one_verb true false true one = absurd cc
one_verb true false false one = (λ same. absurd cc, λ given. absurd cc)
one_verb false true true one = absurd cc
one_verb false true false one = (λ same. absurd cc, λ given. absurd cc)
one_verb false false true one = (λ same. refl, λ given. refl)
one_verb false false false one = absurd cc

-- what the flags of a call do is a flush exactly if FAN_MARK_FLUSH is among them
pub flush_flag : (flags mask init : ℕ) → IsMarkCall flags mask init
    → (verb_of flags ≡ verbs.Flush) ↔ (occurs flags mark_flush ≡ true)
unfolding is_mark_call are_mark_flags has_one
flush_flag flags mask init call =
    let flags_pass : are_mark_flags flags ≡ true = (and_parts _ _ call).0 in
    let one : has_one verb_flags flags ≡ true = grind (arith, and_parts) in
    one_verb (occurs flags mark_add) (occurs flags mark_remove) (occurs flags mark_flush) one

-- a mask that a call can be given has 32 bits
mask_below : (mask flags init : ℕ) → mask < 2 ^ 64 → is_mask mask flags init ≡ true → mask < 2 ^ 32
unfolding is_mask
mask_below mask flags init small is =
    let only : has_only 64 mask_bits mask ≡ true = grind (arith, and_parts) in
    mask_small mask small only

-- no mask, or one that is below a number, is below it
chosen_below : (flush is : Bool) (mask most : ℕ) → 0 < most → (is ≡ true → mask < most)
    → (flush || is) ≡ true → cond flush 0 mask < most
chosen_below true is mask most some below passes = some
chosen_below false is mask most some below passes = below passes

-- the mask that a call asks for has 32 bits
pub asked_mask_small : (flags mask init : ℕ) → mask < 2 ^ 64 → IsMarkCall flags mask init
    → (mark_words_of flags mask).mask < 2 ^ 32
unfolding is_mark_call
asked_mask_small flags mask init small call =
    chosen_below (occurs flags mark_flush) (is_mask mask flags init) mask (2 ^ 32) (omega arith)
    (mask_below mask flags init small)
    (and_parts (are_mark_flags flags) (occurs flags mark_flush || is_mask mask flags init) call).1
