-- Summaries, and one more reply.
use Rattle.std.proofs.Common.{◌≡◌, ℕ, ◌+◌, List, [], ◌∷◌, ◌++◌, Bool, cond, refl, length-append, zero-add}
use Rattle.std.proofs.lemmas.List.Sums.{sum_by-append}
use Rattle.std.specs.List.{count_by, sum_by}
use Rattle.fan_bulk.specs.Summary.{summary, with_reply, answers_in, bytes_in, marks_in, is_refused, is_asked, is_allowed, is_denied, is_told}
use Rattle.fan_script.specs.declared.reply.Reply.{Reply}

-- a sum with one more
sum_more : {X : Type 0} (f : X → ℕ) (xs : List X) (x : X) → sum_by f (xs ++ x ∷ []) ≡ sum_by f xs + f x
sum_more f xs x = rw (sum_by-append f xs (x ∷ []), zero-add) refl

-- a count with one more
count_more : {X : Type 0} (p : X → Bool) (xs : List X) (x : X)
    → count_by p (xs ++ x ∷ []) ≡ count_by p xs + count_by p (x ∷ [])
count_more p xs x = sum_by-append (λ x. cond (p x) 1 0) xs (x ∷ [])

-- a reply behind others adds what it tells
pub summary_more : (lines : ℕ) (replies : List Reply) (reply : Reply)
    → summary lines (replies ++ reply ∷ []) ≡ with_reply (summary lines replies) reply
unfolding summary with_reply
summary_more lines replies reply =
    rw (
      sum_more (answers_in is_asked) replies reply,
      sum_more (answers_in is_allowed) replies reply,
      sum_more (answers_in is_denied) replies reply,
      sum_more (answers_in is_told) replies reply,
      sum_more bytes_in replies reply,
      sum_more marks_in replies reply,
      count_more is_refused replies reply,
      length-append replies (reply ∷ []),
    ) refl
