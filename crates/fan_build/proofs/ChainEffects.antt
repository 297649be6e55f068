-- The effect of a change on the marks of a chain.
use Rattle.std.proofs.Common.{◌≡◌, ◌≢◌, ◌∙◌, ℕ, ◌+◌, ◌*◌, ◌≤◌, ◌^◌, Bool, true, false, cond, List, [], ◌∷◌, Option, Some, None, length, sym, ap, subst, arith}
use Rattle.std.proofs.lemmas.Bool.{cond_both}
use Rattle.std.proofs.lemmas.List.{length-map}
use Rattle.std.specs.Prelude.{not, is_some, ◌&&◌, ◌||◌, ◌==◌}
use Rattle.fan_bits.specs.declared.change.Change.{Change}
use Rattle.fan_bits.specs.declared.mark.Mark.{Mark}
use Rattle.fan_bits.specs.Marks.{updated}
use Rattle.fan_rows.specs.Rows.{MarkAt}
use Rattle.fan_rows.specs.Trees.{IsChain, Link, first_row, marks_in}
use Rattle.fan_build.specs.declared.effect.Effect.{Effect}
use Rattle.fan_build.specs.Edits.{added_effect, chain_effect, has_any, is_at, is_past, kept, no_effect, replaced_effect, stays}
use Rattle.fan_build.proofs.Chains.{any_by_row, few, first_of}

-- an effect takes no more rows than marks, but for one, and retires no more
pub record IsSmall (count : ℕ) (effect : Effect) : Type 0 where
  pub taken : effect.taken ≤ count + 1
  pub retired : effect.marks ≤ count

none_small : (count : ℕ) (left : Bool) → IsSmall count (no_effect left)
none_small count left = record { taken = omega arith; retired = omega arith }

added_small : (count : ℕ) (new : Option Mark) (left : Bool) → IsSmall count (added_effect new left)
added_small count None left = none_small count left
added_small count (Some mark) left = record { taken = omega arith; retired = omega arith }

-- a test counts for 1 where it holds, or where it fails
abbrev one : Bool → ℕ
one b = cond b 1 0

abbrev other : Bool → ℕ
other b = cond b 0 1

one_small : (b : Bool) → one b ≤ 1
one_small true = omega arith
one_small false = omega arith

other_small : (b : Bool) → other b ≤ 1
other_small true = omega arith
other_small false = omega arith

replaced_small : (count : ℕ) (left : Option Mark) (same : Bool) (rest : Effect) → IsSmall count rest
    → IsSmall (count + 1) (replaced_effect left same rest)
replaced_small count left same rest small =
    cond_both (same && not rest.altered) (no_effect true) (record {
      altered = true;
      left = is_some left || rest.left;
      taken = rest.taken + one (is_some left);
      marks = rest.marks + other same;
    }) (IsSmall (count + 1)) (λ stay. none_small (count + 1) true) (λ moves. record {
      taken = omega (arith, small.taken, one_small (is_some left));
      retired = omega (arith, small.retired, other_small same);
    })

pub small : (change : Change) (marks : List Mark) → IsSmall (length marks) (chain_effect change marks)
small change [] = added_small 0 (updated None change) false
small change (mark ∷ marks) =
    let rest = cond_both (is_at change mark) (no_effect (has_any marks)) (chain_effect change marks)
    (IsSmall (length marks)) (λ at. none_small (length marks) (has_any marks)) (λ on. small change marks) in
    cond_both (is_past change mark) (added_effect (updated None change) true) _
    (IsSmall (length (mark ∷ marks)))
    (λ past. added_small (length (mark ∷ marks)) (updated None change) true)
    (λ on. let all = replaced_small (length marks) (kept change mark) (stays (kept change mark) mark) _ rest in
    record { taken = omega (arith, all.taken); retired = omega (arith, all.retired) })

-- ---- the effect, from the effect on the marks behind the first

-- the effect on what is behind a mark, in whichever chain lies at a row
abbrev pub RestIs : (ℕ → Option ℕ) → ℕ → Change → Mark → Effect → Type 0
RestIs words next change mark effect =
    (links : List Link) → IsChain words links → first_row links ≡ next
    → effect ≡ cond (is_at change mark) (no_effect (has_any (marks_in links))) (chain_effect change (marks_in links))

pub rest_at : (words : ℕ → Option ℕ) (next : ℕ) (change : Change) (mark : Mark) (effect : Effect)
    → is_at change mark ≡ true → effect ≡ no_effect (not (next == 0))
    → RestIs words next change mark effect
rest_at words next change mark effect at is links chain first =
    rw at (is ∙ ap (λ n. no_effect (not (n == 0))) (sym first) ∙ ap no_effect (any_by_row words links chain))

pub rest_on : (words : ℕ → Option ℕ) (next : ℕ) (change : Change) (mark : Mark) (effect : Effect)
    → is_at change mark ≡ false
    → ((links : List Link) → IsChain words links → first_row links ≡ next
    → effect ≡ chain_effect change (marks_in links))
    → RestIs words next change mark effect
rest_on words next change mark effect on is links chain first = rw on (is links chain first)

-- it is small
pub rest_small : (words : ℕ → Option ℕ) (row next : ℕ) (change : Change) (mark : Mark) (effect : Effect)
    → RestIs words next change mark effect → (links : List Link) → IsChain words links
    → first_row links ≡ row → row ≢ 0 → words (4 * row) ≡ Some next → IsSmall (2 ^ 40) effect
rest_small words row next change mark effect rest links chain is some word =
    let first = first_of words row links chain is some in
    let same : Some (first_row first.rest) ≡ Some next = sym first.at.at.word_0 ∙ word in
    let next_is : first_row first.rest ≡ next = cc in
    let count : length (marks_in first.rest) ≡ length first.rest =
    length-map first.rest (λ link. link.mark) in
    let behind = few words first.rest first.chain in
    subst (IsSmall (2 ^ 40)) (sym (rest first.rest first.chain next_is))
    (cond_both (is_at change mark) (no_effect (has_any (marks_in first.rest)))
    (chain_effect change (marks_in first.rest)) (IsSmall (2 ^ 40))
    (λ at. none_small (2 ^ 40) (has_any (marks_in first.rest)))
    (λ on. let all = small change (marks_in first.rest) in
    record { taken = omega (arith, all.taken); retired = omega (arith, all.retired) }))

-- the effect on the whole chain
pub step_is : (words : ℕ → Option ℕ) (row next : ℕ) (change : Change) (mark : Mark) (effect : Effect)
    → RestIs words next change mark effect → (links : List Link) → IsChain words links
    → first_row links ≡ row → row ≢ 0 → words (4 * row) ≡ Some next
    → ((one : ℕ) (other : Mark) → MarkAt words row one other → mark ≡ other)
    → is_past change mark ≡ false
    → replaced_effect (kept change mark) (stays (kept change mark) mark) effect
    ≡ chain_effect change (marks_in links)
step_is words row next change mark effect rest links chain is some word found behind =
    let first = first_of words row links chain is some in
    let same : Some (first_row first.rest) ≡ Some next = sym first.at.at.word_0 ∙ word in
    let next_is : first_row first.rest ≡ next = cc in
    let mark_is : mark ≡ first.link.mark = found (first_row first.rest) first.link.mark first.at in
    let passed : is_past change first.link.mark ≡ false =
    subst (λ m. is_past change m ≡ false) mark_is behind in
    let one = rest first.rest first.chain next_is in
    subst (λ all. replaced_effect (kept change mark) (stays (kept change mark) mark) effect
    ≡ chain_effect change (marks_in all)) (sym first.is)
    (rw passed (subst (λ m. replaced_effect (kept change mark) (stays (kept change mark) mark) effect
    ≡ replaced_effect (kept change m) (stays (kept change m) m)
    (cond (is_at change m) (no_effect (has_any (marks_in first.rest)))
    (chain_effect change (marks_in first.rest)))) mark_is
    (ap (λ e. replaced_effect (kept change mark) (stays (kept change mark) mark) e) one)))
