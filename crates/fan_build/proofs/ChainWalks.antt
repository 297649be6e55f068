-- The walk that makes a chain anew, at one of its rows.
use Rattle.std.proofs.Common.{◌≡◌, ◌≢◌, ◌∙◌, ℕ, ◌*◌, Bool, true, false, List, ◌∷◌, ◌++◌, Option, Some, None, refl, sym, ap, subst}
use Rattle.std.specs.Prelude.{not, ◌&&◌}
use Rattle.fan_bits.specs.declared.change.Change.{Change}
use Rattle.fan_bits.specs.declared.mark.Mark.{Mark}
use Rattle.fan_bits.specs.Marks.{listed, updated}
use Rattle.fan_rows.specs.Rows.{MarkAt, Rows}
use Rattle.fan_rows.specs.Trees.{Link, first_row, marks_in}
use Rattle.fan_build.specs.declared.effect.Effect.{Effect}
use Rattle.fan_build.specs.declared.made.Made.{Made}
use Rattle.fan_build.specs.Edits.{added_effect, chain_effect, edited, has_any, is_at, is_past, kept, stays}
use Rattle.fan_build.specs.Steps.{ChainBefore, ChainMade, ReplaceBefore, Replaced}
use Rattle.fan_build.proofs.Chains.{First, first_of}
use Rattle.fan_build.proofs.ChainSteps.{RestMade, rest_before, rest_effect, rest_target, replace_before, replaced_all, settled}

-- what a chain becomes, and the effect on it, are others by equations
other_before : (words : ℕ → Option ℕ) (rows : Rows) (row : ℕ) (links : List Link) (T U : List Mark)
    (E F : Effect) → T ≡ U → E ≡ F → ChainBefore words rows row links T E → ChainBefore words rows row links U F
other_before words rows row links T U E F target effect before = rw (← target, ← effect) before

other_made : (words later : ℕ → Option ℕ) (rows after : Rows) (links : List Link) (T U : List Mark)
    (E F : Effect) (made : Made) → T ≡ U → E ≡ F → ChainMade words later rows after links T E made
    → ChainMade words later rows after links U F made
other_made words later rows after links T U E F made target effect is = rw (← target, ← effect) is

-- a row is that of a mark, in whichever chain
abbrev pub IsFound : (ℕ → Option ℕ) → ℕ → Mark → Type 0
IsFound words row mark = (one : ℕ) (other : Mark) → MarkAt words row one other → mark ≡ other

module _ (words : ℕ → Option ℕ) (rows : Rows) (row : ℕ) (change : Change) (mark : Mark)
    (found : IsFound words row mark) (some : row ≢ 0) (links : List Link)
    (before : ChainBefore words rows row links (edited change (marks_in links))
    (chain_effect change (marks_in links))) where
  first : First words row links
  first = first_of words row links before.chain before.first some

  mark_is : mark ≡ first.link.mark
  mark_is = found (first_row first.rest) first.link.mark first.at

  before_first : ChainBefore words rows row (first.link ∷ first.rest)
      (edited change (first.link.mark ∷ marks_in first.rest))
      (chain_effect change (first.link.mark ∷ marks_in first.rest))
  before_first = subst (λ all. ChainBefore words rows row all (edited change (marks_in all))
      (chain_effect change (marks_in all))) first.is before

  -- ---- the mark comes behind the place where bits are put

  past_target : is_past change mark ≡ true
      → edited change (marks_in links) ≡ listed (updated None change) ++ marks_in links
  past_target past =
      let test = subst (λ m. is_past change m ≡ true) mark_is past in
      subst (λ all. edited change (marks_in all) ≡ listed (updated None change) ++ marks_in all) (sym first.is)
      (rw test refl)

  past_effect : is_past change mark ≡ true
      → chain_effect change (marks_in links) ≡ added_effect (updated None change) (has_any (marks_in links))
  past_effect past =
      let test = subst (λ m. is_past change m ≡ true) mark_is past in
      subst (λ all. chain_effect change (marks_in all)
      ≡ added_effect (updated None change) (has_any (marks_in all))) (sym first.is) (rw test refl)

  pub past_before : is_past change mark ≡ true
      → ChainBefore words rows row links (listed (updated None change) ++ marks_in links)
      (added_effect (updated None change) (has_any (marks_in links)))
  past_before past =
      other_before words rows row links _ _ _ _ (past_target past) (past_effect past) before

  pub past_made : is_past change mark ≡ true → (later : ℕ → Option ℕ) (after : Rows) (made : Made)
      → ChainMade words later rows after links (listed (updated None change) ++ marks_in links)
      (added_effect (updated None change) (has_any (marks_in links))) made
      → ChainMade words later rows after links (edited change (marks_in links))
      (chain_effect change (marks_in links)) made
  past_made past later after made is =
      other_made words later rows after links _ _ _ _ made (sym (past_target past)) (sym (past_effect past)) is

  -- ---- the change goes by the mark

  module _ (on : is_past change mark ≡ false) (next : ℕ) (word : words (4 * row) ≡ Some next) where
    behind : is_past change first.link.mark ≡ false
    behind = subst (λ m. is_past change m ≡ false) mark_is on

    next_is : first_row first.rest ≡ next
    next_is = let same : Some (first_row first.rest) ≡ Some next = sym first.at.at.word_0 ∙ word in cc

    -- what is behind it can be made first
    before_rest : ChainBefore words rows next first.rest (rest_target change mark (marks_in first.rest))
        (rest_effect change mark (marks_in first.rest))
    before_rest =
        subst (λ m. ChainBefore words rows next first.rest (rest_target change m (marks_in first.rest))
        (rest_effect change m (marks_in first.rest))) (sym mark_is)
        (subst (λ n. ChainBefore words rows n first.rest
        (rest_target change first.link.mark (marks_in first.rest))
        (rest_effect change first.link.mark (marks_in first.rest))) next_is
        (rest_before words rows row change first.link first.rest behind before_first))

    pub before_next : is_at change mark ≡ false
        → (rest : List Link) × ChainBefore words rows next rest (edited change (marks_in rest))
        (chain_effect change (marks_in rest))
    before_next apart = (first.rest, rw apart at before_rest)

    module _ (later : ℕ → Option ℕ) (after : Rows) (rest : Made)
        (made : RestMade words later rows after next change mark rest) (left : Option Mark) (same : Bool)
        (left_is : left ≡ kept change mark) (same_is : same ≡ stays left mark) where
      made_rest : ChainMade words later rows after first.rest
          (rest_target change first.link.mark (marks_in first.rest))
          (rest_effect change first.link.mark (marks_in first.rest)) rest
      made_rest =
          subst (λ m. ChainMade words later rows after first.rest
          (rest_target change m (marks_in first.rest))
          (rest_effect change m (marks_in first.rest)) rest) mark_is (made first.rest before_rest)

      left_first : left ≡ kept change first.link.mark
      left_first = left_is ∙ ap (kept change) mark_is

      same_first : same ≡ stays (kept change first.link.mark) first.link.mark
      same_first = same_is ∙ ap (λ l. stays l mark) left_first
          ∙ ap (stays (kept change first.link.mark)) mark_is

      pub stands : same && not rest.altered ≡ true
          → ChainMade words later rows after links (edited change (marks_in links))
          (chain_effect change (marks_in links))
          (record { row = row; altered = false; marks = 0; rows = 0 })
      stands is =
          subst (λ all. ChainMade words later rows after all (edited change (marks_in all))
          (chain_effect change (marks_in all))
          (record { row = row; altered = false; marks = 0; rows = 0 })) (sym first.is)
          (settled words rows row change first.link first.rest behind before_first later after rest
          made_rest (subst (λ b. b && not rest.altered ≡ true) same_first is))

      moves_first : same && not rest.altered ≡ false
          → stays (kept change first.link.mark) first.link.mark && not rest.altered ≡ false
      moves_first is = subst (λ b. b && not rest.altered ≡ false) same_first is

      before_replaced : same && not rest.altered ≡ false
          → ReplaceBefore later after row left rest made_rest.new
      before_replaced is =
          subst (λ l. ReplaceBefore later after row l rest made_rest.new) (sym left_first)
          (replace_before words rows row change first.link first.rest behind before_first later after rest
          made_rest (moves_first is))

      pub can_replace : same && not rest.altered ≡ false
          → (all : List Link) × ReplaceBefore later after row left rest all
      can_replace is = (made_rest.new, before_replaced is)

      pub all_made : same && not rest.altered ≡ false → (last : ℕ → Option ℕ) (end : Rows)
          (result : Made)
          → ((all : List Link) → ReplaceBefore later after row left rest all
          → Replaced later last after end row left same rest all result)
          → ChainMade words last rows end links (edited change (marks_in links))
          (chain_effect change (marks_in links)) result
      all_made is last end result replaced =
          subst (λ all. ChainMade words last rows end all (edited change (marks_in all))
          (chain_effect change (marks_in all)) result) (sym first.is)
          (replaced_all words rows row change first.link first.rest behind before_first later after rest
          made_rest (moves_first is) last end result
          (subst (λ b. Replaced later last after end row (kept change first.link.mark) b rest made_rest.new
          result) same_first
          (subst (λ l. Replaced later last after end row l same rest made_rest.new result) left_first
          (replaced made_rest.new (before_replaced is)))))
