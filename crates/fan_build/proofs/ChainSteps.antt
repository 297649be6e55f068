-- How a chain is made anew, step by step.
use Rattle.std.proofs.Common.{◌≡◌, ◌∙◌, ℕ, ◌+◌, ◌*◌, ◌<◌, ◌≤◌, ◌^◌, Bool, true, false, cond, List, [], ◌∷◌, ◌++◌, Option, Some, None, length, refl, sym, ap, subst, arith, append-nil, length-append}
use Rattle.std.proofs.lemmas.Bool.{cond_both, false≢true}
use Rattle.std.proofs.lemmas.List.{length-map}
use Rattle.std.proofs.lemmas.List.Elements.{All-cons, All-head, All-nil, All-tail}
use Rattle.std.specs.Prelude.{All, IsSome, not, is_some, ◌&&◌, ◌||◌}
use Rattle.fan_bits.specs.declared.change.Change.{Change}
use Rattle.fan_bits.specs.declared.mark.Mark.{Mark}
use Rattle.fan_bits.specs.Marks.{listed, order_of, updated}
use Rattle.fan_rows.specs.Rows.{MarkAt, Rows, times}
use Rattle.fan_rows.specs.Trees.{IsChain, Link, first_row, marks_in}
use Rattle.fan_rows.proofs.Chains.{kept_chain, times_append, times_first}
use Rattle.fan_build.specs.declared.effect.Effect.{Effect}
use Rattle.fan_build.specs.declared.made.Made.{Made}
use Rattle.fan_build.specs.Edits.{added_effect, chain_effect, edited, has_any, is_at, is_past, kept, no_effect, replaced_effect, stays}
use Rattle.fan_build.specs.Steps.{Apart, ChainBefore, ChainMade, Grown, IsConnector, ReplaceBefore, Replaced, rows_in}
use Rattle.fan_build.proofs.Chains.{few}
use Rattle.fan_build.proofs.ChainEffects.{small}
use Rattle.fan_build.proofs.SameMarks.{stays_exact}
use Rattle.fan_build.proofs.Growing.{apart_after, grown_none, grown_on, grown_retired, keeps}

-- what holds of the marks of links holds of the links
on_links : (P : Mark → Type 0) (links : List Link) → All P (marks_in links)
    → All (λ link. P link.mark) links
on_links P [] all = All-nil (λ (link : Link). P link.mark)
on_links P (link ∷ links) all =
    All-cons (λ (one : Link). P one.mark) link links (All-head P link.mark (marks_in links) all)
    (on_links P links (All-tail P link.mark (marks_in links) all))

-- a chain stays as it is
pub chain_same : (words : ℕ → Option ℕ) (rows : Rows) (row : ℕ) (links : List Link) (left : Bool)
    → IsChain words links → first_row links ≡ row
    → ChainMade words words rows rows links (marks_in links) (no_effect left)
    (record { row = row; altered = false; marks = 0; rows = 0 })
chain_same words rows row links left chain is = record {
  more = [];
  gone = [];
  new = links;
  grown = grown_none words rows;
  chain = chain;
  first = is;
  told = refl;
  counts = λ one. refl;
  altered_is = refl;
  taken_is = refl;
  marks_is = refl;
  rows_is = refl;
  few = omega arith;
  same = λ quiet. (refl, refl, refl);
}

-- a mark is added before a chain
pub chain_added : (words later : ℕ → Option ℕ) (rows after : Rows) (row next : ℕ) (links : List Link)
    (mark : Mark) (effect : Effect) → ChainBefore words rows next links (mark ∷ marks_in links) effect
    → Grown words later rows after (row ∷ []) [] → MarkAt later row next mark
    → ChainMade words later rows after links (mark ∷ marks_in links)
    (record { altered = true; left = true; taken = 1; marks = 0 })
    (record { row = row; altered = true; marks = 0; rows = 0 })
chain_added words later rows after row next links mark effect before grown at = record {
  more = row ∷ [];
  gone = [];
  new = record { row = row; mark = mark } ∷ links;
  grown = grown;
  chain = (
    subst (λ n. MarkAt later row n mark) (sym before.first) at,
    on_links (λ other. order_of mark < order_of other) links before.possible.1,
    kept_chain words later links
        (keeps words later rows after (row ∷ []) [] (rows_in links) grown before.apart)
        before.chain,
  );
  first = refl;
  told = refl;
  counts = λ one. omega arith;
  altered_is = refl;
  taken_is = refl;
  marks_is = refl;
  rows_is = refl;
  few = omega arith;
  same = λ quiet. absurd (false≢true (sym quiet));
}

-- the same, of a mark that may be added
pub add_none : (words : ℕ → Option ℕ) (rows : Rows) (next : ℕ) (links : List Link) (new : Option Mark)
    (made : Made) → new ≡ None → made ≡ record { row = next; altered = false; marks = 0; rows = 0 }
    → ChainBefore words rows next links (listed new ++ marks_in links)
    (added_effect new (has_any (marks_in links)))
    → ChainMade words words rows rows links (listed new ++ marks_in links)
    (added_effect new (has_any (marks_in links))) made
add_none words rows next links None made none is before =
    rw is (chain_same words rows next links (has_any (marks_in links)) before.chain before.first)
add_none words rows next links (Some mark) made none is before = absurd cc

pub add_some : (words later : ℕ → Option ℕ) (rows after : Rows) (row next : ℕ) (links : List Link)
    (new : Option Mark) (mark : Mark) → new ≡ Some mark
    → ChainBefore words rows next links (listed new ++ marks_in links)
    (added_effect new (has_any (marks_in links)))
    → Grown words later rows after (row ∷ []) [] → MarkAt later row next mark
    → ChainMade words later rows after links (listed new ++ marks_in links)
    (added_effect new (has_any (marks_in links)))
    (record { row = row; altered = true; marks = 0; rows = 0 })
add_some words later rows after row next links None mark is before grown at = absurd cc
add_some words later rows after row next links (Some one) mark is before grown at =
    let same : mark ≡ one = cc in
    chain_added words later rows after row next links one _ before grown
    (subst (λ m. MarkAt later row next m) same at)

-- ---- a mark's row is replaced

-- a mark that is added takes a row
added_taken : (new : Option Mark) (left : Bool) → (added_effect new left).taken ≡ length (listed new)
added_taken None left = refl
added_taken (Some mark) left = refl

-- a list without elements
no_rows : (rows : List ℕ) → 0 ≡ length rows → rows ≡ []
no_rows [] none = refl
no_rows (row ∷ rows) none = absurd (omega arith)

-- rows with one more before
rest_apart : (rows : Rows) (row : ℕ) (reached : List ℕ) → Apart (row ∷ reached) rows → Apart reached rows
rest_apart rows row reached apart = λ one. omega (arith, apart one)

pub replace_adds : (words : ℕ → Option ℕ) (rows : Rows) (row : ℕ) (left : Option Mark) (rest : Made)
    (links : List Link) → ReplaceBefore words rows row left rest links
    → ChainBefore words rows rest.row links (listed left ++ marks_in links)
    (added_effect left (has_any (marks_in links)))
replace_adds words rows row left rest links before = record {
  chain = before.chain;
  first = before.first;
  apart = rest_apart rows row (rows_in links) before.apart;
  enough = omega (arith, before.enough, added_taken left (has_any (marks_in links)));
  possible = before.possible;
}

module _ (words later : ℕ → Option ℕ) (rows after : Rows) (row : ℕ) (left : Option Mark) (rest first : Made)
    (links : List Link) (before : ReplaceBefore words rows row left rest links)
    (none : first.rows ≡ 0)
    (made : ChainMade words later rows after links (listed left ++ marks_in links)
    (added_effect left (has_any (marks_in links))) first) where
  gone_none : made.gone ≡ []
  gone_none = no_rows made.gone (sym none ∙ made.rows_is)

  -- the row was not written
  kept_at : (place : ℕ) → place < 4 → later (4 * row + place) ≡ words (4 * row + place)
  kept_at place small =
      keeps words later rows after made.more made.gone (row ∷ rows_in links) made.grown before.apart row place
      (times_first row (rows_in links)) small

  -- so it has words still
  pub there_still : IsSome (later (4 * row))
  there_still =
      let start : 4 * row + 0 ≡ 4 * row = omega arith in
      let same = subst (λ at. later at ≡ words at) start (kept_at 0 (omega arith)) in
      subst IsSome (sym same) before.there

  -- and was not given up
  pub not_retired : times row after.retired ≡ 0
  not_retired =
      let retired : times row after.retired ≡ times row rows.retired + times row made.gone =
      ap (times row) made.grown.retired_on ∙ times_append row rows.retired made.gone in
      let gone : times row made.gone ≡ 0 = ap (times row) gone_none in
      omega (arith, before.apart row, times_first row (rows_in links))

  pub replaced_by : (last : ℕ → Option ℕ) (end : Rows) (same : Bool) (result : Made) → last ≡ later
      → end.free ≡ after.free → end.given ≡ after.given → end.retired ≡ after.retired ++ row ∷ []
      → result ≡ record {
        row = first.row;
        altered = true;
        marks = rest.marks + cond same 0 1;
        rows = rest.rows + 1;
      } → Replaced words last rows end row left same rest links result
  replaced_by last end same result words_is free given retired is =
      let lost = grown_retired later last after end row words_is free given retired in
      let all = grown_on words later last rows after end made.more made.gone [] (row ∷ []) made.grown lost in
      let more : made.more ++ [] ≡ made.more = append-nil made.more in
      rw is (record {
        more = made.more;
        new = made.new;
        grown = subst (λ gone. Grown words last rows end made.more (gone ++ row ∷ [])) gone_none
            (subst (λ taken. Grown words last rows end taken (made.gone ++ row ∷ [])) more all);
        chain = rw words_is made.chain;
        first = made.first;
        told = made.told;
        counts = λ one. subst (λ gone. times one (rows_in made.new) + times one gone
            ≡ times one (rows_in links) + times one made.more) gone_none (made.counts one);
        taken_is = made.taken_is ∙ added_taken left (has_any (marks_in links));
        altered_is = refl;
        marks_is = refl;
        rows_is = refl;
      })

-- ---- what is behind a mark

-- the marks behind a mark after a change, and the effect on them: behind the mark on which bits are put
-- nothing changes
abbrev pub rest_target : Change → Mark → List Mark → List Mark
rest_target change mark marks = cond (is_at change mark) marks (edited change marks)

abbrev pub rest_effect : Change → Mark → List Mark → Effect
rest_effect change mark marks =
    cond (is_at change mark) (no_effect (has_any marks)) (chain_effect change marks)

-- where a chain lies there is made what it asks for
abbrev pub RestMade : (ℕ → Option ℕ) → (ℕ → Option ℕ) → Rows → Rows → ℕ → Change → Mark → Made → Type 0
RestMade words later rows after next change mark rest =
    (links : List Link)
    → ChainBefore words rows next links (rest_target change mark (marks_in links))
    (rest_effect change mark (marks_in links))
    → ChainMade words later rows after links (rest_target change mark (marks_in links))
    (rest_effect change mark (marks_in links)) rest

pub rest_made_at : (words : ℕ → Option ℕ) (rows : Rows) (next : ℕ) (change : Change) (mark : Mark)
    (rest : Made) → is_at change mark ≡ true
    → rest ≡ record { row = next; altered = false; marks = 0; rows = 0 }
    → RestMade words words rows rows next change mark rest
rest_made_at words rows next change mark rest at is links before =
    rw (at, is) (chain_same words rows next links (has_any (marks_in links)) before.chain before.first)

pub rest_made_on : (words later : ℕ → Option ℕ) (rows after : Rows) (next : ℕ) (change : Change)
    (mark : Mark) (rest : Made) → is_at change mark ≡ false
    → ((links : List Link)
    → ChainBefore words rows next links (edited change (marks_in links)) (chain_effect change (marks_in links))
    → ChainMade words later rows after links (edited change (marks_in links))
    (chain_effect change (marks_in links)) rest)
    → RestMade words later rows after next change mark rest
rest_made_on words later rows after next change mark rest on made links before =
    rw on (made links (rw on at before))

-- nothing is taken where nothing is altered
quiet_added : (new : Option Mark) (left : Bool) → (added_effect new left).altered ≡ false
    → (added_effect new left).taken ≡ 0
quiet_added None left quiet = refl
quiet_added (Some mark) left quiet = absurd (false≢true (sym quiet))

pub quiet : (change : Change) (marks : List Mark) → (chain_effect change marks).altered ≡ false
    → (chain_effect change marks).taken ≡ 0
quiet change [] none = quiet_added (updated None change) false none
quiet change (mark ∷ marks) none =
    let E = rest_effect change mark marks in
    cond_both (is_past change mark) (added_effect (updated None change) true)
    (replaced_effect (kept change mark) (stays (kept change mark) mark) E)
    (λ effect. effect.altered ≡ false → effect.taken ≡ 0)
    (λ past. quiet_added (updated None change) true)
    (λ on. cond_both (stays (kept change mark) mark && not E.altered) (no_effect true) (record {
      altered = true;
      left = is_some (kept change mark) || E.left;
      taken = E.taken + cond (is_some (kept change mark)) 1 0;
      marks = E.marks + cond (stays (kept change mark) mark) 0 1;
    }) (λ effect. effect.altered ≡ false → effect.taken ≡ 0) (λ settled quiet. refl)
    (λ moves no. absurd (false≢true (sym no)))) none

rest_quiet : (change : Change) (mark : Mark) (marks : List Mark)
    → (rest_effect change mark marks).altered ≡ false → (rest_effect change mark marks).taken ≡ 0
rest_quiet change mark marks =
    cond_both (is_at change mark) (no_effect (has_any marks)) (chain_effect change marks)
    (λ effect. effect.altered ≡ false → effect.taken ≡ 0) (λ at none. refl) (λ on. quiet change marks)

-- an effect on a mark and what is behind it takes no less than that on what is behind it
replaced_more : (left : Option Mark) (same : Bool) (rest : Effect)
    → (rest.altered ≡ false → rest.taken ≡ 0) → rest.taken ≤ (replaced_effect left same rest).taken
replaced_more left same rest none =
    cond_both (same && not rest.altered) (no_effect true) (record {
      altered = true;
      left = is_some left || rest.left;
      taken = rest.taken + cond (is_some left) 1 0;
      marks = rest.marks + cond same 0 1;
    }) (λ effect. rest.taken ≤ effect.taken)
    (λ settled. omega (arith, none (unaltered same rest.altered settled))) (λ moves. omega arith)
  where
    unaltered : (b c : Bool) → b && not c ≡ true → c ≡ false
    unaltered true true is = absurd cc
    unaltered true false is = refl
    unaltered false c is = absurd cc

-- what a list of marks ends with can be the marks of a chain
connector_tail : (left : Option Mark) (marks : List Mark) → IsConnector (listed left ++ marks)
    → IsConnector marks
connector_tail None marks possible = possible
connector_tail (Some mark) marks possible = possible.2

module _ (words : ℕ → Option ℕ) (rows : Rows) (row : ℕ) (change : Change) (link : Link) (rest : List Link)
    (behind : is_past change link.mark ≡ false)
    (before : ChainBefore words rows row (link ∷ rest) (edited change (link.mark ∷ marks_in rest))
    (chain_effect change (link.mark ∷ marks_in rest))) where
  abbrev T : List Mark
  T = rest_target change link.mark (marks_in rest)

  abbrev E : Effect
  E = rest_effect change link.mark (marks_in rest)

  abbrev keeps_mark : Bool
  keeps_mark = stays (kept change link.mark) link.mark

  target_is : edited change (link.mark ∷ marks_in rest) ≡ listed (kept change link.mark) ++ T
  target_is = rw behind refl

  effect_is : chain_effect change (link.mark ∷ marks_in rest)
      ≡ replaced_effect (kept change link.mark) keeps_mark E
  effect_is = rw behind refl

  -- what is behind the mark can be made first
  pub rest_before : ChainBefore words rows (first_row rest) rest T E
  rest_before = record {
    chain = before.chain.2;
    first = refl;
    apart = rest_apart rows link.row (rows_in rest) before.apart;
    enough = omega (
      arith,
      before.enough,
      ap (λ (effect : Effect). effect.taken) effect_is,
      replaced_more (kept change link.mark) keeps_mark E (rest_quiet change link.mark (marks_in rest)),
    );
    possible = connector_tail (kept change link.mark) T (subst IsConnector target_is before.possible);
  }

  module _ (later : ℕ → Option ℕ) (after : Rows) (made_rest : Made)
      (made : ChainMade words later rows after rest T E made_rest) where
    -- where nothing is altered the chain stands as it is
    pub settled : keeps_mark && not made_rest.altered ≡ true
        → ChainMade words later rows after (link ∷ rest) (edited change (link.mark ∷ marks_in rest))
        (chain_effect change (link.mark ∷ marks_in rest))
        (record { row = row; altered = false; marks = 0; rows = 0 })
    settled is =
        let stay : keeps_mark && not E.altered ≡ true =
        subst (λ b. keeps_mark && not b ≡ true) made.altered_is is in
        let parts = by keeps_mark E.altered stay in
        let same = made.same parts.1 in
        let left : kept change link.mark ≡ Some link.mark = stays_exact (kept change link.mark) link.mark parts.0 in
        let marks : T ≡ marks_in rest = sym made.told ∙ ap marks_in same.0 in
        let target : edited change (link.mark ∷ marks_in rest) ≡ link.mark ∷ marks_in rest =
        target_is ∙ rw (left, marks) refl in
        let effect : chain_effect change (link.mark ∷ marks_in rest) ≡ no_effect true =
        effect_is ∙ rw stay refl in
        rw (target, effect) (record {
          more = [];
          gone = [];
          new = link ∷ rest;
          grown = subst (λ gone. Grown words later rows after [] gone) same.2
              (subst (λ more. Grown words later rows after more made.gone) same.1 made.grown);
          chain = kept_chain words later (link ∷ rest)
              (keeps words later rows after made.more made.gone (rows_in (link ∷ rest)) made.grown before.apart)
              before.chain;
          first = before.first;
          told = refl;
          counts = λ one. refl;
          altered_is = refl;
          taken_is = refl;
          marks_is = refl;
          rows_is = refl;
          few = omega arith;
          same = λ quiet. (refl, refl, refl);
        })
      where
        by : (b c : Bool) → b && not c ≡ true → (b ≡ true) × (c ≡ false)
        by true true is = absurd cc
        by true false is = (refl, refl)
        by false c is = absurd cc

    module _ (moves : keeps_mark && not made_rest.altered ≡ false) where
      -- elsewhere the mark's row is replaced
      moved_is : replaced_effect (kept change link.mark) keeps_mark E ≡ record {
        altered = true;
        left = is_some (kept change link.mark) || E.left;
        taken = E.taken + cond (is_some (kept change link.mark)) 1 0;
        marks = E.marks + cond keeps_mark 0 1;
      }
      moved_is =
          let moved : keeps_mark && not E.altered ≡ false =
          subst (λ b. keeps_mark && not b ≡ false) made.altered_is moves in
          rw moved refl

      all_is : chain_effect change (link.mark ∷ marks_in rest) ≡ record {
        altered = true;
        left = is_some (kept change link.mark) || E.left;
        taken = E.taken + cond (is_some (kept change link.mark)) 1 0;
        marks = E.marks + cond keeps_mark 0 1;
      }
      all_is = effect_is ∙ moved_is

      taken_all : (chain_effect change (link.mark ∷ marks_in rest)).taken
          ≡ E.taken + length (listed (kept change link.mark))
      taken_all = ap (λ (effect : Effect). effect.taken) all_is
          ∙ ap (λ n. E.taken + n) (by (kept change link.mark))
        where
          by : (left : Option Mark) → cond (is_some left) 1 0 ≡ length (listed left)
          by None = refl
          by (Some mark) = refl

      -- the effect on what is behind is small
      rest_small : E.marks < 2 ^ 40
      rest_small =
          let count : length (marks_in rest) ≡ length rest = length-map rest (λ link. link.mark) in
          let behind_few = few words rest before.chain.2 in
          cond_both (is_at change link.mark) (no_effect (has_any (marks_in rest)))
          (chain_effect change (marks_in rest)) (λ effect. effect.marks < 2 ^ 40)
          (λ at. omega arith)
          (λ on. omega (arith, (small change (marks_in rest)).retired))

      pub replace_before : ReplaceBefore later after row (kept change link.mark) made_rest made.new
      replace_before = record {
        chain = made.chain;
        first = made.first;
        there =
            let start : 4 * row + 0 ≡ 4 * row = omega arith in
            let here : words (4 * row) ≡ Some (first_row rest) =
            subst (λ r. words (4 * r) ≡ Some (first_row rest)) before.first before.chain.0.at.word_0 in
            let apart = subst (λ r. Apart (r ∷ rows_in rest) rows) before.first before.apart in
            let same = keeps words later rows after made.more made.gone (row ∷ rows_in rest) made.grown
            apart row 0 (times_first row (rows_in rest)) (omega arith) in
            let still : later (4 * row) ≡ words (4 * row) =
            subst (λ at. later at ≡ words at) start same in
            subst IsSome (sym (still ∙ here)) refl;
        apart = λ one.
            let apart = subst (λ r. Apart (r ∷ rows_in rest) rows) before.first before.apart in
            let all = apart_after words later rows after made.more made.gone (rows_in rest)
            (rows_in made.new) (row ∷ rows_in rest) (row ∷ []) made.grown made.counts apart
            (λ two. omega arith) one in
            omega (arith, all);
        enough = omega (arith, before.enough, taken_all, made.grown.fewer, made.taken_is);
        possible = subst (λ marks. IsConnector (listed (kept change link.mark) ++ marks)) (sym made.told)
            (subst IsConnector target_is before.possible);
        small = (
          omega (arith, made.marks_is, rest_small),
          omega (arith, made.rows_is, made.few, few words rest before.chain.2),
        );
      }

      -- and then the chain is made
      pub replaced_all : (last : ℕ → Option ℕ) (end : Rows) (result : Made)
          → Replaced later last after end row (kept change link.mark) keeps_mark made_rest made.new result
          → ChainMade words last rows end (link ∷ rest) (edited change (link.mark ∷ marks_in rest))
          (chain_effect change (link.mark ∷ marks_in rest)) result
      replaced_all last end result replaced = record {
        more = made.more ++ replaced.more;
        gone = made.gone ++ row ∷ [];
        new = replaced.new;
        grown = grown_on words later last rows after end made.more made.gone replaced.more (row ∷ [])
            made.grown replaced.grown;
        chain = replaced.chain;
        first = replaced.first;
        told = replaced.told
            ∙ ap (λ marks. listed (kept change link.mark) ++ marks) made.told
            ∙ sym target_is;
        counts = λ one.
            let is : link.row ≡ row = before.first in
            let here : times one (rows_in (link ∷ rest)) ≡ times one (row ∷ rows_in rest) =
            ap (λ r. times one (r ∷ rows_in rest)) is in
            omega (
              arith,
              here,
              made.counts one,
              replaced.counts one,
              times_append one made.more replaced.more,
              times_append one made.gone (row ∷ []),
            );
        altered_is = replaced.altered_is ∙ sym (ap (λ (effect : Effect). effect.altered) all_is);
        taken_is = omega (
          arith,
          length-append made.more replaced.more,
          made.taken_is,
          replaced.taken_is,
          taken_all,
        );
        marks_is = omega (
          arith,
          replaced.marks_is,
          made.marks_is,
          ap (λ (effect : Effect). effect.marks) all_is,
        );
        rows_is = omega (arith, replaced.rows_is, made.rows_is, length-append made.gone (row ∷ []));
        few = omega (arith, made.few, length-append made.gone (row ∷ []));
        same = λ quiet.
            absurd (false≢true (sym quiet ∙ ap (λ (effect : Effect). effect.altered) all_is));
      }
