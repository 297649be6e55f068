-- Walks that go on where others stood find the marks that walks from the first one find.
use Rattle.std.proofs.Common.{◌≡◌, ◌≢◌, ◌∙◌, ℕ, ◌*◌, ◌/◌, ◌%◌, ◌^◌, ◌<◌, ◌≤◌, zero, suc, Bool, true, false, List, [], ◌∷◌, ◌++◌, Option, Some, None, find, length, append_assoc, refl, sym, ap, subst, arith, slice_get}
use Rattle.std.proofs.lemmas.Bool.Decides.{nat_tests}
use Rattle.std.proofs.lemmas.List.Elements.{All-append, All-cons, All-head, All-nil, All-set, All-tail, All-weaker}
use Rattle.std.proofs.Math.ListN.{set}
use Rattle.std.specs.Bool.{then_some}
use Rattle.std.specs.Prelude.{All, IfSome, nat_lt, not, ◌==◌, ◌&&◌}
use Rattle.fan_bits.specs.declared.mark.Mark.{Mark}
use Rattle.fan_bits.specs.Marks.{next_on, on, order_of}
use Rattle.fan_rows.specs.Rows.{MarkAt}
use Rattle.fan_rows.specs.Trees.{Branch, Chain, IsChain, Lies, Link, Pictures, Tree, chain_at, child, digits, digits_at, first_row, marks_in, places, top}
use Rattle.fan_rows.proofs.TreeLemmas.{one_tree}
use Rattle.fan_rows.proofs.Walks.{Along, is_after}
use Rattle.fan_build.proofs.Trees.{lies_child}
use Rattle.fan_grace.specs.declared.hints.Hint.{Hint}
use Rattle.fan_grace.specs.Hints.{IsHint, IsStart, StandsAt}
use Rattle.fan_grace.specs.Stored.{Extends}
use Rattle.fan_grace.proofs.Frames.{tree_stays}
use Rattle.fan_grace.proofs.Empty.{none_at}

-- ---- chains

-- the chain of an object lies where its tree lies
chain_below : (words : ℕ → Option ℕ) (object depth : ℕ) (tree : Tree) → Lies words tree depth
    → IsChain words (chain_at tree (digits_at object (places depth)))
chain_below words object zero (Chain links) lies = lies
chain_below words object zero (Branch row a b c d) lies = absurd lies
chain_below words object (suc depth) tree lies =
    let digit = object / 4 ^ depth % 4 in
    chain_below words object depth (child tree digit) (lies_child words depth digit tree lies)

pub chain_lies : (words : ℕ → Option ℕ) (object : ℕ) (tree : Tree) → Lies words tree 8
    → IsChain words (chain_at tree (digits object))
unfolding digits
chain_lies words object tree lies = chain_below words object 8 tree lies

-- a part of it up to the end lies too
chain_rest : (words : ℕ → Option ℕ) (before rest : List Link) → IsChain words (before ++ rest)
    → IsChain words rest
chain_rest words [] rest chain = chain
chain_rest words (link ∷ before) rest chain = chain_rest words before rest chain.2

-- no mark up to an order is found behind it
find_past : (after : ℕ) (before rest : List Link) → All (λ link. order_of link.mark ≤ after) before
    → find (is_after after) (marks_in (before ++ rest)) ≡ find (is_after after) (marks_in rest)
find_past after [] rest passed = refl
find_past after (link ∷ before) rest passed =
    let low = All-head (λ (of : Link). order_of of.mark ≤ after) link before passed in
    let test : is_after after link.mark ≡ false = grind (arith, nat_tests) in
    rw test (find_past after before rest (All-tail (λ (of : Link). order_of of.mark ≤ after) link before passed))

-- ---- where walks stand

-- a walk stands at the first row before it begins
pub stands_first : (links : List Link) (low row : ℕ) → first_row links ≡ row → StandsAt links low row
stands_first links low row is = record {
  before = [];
  rest = links;
  whole = refl;
  passed = All-nil (λ (link : Link). order_of link.mark ≤ low);
  row_is = is;
}

-- behind a greater order it stands there too
pub stands_behind : (links : List Link) (low after row : ℕ) → low ≤ after → StandsAt links low row
    → StandsAt links after row
stands_behind links low after row more at = record {
  before = at.before;
  rest = at.rest;
  whole = at.whole;
  passed = All-weaker (λ (link : Link). order_of link.mark ≤ low) (λ link. order_of link.mark ≤ after)
      (λ link small. omega arith) at.before at.passed;
  row_is = at.row_is;
}

-- one that goes on from there stands in the whole chain where it stands in the rest
pub stands_on : (links : List Link) (after row next : ℕ) → (at : StandsAt links after row)
    → StandsAt at.rest after next → StandsAt links after next
stands_on links after row next at later = record {
  before = at.before ++ later.before;
  rest = later.rest;
  whole = at.whole ∙ ap (λ rest. at.before ++ rest) later.whole
      ∙ sym (append_assoc at.before later.before later.rest);
  passed = All-append (λ (link : Link). order_of link.mark ≤ after) at.before later.before at.passed
      later.passed;
  row_is = later.row_is;
}

-- the rest of a chain lies
pub rest_lies : (words : ℕ → Option ℕ) (links : List Link) (low row : ℕ) → IsChain words links
    → (at : StandsAt links low row) → IsChain words at.rest
rest_lies words links low row chain at =
    chain_rest words at.before at.rest (subst (IsChain words) at.whole chain)

-- what it passed isn't found
passed : (links : List Link) (after row : ℕ) → (at : StandsAt links after row)
    → find (is_after after) (marks_in links) ≡ find (is_after after) (marks_in at.rest)
passed links after row at =
    ap (λ all. find (is_after after) (marks_in all)) at.whole ∙ find_past after at.before at.rest at.passed

-- along a chain on which a walk stands
pub along : (words : ℕ → Option ℕ) (links : List Link) (after row : ℕ) → IsChain words links
    → StandsAt links after row → Along words row after links
along words links after row chain at = record {
  rest = at.rest;
  chain = rest_lies words links after row chain at;
  first = at.row_is;
  passed = passed links after row at;
}

-- a row that isn't 0, at which a chain begins, is that of a mark
pub mark_there : (words : ℕ → Option ℕ) (row : ℕ) (rest : List Link) → IsChain words rest
    → first_row rest ≡ row → row ≢ 0 → (next : ℕ) × (mark : Mark) × MarkAt words row next mark
mark_there words row [] chain is some = absurd (some (sym is))
mark_there words row (link ∷ rest) chain is some =
    (first_row rest, link.mark, subst (λ r. MarkAt words r (first_row rest) link.mark) is chain.0)

pub mark_on : (words : ℕ → Option ℕ) (links : List Link) (after row : ℕ) → IsChain words links
    → StandsAt links after row → row ≢ 0 → (next : ℕ) × (mark : Mark) × MarkAt words row next mark
mark_on words links after row chain at some =
    mark_there words row at.rest (rest_lies words links after row chain at) at.row_is some

-- where its mark has no greater order, a walk stands behind it
stands_next : (words : ℕ → Option ℕ) (after row : ℕ) (rest : List Link) → IsChain words rest
    → first_row rest ≡ row → row ≢ 0 → (mark : Mark)
    → ((next : ℕ) (one : Mark) → MarkAt words row next one → mark ≡ one) → order_of mark ≤ after → (next : ℕ)
    → words (4 * row) ≡ Some next → StandsAt rest after next
stands_next words after row [] chain is some mark one low next word = absurd (some (sym is))
stands_next words after row (link ∷ rest) chain is some mark one low next word =
    let at : MarkAt words row (first_row rest) link.mark =
    subst (λ r. MarkAt words r (first_row rest) link.mark) is chain.0 in
    let same : Some (first_row rest) ≡ Some next = sym at.at.word_0 ∙ word in
    record {
      before = link ∷ [];
      rest = rest;
      whole = refl;
      passed = All-cons (λ (of : Link). order_of of.mark ≤ after) link []
          (subst (λ m. order_of m ≤ after) (one (first_row rest) link.mark at) low)
          (All-nil (λ (of : Link). order_of of.mark ≤ after));
      row_is = cc;
    }

pub stands_more : (words : ℕ → Option ℕ) (links : List Link) (after row : ℕ) → IsChain words links
    → StandsAt links after row → row ≢ 0 → (mark : Mark)
    → ((next : ℕ) (one : Mark) → MarkAt words row next one → mark ≡ one) → order_of mark ≤ after → (next : ℕ)
    → words (4 * row) ≡ Some next → StandsAt links after next
stands_more words links after row chain at some mark one low next word =
    stands_on links after row next at
    (stands_next words after row at.rest (rest_lies words links after row chain at) at.row_is some mark one low
    next word)

-- ---- starts

-- a walk can begin at the first row
pub start_first : (words : ℕ → Option ℕ) (root object after row : ℕ) (tree : Tree) → Lies words tree 8
    → top tree ≡ root → first_row (chain_at tree (digits object)) ≡ row → IsStart words root object after row
start_first words root object after row tree lies is first =
    (tree, lies, is, stands_first (chain_at tree (digits object)) after row first)

-- or where a hint says
pub start_hinted : (words : ℕ → Option ℕ) (hint : Hint) (root object after : ℕ) → IsHint words hint
    → hint.root ≡ root → hint.object ≡ object → hint.low.0 ≤ after → IsStart words root object after hint.row
start_hinted words hint root object after is at_root on_object low = (
  is.tree,
  is.lies,
  is.root_is ∙ at_root,
  subst (λ o. StandsAt (chain_at is.tree (digits o)) after hint.row) on_object
      (stands_behind (chain_at is.tree (digits hint.object)) hint.low.0 after hint.row low is.stands),
)

-- from a start to where the walk stands
pub start_on : (words : ℕ → Option ℕ) (root object after row next : ℕ)
    → (start : IsStart words root object after row) → StandsAt start.3.rest after next
    → IsStart words root object after next
start_on words root object after row next start at = (
  start.0,
  start.1,
  start.2,
  stands_on (chain_at start.0 (digits object)) after row next start.3 at,
)

-- what lies there
pub start_lies : (words : ℕ → Option ℕ) (root object after row : ℕ)
    → (start : IsStart words root object after row) → IsChain words start.3.rest
start_lies words root object after row start =
    rest_lies words (chain_at start.0 (digits object)) after row (chain_lies words object start.0 start.1) start.3

-- the hint that keeps it
pub start_kept : (words : ℕ → Option ℕ) (hint : Hint)
    → IsStart words hint.root hint.object hint.low.0 hint.row → IsHint words hint
start_kept words hint start =
    record { tree = start.0; lies = start.1; root_is = start.2; stands = start.3 }

-- what is found from there
next_rest : (words : ℕ → Option ℕ) (root object after row : ℕ) (marks : List Mark) → object < 2 ^ 16
    → Pictures words root marks → (start : IsStart words root object after row)
    → next_on marks object after ≡ find (is_after after) (marks_in start.3.rest)
next_rest words root object after row marks small (tree, by) start =
    let one : tree ≡ start.0 = one_tree words tree start.0 8 by.lies start.1 (by.root_is ∙ sym start.2) in
    ap (find (is_after after)) (sym (by.told object small))
    ∙ ap (λ t. find (is_after after) (marks_in (chain_at t (digits object)))) one
    ∙ passed (chain_at start.0 (digits object)) after row start.3

-- nothing at row 0
none_from : (words : ℕ → Option ℕ) (after : ℕ) (rest : List Link) → IsChain words rest → first_row rest ≡ 0
    → find (is_after after) (marks_in rest) ≡ None
none_from words after [] chain is = refl
none_from words after (link ∷ rest) chain is = let above = chain.0.at.above in absurd (omega arith)

pub next_none : (words : ℕ → Option ℕ) (root object after row : ℕ) (marks : List Mark) → object < 2 ^ 16
    → Pictures words root marks → IsStart words root object after row → row ≡ 0
    → None ≡ next_on marks object after
next_none words root object after row marks small pictured start none =
    sym (next_rest words root object after row marks small pictured start
    ∙ none_from words after start.3.rest (start_lies words root object after row start) (start.3.row_is ∙ none))

-- and elsewhere the mark of the row, if its order is greater
some_from : (words : ℕ → Option ℕ) (after row : ℕ) (rest : List Link) → IsChain words rest
    → first_row rest ≡ row → row ≢ 0 → (mark : Mark)
    → ((next : ℕ) (one : Mark) → MarkAt words row next one → mark ≡ one)
    → ((next : ℕ) (one : Mark) → MarkAt words row next one → after < order_of one)
    → find (is_after after) (marks_in rest) ≡ Some mark
some_from words after row [] chain is some mark one above = absurd (some (sym is))
some_from words after row (link ∷ rest) chain is some mark one above =
    let at : MarkAt words row (first_row rest) link.mark =
    subst (λ r. MarkAt words r (first_row rest) link.mark) is chain.0 in
    let high : after < order_of link.mark = above (first_row rest) link.mark at in
    let test : is_after after link.mark ≡ true = grind (arith, nat_tests) in
    rw test (ap (λ m. Some m) (sym (one (first_row rest) link.mark at)))

pub next_some : (words : ℕ → Option ℕ) (root object after row : ℕ) (marks : List Mark) → object < 2 ^ 16
    → Pictures words root marks → IsStart words root object after row → row ≢ 0 → (mark : Mark)
    → ((next : ℕ) (one : Mark) → MarkAt words row next one → mark ≡ one)
    → ((next : ℕ) (one : Mark) → MarkAt words row next one → after < order_of one)
    → Some mark ≡ next_on marks object after
next_some words root object after row marks small pictured start some mark one above =
    sym (next_rest words root object after row marks small pictured start
    ∙ some_from words after row start.3.rest (start_lies words root object after row start) start.3.row_is some
    mark one above)

-- from where a walk began, it came to where it stands, by words that are those of the table
pub walked : (words cells : List ℕ) (root object after first row : ℕ) → cells ≡ words
    → IsStart (slice_get words) root object after first
    → ((links : List Link) → IsChain (slice_get cells) links → first_row links ≡ first
    → StandsAt links after row)
    → IsStart (slice_get words) root object after row
walked words cells root object after first row same start stands =
    let chain = subst (λ all. IsChain (slice_get all) start.3.rest) (sym same)
    (start_lies (slice_get words) root object after first start) in
    start_on (slice_get words) root object after first row start (stands start.3.rest chain start.3.row_is)

-- ---- hints

-- what a hint says that fits
pub hint_fits : (words : ℕ → Option ℕ) (hint : Hint) (root object after : ℕ) → IsHint words hint
    → IfSome (then_some (hint.root == root && hint.object == object && not (nat_lt after hint.low.0)) hint.row)
    (λ row. IsStart words root object after row)
hint_fits words hint root object after is = by _ refl
  where
    by : (b : Bool) → (hint.root == root && hint.object == object && not (nat_lt after hint.low.0)) ≡ b
        → IfSome (then_some b hint.row) (λ row. IsStart words root object after row)
    by true fits =
        let same_root : hint.root ≡ root = grind (arith, nat_tests) in
        let same_object : hint.object ≡ object = grind (arith, nat_tests) in
        let low : hint.low.0 ≤ after = grind (arith, nat_tests) in
        start_hinted words hint root object after is same_root same_object low
    by false fits = tt

-- a hint is put in the place of another
pub hint_kept : (words : ℕ → Option ℕ) (hints : List Hint) (place : ℕ) (hint : Hint)
    → All (IsHint words) hints → IsStart words hint.root hint.object hint.low.0 hint.row
    → All (IsHint words) (set hints place hint)
hint_kept words hints place hint all start =
    All-set (IsHint words) hints place hint (start_kept words hint start) all

-- the hint of no walk
pub no_walk : (words : ℕ → Option ℕ) → IsHint words (record { root = 0; object = 0; low = record { 0 = 0 }; row = 0 })
no_walk words = record {
  tree = Chain [];
  lies = refl;
  root_is = refl;
  stands = stands_first (chain_at (Chain []) (digits 0)) 0 0 (ap first_row (none_at (digits 0)));
}

-- hints stay true where words go on
pub hints_stay : (words later : List ℕ) (count : ℕ) (hints : List Hint) → length words ≡ 4 * count
    → Extends words later → All (IsHint (slice_get words)) hints → All (IsHint (slice_get later)) hints
hints_stay words later count hints whole on =
    All-weaker (IsHint (slice_get words)) (IsHint (slice_get later)) (λ hint is. record {
      tree = is.tree;
      lies = tree_stays words later count whole on is.tree 8 is.lies;
      root_is = is.root_is;
      stands = is.stands;
    }) hints
