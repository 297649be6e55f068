-- Trees whose marks stand where the digits of their objects lead: they tell the marks that they have.
use Rattle.std.proofs.Common.{◌≡◌, ◌≢◌, ◌∙◌, ℕ, ◌+◌, ◌*◌, ◌/◌, ◌%◌, ◌^◌, ◌<◌, ◌≤◌, zero, suc, Bool, true, false, List, [], ◌∷◌, ◌++◌, refl, sym, ap, arith, eq-eqb, eqb-true, append-nil, Option}
use borrow.Author.Tests.{ltb-true}
use Rattle.std.proofs.lemmas.Bool.{and_parts, cond_both, ne_eqb}
use Rattle.std.proofs.lemmas.List.Elements.{All-append, All-nil, All-weaker, filter-append}
use Rattle.std.proofs.Math.Nat.{div-div-eq-div-mul, div-one, pow-suc}
use Rattle.std.specs.Prelude.{All, filter, nat_lt, ◌&&◌, ◌==◌}
use Rattle.fan_bits.specs.declared.mark.Mark.{Mark}
use Rattle.fan_bits.specs.Marks.{on}
use Rattle.fan_lists.proofs.Filters.{filter-map, filter_all, filter_none}
use Rattle.fan_rows.specs.Rows.{times}
use Rattle.fan_rows.specs.Trees.{Branch, Chain, Link, PicturesBy, Tree, chain_at, digits, digits_at, marks_in, pick, places}

-- the marks of a tree, in the order of their digits
abbrev pub in_order : Tree → List Link
in_order (Chain links) = links
in_order (Branch row a b c d) = in_order a ++ in_order b ++ in_order c ++ in_order d

-- each mark of a tree stands where the digits of its object lead; the more significant digits make the block
abbrev pub Planted : Tree → ℕ → ℕ → Type 0
Planted (Chain links) zero block = All (λ link. link.mark.object ≡ block) links
Planted (Chain links) (suc depth) block = links ≡ []
Planted (Branch row a b c d) zero block = ⊥
Planted (Branch row a b c d) (suc depth) block =
    Planted a depth (4 * block + 0)
    × Planted b depth (4 * block + 1)
    × Planted c depth (4 * block + 2)
    × Planted d depth (4 * block + 3)

-- a link's object is within a block of a depth
abbrev IsIn : ℕ → ℕ → Link → Type 0
IsIn depth block link = link.mark.object / 4 ^ depth ≡ block

-- and so within the greater one
in_greater : (depth block digit : ℕ) → digit < 4 → (links : List Link)
    → All (IsIn depth (4 * block + digit)) links → All (IsIn (suc depth) block) links
in_greater depth block digit small links each =
    All-weaker (IsIn depth (4 * block + digit)) (IsIn (suc depth) block) (λ link is.
    let object = link.mark.object in
    let quotient : object / 4 ^ depth / 4 ≡ object / (4 ^ depth * 4) =
    div-div-eq-div-mul object (4 ^ depth) 4 in
    rw (pow-suc 4 depth, ← quotient) (omega arith)) links each

all_in : (tree : Tree) (depth block : ℕ) → Planted tree depth block → All (IsIn depth block) (in_order tree)
all_in (Chain links) zero block planted =
    All-weaker (λ (link : Link). link.mark.object ≡ block) (IsIn 0 block)
    (λ link is. div-one link.mark.object ∙ is) links planted
all_in (Chain links) (suc depth) block planted = rw planted (All-nil (IsIn (suc depth) block))
all_in (Branch row a b c d) zero block planted = absurd planted
all_in (Branch row a b c d) (suc depth) block planted =
    let P = IsIn (suc depth) block in
    let first = in_greater depth block 0 (omega arith) (in_order a) (all_in a depth _ planted.0) in
    let second = in_greater depth block 1 (omega arith) (in_order b) (all_in b depth _ planted.1) in
    let third = in_greater depth block 2 (omega arith) (in_order c) (all_in c depth _ planted.2) in
    let fourth = in_greater depth block 3 (omega arith) (in_order d) (all_in d depth _ planted.3) in
    All-append P (in_order a ++ in_order b ++ in_order c) (in_order d)
    (All-append P (in_order a ++ in_order b) (in_order c)
    (All-append P (in_order a) (in_order b) first second) third) fourth

-- nothing is marked where there are no rows
none_at : (digits : List ℕ) → chain_at (Chain []) digits ≡ []
none_at [] = refl
none_at (digit ∷ digits) = none_at digits

module _ (object : ℕ) where
  -- the links of the object
  abbrev own : List Link → List Link
  own links = filter (λ link. link.mark.object == object) links

  -- another block has none
  outside : (tree : Tree) (depth block : ℕ) → Planted tree depth block → object / 4 ^ depth ≢ block
      → own (in_order tree) ≡ []
  outside tree depth block planted differs =
      filter_none (λ (link : Link). link.mark.object == object) (in_order tree)
      (All-weaker (IsIn depth block) (λ link. (link.mark.object == object) ≡ false)
      (λ link is. ne_eqb link.mark.object object
      (λ same. differs (ap (λ n. n / 4 ^ depth) (sym same) ∙ is))) (in_order tree)
      (all_in tree depth block planted))

  own_parts : (a b c d : List Link) → own (a ++ b ++ c ++ d) ≡ own a ++ own b ++ own c ++ own d
  own_parts a b c d =
      let test : Link → Bool = λ link. link.mark.object == object in
      filter-append test (a ++ b ++ c) d
      ∙ rw (filter-append test (a ++ b) c, filter-append test a b) refl

  -- in its own block the digits lead to all of them, and another block has none
  abbrev Leads : ℕ → ℕ → Tree → Type 0
  Leads depth block tree =
      (object / 4 ^ depth ≡ block → chain_at tree (digits_at object (places depth)) ≡ own (in_order tree))
      × (object / 4 ^ depth ≢ block → own (in_order tree) ≡ [])

  -- of four blocks one is its own
  one_leads : (depth block : ℕ) (a b c d : Tree) → Leads depth (4 * block + 0) a
      → Leads depth (4 * block + 1) b → Leads depth (4 * block + 2) c → Leads depth (4 * block + 3) d
      → (digit : ℕ) → digit < 4 → object / 4 ^ depth ≡ 4 * block + digit
      → chain_at (pick digit a b c d) (digits_at object (places depth))
      ≡ own (in_order a) ++ own (in_order b) ++ own (in_order c) ++ own (in_order d)
  one_leads depth block a b c d first second third fourth zero small is =
      rw (second.1 (λ other. omega arith), third.1 (λ other. omega arith), fourth.1 (λ other. omega arith))
      (first.0 is ∙ simp append-nil)
  one_leads depth block a b c d first second third fourth (suc zero) small is =
      rw (first.1 (λ other. omega arith), third.1 (λ other. omega arith), fourth.1 (λ other. omega arith))
      (second.0 is ∙ simp append-nil)
  one_leads depth block a b c d first second third fourth (suc (suc zero)) small is =
      rw (first.1 (λ other. omega arith), second.1 (λ other. omega arith), fourth.1 (λ other. omega arith))
      (third.0 is ∙ simp append-nil)
  one_leads depth block a b c d first second third fourth (suc (suc (suc zero))) small is =
      rw (first.1 (λ other. omega arith), second.1 (λ other. omega arith), third.1 (λ other. omega arith))
      (fourth.0 is)
  one_leads depth block a b c d first second third fourth (suc (suc (suc (suc digit)))) small is =
      absurd (omega arith)

  tells : (tree : Tree) (depth block : ℕ) → Planted tree depth block → object / 4 ^ depth ≡ block
      → chain_at tree (digits_at object (places depth)) ≡ own (in_order tree)
  tells (Chain links) zero block planted within =
      sym (filter_all (λ (link : Link). link.mark.object == object) links
      (All-weaker (λ (link : Link). link.mark.object ≡ block) (λ link. (link.mark.object == object) ≡ true)
      (λ link is. eq-eqb link.mark.object object (is ∙ sym within ∙ div-one object)) links planted))
  tells (Chain links) (suc depth) block planted within =
      rw planted (none_at (digits_at object (places depth)))
  tells (Branch row a b c d) zero block planted within = absurd planted
  tells (Branch row a b c d) (suc depth) block planted within =
      let quotient : object / 4 ^ depth / 4 ≡ object / (4 ^ depth * 4) =
      div-div-eq-div-mul object (4 ^ depth) 4 in
      let block_is : object / 4 ^ depth / 4 ≡ block = quotient ∙ rw (← pow-suc 4 depth) within in
      one_leads depth block a b c d
      (tells a depth (4 * block + 0) planted.0, outside a depth (4 * block + 0) planted.0)
      (tells b depth (4 * block + 1) planted.1, outside b depth (4 * block + 1) planted.1)
      (tells c depth (4 * block + 2) planted.2, outside c depth (4 * block + 2) planted.2)
      (tells d depth (4 * block + 3) planted.3, outside d depth (4 * block + 3) planted.3)
      (object / 4 ^ depth % 4) (omega arith) (omega arith)
      ∙ sym (own_parts (in_order a) (in_order b) (in_order c) (in_order d))

-- so such a tree tells, of each object, its marks among all
pub planted_tells : (tree : Tree) → Planted tree 8 0 → (object : ℕ) → object < 2 ^ 16
    → marks_in (chain_at tree (digits object)) ≡ on object (marks_in (in_order tree))
unfolding digits
planted_tells tree planted object small =
    ap marks_in (tells object tree 8 0 planted (omega arith))
    ∙ sym (filter-map (λ (mark : Mark). mark.object == object) (λ (link : Link). link.mark) (in_order tree))

-- rows that rise stand in their list once
abbrev pub ascends : ℕ → List ℕ → Bool
ascends low [] = true
ascends low (row ∷ rows) = nat_lt low row && ascends row rows

none_before : (row low : ℕ) (rows : List ℕ) → ascends low rows ≡ true → row ≤ low → times row rows ≡ 0
none_before row low [] rises before = refl
none_before row low (other ∷ rows) rises before =
    let parts = and_parts (nat_lt low other) (ascends other rows) rises in
    let above : low < other = ltb-true low other parts.0 in
    let later = none_before row other rows parts.1 (omega arith) in
    rw (ne_eqb other row (λ same. omega arith)) (omega (arith, later))

pub rises_once : (row low : ℕ) (rows : List ℕ) → ascends low rows ≡ true → times row rows ≤ 1
rises_once row low [] rises = omega arith
rises_once row low (other ∷ rows) rises =
    let parts = and_parts (nat_lt low other) (ascends other rows) rises in
    cond_both (other == row) 1 0 (λ here. here + times row rows ≤ 1)
    (λ same. let is : other ≡ row = eqb-true other row same in
    omega (arith, none_before row other rows parts.1 (omega arith)))
    (λ differs. omega (arith, rises_once row other rows parts.1))

-- from root 0 no marks are pictured
pub nothing : (words : ℕ → Option ℕ) → PicturesBy words 0 (Chain []) []
nothing words = record {
  root_is = refl;
  lies = refl;
  once = λ row. omega arith;
  told = λ object small. ap marks_in (none_at (digits object));
}
