-- A change that is made on one object after the other, and rows that are cut back where that fails.
use Rattle.std.proofs.Common.{◌≡◌, ◌∙◌, ℕ, ◌+◌, ◌*◌, ◌<◌, ◌≤◌, ◌^◌, suc, List, [], ◌∷◌, ◌++◌, length, refl, sym, ap, subst, arith, append-nil, append_assoc, slice_get, take}
use Rattle.fan_bits.specs.declared.change.Change.{Change}
use Rattle.fan_bits.specs.declared.mark.Mark.{Mark}
use Rattle.fan_bits.specs.Marks.{IsMarkList, changed, gone, retired}
use Rattle.fan_rows.specs.Trees.{Pictures, Tree}
use Rattle.fan_rows.proofs.SameLists.{one_list}
use Rattle.fan_build.specs.Objects.{changed_on, changed_on_all}
use Rattle.fan_build.proofs.FewRetired.{few_retired}
use Rattle.fan_build.proofs.Objects.{all_objects}
use Rattle.fan_grace.specs.declared.made.Made.{Made}
use Rattle.fan_grace.specs.Dropping.{IsDrop}
use Rattle.fan_grace.specs.Stored.{CanMake, CanMakeEach, Extends, IsGrown, IsKeptBy, IsMade, StoredState, cut}
use Rattle.fan_grace.proofs.Dropping.{drop_all_fewer, drop_can, drop_counts, drop_no_put, drop_on_counts, drop_on_same}
use Rattle.fan_grace.proofs.Frames.{still_pictures}

-- ---- rows that only grew

extends_on : (words later last : List ℕ) → length words ≤ length later → Extends words later
    → Extends later last → Extends words last
extends_on words later last long first second place small = second place (omega arith) ∙ first place small

pub grown_itself : (stored : StoredState) → IsGrown stored stored
grown_itself stored = record {
  longer = omega arith;
  extends = λ place small. refl;
  more = [];
  retired = sym (append-nil stored.retired);
}

pub grown_on : (old mid new : StoredState) → IsGrown old mid → IsGrown mid new → IsGrown old new
grown_on old mid new first second = record {
  longer = omega (arith, first.longer, second.longer);
  extends = extends_on old.words mid.words new.words first.longer first.extends second.extends;
  more = first.more ++ second.more;
  retired = second.retired ∙ ap (λ rows. rows ++ second.more) first.retired
      ∙ append_assoc old.retired first.more second.more;
}

-- ---- rows that are cut back

take_words : (words later : List ℕ) → length words ≤ length later → Extends words later
    → take (length words) later ≡ words
take_words [] later long same = refl
take_words (word ∷ words) [] long same = absurd (omega arith)
take_words (word ∷ words) (other ∷ later) long same =
    let first : other ≡ word = let at = same 0 (omega arith) in cc in
    rw (first, take_words words later (omega arith) (λ place small. same (suc place) (omega arith))) refl

take_rows : (rows more : List ℕ) → take (length rows) (rows ++ more) ≡ rows
take_rows [] more = refl
take_rows (row ∷ rows) more = ap (λ rest. row ∷ rest) (take_rows rows more)

same_state : (words others retired rest : List ℕ) (next : ℕ) → words ≡ others → retired ≡ rest
    → ◌≡◌ {A = StoredState} (record { words = words; next = next; retired = retired })
    (record { words = others; next = next; retired = rest })
same_state words others retired rest next same again = cc

-- rows that only grew are cut back to what they were
pub cut_is : (old new : StoredState) → length old.words ≡ 4 * old.next → IsGrown old new
    → cut new old.next (length old.retired) ≡ old
cut_is old new full grown =
    same_state (take (4 * old.next) new.words) old.words (take (length old.retired) new.retired) old.retired old.next
    (subst (λ count. take count new.words ≡ old.words) full
    (take_words old.words new.words grown.longer grown.extends))
    (subst (λ rows. take (length old.retired) rows ≡ old.retired) (sym grown.retired)
    (take_rows old.retired grown.more))

-- ---- one object after the other

-- the change is made on some objects, and on those that are left it is still to be made
pub record Progress (old mid : StoredState) (root : ℕ) (marks : List Mark) (change : Change) (left : List ℕ)
    (made : Made) : Type 0 where
  pub now : List Mark
  pub tree : Tree
  pub kept : IsKeptBy mid made.root now tree
  pub grown : IsGrown old mid
  pub rest : changed_on_all now change left ≡ changed marks change
  pub count : made.marks + length now ≡ length marks
  pub same : changed marks change ≡ marks → (made.root ≡ root) × (now ≡ marks)

pub progress_first : (old : StoredState) (root : ℕ) (marks : List Mark) (tree : Tree) (change : Change)
    (objects : List ℕ) → CanMakeEach old root marks tree change objects
    → Progress old old root marks change objects (record { root = root; marks = 0 })
progress_first old root marks tree change objects is = record {
  now = marks;
  tree = tree;
  kept = is.can.kept;
  grown = grown_itself old;
  rest = all_objects marks change is.can.kept.list (drop_no_put change is.drops) objects is.there;
  count = omega arith;
  same = λ unchanged. (refl, refl);
}

module _ (old mid : StoredState) (root : ℕ) (marks : List Mark) (change : Change) (left : List ℕ) (made : Made)
    (drops : IsDrop change) where
  -- on the next object it can be made
  pub progress_can : (is : Progress old mid root marks change left made)
      → CanMake mid made.root is.now is.tree change
  progress_can is = record { kept = is.kept; allowed = drop_can is.now change drops }

  module _ (object : ℕ) (is : Progress old mid root marks change (object ∷ left) made) (new : StoredState)
      (next : Made) (list : IsMarkList marks)
      (more : IsMade mid new made.root is.now (changed_on is.now change object) next) where
    next_count : next.marks + length (changed_on is.now change object) ≡ length is.now
    next_count = rw (more.gone_are) (drop_on_counts is.now change object is.kept.list drops)

    few_gone : length (gone marks (changed marks change)) < 2 ^ 32
    unfolding retired
    few_gone = few_retired marks change list

    -- fewer marks are gone than there are numbers of groups
    pub progress_fits : made.marks + next.marks < 2 ^ 32
    progress_fits =
        let fewer : length (changed marks change) ≤ length (changed_on is.now change object) =
        subst (λ l. length l ≤ length (changed_on is.now change object)) is.rest
        (drop_all_fewer left (changed_on is.now change object) change more.kept.list drops) in
        let few : length (gone marks (changed marks change)) < 2 ^ 32 = few_gone in
        omega (arith, fewer, next_count, is.count, drop_counts marks change drops)

    pub progress_more : Progress old new root marks change left
        (record { root = next.root; marks = made.marks + next.marks })
    progress_more = record {
      now = changed_on is.now change object;
      tree = more.tree;
      kept = more.kept;
      grown = grown_on old mid new is.grown more.grown;
      rest = is.rest;
      count = omega (arith, next_count, is.count);
      same = λ unchanged.
          let before = is.same unchanged in
          let still : changed_on is.now change object ≡ is.now =
          drop_on_same is.now change object is.kept.list drops
          (subst (λ l. changed l change ≡ l) (sym before.1) unchanged) in
          (more.same still ∙ before.0, still ∙ before.1);
    }

-- where none is left, it is made
pub progress_made : (old new : StoredState) (root : ℕ) (marks : List Mark) (tree : Tree) (change : Change)
    (objects : List ℕ) (made : Made) → CanMakeEach old root marks tree change objects
    → Progress old new root marks change [] made → IsMade old new root marks (changed marks change) made
progress_made old new root marks tree change objects made can is = record {
  tree = is.tree;
  kept = subst (λ all. IsKeptBy new made.root all is.tree) is.rest is.kept;
  grown = is.grown;
  same = λ unchanged. (is.same unchanged).0;
  differs = λ root_is. sym is.rest
      ∙ one_list (slice_get new.words) root is.now marks
      (subst (λ r. Pictures (slice_get new.words) r is.now) root_is (is.tree, is.kept.pictured))
      (still_pictures old.words new.words old.next can.can.kept.full is.grown.extends root marks
      (tree, can.can.kept.pictured))
      is.kept.list can.can.kept.list;
  gone_are =
      let now : length is.now ≡ length (changed marks change) = ap length is.rest in
      omega (arith, drop_counts marks change can.drops, is.count);
}
