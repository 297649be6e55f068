-- The summary of a change: which marks are retired, and whether the list is another one.
use Rattle.std.proofs.Common.{◌≡◌, ◌≢◌, ◌∙◌, ℕ, Bool, true, false, List, get_or, length, refl, ap, sym, arith}
use Rattle.std.specs.Prelude.{All, count_by, filter, nat_lt, not}
use Rattle.std.specs.Bool.{beq}
use Rattle.std.specs.List.{Contains, list_any}
use Rattle.std.proofs.lemmas.Bool.Decides.{nat_tests}
use Rattle.std.proofs.lemmas.List.Elements.{All-weaker}
use Rattle.std.proofs.lemmas.List.Folds.{list_any_at, list_any_none}
use Rattle.std.proofs.lemmas.List.Sums.{length-filter}
use Rattle.fan_lists.proofs.Counts.{count_from_none}
use Rattle.fan_lists.proofs.Filters.{filter_agree_on}
use Rattle.fan_lists.proofs.Finds.{find_none}
use Rattle.fan_bits.specs.declared.change.Change.{Change}
use Rattle.fan_bits.specs.declared.class.Class.{Class}
use Rattle.fan_bits.specs.declared.class.Class.TheVariants.{PreContent, Content, Notif}
use Rattle.fan_bits.specs.declared.kind.Kind.{Kind}
use Rattle.fan_bits.specs.declared.mark.Mark.{Mark}
use Rattle.fan_bits.specs.Marks.{changed, gone, retired, same_mark}
use Rattle.fan_bits.specs.Words.{rank_of}
use Rattle.fan_marks.specs.Summary.{IsMade, summary_of}
use Rattle.fan_marks.proofs.Orders.{kind_exact, kind_number, same_kind_is}

class_exact : (class other : Class) → rank_of class ≡ rank_of other → class ≡ other
class_exact PreContent PreContent is = refl
class_exact Content Content is = refl
class_exact Notif Notif is = refl
class_exact PreContent Content is = absurd (omega arith)
class_exact PreContent Notif is = absurd (omega arith)
class_exact Content PreContent is = absurd (omega arith)
class_exact Content Notif is = absurd (omega arith)
class_exact Notif PreContent is = absurd (omega arith)
class_exact Notif Content is = absurd (omega arith)

flag_exact : (flag other : Bool) → beq flag other ≡ true → flag ≡ other
flag_exact true true is = refl
flag_exact false false is = refl
flag_exact true false is = absurd cc
flag_exact false true is = absurd cc

flag_itself : (flag : Bool) → beq flag flag ≡ true
flag_itself true = refl
flag_itself false = refl

same_fields : (g h o p m n i j : ℕ) (c d : Class) (k l : Kind) (s t : Bool)
    → g ≡ h → c ≡ d → o ≡ p → k ≡ l → m ≡ n → i ≡ j → s ≡ t
    → ◌≡◌ {A = Mark}
    (record { group = g; class = c; object = o; kind = k; mask = m; ignored = i; survives = s })
    (record { group = h; class = d; object = p; kind = l; mask = n; ignored = j; survives = t })
same_fields g h o p m n i j c d k l s t group class object kind mask ignored survives = cc

-- a mark is the same as itself
pub same_mark_itself : (mark : Mark) → same_mark mark mark ≡ true
unfolding same_mark
same_mark_itself mark = rw (same_kind_is mark.kind mark.kind, flag_itself mark.survives) (grind
    (arith, nat_tests))

-- marks that are the same are one
pub same_mark_exact : (mark other : Mark) → same_mark mark other ≡ true → mark ≡ other
unfolding same_mark
same_mark_exact mark other is =
    let numbers = rw (same_kind_is mark.kind other.kind) at is in
    let group : mark.group ≡ other.group = grind (arith, nat_tests, numbers) in
    let rank : rank_of mark.class ≡ rank_of other.class = grind (arith, nat_tests, numbers) in
    let object : mark.object ≡ other.object = grind (arith, nat_tests, numbers) in
    let kind : kind_number mark.kind ≡ kind_number other.kind = grind (arith, nat_tests, numbers) in
    let mask : mark.mask ≡ other.mask = grind (arith, nat_tests, numbers) in
    let ignored : mark.ignored ≡ other.ignored = grind (arith, nat_tests, numbers) in
    let flag : beq mark.survives other.survives ≡ true = grind (arith, nat_tests, numbers) in
    same_fields _ _ _ _ _ _ _ _ _ _ _ _ _ _ group (class_exact _ _ rank) object
    (kind_exact _ _ kind) mask ignored
    (flag_exact _ _ flag)

-- what a list has is in it by that test
pub any_same : (mark : Mark) (marks : List Mark) → Contains marks mark
    → list_any (same_mark mark) marks ≡ true
any_same mark marks (at, within, is) =
    list_any_at (same_mark mark) marks at mark within (ap (same_mark mark) is ∙ same_mark_itself mark)

module _ (p : Mark → Bool) (old new : List Mark) (dropped : All (λ mark. p mark ≡ false) new)
    (kept : All (λ mark. p mark ≡ false → Contains new mark) old) where
  -- a mark that passes is not in the new list
  not_there : (mark : Mark) → p mark ≡ true → list_any (same_mark mark) new ≡ false
  not_there mark passes =
      list_any_none (same_mark mark) new
      (All-weaker (λ other. p other ≡ false) (λ other. same_mark mark other ≡ false) (λ other fails.
      apart other fails (same_mark mark other) refl) new dropped)
    where
      apart : (other : Mark) → p other ≡ false → (b : Bool) → same_mark mark other ≡ b
          → same_mark mark other ≡ false
      apart other fails false is = is
      apart other fails true is =
          absurd (let two = sym fails ∙ ap p (sym (same_mark_exact mark other is)) ∙ passes in cc)

  is_gone : (mark : Mark) → (p mark ≡ false → Contains new mark) → (b : Bool) → p mark ≡ b
      → not (list_any (same_mark mark) new) ≡ b
  is_gone mark stays true passes = ap not (not_there mark passes)
  is_gone mark stays false fails = ap not (any_same mark new (stays fails))

  -- the marks that are gone are those that pass
  pub gone_is : gone old new ≡ filter p old
  gone_is =
      filter_agree_on (λ mark. not (list_any (same_mark mark) new)) p old
      (λ k d within. is_gone (get_or old k d) (kept k d within) (p (get_or old k d)) refl)

  -- the summary of a change that takes away, or changes, just those
  pub is_made : (change : Change) (count : ℕ) → new ≡ changed old change → count ≡ count_by p old
      → (count_by p old ≡ 0 → new ≡ old) → IsMade old new change (summary_of count)
  unfolding retired
  is_made change count made counts same = record {
    made = made;
    differs = (
      λ some is.
          let none = count_from_none p new (find_none p new dropped) in
          let all : count_by p new ≡ count_by p old = ap (count_by p) (made ∙ is) in
          absurd (grind (arith, nat_tests, some, counts, none, all)),
      λ differs. by (nat_lt 0 count) refl differs,
    );
    gone = counts ∙ sym (length-filter p old) ∙ ap length (sym (ap (gone old) (sym made) ∙ gone_is));
  }
    where
      by : (b : Bool) → nat_lt 0 count ≡ b → changed old change ≢ old → nat_lt 0 count ≡ true
      by true some differs = some
      by false none differs =
          let zero : count_by p old ≡ 0 = grind (arith, nat_tests, none, counts) in
          absurd (differs (sym made ∙ same zero))
