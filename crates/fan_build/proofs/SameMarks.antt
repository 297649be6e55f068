-- Marks that are the same, field by field, are one.
use Rattle.std.proofs.Common.{◌≡◌, ℕ, Bool, true, false, Option, Some, None, refl, ap, arith}
use Rattle.std.specs.Bool.{beq}
use Rattle.std.proofs.lemmas.Bool.Decides.{nat_tests}
use Rattle.fan_bits.specs.declared.class.Class.{Class}
use Rattle.fan_bits.specs.declared.kind.Kind.{Kind}
use Rattle.fan_bits.specs.declared.kind.Kind.TheVariants.{Inode, Mount, Filesystem}
use Rattle.fan_bits.specs.declared.mark.Mark.{Mark}
use Rattle.fan_bits.specs.Marks.{same_kind, same_mark}
use Rattle.fan_bits.specs.Words.{rank_of}
use Rattle.fan_rows.proofs.Codes.{one_class}
use Rattle.fan_build.specs.Edits.{stays}

kind_exact : (kind other : Kind) → same_kind kind other ≡ true → kind ≡ other
kind_exact Inode Inode is = refl
kind_exact Mount Mount is = refl
kind_exact Filesystem Filesystem is = refl
kind_exact Inode Mount is = absurd cc
kind_exact Inode Filesystem is = absurd cc
kind_exact Mount Inode is = absurd cc
kind_exact Mount Filesystem is = absurd cc
kind_exact Filesystem Inode is = absurd cc
kind_exact Filesystem Mount is = absurd cc

kind_itself : (kind : Kind) → same_kind kind kind ≡ true
kind_itself Inode = refl
kind_itself Mount = refl
kind_itself Filesystem = refl

flag_exact : (flag other : Bool) → beq flag other ≡ true → flag ≡ other
flag_exact true true is = refl
flag_exact false false is = refl
flag_exact true false is = absurd cc
flag_exact false true is = absurd cc

flag_itself : (flag : Bool) → beq flag flag ≡ true
flag_itself true = refl
flag_itself false = refl

same_fields : (g h o p m n i j : ℕ) (c d : Class) (k l : Kind) (s t : Bool)
    → g ≡ h → c ≡ d → o ≡ p → k ≡ l → m ≡ n → i ≡ j → s ≡ t
    → ◌≡◌ {A = Mark}
    (record { group = g; class = c; object = o; kind = k; mask = m; ignored = i; survives = s })
    (record { group = h; class = d; object = p; kind = l; mask = n; ignored = j; survives = t })
same_fields g h o p m n i j c d k l s t group class object kind mask ignored survives = cc

-- a mark is the same as itself
pub same_mark_itself : (mark : Mark) → same_mark mark mark ≡ true
unfolding same_mark
same_mark_itself mark = rw (kind_itself mark.kind, flag_itself mark.survives) (grind (arith, nat_tests))

-- marks that are the same are one
pub same_mark_exact : (mark other : Mark) → same_mark mark other ≡ true → mark ≡ other
unfolding same_mark
same_mark_exact mark other is =
    let group : mark.group ≡ other.group = grind (arith, nat_tests, is) in
    let rank : rank_of mark.class ≡ rank_of other.class = grind (arith, nat_tests, is) in
    let object : mark.object ≡ other.object = grind (arith, nat_tests, is) in
    let kind : same_kind mark.kind other.kind ≡ true = grind (arith, nat_tests, is) in
    let mask : mark.mask ≡ other.mask = grind (arith, nat_tests, is) in
    let ignored : mark.ignored ≡ other.ignored = grind (arith, nat_tests, is) in
    let flag : beq mark.survives other.survives ≡ true = grind (arith, nat_tests, is) in
    same_fields _ _ _ _ _ _ _ _ _ _ _ _ _ _ group (one_class _ _ rank) object
    (kind_exact _ _ kind) mask ignored
    (flag_exact _ _ flag)

-- what stays is left
pub stays_exact : (left : Option Mark) (mark : Mark) → stays left mark ≡ true → left ≡ Some mark
stays_exact None mark same = absurd cc
stays_exact (Some left) mark same = ap (λ m. Some m) (same_mark_exact left mark same)
