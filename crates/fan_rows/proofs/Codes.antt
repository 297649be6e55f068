-- The words of a mark tell it.
use Rattle.std.proofs.Common.{◌≡◌, ℕ, ◌+◌, ◌*◌, ◌^◌, ◌<◌, Bool, true, false, ap, refl, arith}
use Rattle.fan_bits.specs.declared.class.Class.{Class}
use Rattle.fan_bits.specs.declared.class.Class.TheVariants as classes
use Rattle.fan_bits.specs.declared.kind.Kind.{Kind}
use Rattle.fan_bits.specs.declared.kind.Kind.TheVariants as kinds
use Rattle.fan_bits.specs.declared.mark.Mark.{Mark}
use Rattle.fan_bits.specs.Marks.{IsMark}
use Rattle.fan_bits.specs.Words.{rank_of}
use Rattle.fan_rows.specs.Coding.{flag_number, group_word, kind_number, object_word, sets_word}

-- a number tells a kind, a class, a flag
one_kind : (a b : Kind) → kind_number a ≡ kind_number b → a ≡ b
one_kind kinds.Inode kinds.Inode same = refl
one_kind kinds.Mount kinds.Mount same = refl
one_kind kinds.Filesystem kinds.Filesystem same = refl
one_kind a b same = absurd (omega arith)

pub one_class : (a b : Class) → rank_of a ≡ rank_of b → a ≡ b
one_class classes.PreContent classes.PreContent same = refl
one_class classes.Content classes.Content same = refl
one_class classes.Notif classes.Notif same = refl
one_class a b same = absurd (omega arith)

one_flag : (a b : Bool) → flag_number a ≡ flag_number b → a ≡ b
one_flag true true same = refl
one_flag false false same = refl
one_flag a b same = absurd (omega arith)

-- such numbers are small
pub kind_small : (a : Kind) → kind_number a < 4
kind_small kinds.Inode = omega arith
kind_small kinds.Mount = omega arith
kind_small kinds.Filesystem = omega arith

pub rank_small : (a : Class) → rank_of a < 4
rank_small classes.PreContent = omega arith
rank_small classes.Content = omega arith
rank_small classes.Notif = omega arith

-- word 2 tells its four parts
same_parts : (o k r f p l s g : ℕ) → o < 2 ^ 32 → p < 2 ^ 32 → k < 4 → l < 4 → r < 4 → s < 4
    → o + k * 2 ^ 32 + r * 2 ^ 34 + f * 2 ^ 36 ≡ p + l * 2 ^ 32 + s * 2 ^ 34 + g * 2 ^ 36
    → (o ≡ p) × (k ≡ l) × (r ≡ s) × (f ≡ g)
same_parts o k r f p l s g object other kind second rank third same =
    (omega arith, omega arith, omega arith, omega arith)

-- two marks with the same three words are one
pub one_mark : (a b : Mark) → IsMark a → IsMark b → sets_word a ≡ sets_word b
    → object_word a ≡ object_word b → group_word a ≡ group_word b → a ≡ b
one_mark a b is other sets object group =
    let mask : a.mask ≡ b.mask = omega (arith, is.mask, other.mask) in
    let ignored : a.ignored ≡ b.ignored = omega (arith, is.mask, other.mask) in
    let parts = same_parts a.object (kind_number a.kind) (rank_of a.class) (flag_number a.survives)
    b.object (kind_number b.kind) (rank_of b.class) (flag_number b.survives)
    (omega (arith, is.object)) (omega (arith, other.object)) (kind_small a.kind) (kind_small b.kind)
    (rank_small a.class) (rank_small b.class) object in
    let number = parts.0 in
    let kind = one_kind a.kind b.kind parts.1 in
    let class = one_class a.class b.class parts.2 in
    let survives = one_flag a.survives b.survives parts.3 in
    let Fields : Type 0 = ℕ × Class × ℕ × Kind × ℕ × ℕ × Bool in
    let left : Fields = (a.group, a.class, a.object, a.kind, a.mask, a.ignored, a.survives) in
    let right : Fields = (b.group, b.class, b.object, b.kind, b.mask, b.ignored, b.survives) in
    let same : left ≡ right = cc in
    ap (λ (of : Fields). record {
      group = of.0;
      class = of.1;
      object = of.2;
      kind = of.3;
      mask = of.4;
      ignored = of.5;
      survives = of.6;
    }) same
