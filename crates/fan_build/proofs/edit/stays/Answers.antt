use Rattle.std.proofs.Common.{◌≡◌, ◌∙◌, Bool, true, false, Option, Some, None, refl, sym}
use Rattle.std.specs.Option.{option_eq}
use Rattle.std.specs.Prelude.{◌&&◌, ◌==◌}
use denote.Enum.Bare.{sameb}
use Rattle.fan_bits.specs.contracts.class.Class.{the_type as class_type}
use Rattle.fan_bits.specs.contracts.kind.Kind.{the_type as kind_type}
use Rattle.fan_bits.specs.contracts.mark.MarkPartialEq.TheImpl.{eq-value}
use Rattle.fan_bits.specs.declared.class.Class.{Class}
use Rattle.fan_bits.specs.declared.class.Class.TheVariants as classes
use Rattle.fan_bits.specs.declared.kind.Kind.{Kind}
use Rattle.fan_bits.specs.declared.kind.Kind.TheVariants as kinds
use Rattle.fan_bits.specs.declared.mark.Mark.{Mark}
use Rattle.fan_bits.specs.Marks.{same_kind, same_mark}
use Rattle.fan_bits.specs.Words.{rank_of}
use Rattle.fan_build.specs.Edits.{stays}
use Rattle.fan_build.proofs.edit.stays.Goals as goal

-- two classes are the same if their ranks are
same_class : (a b : Class) → sameb class_type a b ≡ (rank_of a == rank_of b)
same_class classes.PreContent classes.PreContent = refl
same_class classes.PreContent classes.Content = refl
same_class classes.PreContent classes.Notif = refl
same_class classes.Content classes.PreContent = refl
same_class classes.Content classes.Content = refl
same_class classes.Content classes.Notif = refl
same_class classes.Notif classes.PreContent = refl
same_class classes.Notif classes.Content = refl
same_class classes.Notif classes.Notif = refl

-- what two kinds say
kind_same : (a b : Kind) → sameb kind_type a b ≡ same_kind a b
kind_same kinds.Inode kinds.Inode = refl
kind_same kinds.Inode kinds.Mount = refl
kind_same kinds.Inode kinds.Filesystem = refl
kind_same kinds.Mount kinds.Inode = refl
kind_same kinds.Mount kinds.Mount = refl
kind_same kinds.Mount kinds.Filesystem = refl
kind_same kinds.Filesystem kinds.Inode = refl
kind_same kinds.Filesystem kinds.Mount = refl
kind_same kinds.Filesystem kinds.Filesystem = refl

and_assoc : (a b c : Bool) → (a && b) && c ≡ a && (b && c)
and_assoc true b c = refl
and_assoc false b c = refl

one : (left mark : Mark) → eq-value.it left mark ≡ same_mark left mark
unfolding same_mark
one left mark = rw (same_class left.class mark.class, kind_same left.kind mark.kind) (sym (simp and_assoc))

by_left : (left : Option Mark) (mark : Mark) → option_eq eq-value.it left (Some mark) ≡ stays left mark
by_left None mark = refl
by_left (Some left) mark = one left mark

pub returns : goal.returns
returns c = c.eq.ensures ∙ by_left c.args.left c.args.mark
