-- The three words by which a mark row tells its mark: docs/FORMATS.md, "Rows".
use Rattle.std.specs.Prelude.{ℕ, ◌+◌, ◌*◌, ◌^◌, Bool, true, false}
use Rattle.fan_bits.specs.declared.kind.Kind.{Kind}
use Rattle.fan_bits.specs.declared.kind.Kind.TheVariants as kinds
use Rattle.fan_bits.specs.declared.mark.Mark.{Mark}
use Rattle.fan_bits.specs.Words.{rank_of}

-- the number of a kind
abbrev pub kind_number : Kind → ℕ
kind_number kinds.Inode = 0
kind_number kinds.Mount = 1
kind_number kinds.Filesystem = 2

-- the number of a flag
abbrev pub flag_number : Bool → ℕ
flag_number true = 1
flag_number false = 0

-- word 1: the mask in bits 0 to 31, the ignored set in bits 32 to 63
abbrev pub sets_word : Mark → ℕ
sets_word mark = mark.mask + mark.ignored * 2 ^ 32

-- word 2: the object in bits 0 to 31, its kind in bits 32 and 33, the rank of the class in bits 34 and 35, and
-- in bit 36 whether the ignored set survives; 0 above
abbrev pub object_word : Mark → ℕ
object_word mark =
    mark.object
    + kind_number mark.kind * 2 ^ 32
    + rank_of mark.class * 2 ^ 34
    + flag_number mark.survives * 2 ^ 36

-- word 3: the group in bits 0 to 31; 0 above
abbrev pub group_word : Mark → ℕ
group_word mark = mark.group
