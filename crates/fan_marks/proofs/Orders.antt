-- The orders of the keys of marks, by the numbers in them.
use Rattle.std.proofs.Common.{◌≡◌, ℕ, true, cond, ◌||◌, refl, arith}
use Rattle.std.specs.Prelude.{nat_lt, ◌==◌, ◌&&◌}
use Rattle.std.specs.Ordering.{is_eq, nat_cmp, ordering_then}
use Rattle.std.specs.declared.cmp.Ordering.TheVariants.{Less, Equal, Greater}
use Rattle.std.proofs.lemmas.Bool.Decides.{nat_tests}
use Rattle.fan_bits.specs.declared.kind.Kind.{Kind}
use Rattle.fan_bits.specs.declared.kind.Kind.TheVariants as kinds
use Rattle.fan_bits.specs.declared.mark.Mark.{Mark}
use Rattle.fan_bits.specs.Marks.{is_before, is_behind, order_of, same_kind}
use Rattle.fan_marks.specs.declared.keys.GroupKey.{GroupKey}
use Rattle.fan_marks.specs.declared.keys.ObjectKey.{ObjectKey}
use Rattle.fan_marks.specs.Keys.{group_cmp, has_object_key, object_cmp, object_key}

pair_order : (a b x y : ℕ) → ordering_then (nat_cmp a x) (nat_cmp b y)
    ≡ cond (nat_lt x a || (x == a && nat_lt y b)) Greater (cond (nat_lt a x ||
    (x == a && nat_lt b y)) Less Equal)
pair_order a b x y = grind (arith, nat_tests)

-- where a mark stands by a key
pub order_is : (key : ObjectKey) (mark : Mark) → object_cmp key (object_key mark)
    ≡ cond (is_before key.object key.order.0 mark) Greater (cond
    (is_behind key.object key.order.0 mark) Less Equal)
order_is key mark = pair_order key.object key.order.0 mark.object (order_of mark)

pair_exact : (a b x y : ℕ) → is_eq (ordering_then (nat_cmp a x) (nat_cmp b y)) ≡ true → (a ≡ x) × (b ≡ y)
pair_exact a b x y same = (grind (arith, nat_tests), grind (arith, nat_tests))

same_object_key : (a b x y : ℕ) → a ≡ x → b ≡ y
    → ◌≡◌ {A = ObjectKey} (record { object = a; order = record { 0 = b } })
    (record { object = x; order = record { 0 = y } })
same_object_key a b x y object order = rw (object, order) refl

-- a mark has no key but its own
pub object_exact : (key : ObjectKey) (mark : Mark) → has_object_key key mark ≡ true → key ≡ object_key mark
object_exact key mark same =
    let is = pair_exact key.object key.order.0 mark.object (order_of mark) same in
    same_object_key key.object key.order.0 mark.object (order_of mark) is.0 is.1

-- marks on one object and of one order have one key
pub object_same : (mark other : Mark) → mark.object ≡ other.object → order_of mark ≡ order_of other
    → object_key mark ≡ object_key other
object_same mark other = same_object_key mark.object (order_of mark) other.object (order_of other)

-- a mark has its own key
pub object_itself : (mark : Mark) → has_object_key (object_key mark) mark ≡ true
object_itself mark = grind (arith, nat_tests)

-- a number for each kind, in their order
abbrev pub kind_number : Kind → ℕ
kind_number kinds.Inode = 0
kind_number kinds.Mount = 1
kind_number kinds.Filesystem = 2

pub kind_exact : (k l : Kind) → kind_number k ≡ kind_number l → k ≡ l
kind_exact kinds.Inode kinds.Inode same = refl
kind_exact kinds.Mount kinds.Mount same = refl
kind_exact kinds.Filesystem kinds.Filesystem same = refl
kind_exact kinds.Inode kinds.Mount same = absurd (omega arith)
kind_exact kinds.Inode kinds.Filesystem same = absurd (omega arith)
kind_exact kinds.Mount kinds.Inode same = absurd (omega arith)
kind_exact kinds.Mount kinds.Filesystem same = absurd (omega arith)
kind_exact kinds.Filesystem kinds.Inode same = absurd (omega arith)
kind_exact kinds.Filesystem kinds.Mount same = absurd (omega arith)

-- two kinds are the same exactly if their numbers are
pub same_kind_is : (k l : Kind) → same_kind k l ≡ (kind_number k == kind_number l)
same_kind_is kinds.Inode kinds.Inode = refl
same_kind_is kinds.Inode kinds.Mount = refl
same_kind_is kinds.Inode kinds.Filesystem = refl
same_kind_is kinds.Mount kinds.Inode = refl
same_kind_is kinds.Mount kinds.Mount = refl
same_kind_is kinds.Mount kinds.Filesystem = refl
same_kind_is kinds.Filesystem kinds.Inode = refl
same_kind_is kinds.Filesystem kinds.Mount = refl
same_kind_is kinds.Filesystem kinds.Filesystem = refl

order_of_keys : (g h o p : ℕ) (k l : Kind)
    → group_cmp (record { group = g; kind = k; object = o }) (record { group = h; kind = l; object = p })
    ≡ ordering_then (nat_cmp g h) (ordering_then (nat_cmp (kind_number k) (kind_number l)) (nat_cmp o p))
order_of_keys g h o p kinds.Inode kinds.Inode = refl
order_of_keys g h o p kinds.Inode kinds.Mount = refl
order_of_keys g h o p kinds.Inode kinds.Filesystem = refl
order_of_keys g h o p kinds.Mount kinds.Inode = refl
order_of_keys g h o p kinds.Mount kinds.Mount = refl
order_of_keys g h o p kinds.Mount kinds.Filesystem = refl
order_of_keys g h o p kinds.Filesystem kinds.Inode = refl
order_of_keys g h o p kinds.Filesystem kinds.Mount = refl
order_of_keys g h o p kinds.Filesystem kinds.Filesystem = refl

-- keys of groups stand by group, kind and object
pub group_order : (a b : GroupKey) → group_cmp a b
    ≡ ordering_then (nat_cmp a.group b.group)
    (ordering_then (nat_cmp (kind_number a.kind) (kind_number b.kind)) (nat_cmp a.object b.object))
group_order a b = order_of_keys a.group b.group a.object b.object a.kind b.kind

triple_exact : (a b c x y z : ℕ) → is_eq (ordering_then (nat_cmp a x) (ordering_then (nat_cmp b y)
    (nat_cmp c z))) ≡ true
    → (a ≡ x) × (b ≡ y) × (c ≡ z)
triple_exact a b c x y z same = (grind (arith, nat_tests), grind (arith, nat_tests), grind (arith, nat_tests))

-- keys of groups with the same parts are one
pub same_group_key : (g h o p : ℕ) (k l : Kind) → g ≡ h → k ≡ l → o ≡ p
    → ◌≡◌ {A = GroupKey} (record { group = g; kind = k; object = o })
    (record { group = h; kind = l; object = p })
same_group_key g h o p k l group kind object = rw (group, kind, object) refl

-- keys of groups at one place are one
pub group_exact : (a b : GroupKey) → is_eq (group_cmp a b) ≡ true → a ≡ b
group_exact a b same =
    let is = triple_exact a.group (kind_number a.kind) a.object b.group (kind_number b.kind) b.object
    (rw (group_order a b) at same) in
    same_group_key a.group b.group a.object b.object a.kind b.kind is.0 (kind_exact a.kind b.kind is.1) is.2

pub group_itself : (a : GroupKey) → is_eq (group_cmp a a) ≡ true
group_itself a = rw (group_order a a) (grind (arith, nat_tests))
