-- The picture that the tests look into: its words, its tree and its marks.
use Rattle.std.proofs.Common.{◌≡◌, ◌∙◌, ℕ, ◌+◌, ◌*◌, ◌^◌, ◌<◌, zero, suc, true, false, List, [], ◌∷◌, Option, Some, refl, sym, ap, arith, cond}
use Rattle.std.proofs.lemmas.List.Elements.{All-from_recursion, All-nil}
use Rattle.std.specs.Prelude.{All, slice_get, ◌==◌}
use Rattle.fan_bits.specs.declared.class.Class.{Class}
use Rattle.fan_bits.specs.declared.class.Class.TheVariants as classes
use Rattle.fan_bits.specs.declared.kind.Kind.TheVariants as kinds
use Rattle.fan_bits.specs.declared.mark.Mark.{Mark}
use Rattle.fan_bits.specs.Marks.{IsMark, IsMarkList, Rises, is_before, order_of, stands}
use Rattle.fan_rows.specs.Coding.{group_word, object_word, sets_word}
use Rattle.fan_rows.specs.Rows.{MarkAt, RowAt}
use Rattle.fan_rows.specs.Trees.{Branch, Chain, Lies, Link, Pictures, PicturesBy, Tree, rows_of, top}
use Rattle.fan_rows.proofs.Planted.{Planted, nothing, planted_tells, rises_once}

-- the words, four of each row
abbrev words : List ℕ
words =
    0 ∷ 0 ∷ 0 ∷ 0 ∷
    2 ∷ 0 ∷ 0 ∷ 14 ∷
    3 ∷ 0 ∷ 0 ∷ 0 ∷
    4 ∷ 0 ∷ 0 ∷ 0 ∷
    5 ∷ 0 ∷ 0 ∷ 0 ∷
    6 ∷ 0 ∷ 0 ∷ 0 ∷
    7 ∷ 0 ∷ 0 ∷ 0 ∷
    8 ∷ 10 ∷ 0 ∷ 0 ∷
    0 ∷ 9 ∷ 0 ∷ 0 ∷
    0 ∷ 32 ∷ 0xa00000001 ∷ 1 ∷
    11 ∷ 13 ∷ 0 ∷ 0 ∷
    12 ∷ 0xffffffff00010000 ∷ 0x1400000004 ∷ 0xffffffff ∷
    0 ∷ 0xffffffff ∷ 0x800000004 ∷ 1 ∷
    0 ∷ 0x800000000 ∷ 0x900000005 ∷ 1 ∷
    0 ∷ 0 ∷ 0 ∷ 15 ∷
    0 ∷ 0 ∷ 0 ∷ 16 ∷
    0 ∷ 0 ∷ 0 ∷ 17 ∷
    0 ∷ 0 ∷ 0 ∷ 18 ∷
    0 ∷ 0 ∷ 0 ∷ 19 ∷
    0 ∷ 0 ∷ 0 ∷ 20 ∷
    0 ∷ 0 ∷ 0 ∷ 21 ∷
    0 ∷ 0xffffffffffffffff ∷ 0x160000ffff ∷ 0xffffffff ∷ []

-- the word at a place
abbrev at : ℕ → Option ℕ
at place = slice_get words place

-- a row stands in the words where each word reads so
row_at : (row a b c d : ℕ) → 0 < row → row < 2 ^ 62 → at (4 * row) ≡ Some a → at (4 * row + 1) ≡ Some b
    → at (4 * row + 2) ≡ Some c → at (4 * row + 3) ≡ Some d → RowAt at row a b c d
row_at row a b c d above below first second third fourth = record {
  above = above;
  below = below;
  word_0 = first;
  word_1 = second;
  word_2 = third;
  word_3 = fourth;
}

abbrev first : Mark
first = record {
  group = 1;
  class = classes.Notif;
  object = 1;
  kind = kinds.Filesystem;
  mask = 32;
  ignored = 0;
  survives = false;
}

abbrev second : Mark
second = record {
  group = 0xffffffff;
  class = classes.Content;
  object = 4;
  kind = kinds.Inode;
  mask = 0x10000;
  ignored = 0xffffffff;
  survives = true;
}

abbrev third : Mark
third = record {
  group = 1;
  class = classes.Notif;
  object = 4;
  kind = kinds.Inode;
  mask = 0xffffffff;
  ignored = 0;
  survives = false;
}

abbrev fourth : Mark
fourth = record {
  group = 1;
  class = classes.Notif;
  object = 5;
  kind = kinds.Mount;
  mask = 0;
  ignored = 8;
  survives = false;
}

abbrev fifth : Mark
fifth = record {
  group = 0xffffffff;
  class = classes.Content;
  object = 65535;
  kind = kinds.Filesystem;
  mask = 0xffffffff;
  ignored = 0xffffffff;
  survives = true;
}

abbrev none : Tree
none = Chain []

none_lies : (depth : ℕ) → Lies at none depth
none_lies zero = tt
none_lies (suc depth) = refl

none_planted : (depth block : ℕ) → Planted none depth block
none_planted zero block = All-nil (λ (link : Link). link.mark.object ≡ block)
none_planted (suc depth) block = refl

first_is : IsMark first
first_is = record {
  group = (omega arith, omega arith);
  object = (omega arith, omega arith);
  mask = omega arith;
  ignored = omega arith;
  whole = refl;
}

second_is : IsMark second
second_is = record {
  group = (omega arith, omega arith);
  object = (omega arith, omega arith);
  mask = omega arith;
  ignored = omega arith;
  whole = refl;
}

third_is : IsMark third
third_is = record {
  group = (omega arith, omega arith);
  object = (omega arith, omega arith);
  mask = omega arith;
  ignored = omega arith;
  whole = refl;
}

fourth_is : IsMark fourth
fourth_is = record {
  group = (omega arith, omega arith);
  object = (omega arith, omega arith);
  mask = omega arith;
  ignored = omega arith;
  whole = refl;
}

fifth_is : IsMark fifth
fifth_is = record {
  group = (omega arith, omega arith);
  object = (omega arith, omega arith);
  mask = omega arith;
  ignored = omega arith;
  whole = refl;
}

-- a mark stands in its row
mark_at : (row next : ℕ) (mark : Mark) → IsMark mark → 0 < row → row < 2 ^ 62 → at (4 * row) ≡ Some next
    → at (4 * row + 1) ≡ Some (sets_word mark) → at (4 * row + 2) ≡ Some (object_word mark)
    → at (4 * row + 3) ≡ Some (group_word mark) → MarkAt at row next mark
mark_at row next mark is above below one two three four = record {
  at = row_at row next (sets_word mark) (object_word mark) (group_word mark) above below one two three four;
  is_mark = is;
}

-- a tree stands in the words, with its marks where they belong
record Stands (tree : Tree) (depth block : ℕ) : Type 0 where
  lies : Lies at tree depth
  planted : Planted tree depth block
  above : 0 < top tree

abbrev own_object : ℕ → Link → Type 0
own_object object link = link.mark.object ≡ object

one_link : (row : ℕ) (mark : Mark) → MarkAt at row 0 mark
    → Stands (Chain (record { row = row; mark = mark } ∷ [])) 0 mark.object
one_link row mark stands = record {
  lies = (stands, All-nil (λ (later : Link). order_of mark < order_of later.mark), tt);
  planted = All-from_recursion (own_object mark.object) (record { row = row; mark = mark } ∷ []) (refl, tt);
  above = stands.at.above;
}

abbrev only_first : ℕ → Tree → Tree
only_first row tree = Branch row tree none none none

abbrev only_last : ℕ → Tree → Tree
only_last row tree = Branch row none none none tree

down_first : (row depth block : ℕ) (tree : Tree) → RowAt at row (top tree) 0 0 0
    → Stands tree depth (4 * block + 0) → Stands (only_first row tree) (suc depth) block
down_first row depth block tree here below = record {
  lies = (
    here,
    omega (arith, below.above),
    below.lies,
    none_lies depth,
    none_lies depth,
    none_lies depth,
  );
  planted = (below.planted, none_planted depth _, none_planted depth _, none_planted depth _);
  above = here.above;
}

down_last : (row depth block : ℕ) (tree : Tree) → RowAt at row 0 0 0 (top tree)
    → Stands tree depth (4 * block + 3) → Stands (only_last row tree) (suc depth) block
down_last row depth block tree here below = record {
  lies = (
    here,
    omega (arith, below.above),
    none_lies depth,
    none_lies depth,
    none_lies depth,
    below.lies,
  );
  planted = (none_planted depth _, none_planted depth _, none_planted depth _, below.planted);
  above = here.above;
}

-- the marks on object 4
abbrev chain_4 : Tree
chain_4 = Chain (record { row = 11; mark = second } ∷ record { row = 12; mark = third } ∷ [])

chain_4_stands : Stands chain_4 0 4
chain_4_stands = record {
  lies = (
    mark_at 11 12 second second_is (omega arith) (omega arith) refl refl refl refl,
    All-from_recursion (λ (later : Link). order_of second < order_of later.mark)
        (record { row = 12; mark = third } ∷ []) (omega arith, tt),
    (
      mark_at 12 0 third third_is (omega arith) (omega arith) refl refl refl refl,
      All-nil (λ (later : Link). order_of third < order_of later.mark),
      tt,
    ),
  );
  planted = All-from_recursion (own_object 4)
      (record { row = 11; mark = second } ∷ record { row = 12; mark = third } ∷ []) (refl, (refl, tt));
  above = omega arith;
}

-- the marks on the objects 1, 4 and 5, below the seventh digit
abbrev chain_1 : Tree
chain_1 = Chain (record { row = 9; mark = first } ∷ [])

abbrev chain_5 : Tree
chain_5 = Chain (record { row = 13; mark = fourth } ∷ [])

abbrev low : Tree
low = Branch 7 (Branch 8 none chain_1 none none) (Branch 10 chain_4 chain_5 none none) none none

low_stands : Stands low 2 0
low_stands =
    let one = one_link 9 first (mark_at 9 0 first first_is (omega arith) (omega arith) refl refl refl refl) in
    let five =
    one_link 13 fourth (mark_at 13 0 fourth fourth_is (omega arith) (omega arith) refl refl refl refl) in
    record {
      lies = (
        row_at 7 8 10 0 0 (omega arith) (omega arith) refl refl refl refl,
        omega arith,
        (
          row_at 8 0 9 0 0 (omega arith) (omega arith) refl refl refl refl,
          omega arith,
          none_lies 0,
          one.lies,
          none_lies 0,
          none_lies 0,
        ),
        (
          row_at 10 11 13 0 0 (omega arith) (omega arith) refl refl refl refl,
          omega arith,
          chain_4_stands.lies,
          five.lies,
          none_lies 0,
          none_lies 0,
        ),
        none_lies 1,
        none_lies 1,
      );
      planted = (
        (none_planted 0 0, one.planted, none_planted 0 2, none_planted 0 3),
        (chain_4_stands.planted, five.planted, none_planted 0 6, none_planted 0 7),
        none_planted 1 2,
        none_planted 1 3,
      );
      above = omega arith;
    }

abbrev left : Tree
left = only_first 2 (only_first 3 (only_first 4 (only_first 5 (only_first 6 low))))

left_stands : Stands left 7 0
left_stands =
    down_first 2 6 0 _ (row_at 2 3 0 0 0 (omega arith) (omega arith) refl refl refl refl)
    (down_first 3 5 0 _ (row_at 3 4 0 0 0 (omega arith) (omega arith) refl refl refl refl)
    (down_first 4 4 0 _ (row_at 4 5 0 0 0 (omega arith) (omega arith) refl refl refl refl)
    (down_first 5 3 0 _ (row_at 5 6 0 0 0 (omega arith) (omega arith) refl refl refl refl)
    (down_first 6 2 0 _ (row_at 6 7 0 0 0 (omega arith) (omega arith) refl refl refl refl) low_stands))))

abbrev right : Tree
right =
    only_last 14 (only_last 15 (only_last 16 (only_last 17 (only_last 18 (only_last 19
    (only_last 20 (Chain (record { row = 21; mark = fifth } ∷ []))))))))

right_stands : Stands right 7 3
right_stands =
    down_last 14 6 3 _ (row_at 14 0 0 0 15 (omega arith) (omega arith) refl refl refl refl)
    (down_last 15 5 15 _ (row_at 15 0 0 0 16 (omega arith) (omega arith) refl refl refl refl)
    (down_last 16 4 63 _ (row_at 16 0 0 0 17 (omega arith) (omega arith) refl refl refl refl)
    (down_last 17 3 255 _ (row_at 17 0 0 0 18 (omega arith) (omega arith) refl refl refl refl)
    (down_last 18 2 1023 _ (row_at 18 0 0 0 19 (omega arith) (omega arith) refl refl refl refl)
    (down_last 19 1 4095 _ (row_at 19 0 0 0 20 (omega arith) (omega arith) refl refl refl refl)
    (down_last 20 0 16383 _ (row_at 20 0 0 0 21 (omega arith) (omega arith) refl refl refl refl)
    (one_link 21 fifth (mark_at 21 0 fifth fifth_is (omega arith) (omega arith) refl refl refl refl))))))))

abbrev all : Tree
all = Branch 1 left none none right

all_lies : Lies at all 8
all_lies = (
  row_at 1 2 0 0 14 (omega arith) (omega arith) refl refl refl refl,
  omega arith,
  left_stands.lies,
  none_lies 7,
  none_lies 7,
  right_stands.lies,
)

all_planted : Planted all 8 0
all_planted = (left_stands.planted, none_planted 7 1, none_planted 7 2, right_stands.planted)

abbrev marks : List Mark
marks = first ∷ second ∷ third ∷ fourth ∷ fifth ∷ []

all_pictures : PicturesBy at 1 all marks
all_pictures = record {
  root_is = refl;
  lies = all_lies;
  once = λ row. rises_once row 0 (rows_of all) refl;
  told = planted_tells all all_planted;
}

-- the marks are a list of marks
class_of : ℕ → Class
class_of group = cond (group == 1) classes.Notif classes.Content

one_class : All (λ (mark : Mark). mark.class ≡ class_of mark.group) marks
unfolding class_of
one_class = All-from_recursion (λ (mark : Mark). mark.class ≡ class_of mark.group) marks
    (refl, (refl, (refl, (refl, (refl, tt)))))

abbrev After : Mark → Mark → Type 0
After mark other = is_before other.object (order_of other) mark ≡ true

marks_rise : Rises marks
marks_rise = (
  All-from_recursion (After first) (second ∷ third ∷ fourth ∷ fifth ∷ []) (refl, (refl, (refl, (refl, tt)))),
  (
    All-from_recursion (After second) (third ∷ fourth ∷ fifth ∷ []) (refl, (refl, (refl, tt))),
    (
      All-from_recursion (After third) (fourth ∷ fifth ∷ []) (refl, (refl, tt)),
      (All-from_recursion (After fourth) (fifth ∷ []) (refl, tt), (All-nil (After fifth), tt)),
    ),
  ),
)

marks_are : IsMarkList marks
marks_are = record {
  each = All-from_recursion IsMark marks (first_is, (second_is, (third_is, (fourth_is, (fifth_is, tt)))));
  rises = marks_rise;
  classes = λ k d within. λ j e also same.
      one_class k d within ∙ ap class_of same ∙ sym (one_class j e also);
}

-- words that are these picture the marks from row 1
pub pictured : (items : List ℕ) (root : ℕ) → items ≡ words → root ≡ 1
    → (listed : List Mark) × Pictures (λ place. slice_get items place) root listed × IsMarkList listed
pictured items root is first =
    rw (is, first) (marks, (all, all_pictures), marks_are)

-- and any words picture none from row 0
pub empty : (items : List ℕ) (root : ℕ) → root ≡ 0
    → (listed : List Mark) × Pictures (λ place. slice_get items place) root listed × IsMarkList listed
empty items root none =
    rw none (
      [],
      (Chain [], nothing (λ place. slice_get items place)),
      record { each = All-nil IsMark; rises = tt; classes = λ k d within. absurd (omega arith) },
    )
