-- What a Put makes of one mark.
use Rattle.std.proofs.Common.{◌≡◌, ℕ, ◌<◌, ◌^◌, true, List, Option, Some, None, refl, arith, ◌∙◌}
use Rattle.std.specs.Prelude.{All, IfSome, ◌&&◌, ◌==◌}
use Rattle.std.specs.Int.RustNames.{bit_xor}
use Rattle.std.proofs.lemmas.Bool.{cond_both}
use Rattle.std.proofs.lemmas.Bool.Decides.{nat_tests}
use Rattle.std.proofs.lemmas.Option.{IfSome_then}
use Rattle.std.proofs.lemmas.Nat.{and_le_l, or_of_32}
use Rattle.fan_bits.specs.declared.change.Change.{Change}
use Rattle.fan_bits.specs.declared.change.Change.TheVariants.{Put, Flush, Clear, DropGroup, DropObject}
use Rattle.fan_bits.specs.declared.class.Class.{Class}
use Rattle.fan_bits.specs.declared.kind.Kind.{Kind}
use Rattle.fan_bits.specs.declared.kind.Verb.{Verb}
use Rattle.fan_bits.specs.declared.kind.Verb.TheVariants as verbs
use Rattle.fan_bits.specs.declared.mark.Mark.{Mark}
use Rattle.fan_bits.specs.declared.mark_call.MarkWords.{MarkWords}
use Rattle.fan_bits.specs.Marks.{IsMark, mark_of, or_blank, put_mark, put_on, qualifiers, standing, stands, updated, without}
use Rattle.fan_lists.proofs.Finds.{IfSome-find}

-- one mark has the group, class, object and kind of another
pub record Keeps (old new : Mark) : Type 0 where
  pub group : new.group ≡ old.group
  pub class : new.class ≡ old.class
  pub object : new.object ≡ old.object
  pub kind : new.kind ≡ old.kind

-- its bits are words of 32 bits
pub record HasWords (mark : Mark) : Type 0 where
  pub mask : mark.mask < 2 ^ 32
  pub ignored : mark.ignored < 2 ^ 32

-- a mark keeps what it has
pub keeps_itself : (mark : Mark) → Keeps mark mark
keeps_itself mark = record { group = refl; class = refl; object = refl; kind = refl }

-- bits that are put on it or taken from it are all that changes
put_on_keeps : (verb : Verb) (words : MarkWords) (mark : Mark) → Keeps mark (put_on verb words mark)
put_on_keeps verbs.Add words mark =
    cond_both words.ignored _ _ (Keeps mark)
    (λ ignored. record { group = refl; class = refl; object = refl; kind = refl })
    (λ mask. record { group = refl; class = refl; object = refl; kind = refl })
put_on_keeps verbs.Remove words mark =
    cond_both words.ignored _ _ (Keeps mark)
    (λ ignored. record { group = refl; class = refl; object = refl; kind = refl })
    (λ mask. record { group = refl; class = refl; object = refl; kind = refl })
put_on_keeps verbs.Flush words mark = keeps_itself mark

without-lt : (word bits : ℕ) → word < 2 ^ 32 → without word bits < 2 ^ 32
without-lt word bits small = omega (arith, and_le_l word (bit_xor bits 0xffffffff))

-- words stay words
put_on_words : (verb : Verb) (words : MarkWords) (mark : Mark) → words.mask < 2 ^ 32 → HasWords mark
    → HasWords (put_on verb words mark)
put_on_words verbs.Add words mark small has =
    let events = without-lt words.mask qualifiers small in
    cond_both words.ignored _ _ HasWords
    (λ ignored. record {
      mask = has.mask;
      ignored = or_of_32 mark.ignored (without words.mask qualifiers) has.ignored events;
    })
    (λ mask. record { mask = or_of_32 mark.mask words.mask has.mask small; ignored = has.ignored })
put_on_words verbs.Remove words mark small has =
    cond_both words.ignored _ _ HasWords
    (λ ignored. record { mask = has.mask; ignored = without-lt mark.ignored words.mask has.ignored })
    (λ mask. record { mask = without-lt mark.mask words.mask has.mask; ignored = has.ignored })
put_on_words verbs.Flush words mark small has = has

-- what holds of a mark that stands holds of what is left of it
standing_is : (P : Mark → Type 0) (mark : Mark) → P mark
    → IfSome (standing mark) (λ left. P left × (stands left ≡ true))
standing_is P mark is =
    cond_both (stands mark) (Some mark) None (λ left. IfSome left (λ left. P left × (stands left ≡ true)))
    (λ whole. (is, whole)) (λ fails. tt)

-- the mark that a Put leaves is of the group, class, object and kind of the one that it starts from
pub put_mark_keeps : (old : Option Mark) (group : ℕ) (class : Class) (words : MarkWords) (object : ℕ)
    → IfSome (put_mark old group class words object) (Keeps (or_blank old group class words.kind object))
unfolding put_mark
put_mark_keeps old group class words object =
    let before = or_blank old group class words.kind object in
    IfSome_then (put_mark old group class words object)
    (standing_is (Keeps before) (put_on words.verb words before) (put_on_keeps words.verb words before))
    (λ left is. is.0)

-- a change keeps the group, class, object and kind of a mark
pub updated_keeps : (old : Mark) (change : Change) → IfSome (updated (Some old) change) (Keeps old)
unfolding updated
updated_keeps old (Put group class words object) = put_mark_keeps (Some old) group class words object
updated_keeps old (Flush group kind) = keeps_itself old
updated_keeps old (Clear object) = keeps_itself old
updated_keeps old (DropGroup group) = keeps_itself old
updated_keeps old (DropObject object) = keeps_itself old

-- a mark of a group on an object, of a class
pub record IsOf (group : ℕ) (class : Class) (object : ℕ) (mark : Mark) : Type 0 where
  pub of_group : mark.group ≡ group
  pub of_class : mark.class ≡ class
  pub on_object : mark.object ≡ object
  pub bits : HasWords mark

-- a mark that a search finds is one
found_is : (mark : Mark) (group : ℕ) (class : Class) (object : ℕ) → IsMark mark
    → (mark.group ≡ group → mark.class ≡ class)
    → (mark.group == group && mark.object == object) ≡ true → IsOf group class object mark
found_is mark group class object is classes passes =
    let of_group : mark.group ≡ group = grind (arith, nat_tests) in record {
      of_group = of_group;
      of_class = classes of_group;
      on_object = grind (arith, nat_tests);
      bits = record { mask = is.mask; ignored = is.ignored };
    }

-- the mark of a group on an object is of the class of the group's marks
pub mark_of_is : (marks : List Mark) (group : ℕ) (class : Class) (object : ℕ) → All IsMark marks
    → All (λ mark. mark.group ≡ group → mark.class ≡ class) marks
    → IfSome (mark_of marks group object) (IsOf group class object)
mark_of_is marks group class object each classes =
    let P : Mark → Type 0 = λ mark. IsMark mark × (mark.group ≡ group → mark.class ≡ class) in
    IfSome_then (mark_of marks group object)
    (IfSome-find (λ mark. mark.group == group && mark.object == object) P marks
    (λ k d within. (each k d within, classes k d within)))
    (λ mark found. found_is mark group class object found.0.0 found.0.1 found.1)

-- so is the one that a Put starts from
or_blank_is : (old : Option Mark) (group : ℕ) (class : Class) (kind : Kind) (object : ℕ)
    → IfSome old (IsOf group class object) → IsOf group class object (or_blank old group class kind object)
or_blank_is (Some mark) group class kind object is = is
or_blank_is None group class kind object is = record {
  of_group = refl;
  of_class = refl;
  on_object = refl;
  bits = record { mask = omega arith; ignored = omega arith };
}

-- and the one that it leaves, which stands
pub put_mark_is : (old : Option Mark) (group : ℕ) (class : Class) (words : MarkWords) (object : ℕ)
    → words.mask < 2 ^ 32 → IfSome old (IsOf group class object)
    → IfSome (put_mark old group class words object)
    (λ mark. IsOf group class object mark × (stands mark ≡ true))
unfolding put_mark
put_mark_is old group class words object small is =
    let before = or_blank old group class words.kind object in
    let start = or_blank_is old group class words.kind object is in
    let keeps = put_on_keeps words.verb words before in
    standing_is (IsOf group class object) (put_on words.verb words before) (record {
      of_group = keeps.group ∙ start.of_group;
      of_class = keeps.class ∙ start.of_class;
      on_object = keeps.object ∙ start.on_object;
      bits = put_on_words words.verb words before small start.bits;
    })
