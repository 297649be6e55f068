-- Marks whose groups are all of class Notif, as the tests make them.
use Rattle.std.proofs.Common.{◌≡◌, ◌≢◌, ◌≤◌, ◌<◌, ◌^◌, ℕ, List, ◌++◌, Result, Ok, Err, sym, subst}
use Rattle.std.proofs.lemmas.List.Elements.{All-append, All-filter, All-weaker}
use Rattle.std.specs.Prelude.{All, OnErr, OnOk, filter, not, ◌==◌}
use Rattle.fan_bits.specs.declared.change.Change.TheVariants.{DropGroup, Put}
use Rattle.fan_bits.specs.declared.class.Class.TheVariants.{Notif}
use Rattle.fan_bits.specs.declared.kind.Verb.TheVariants as verbs
use Rattle.fan_bits.specs.declared.mark.Mark.{Mark}
use Rattle.fan_bits.specs.declared.mark_call.MarkWords.{MarkWords}
use Rattle.fan_bits.specs.Marks.{IsMarkList, IsPut, changed, is_before, is_behind, listed, mark_of, order_number, put_mark}
use Rattle.fan_bits.specs.Places.{IsObject}
use Rattle.fan_bits.proofs.MarkLists.{IsNew, listed_all}
use Rattle.fan_bits.proofs.Updates.{mark_of_is, put_mark_is}
use Rattle.fan_grace.specs.Tables.{Present, TableState}

-- the group of a mark is of class Notif
abbrev pub IsNotif : Mark → Type 0
IsNotif mark = mark.class ≡ Notif

-- bits can be put on their marks
pub can_put : (marks : List Mark) (group : ℕ) (words : MarkWords) (object : ℕ) → 1 ≤ group → group < 2 ^ 32
    → IsObject object → words.mask < 2 ^ 32 → words.verb ≢ verbs.Flush → All IsNotif marks
    → IsPut marks group Notif words object
can_put marks group words object least small placed mask verb all = record {
  numbered = (least, small);
  placed = placed;
  mask = mask;
  verb = verb;
  classes = λ k d within same. all k d within;
}

-- and they stay so
pub put_notif : (marks : List Mark) (group : ℕ) (words : MarkWords) (object : ℕ) → IsMarkList marks
    → IsPut marks group Notif words object → All IsNotif marks
    → All IsNotif (changed marks (Put group Notif words object))
unfolding changed
put_notif marks group words object list put all =
    let order = order_number Notif group in
    let new = put_mark (mark_of marks group object) group Notif words object in
    let front = filter (is_before object order) marks in
    let fresh = put_mark_is (mark_of marks group object) group Notif words object put.mask
    (mark_of_is marks group Notif object list.each put.classes) in
    All-append IsNotif (front ++ listed new) (filter (is_behind object order) marks)
    (All-append IsNotif front (listed new) (All-filter (is_before object order) IsNotif marks all)
    (All-weaker (IsNew group Notif object) IsNotif (λ mark is. is.0.of_class) (listed new)
    (listed_all (IsNew group Notif object) new fresh)))
    (All-filter (is_behind object order) IsNotif marks all)

pub drop_notif : (marks : List Mark) (group : ℕ) → All IsNotif marks
    → All IsNotif (changed marks (DropGroup group))
unfolding changed
drop_notif marks group all = All-filter (λ mark. not (mark.group == group)) IsNotif marks all

-- whether a change was made or not
pub notified : {A E : Type 0} (old new : TableState) (result : Result A E) (marks after : List Mark)
    → Present old marks → All IsNotif marks → All IsNotif after → OnOk result (Present new after)
    → OnErr result (new ≡ old) → (all : List Mark) × Present new all × All IsNotif all
notified old new (Ok done) marks after present all stays made same = (after, made, stays)
notified old new (Err why) marks after present all stays made same =
    (marks, subst (λ table. Present table marks) (sym same) present, all)
