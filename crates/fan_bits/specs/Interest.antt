-- Which events of a happening each group wants, by its marks and their ignored sets: fanotify_mark(2).
use Rattle.std.specs.Prelude.{ℕ, ◌+◌, ◌==◌, ◌&&◌, ◌||◌, Bool, not, List, [], ◌∷◌, Option, find, nat_lt, zero, suc, if◌then◌else◌}
use Rattle.std.specs.List.{list_any}
use Rattle.fan_bits.specs.declared.mark.Mark.{Mark}
use Rattle.fan_bits.specs.declared.place.Happening.{Happening}
use Rattle.fan_bits.specs.declared.place.Interest.{Interest}
use Rattle.fan_bits.specs.declared.place.Place.{Place}
use Rattle.fan_bits.specs.MarkWords.{perm_events, access, modify, attrib, close_write, close_nowrite, opened, open_exec, event_on_child, ondir}
use Rattle.fan_bits.specs.Marks.{order_number}
use Rattle.fan_bits.specs.Places.{is_parent}
use Rattle.fan_bits.specs.Words.{bit, is_among, occurs}

-- the events that a mark on a directory reports of its entries with FAN_EVENT_ON_CHILD
abbrev pub child_events : List ℕ
child_events =
    access ∷ modify ∷ attrib ∷ close_write ∷ close_nowrite ∷ opened ∷ open_exec ∷ perm_events

-- a mark is on the inode of a place, on its mount or on its filesystem
abbrev pub is_on_place : Mark → Place → Bool
is_on_place mark place =
    mark.object == place.inode || mark.object == place.mount || mark.object == place.fs

-- a mark has FAN_EVENT_ON_CHILD: it asks for events on the entries of its directory
abbrev pub watches_children : Mark → Bool
watches_children mark = occurs mark.mask event_on_child

-- a mark is on a place or on its parent; no other mark matters there
abbrev pub near : Place → Mark → Bool
near place mark = is_on_place mark place || is_parent mark.object place.parent

-- a mark reaches a place for an event: it is on the place itself, or on the parent with FAN_EVENT_ON_CHILD
-- and the event is one of those that this reports
abbrev pub reaches : Mark → Place → ℕ → Bool
reaches mark place event =
    is_on_place mark place
    || (is_parent mark.object place.parent && watches_children mark && is_among event child_events)

-- a mark asks for an event of a happening; on a directory it needs FAN_ONDIR
abbrev pub concerns : Mark → Happening → ℕ → Bool
concerns mark happening event =
    occurs mark.mask event
    && (not happening.ondir || occurs mark.mask ondir)
    && reaches mark happening.place event

-- a mark ignores an event of a happening, on directories too
abbrev pub ignores : Mark → Happening → ℕ → Bool
ignores mark happening event = occurs mark.ignored event && reaches mark happening.place event

-- a group wants an event of a happening: one of its marks asks for it, and none ignores it
abbrev pub wants : List Mark → ℕ → Happening → ℕ → Bool
wants marks group happening event =
    occurs happening.bits event
    && list_any (λ mark. mark.group == group && concerns mark happening event) marks
    && not (list_any (λ mark. mark.group == group && ignores mark happening event) marks)

-- the word of those bits below a number that pass a test
unfoldable pub bits_that : ℕ → (ℕ → Bool) → ℕ
bits_that zero test = 0
bits_that (suc number) test = bits_that number test + (if test number then bit number else 0)

-- the events of a happening that a group wants, as a word
unfoldable pub wanted : List Mark → ℕ → Happening → ℕ
wanted marks group happening = bits_that 32 (wants marks group happening)

-- what the group of a mark wants
abbrev pub interest_of : List Mark → Happening → Mark → Interest
interest_of marks happening mark = record {
  group = mark.group;
  class = mark.class;
  bits = wanted marks mark.group happening;
}

-- the position of an interest in the order of asks and tells
abbrev pub interest_order : Interest → ℕ
interest_order interest = order_number interest.class interest.group

-- interests in order with one more, which is left out if its group has one already
abbrev pub placed : Interest → List Interest → List Interest
placed interest [] = interest ∷ []
placed interest (other ∷ more) =
    if nat_lt (interest_order interest) (interest_order other) then interest ∷ other ∷ more
    else (if interest_order interest == interest_order other then other ∷ more
    else other ∷ placed interest more)

-- what the groups of some marks want, in the order of asks and tells, without groups that want nothing
abbrev pub interests_among : List Mark → List Mark → Happening → List Interest
interests_among marks [] happening = []
interests_among marks (mark ∷ more) happening =
    if wanted marks mark.group happening == 0 then interests_among marks more happening
    else placed (interest_of marks happening mark) (interests_among marks more happening)

-- the groups that want an event of a happening, in the order of asks and tells, each with exactly the events
-- that it wants; the law `interests_are_in_order` says which list this is without making it
unfoldable pub interests : List Mark → Happening → List Interest
interests marks happening = interests_among marks marks happening

-- the first of them after an order
abbrev pub next_interest : List Mark → Happening → ℕ → Option Interest
next_interest marks happening after =
    find (λ interest. nat_lt after (interest_order interest)) (interests marks happening)
