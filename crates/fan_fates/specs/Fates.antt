-- What the deeds in a group say of its entries: which are made, which leave, and whose events they are.
use Rattle.std.specs.Prelude.{ℕ, ◌==◌, Bool, true, false, not, List, [], ◌∷◌, filter, if◌then◌else◌}
use Rattle.std.specs.List.{flat_map, list_any}
use Rattle.fan_fates.specs.Calls.{Came, Deed, Freed, Left}
use Rattle.fan_event.specs.declared.event.Event.{Event}
use Rattle.fan_queue.specs.declared.entry.Entry.{Entry}
use Rattle.fan_queue.specs.declared.entry.Put.{Put}
use Rattle.fan_queue.specs.declared.entry.Put.TheVariants as puts

-- the entry that a fate names, unless the group is closed
abbrev pub names : Put → List ℕ
names (puts.Queued entry) = entry ∷ []
names (puts.Merged entry) = entry ∷ []
names (puts.Overflow entry) = entry ∷ []
names puts.Closed = []

-- the entry that a deed names, if an event came
abbrev pub named_by : Deed → List ℕ
named_by (Came event fate) = names fate
named_by _ = []

-- the entries that fates name, in order, as often as they do
abbrev pub named : List Deed → List ℕ
named deeds = flat_map named_by deeds

-- a number is in a list
abbrev pub is_in : List ℕ → ℕ → Bool
is_in numbers number = list_any (λ other. other == number) numbers

-- the numbers in a list, each once, in the order in which they come first
abbrev pub firsts : List ℕ → List ℕ
firsts [] = []
firsts (number ∷ more) = number ∷ filter (λ other. not (other == number)) (firsts more)

-- the entries that are made, in order: the first event that names an entry makes it
abbrev pub made : List Deed → List ℕ
made deeds = firsts (named deeds)

-- the entries that a deed takes out of the queue
abbrev pub left_in : Deed → List Entry
left_in (Came event fate) = []
left_in (Left entries) = entries
left_in (Freed entries) = entries

-- the entries that left the queue, by reads or by the close, in order
abbrev pub left : List Deed → List Entry
left deeds = flat_map left_in deeds

-- the entries that a deed reads
abbrev pub read_in : Deed → List Entry
read_in (Left entries) = entries
read_in _ = []

-- the entries that were read, in order
abbrev pub read : List Deed → List Entry
read deeds = flat_map read_in deeds

-- an event, or none
abbrev pub one_if : Bool → Event → List Event
one_if test event = if test then event ∷ [] else []

-- the event of a deed, if it was queued as an entry or merged into it
abbrev pub told_by : ℕ → Deed → List Event
told_by number (Came event (puts.Queued entry)) = one_if (entry == number) event
told_by number (Came event (puts.Merged entry)) = one_if (entry == number) event
told_by number _ = []

-- the events that were queued as an entry or merged into it, in order
abbrev pub told : List Deed → ℕ → List Event
told deeds number = flat_map (told_by number) deeds

-- the event of a deed, if it was lost and an entry covers it
abbrev pub lost_by : ℕ → Deed → List Event
lost_by number (Came event (puts.Overflow entry)) = one_if (entry == number) event
lost_by number _ = []

-- the events that were lost and that an entry covers, in order
abbrev pub lost : List Deed → ℕ → List Event
lost deeds number = flat_map (lost_by number) deeds

-- a deed is the close of the group
abbrev pub frees : Deed → Bool
frees (Freed entries) = true
frees _ = false

-- the group was closed
abbrev pub is_freed : List Deed → Bool
is_freed deeds = list_any frees deeds
