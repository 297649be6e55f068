-- The rules of fates: what each says of the deeds before it, and of the queue right after it.
use Rattle.std.specs.Prelude.{◌≡◌, ◌≢◌, Bool, true, false, List, [], ◌∷◌}
use Rattle.std.specs.Int.RustNames.{bit_or}
use Rattle.std.specs.List.{Contains}
use Rattle.fan_fates.specs.Calls.{Came, Deed}
use Rattle.fan_fates.specs.Fates.{is_freed, lost, told}
use Rattle.fan_event.specs.declared.event.Event.{Event}
use Rattle.fan_queue.specs.declared.entry.Body.{Body}
use Rattle.fan_queue.specs.declared.entry.Body.TheVariants as bodies
use Rattle.fan_queue.specs.declared.entry.Entry.{Entry}
use Rattle.fan_queue.specs.declared.entry.Put.{Put}
use Rattle.fan_queue.specs.declared.entry.Put.TheVariants as puts
use Rattle.fan_event.specs.Keys.{same_key}

-- a fate is that of an event whose group is closed
abbrev pub is_closed : Put → Bool
is_closed puts.Closed = true
is_closed _ = false

-- an event finds its group closed exactly if that was closed before
abbrev pub FindsClosed : List Deed → Put → Type 0
FindsClosed before fate = is_closed fate ≡ is_freed before

-- a fate is that of a lost event
abbrev pub is_lost_fate : Put → Bool
is_lost_fate (puts.Overflow entry) = true
is_lost_fate _ = false

-- an event is queued as an entry that no fate has named, or merged into one that has events and covers none;
-- and the entry that covers it, if it is lost, has no events
abbrev pub NamesNext : List Deed → Put → Type 0
NamesNext before (puts.Queued entry) = (told before entry ≡ []) × (lost before entry ≡ [])
NamesNext before (puts.Merged entry) = (told before entry ≢ []) × (lost before entry ≡ [])
NamesNext before (puts.Overflow entry) = told before entry ≡ []
NamesNext before puts.Closed = Unit {0}

-- the entry of a permission event that is queued is named by it alone, and no permission event is merged
abbrev pub IsAlone : List Deed → Event → Put → Type 0
IsAlone deeds event (puts.Queued entry) =
    event.perm ≡ true → (told deeds entry ≡ event ∷ []) × (lost deeds entry ≡ [])
IsAlone deeds event (puts.Merged entry) = event.perm ≡ false
IsAlone deeds event _ = Unit {0}

-- the same of a deed, if an event came
abbrev pub IsAloneIn : List Deed → Deed → Type 0
IsAloneIn deeds (Came event fate) = IsAlone deeds event fate
IsAloneIn deeds _ = Unit {0}

-- an event is in the queue as its fate says: as an entry of its own, or in one with its key and its bits; or
-- the lost entry that covers it is there
abbrev pub IsQueued : List Entry → Event → Put → Type 0
IsQueued queue event (puts.Queued number) =
    Contains queue (record { number = number; body = bodies.Told event })
IsQueued queue event (puts.Merged number) = (whole : Event)
    × Contains queue (record { number = number; body = bodies.Told whole })
    × (bit_or whole.bits event.bits ≡ whole.bits) × (same_key whole event ≡ true)
IsQueued queue event (puts.Overflow number) =
    Contains queue (record { number = number; body = bodies.Lost })
IsQueued queue event puts.Closed = Unit {0}

-- two bodies are not two events that would be merged
abbrev pub AreOwn : Body → Body → Type 0
AreOwn (bodies.Told event) (bodies.Told other) =
    event.perm ≡ false → other.perm ≡ false → same_key event other ≡ false
AreOwn _ _ = Unit {0}

-- the same of two entries
abbrev pub HaveOwnKeys : Entry → Entry → Type 0
HaveOwnKeys entry other = AreOwn entry.body other.body
