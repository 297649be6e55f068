-- The flags and the mask with which the marks of a group are changed: fanotify_mark(2).
use Rattle.std.specs.Prelude.{◌≡◌, ℕ, ◌==◌, Bool, true, false, not, ◌&&◌, ◌||◌, if◌then◌else◌, List, [], ◌∷◌, ◌++◌}
use Rattle.fan_bits.specs.declared.class.Class.{Class}
use Rattle.fan_bits.specs.declared.class.Class.TheVariants.{Notif}
use Rattle.fan_bits.specs.declared.kind.Kind.{Kind}
use Rattle.fan_bits.specs.declared.kind.Kind.TheVariants as kinds
use Rattle.fan_bits.specs.declared.kind.Verb.{Verb}
use Rattle.fan_bits.specs.declared.kind.Verb.TheVariants as verbs
use Rattle.fan_bits.specs.declared.mark_call.MarkWords.{MarkWords}
use Rattle.fan_bits.specs.Words.{bit, class_of, has_any, has_handles, has_one, has_only, occurs}

-- the number of the bit FAN_MARK_ADD
abbrev pub mark_add : ℕ
mark_add = 0

-- the number of the bit FAN_MARK_REMOVE
abbrev pub mark_remove : ℕ
mark_remove = 1

-- the number of the bit FAN_MARK_DONT_FOLLOW
abbrev pub dont_follow : ℕ
dont_follow = 2

-- the number of the bit FAN_MARK_ONLYDIR
abbrev pub only_dir : ℕ
only_dir = 3

-- the number of the bit FAN_MARK_MOUNT
abbrev pub mark_mount : ℕ
mark_mount = 4

-- the number of the bit FAN_MARK_IGNORED_MASK
abbrev pub ignored_mask : ℕ
ignored_mask = 5

-- the number of the bit FAN_MARK_IGNORED_SURV_MODIFY
abbrev pub ignored_surv_modify : ℕ
ignored_surv_modify = 6

-- the number of the bit FAN_MARK_FLUSH
abbrev pub mark_flush : ℕ
mark_flush = 7

-- the number of the bit FAN_MARK_FILESYSTEM
abbrev pub mark_filesystem : ℕ
mark_filesystem = 8

-- the number of the bit FAN_ACCESS
abbrev pub access : ℕ
access = 0

-- the number of the bit FAN_MODIFY
abbrev pub modify : ℕ
modify = 1

-- the number of the bit FAN_ATTRIB
abbrev pub attrib : ℕ
attrib = 2

-- the number of the bit FAN_CLOSE_WRITE
abbrev pub close_write : ℕ
close_write = 3

-- the number of the bit FAN_CLOSE_NOWRITE
abbrev pub close_nowrite : ℕ
close_nowrite = 4

-- the number of the bit FAN_OPEN
abbrev pub opened : ℕ
opened = 5

-- the number of the bit FAN_MOVED_FROM
abbrev pub moved_from : ℕ
moved_from = 6

-- the number of the bit FAN_MOVED_TO
abbrev pub moved_to : ℕ
moved_to = 7

-- the number of the bit FAN_CREATE
abbrev pub create : ℕ
create = 8

-- the number of the bit FAN_DELETE
abbrev pub delete : ℕ
delete = 9

-- the number of the bit FAN_DELETE_SELF
abbrev pub delete_self : ℕ
delete_self = 10

-- the number of the bit FAN_MOVE_SELF
abbrev pub move_self : ℕ
move_self = 11

-- the number of the bit FAN_OPEN_EXEC
abbrev pub open_exec : ℕ
open_exec = 12

-- the number of the bit FAN_Q_OVERFLOW, which only the event that stands for lost ones has
abbrev pub overflow : ℕ
overflow = 14

-- the number of the bit FAN_OPEN_PERM
abbrev pub open_perm : ℕ
open_perm = 16

-- the number of the bit FAN_ACCESS_PERM
abbrev pub access_perm : ℕ
access_perm = 17

-- the number of the bit FAN_OPEN_EXEC_PERM
abbrev pub open_exec_perm : ℕ
open_exec_perm = 18

-- the number of the bit FAN_EVENT_ON_CHILD
abbrev pub event_on_child : ℕ
event_on_child = 27

-- the number of the bit FAN_ONDIR
abbrev pub ondir : ℕ
ondir = 30

-- the word FAN_OPEN
abbrev pub open_bit : ℕ
open_bit = bit opened

-- the word FAN_MODIFY
abbrev pub modify_bit : ℕ
modify_bit = bit modify

-- the word FAN_OPEN_PERM
abbrev pub open_perm_bit : ℕ
open_perm_bit = bit open_perm

-- the word FAN_Q_OVERFLOW
abbrev pub overflow_bit : ℕ
overflow_bit = bit overflow

-- the flags that say what is done
abbrev pub verb_flags : List ℕ
verb_flags = mark_add ∷ mark_remove ∷ mark_flush ∷ []

-- the bits of all flags
abbrev pub mark_flags : List ℕ
mark_flags =
    mark_add ∷ mark_remove ∷ dont_follow ∷ only_dir ∷ mark_mount ∷ ignored_mask
    ∷ ignored_surv_modify ∷ mark_flush ∷ mark_filesystem ∷ []

-- FAN_MARK_FLUSH and the flags that may be given with it
abbrev pub flush_flags : List ℕ
flush_flags = mark_mount ∷ mark_flush ∷ mark_filesystem ∷ []

-- the events that ask for permission
abbrev pub perm_events : List ℕ
perm_events = open_perm ∷ access_perm ∷ open_exec_perm ∷ []

-- the events that are only reported by handles
abbrev pub handle_events : List ℕ
handle_events = attrib ∷ moved_from ∷ moved_to ∷ create ∷ delete ∷ delete_self ∷ move_self ∷ []

-- the events of a file or directory that was itself removed or renamed
abbrev pub self_events : List ℕ
self_events = delete_self ∷ move_self ∷ []

-- the bits that a mask may have
abbrev pub mask_bits : List ℕ
mask_bits =
    access ∷ modify ∷ close_write ∷ close_nowrite ∷ opened ∷ open_exec ∷ event_on_child ∷ ondir ∷ []
    ++ perm_events ++ handle_events

-- a group of this class is never asked for permission
abbrev pub is_notif : Class → Bool
is_notif Notif = true
is_notif _ = false

-- no other bits are given, exactly one flag says what is done, at most one what the mark is on, and
-- FAN_MARK_FLUSH is given with a kind alone
unfoldable pub are_mark_flags : ℕ → Bool
are_mark_flags flags =
    has_only 32 mark_flags flags
    && has_one verb_flags flags
    && not (occurs flags mark_mount && occurs flags mark_filesystem)
    && (not (occurs flags mark_flush) || has_only 32 flush_flags flags)

-- the mask, by the flags of the call and of the group: it is not empty and has no other bits; it has no
-- permission event if the group is never asked, and no event that is only reported by handles if the group
-- reports none or the mark is on a mount
unfoldable pub is_mask : ℕ → ℕ → ℕ → Bool
is_mask mask flags init =
    not (mask == 0)
    && has_only 64 mask_bits mask
    && not (has_any perm_events mask && is_notif (class_of init))
    && not (has_any handle_events mask && (not (has_handles init) || occurs flags mark_mount))

-- the call is valid for a group with these init flags; FAN_MARK_FLUSH ignores the mask
unfoldable pub is_mark_call : ℕ → ℕ → ℕ → Bool
is_mark_call flags mask init =
    are_mark_flags flags && (occurs flags mark_flush || is_mask mask flags init)

-- the same as a fact
abbrev pub IsMarkCall : ℕ → ℕ → ℕ → Type 0
IsMarkCall flags mask init = is_mark_call flags mask init ≡ true

-- what is done
abbrev pub verb_of : ℕ → Verb
verb_of flags =
    if occurs flags mark_add then verbs.Add
    else if occurs flags mark_remove then verbs.Remove else verbs.Flush

-- what the mark is on
abbrev pub kind_of : ℕ → Kind
kind_of flags =
    if occurs flags mark_mount then kinds.Mount
    else if occurs flags mark_filesystem then kinds.Filesystem else kinds.Inode

-- what a call with these flags and this mask asks for
abbrev pub mark_words_of : ℕ → ℕ → MarkWords
mark_words_of flags mask = record {
  verb = verb_of flags;
  kind = kind_of flags;
  only_dir = occurs flags only_dir;
  ignored = occurs flags ignored_mask;
  survives = occurs flags ignored_surv_modify;
  mask = if occurs flags mark_flush then 0 else mask;
}
