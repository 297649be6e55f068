-- `begin` and `step`: how an access begins, and its single steps.
use Rattle.std.specs.Prelude.{ℕ, ◌&&◌, Bool, nat_lt, List, [], ◌∷◌, Option, if◌then◌else◌}
use Rattle.std.specs.BTreeMap.{insert_entry, is_at}
use Rattle.std.specs.Map.{lookup, remove_entry, set_value}
use Rattle.std.specs.Ordering.{nat_cmp}
use Rattle.fan_access.specs.Access.{AccessState, Stepped, access_step, new_access}
use Rattle.fan_access.specs.declared.op.Op.{Op}
use Rattle.fan_access.specs.declared.op.Op.TheVariants as ops
use Rattle.fan_bits.specs.declared.errno.Errno.TheVariants as errno
use Rattle.fan_bits.specs.Outcomes.{ends_access}
use Rattle.fan_event.specs.Names.{is_name}
use Rattle.fan_machine.specs.Deeds.{Deed, deed_of, last_name, names_up, second_names}
use Rattle.fan_machine.specs.Outcome.{Attempt, answers, refuse_unless, found_or, ◌>>=◌}
use Rattle.fan_machine.specs.World.{WorldState, with_change_if}
use Rattle.fan_script.specs.declared.reply.Reply.TheVariants as replies
use Rattle.fan_script.specs.declared.step.OpWord.{OpWord}
use Rattle.fan_script.specs.declared.step.OpWord.TheVariants as words

-- the operation of a word
abbrev pub op_of : OpWord → Op
op_of words.Opens = ops.Opens
op_of words.Execs = ops.Execs
op_of words.Reads = ops.Reads
op_of words.Writes = ops.Writes
op_of words.ClosesWrite = ops.ClosesWrite
op_of words.ClosesRead = ops.ClosesRead
op_of words.Attribs = ops.Attribs
op_of words.Creates = ops.Creates
op_of words.MakesDir = ops.MakesDir
op_of words.Unlinks = ops.Unlinks
op_of words.RemovesDir = ops.RemovesDir
op_of words.Renames = ops.Renames

-- the access with a number
abbrev pub access_of : WorldState → ℕ → Option AccessState
access_of world number = lookup (is_at (nat_cmp number)) world.accesses

-- the world with one open access more
abbrev pub with_access : ℕ → AccessState → WorldState → WorldState
with_access number access world = record world { accesses = insert_entry nat_cmp world.accesses number access }

-- an access begins: its number is used; a write empties ignored sets; the access takes its view, which is the
-- marks as they stand then; the tree is changed; and the marks on what was removed go
abbrev pub begins : ℕ → Op → Deed → ℕ → ℕ → WorldState → WorldState
begins number op deed pid tid world =
    let emptied = with_change_if deed.first (record world { last_access = number }) in
    let opened = with_access number (new_access op deed.spots pid tid emptied.marks) emptied in
    with_change_if deed.last (record opened { tree = deed.tree })

-- the last names of both paths are names, as in every line
abbrev pub are_named : List ℕ → Option (List ℕ) → Bool
are_named path second = is_name (last_name (names_up path)) && is_name (last_name (second_names second))

-- `begin`: EEXIST if the number isn't above all before it, EINVAL for a path whose last name is none, as no line
-- has it, and then the refusals of the operation
unfoldable pub begun : WorldState → ℕ → ℕ → ℕ → OpWord → List ℕ → Option (List ℕ) → Attempt
begun world number pid tid word path second = do
  free ← refuse_unless (nat_lt world.last_access number) errno.Eexist
  named ← refuse_unless (are_named path second) errno.Einval
  deed ← deed_of world (op_of word) path second
  answers replies.Done (begins number (op_of word) deed pid tid world)

-- an access that is finished is open no more, and any other goes on
abbrev pub accesses_after : ℕ → Stepped → List (ℕ × AccessState) → List (ℕ × AccessState)
accesses_after number stepped accesses =
    if ends_access stepped.outcome then remove_entry (is_at (nat_cmp number)) accesses
    else set_value (is_at (nat_cmp number)) accesses stepped.access

-- what a single step of an access answers, and the world after it
abbrev pub went_on : ℕ → Stepped → WorldState → Attempt
went_on number stepped world =
    answers
    (replies.Out (stepped.outcome ∷ []))
    (record world { groups = stepped.groups; accesses = accesses_after number stepped world.accesses })

-- `step`, of which `run` is made: ESRCH if no such access is open
unfoldable pub advanced : WorldState → ℕ → Attempt
advanced world number = do
  access ← found_or errno.Esrch (access_of world number)
  went_on number (access_step world.groups access) world
