-- Entries leave a queue only by a read that gives bytes, or by the close of its group.
use Rattle.std.proofs.Common.{◌≡◌, ◌∙◌, ℕ, ◌==◌, Bool, true, false, cond, List, [], ◌∷◌, append-nil, Option, Some, None, Result, Ok, Err, refl, ap, inl, inr}
use Rattle.std.proofs.lemmas.Bool.{eqb-true}
use Rattle.std.specs.Prelude.{option_map}
use Rattle.fan_bits.specs.declared.change.Change.TheVariants.{DropGroup}
use Rattle.fan_bits.specs.declared.errno.Errno.{Errno}
use Rattle.fan_bits.specs.declared.errno.Errno.TheVariants as errno
use Rattle.fan_fates.specs.Calls.{Call, Closes, Reads, Writes, deeds, gone, left_by}
use Rattle.fan_fates.specs.Fates.{left}
use Rattle.fan_fates.specs.Steps.{calls_at, deeds_at, deeds_by, step_calls}
use Rattle.fan_fates.specs.Turns.{Takes}
use Rattle.fan_fates.proofs.Coming.{OfAccess, looks_one, of_access, puts_none, puts_one}
use Rattle.fan_fates.proofs.History.{gone_is}
use Rattle.fan_fates.proofs.Reading.{reply_to}
use Rattle.fan_laws.proofs.Moves.{open_is}
use Rattle.fan_listener.specs.Groups.{closed_in, is_open, listener_at, open_listener, outcome_in, read_from, tried_at, with_listener}
use Rattle.fan_listener.specs.ListenerState.{ListenerState}
use Rattle.fan_listener.specs.Records.{read_of}
use Rattle.fan_listener.specs.Responses.{closed_of}
use Rattle.fan_machine.specs.Accesses.{access_of}
use Rattle.fan_machine.specs.Groups.{group_closed, group_read}
use Rattle.fan_machine.specs.Next.{attempted, next}
use Rattle.fan_machine.specs.Outcome.{◌>>=◌, answers, found_or, settled}
use Rattle.fan_machine.specs.World.{WorldState, with_change}
use Rattle.fan_script.specs.declared.reply.Reply.TheVariants as replies
use Rattle.fan_script.specs.declared.step.Step.{Step}
use Rattle.fan_script.specs.declared.step.Step.TheVariants as steps

-- a read that isn't refused gives bytes
reply_read : (world : WorldState) (group size : ℕ) (listener : ListenerState) (given : List ℕ × ListenerState)
    → listener_at world.groups group ≡ Some listener → read_of listener size ≡ Ok given
    → (next world (steps.Read group size)).reply ≡ replies.Bytes given.0
unfolding next attempted group_read read_from
reply_read world group size listener given there is =
    ap (λ found. reply_to world (tried_at (λ (l : ListenerState). read_of l size) world.groups group found))
    there
    ∙ ap (λ tried. reply_to world (outcome_in world.groups group tried)) is

-- the close of an open group is done
reply_close : (world : WorldState) (group : ℕ) (listener : ListenerState)
    → open_listener world.groups group ≡ Some listener → (next world (steps.Close group)).reply ≡ replies.Done
unfolding next attempted group_closed closed_in
reply_close world group listener opened =
    ap (λ found. (settled world
    (found_or errno.Ebadf (option_map (λ l. with_listener world.groups group (closed_of l)) found)
    >>= λ closed. answers replies.Done
    (with_change (DropGroup group) (record world { groups = closed })))).reply) opened

-- the calls leave something out of the queue
abbrev Empties : ListenerState → List Call → Type 0
Empties listener calls = left (deeds listener calls) ≡ [] → ⊥

-- those of an access don't
access_leaves : (listener : ListenerState) (calls : List Call) → OfAccess calls → Empties listener calls → ⊥
unfolding deeds
access_leaves listener calls puts_none some = some refl
access_leaves listener calls (puts_one event) some = some refl
access_leaves listener calls (looks_one entry) some = some refl

none_leaves : (listener : ListenerState) → Empties listener [] → ⊥
unfolding deeds
none_leaves listener some = some refl

write_leaves : (listener : ListenerState) (b : Bool) (bytes : List ℕ)
    → Empties listener (cond {A = List Call} b (Writes bytes ∷ []) []) → ⊥
unfolding deeds
write_leaves listener true bytes some = some refl
write_leaves listener false bytes some = some refl

module _ (world : WorldState) (group : ℕ) (listener : ListenerState)
    (there : listener_at world.groups group ≡ Some listener) where
  read_by : (other size : ℕ) (tried : Result (List ℕ × ListenerState) Errno) → other ≡ group
      → read_of listener size ≡ tried → Empties listener (Reads size ∷ [])
      → Takes world (steps.Read other size) group
  unfolding deeds
  read_by other size (Err refusal) same is some =
      absurd (some (append-nil _ ∙ ap (λ tried. gone listener.queue (left_by listener tried).queue) is
      ∙ gone_is listener.queue [] listener.queue refl))
  read_by other size (Ok given) same is some =
      inl (
        size,
        given.0,
        ap (λ (one : ℕ). steps.Read one size) same,
        reply_read world other size listener given (ap (listener_at world.groups) same ∙ there) is,
      )

  read_takes : (other size : ℕ) (b : Bool) → (other == group) ≡ b
      → Empties listener (cond {A = List Call} b (Reads size ∷ []) [])
      → Takes world (steps.Read other size) group
  read_takes other size false differ some = absurd (none_leaves listener some)
  read_takes other size true same some =
      read_by other size (read_of listener size) (eqb-true other group same) refl some

  close_takes : (other : ℕ) (opened b : Bool) → is_open listener ≡ opened → (other == group) ≡ b
      → Empties listener (cond {A = List Call} opened (cond {A = List Call} b (Closes ∷ []) []) [])
      → Takes world (steps.Close other) group
  close_takes other false b shut is some = absurd (none_leaves listener some)
  close_takes other true false opened differ some = absurd (none_leaves listener some)
  close_takes other true true opened is some =
      let same : other ≡ group = eqb-true other group is in
      let found = open_is world.groups group listener (record { there = there; opened = opened }) in
      inr (
        ap (λ (one : ℕ). steps.Close one) same,
        reply_close world other listener (ap (open_listener world.groups) same ∙ found),
      )

  step_takes : (step : Step) → Empties listener (step_calls world step group listener)
      → Takes world step group
  step_takes (steps.Advance number) some =
      absurd (access_leaves listener _ (of_access group listener (access_of world number)) some)
  step_takes (steps.Read other size) some = read_takes other size (other == group) refl some
  step_takes (steps.Write other bytes) some = absurd (write_leaves listener (other == group) bytes some)
  step_takes (steps.Close other) some = close_takes other (is_open listener) (other == group) refl refl some
  step_takes (steps.MkFile path) some = absurd (none_leaves listener some)
  step_takes (steps.MkDir path) some = absurd (none_leaves listener some)
  step_takes steps.MkFs some = absurd (none_leaves listener some)
  step_takes (steps.Mount fs path) some = absurd (none_leaves listener some)
  step_takes (steps.Umount path) some = absurd (none_leaves listener some)
  step_takes (steps.Limit entries) some = absurd (none_leaves listener some)
  step_takes (steps.Init flags) some = absurd (none_leaves listener some)
  step_takes (steps.Mark other flags mask path) some = absurd (none_leaves listener some)
  step_takes (steps.Begin number pid tid word path second) some = absurd (none_leaves listener some)
  step_takes steps.Grace some = absurd (none_leaves listener some)

pub takes : (world : WorldState) (step : Step) (group : ℕ) → (left (deeds_by world step group) ≡ [] → ⊥)
    → Takes world step group
takes world step group some = by (listener_at world.groups group) refl some
  where
    by : (found : Option ListenerState) → listener_at world.groups group ≡ found
        → (left (deeds_at found (calls_at world step group found)) ≡ [] → ⊥) → Takes world step group
    by None none some = absurd (some refl)
    by (Some listener) there some = step_takes world group listener there step some
