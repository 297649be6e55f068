-- What a step of the machine does to the listener of a group: just the call that is said to be made.
use Rattle.std.proofs.Common.{◌≡◌, ◌∙◌, ℕ, zero, suc, ◌==◌, Bool, true, false, cond, List, [], ◌∷◌, ◌++◌, append_assoc, Option, Some, None, Result, Ok, Err, refl, ap, sym, subst, inl, inr, ⊎_elim}
use Rattle.std.proofs.lemmas.Bool.{cases_eq, eq-eqb, ne_eqb}
use Rattle.std.specs.Prelude.{option_map, slice_get, ◌⊎◌}
use Rattle.fan_access.specs.Access.{AccessState, Asking, Phase, Telling, Waiting, access_step, asks, asks_next, event_of, step_at, tells, tells_next}
use Rattle.fan_access.specs.Rounds.{Turn}
use Rattle.fan_bits.specs.declared.errno.Errno.{Errno}
use Rattle.fan_bits.specs.declared.errno.Errno.TheVariants as errno
use Rattle.fan_fates.specs.Calls.{Call, Closes, Looks, Puts, Reads, Writes, after_calls, called, deeds, deeds_of, left_by}
use Rattle.fan_fates.specs.Steps.{access_calls, ask_calls, calls_at as calls_found, calls_by, calls_in, deeds_at, deeds_by, deeds_in, only_of, phase_calls, step_calls, turn_calls}
use Rattle.fan_laws.proofs.Forms.{Form, has_stepped, step_form, was_closed, was_made, was_read, was_written}
use Rattle.fan_laws.proofs.Listeners.{found_with, other_with}
use Rattle.fan_laws.proofs.Moves.{Moves, called as one_called, calls, closes, open_is, opened_is, opens, stays, step_moves}
use Rattle.fan_listener.specs.declared.answers.Answer.TheVariants as answers
use Rattle.fan_queue.specs.declared.entry.Put.TheVariants as puts
use Rattle.fan_listener.specs.Groups.{answer_from, called_at, closed_in, is_open, listener_at, open_listener, outcome_in, put_to, read_from, tried_at, with_listener, written_to}
use Rattle.fan_listener.specs.ListenerState.{ListenerState, new_listener}
use Rattle.fan_listener.specs.Queue.{put}
use Rattle.fan_listener.specs.Records.{read_of}
use Rattle.fan_listener.specs.Responses.{answer_of, closed_of, written}
use Rattle.fan_machine.specs.Accesses.{access_of, advanced, went_on}
use Rattle.fan_machine.specs.Groups.{group_closed, group_read, group_written}
use Rattle.fan_machine.specs.Next.{after, attempted, next}
use Rattle.fan_machine.specs.Outcome.{Outcome, ◌>>=◌, answers as replied, found_or, settled}
use Rattle.fan_machine.specs.World.{WorldState, initial_world, with_change}
use Rattle.fan_bits.specs.declared.change.Change.TheVariants.{DropGroup}
use Rattle.fan_script.specs.declared.reply.Reply.{Reply}
use Rattle.fan_script.specs.declared.reply.Reply.TheVariants as replies
use Rattle.fan_script.specs.declared.step.Step.{Step}
use Rattle.fan_script.specs.declared.step.Step.TheVariants as steps

-- ---- a call of one listener among all

-- a listener is there, or it is called, after a call of any
abbrev Finds : List ListenerState → ℕ → ListenerState → Type 0
Finds groups group listener = listener_at groups group ≡ Some listener

-- the listeners after a call that may be refused
abbrev groups_after : {A : Type 0} → List ListenerState → Result (A × List ListenerState) Errno
    → List ListenerState
groups_after groups (Ok given) = given.1
groups_after groups (Err refusal) = groups

module _ (groups : List ListenerState) (other group : ℕ) (listener : ListenerState)
    (there : Finds groups group listener) where
  -- by whether it is the one that is called
  by_group : (new : List ListenerState) (changed : ListenerState)
      → (other ≡ group → Finds new group changed) → ((other ≡ group → ⊥) → Finds new group listener)
      → Finds new group (cond (other == group) changed listener)
  by_group new changed same differ =
      ⊎_elim (λ is. subst (λ b. Finds new group (cond b changed listener)) (sym (eq-eqb other group is))
      (same is))
      (λ not. subst (λ b. Finds new group (cond b changed listener)) (sym (ne_eqb other group not))
      (differ not))
      (cases_eq other group)

  -- the one that is called, if it is called, is this one
  its_own : (found : ListenerState) → listener_at groups other ≡ Some found → other ≡ group → found ≡ listener
  its_own found is same =
      let its : listener_at groups group ≡ Some found = ap (listener_at groups) (sym same) ∙ is in cc

  absent_other : {A : Type 0} → listener_at groups other ≡ None → other ≡ group → A
  absent_other none same =
      let its : listener_at groups group ≡ None = ap (listener_at groups) (sym same) ∙ none in absurd cc

  called_lift : {A : Type 0} (absent : A) (call : ListenerState → A × ListenerState)
      (found : Option ListenerState) → listener_at groups other ≡ found
      → Finds (called_at absent call groups other found).1 group
      (cond (other == group) (call listener).1 listener)
  called_lift absent call None none = by_group groups (call listener).1 (absent_other none) (λ not. there)
  called_lift absent call (Some found) is =
      let new = with_listener groups other (call found).1 in
      by_group new (call listener).1
      (λ same. subst (λ (at : ℕ). Finds new at (call listener).1) same
      (found_with groups other found (call found).1 is
      ∙ ap (λ (l : ListenerState). Some (call l).1) (its_own found is same)))
      (λ not. other_with groups other group found (call found).1 is (λ same. not (sym same)) ∙ there)

  outcome_lift : {A : Type 0} (call : ListenerState → Result (A × ListenerState) Errno)
      (found : ListenerState)
      (tried : Result (A × ListenerState) Errno) → listener_at groups other ≡ Some found → call found ≡ tried
      → Finds (groups_after groups (outcome_in groups other tried)) group
      (cond (other == group) (left_by listener (call listener)) listener)
  outcome_lift call found (Err refusal) is tried =
      by_group groups (left_by listener (call listener))
      (λ same. let its : call listener ≡ Err refusal = ap call (sym (its_own found is same)) ∙ tried in
      there ∙ ap (λ r. Some (left_by listener r)) (sym its)) (λ not. there)
  outcome_lift call found (Ok given) is tried =
      let new = with_listener groups other given.1 in
      by_group new (left_by listener (call listener))
      (λ same. let its : call listener ≡ Ok given = ap call (sym (its_own found is same)) ∙ tried in
      subst (λ (at : ℕ). Finds new at (left_by listener (call listener))) same
      (found_with groups other found given.1 is ∙ ap (λ r. Some (left_by listener r)) (sym its)))
      (λ not. other_with groups other group found given.1 is (λ same. not (sym same)) ∙ there)

  tried_lift : {A : Type 0} (call : ListenerState → Result (A × ListenerState) Errno)
      (found : Option ListenerState) → listener_at groups other ≡ found
      → Finds (groups_after groups (tried_at call groups other found)) group
      (cond (other == group) (left_by listener (call listener)) listener)
  tried_lift call None none =
      by_group groups (left_by listener (call listener)) (absent_other none) (λ not. there)
  tried_lift call (Some found) is = outcome_lift call found (call found) is refl

-- a call that is made if it is of this group
only_after : (group other : ℕ) (call : Call) (listener : ListenerState)
    → after_calls listener (only_of group other call) ≡ cond (other == group) (called listener call) listener
unfolding after_calls
only_after group other call listener = by (other == group)
  where
    by : (b : Bool) → after_calls listener (cond {A = List Call} b (call ∷ []) [])
        ≡ cond b (called listener call) listener
    by true = refl
    by false = refl

-- ---- a single step of an access

-- so is the listener after the calls that a step makes of it
abbrev Becomes : List ListenerState → ℕ → ListenerState → List Call → Type 0
Becomes new group listener made = Finds new group (after_calls listener made)

same_lift : (groups : List ListenerState) (group : ℕ) (listener : ListenerState) → Finds groups group listener
    → Becomes groups group listener []
unfolding after_calls
same_lift groups group listener there = there

module _ (groups : List ListenerState) (group : ℕ) (listener : ListenerState)
    (there : Finds groups group listener) (access : AccessState) where
  put_lift : (perm : Bool) (turn : Turn)
      → Becomes (put_to groups turn.interest.group (event_of perm turn access)).1 group listener
      (only_of group turn.interest.group (Puts (event_of perm turn access listener.flags)))
  unfolding put_to
  put_lift perm turn =
      let other = turn.interest.group in
      called_lift groups other group listener there puts.Closed
      (λ (l : ListenerState). put l (event_of perm turn access l.flags)) (listener_at groups other) refl
      ∙ ap (λ (l : ListenerState). Some l)
      (sym (only_after group other (Puts (event_of perm turn access listener.flags)) listener))

  tell_lift : (turn : Option Turn) (at : ℕ)
      → Becomes (tells_next turn at groups access).groups group listener
      (turn_calls group listener access false turn)
  tell_lift None at = same_lift groups group listener there
  tell_lift (Some turn) at = put_lift false turn

  ask_lift : (turn : Option Turn) (at : ℕ)
      → Becomes (asks_next turn at groups access).groups group listener (ask_calls group listener access turn)
  ask_lift None at = tell_lift (slice_get (tells access) 0) 0
  ask_lift (Some turn) at = put_lift true turn

  phase_lift : (phase : Phase)
      → Becomes (step_at phase groups access).groups group listener (phase_calls group listener access phase)
  unfolding answer_from
  phase_lift (Asking at) = ask_lift (slice_get (asks access) at) at
  phase_lift (Telling at) = tell_lift (slice_get (tells access) at) at
  phase_lift (Waiting at other entry) =
      called_lift groups other group listener there answers.Closed
      (λ (l : ListenerState). answer_of l entry) (listener_at groups other) refl
      ∙ ap (λ (l : ListenerState). Some l) (sym (only_after group other (Looks entry) listener))

-- ---- each step

module _ (world : WorldState) (group : ℕ) (listener : ListenerState)
    (there : Finds world.groups group listener) where
  advance_lift : (number : ℕ) (access : Option AccessState)
      → Becomes (settled world (found_or errno.Esrch access
      >>= λ one. went_on number (access_step world.groups one) world)).world.groups group listener
      (access_calls group listener access)
  unfolding access_step
  advance_lift number None = same_lift world.groups group listener there
  advance_lift number (Some access) = phase_lift world.groups group listener there access access.phase

  settled_lift : {A : Type 0} (tried : Result (A × List ListenerState) Errno) (reply : A → Reply)
      (made : List Call) → Becomes (groups_after world.groups tried) group listener made
      → Becomes (settled world (tried
      >>= λ given. replied (reply given.0) (record world { groups = given.1 }))).world.groups
      group listener made
  settled_lift (Ok given) reply made is = is
  settled_lift (Err refusal) reply made is = is

  read_lift : (other size : ℕ)
      → Becomes (settled world (group_read world other size)).world.groups group listener
      (only_of group other (Reads size))
  unfolding group_read read_from
  read_lift other size =
      settled_lift (read_from world.groups other size) (λ bytes. replies.Bytes bytes)
      (only_of group other (Reads size))
      (tried_lift world.groups other group listener there (λ (l : ListenerState). read_of l size)
      (listener_at world.groups other) refl
      ∙ ap (λ (l : ListenerState). Some l) (sym (only_after group other (Reads size) listener)))

  write_lift : (other : ℕ) (bytes : List ℕ)
      → Becomes (settled world (group_written world other bytes)).world.groups group listener
      (only_of group other (Writes bytes))
  unfolding group_written written_to
  write_lift other bytes =
      settled_lift (written_to world.groups other bytes) (λ answered. replies.Done)
      (only_of group other (Writes bytes))
      (tried_lift world.groups other group listener there (λ (l : ListenerState). written l bytes)
      (listener_at world.groups other) refl
      ∙ ap (λ (l : ListenerState). Some l) (sym (only_after group other (Writes bytes) listener)))

  -- the close of a group that is open
  close_by : (other : ℕ) (opened : Bool) → is_open listener ≡ opened → (found : Option ListenerState)
      → open_listener world.groups other ≡ found
      → Becomes (settled world (found_or errno.Ebadf
      (option_map (λ l. with_listener world.groups other (closed_of l)) found)
      >>= λ closed. replied replies.Done
      (with_change (DropGroup other) (record world { groups = closed })))).world.groups
      group listener (cond {A = List Call} opened (only_of group other Closes) [])
  close_by other opened is None none = by opened is
    where
      -- so a closed group stays, and no open one is this
      by : (opened : Bool) → is_open listener ≡ opened
          → Becomes world.groups group listener (cond {A = List Call} opened (only_of group other Closes) [])
      by false shut = same_lift world.groups group listener there
      by true opened =
          by_group world.groups other group listener there world.groups (closed_of listener)
          (λ same. let found = open_is world.groups group listener
          (record { there = there; opened = opened }) in
          let its : open_listener world.groups group ≡ None =
          ap (open_listener world.groups) (sym same) ∙ none in
          absurd cc)
          (λ not. there)
          ∙ ap (λ (l : ListenerState). Some l) (sym (only_after group other Closes listener))
  close_by other opened is (Some found) finds = by opened is
    where
      new : List ListenerState
      new = with_listener world.groups other (closed_of found)

      by : (opened : Bool) → is_open listener ≡ opened
          → Becomes new group listener (cond {A = List Call} opened (only_of group other Closes) [])
      by false shut =
          let was = opened_is world.groups other found finds in
          let apart : other ≡ group → ⊥ = λ same.
          let its = its_own world.groups other group listener there found was.there same in
          let clash : true ≡ false = sym was.opened ∙ ap is_open its ∙ shut in absurd cc in
          same_lift new group listener
          (other_with world.groups other group found (closed_of found) was.there (λ same. apart (sym same))
          ∙ there)
      by true opened =
          let was = opened_is world.groups other found finds in
          by_group world.groups other group listener there new (closed_of listener)
          (λ same. subst (λ (at : ℕ). Finds new at (closed_of listener)) same
          (found_with world.groups other found (closed_of found) was.there
          ∙ ap (λ (l : ListenerState). Some (closed_of l))
          (its_own world.groups other group listener there found was.there same)))
          (λ not. other_with world.groups other group found (closed_of found) was.there
          (λ same. not (sym same))
          ∙ there)
          ∙ ap (λ (l : ListenerState). Some l) (sym (only_after group other Closes listener))

-- ---- steps that call no listener

-- a group that is made comes last
pushed : {X : Type 0} (xs : List X) (i : ℕ) (old new : X) → slice_get xs i ≡ Some old
    → slice_get (xs ++ new ∷ []) i ≡ Some old
pushed [] i old new is = absurd cc
pushed (x ∷ xs) zero old new is = is
pushed (x ∷ xs) (suc i) old new is = pushed xs i old new is

found_pushed : (groups : List ListenerState) (group : ℕ) (old new : ListenerState) → Finds groups group old
    → Finds (groups ++ new ∷ []) group old
found_pushed groups zero old new is = absurd cc
found_pushed groups (suc index) old new is = pushed groups index old new is

-- these steps call none
abbrev Quiet : Step → Type 0
Quiet (steps.Advance number) = ⊥
Quiet (steps.Read group size) = ⊥
Quiet (steps.Write group bytes) = ⊥
Quiet (steps.Close group) = ⊥
Quiet _ = Unit {0}

quiet_form : (world : WorldState) (group : ℕ) (listener : ListenerState) (step : Step) (outcome : Outcome)
    → Form world step outcome → Quiet step → Finds world.groups group listener
    → Finds outcome.world.groups group listener
quiet_form world group listener step outcome (has_stepped number access is) quiet there = absurd quiet
quiet_form world group listener step outcome (was_read other size read is) quiet there = absurd quiet
quiet_form world group listener step outcome (was_written other bytes given is) quiet there = absurd quiet
quiet_form world group listener step outcome (was_closed other closed is) quiet there = absurd quiet
quiet_form world group listener step outcome (was_made flags few) quiet there =
    found_pushed world.groups group listener (new_listener flags world.limit) there
quiet_form world group listener step outcome form quiet there = there

quiet_lift : (world : WorldState) (group : ℕ) (listener : ListenerState) (step : Step) → Quiet step
    → Finds world.groups group listener → Becomes (next world step).world.groups group listener []
quiet_lift world group listener step quiet there =
    same_lift (next world step).world.groups group listener
    (quiet_form world group listener step (next world step) (step_form world step) quiet there)

-- ---- any step

pub lifted : (world : WorldState) (step : Step) (group : ℕ) (listener : ListenerState)
    → Finds world.groups group listener
    → Becomes (next world step).world.groups group listener (step_calls world step group listener)
unfolding next attempted advanced group_closed closed_in
lifted world (steps.Advance number) group listener there =
    advance_lift world group listener there number (access_of world number)
lifted world (steps.Read other size) group listener there = read_lift world group listener there other size
lifted world (steps.Write other bytes) group listener there =
    write_lift world group listener there other bytes
lifted world (steps.Close other) group listener there =
    close_by world group listener there other (is_open listener) refl (open_listener world.groups other) refl
lifted world (steps.MkFile path) group listener there =
    quiet_lift world group listener (steps.MkFile path) tt there
lifted world (steps.MkDir path) group listener there =
    quiet_lift world group listener (steps.MkDir path) tt there
lifted world steps.MkFs group listener there = quiet_lift world group listener steps.MkFs tt there
lifted world (steps.Mount fs path) group listener there =
    quiet_lift world group listener (steps.Mount fs path) tt there
lifted world (steps.Umount path) group listener there =
    quiet_lift world group listener (steps.Umount path) tt there
lifted world (steps.Limit entries) group listener there =
    quiet_lift world group listener (steps.Limit entries) tt there
lifted world (steps.Init flags) group listener there =
    quiet_lift world group listener (steps.Init flags) tt there
lifted world (steps.Mark other flags mask path) group listener there =
    quiet_lift world group listener (steps.Mark other flags mask path) tt there
lifted world (steps.Begin number pid tid word path second) group listener there =
    quiet_lift world group listener (steps.Begin number pid tid word path second) tt there
lifted world steps.Grace group listener there = quiet_lift world group listener steps.Grace tt there

-- ---- a group that isn't there

-- it is made by a step, or stays away
pushed_none : {X : Type 0} (xs : List X) (i : ℕ) (new : X) → slice_get xs i ≡ None
    → (slice_get (xs ++ new ∷ []) i ≡ None) ⊎ (slice_get (xs ++ new ∷ []) i ≡ Some new)
pushed_none [] zero new none = inr refl
pushed_none [] (suc i) new none = inl refl
pushed_none (x ∷ xs) zero new none = absurd cc
pushed_none (x ∷ xs) (suc i) new none = pushed_none xs i new none

-- what a step leaves of a group that isn't there
pub data Comes (groups : List ListenerState) (group : ℕ) : Type 0 where
  away : listener_at groups group ≡ None → Comes groups group
  new_one : (flags limit : ℕ) → listener_at groups group ≡ Some (new_listener flags limit)
      → Comes groups group

none_pushed : (groups : List ListenerState) (group flags limit : ℕ) → listener_at groups group ≡ None
    → Comes (groups ++ new_listener flags limit ∷ []) group
none_pushed groups zero flags limit none = away refl
none_pushed groups (suc index) flags limit none =
    ⊎_elim (λ none. away none) (λ its. new_one flags limit its)
    (pushed_none groups index (new_listener flags limit) none)

none_with : (groups : List ListenerState) (group other : ℕ) (old new : ListenerState)
    → listener_at groups group ≡ None → listener_at groups other ≡ Some old
    → Comes (with_listener groups other new) group
none_with groups group other old new none is =
    let apart : group ≡ other → ⊥ = λ same.
    let clash : Some old ≡ None = sym is ∙ ap (listener_at groups) (sym same) ∙ none in absurd cc in
    away (other_with groups other group old new is apart ∙ none)

none_moves : (groups new : List ListenerState) (group : ℕ) → Moves groups new
    → listener_at groups group ≡ None
    → Comes new group
none_moves groups new group (one_called _ stays) none = away none
none_moves groups new group (one_called _ (calls other listener given is call)) none =
    none_with groups group other listener given none is
none_moves groups new group (opens flags limit few) none = none_pushed groups group flags limit none
none_moves groups new group (closes other listener is) none =
    none_with groups group other listener (closed_of listener) none is

none_lift : (world : WorldState) (step : Step) (group : ℕ) → listener_at world.groups group ≡ None
    → Comes (next world step).world.groups group
none_lift world step group none =
    none_moves world.groups (next world step).world.groups group
    (step_moves world step (next world step) (step_form world step)) none

-- ---- whole runs

after_both : (first more : List Call) (listener : ListenerState)
    → after_calls listener (first ++ more) ≡ after_calls (after_calls listener first) more
unfolding after_calls
after_both [] more listener = refl
after_both (call ∷ first) more listener = after_both first more (called listener call)

deeds_both : (first more : List Call) (listener : ListenerState)
    → deeds listener (first ++ more) ≡ deeds listener first ++ deeds (after_calls listener first) more
unfolding after_calls deeds
deeds_both [] more listener = refl
deeds_both (call ∷ first) more listener =
    ap (λ xs. deeds_of listener call ++ xs) (deeds_both first more (called listener call))
    ∙ sym (append_assoc (deeds_of listener call) (deeds (called listener call) first)
    (deeds (after_calls (called listener call) first) more))

-- the calls and deeds of a run, from a listener on
pub record Runs (group : ℕ) (world : WorldState) (run : List Step) (listener : ListenerState) : Type 0 where
  pub becomes : Becomes (after world run).groups group listener (calls_in group world run)
  pub does : deeds_in group world run ≡ deeds listener (calls_in group world run)

runs : (run : List Step) (group : ℕ) (world : WorldState) (listener : ListenerState)
    → Finds world.groups group listener → Runs group world run listener
unfolding calls_in deeds_in deeds after_calls
runs [] group world listener there = record { becomes = there; does = refl }
runs (step ∷ more) group world listener there =
    let first = step_calls world step group listener in
    let later = next world step in
    let now = after_calls listener first in
    let rest = runs more group later.world now (lifted world step group listener there) in
    let its : calls_by world step group ≡ first =
    ap (λ found. calls_found world step group found) there in
    let done : deeds_by world step group ≡ deeds listener first =
    ap (λ found. deeds_at found (calls_found world step group found)) there in record {
      becomes = rest.becomes
          ∙ ap (λ (l : ListenerState). Some l)
          (sym (ap (λ made. after_calls listener (made ++ calls_in group later.world more)) its
          ∙ after_both first (calls_in group later.world more) listener));
      does = ap (λ some. some ++ deeds_in group later.world more) done
          ∙ ap (λ some. deeds listener first ++ some) rest.does
          ∙ sym (ap (λ made. deeds listener (made ++ calls_in group later.world more)) its
          ∙ deeds_both first (calls_in group later.world more) listener);
    }

-- a run from a world in which the group isn't there
pub data Ran (group : ℕ) (world : WorldState) (run : List Step) : Type 0 where
  absent : listener_at (after world run).groups group ≡ None → calls_in group world run ≡ []
      → deeds_in group world run ≡ [] → Ran group world run
  since : (flags limit : ℕ) → Runs group world run (new_listener flags limit) → Ran group world run

module _ (step : Step) (more : List Step) (group : ℕ) (world : WorldState)
    (none : listener_at world.groups group ≡ None) where
  calls_skip : calls_in group world (step ∷ more) ≡ calls_in group (next world step).world more
  unfolding calls_in
  calls_skip =
      ap (λ found. calls_found world step group found ++ calls_in group (next world step).world more) none

  deeds_skip : deeds_in group world (step ∷ more) ≡ deeds_in group (next world step).world more
  unfolding deeds_in
  deeds_skip =
      ap (λ found. deeds_at found (calls_found world step group found)
      ++ deeds_in group (next world step).world more) none

  -- a step that calls none goes before
  ran_more : Ran group (next world step).world more → Ran group world (step ∷ more)
  ran_more (absent still no_calls no_deeds) =
      absent still (calls_skip ∙ no_calls) (deeds_skip ∙ no_deeds)
  ran_more (since flags limit its) =
      since flags limit (record {
        becomes = subst (Becomes (after world (step ∷ more)).groups group (new_listener flags limit))
            (sym calls_skip) its.becomes;
        does = deeds_skip ∙ its.does ∙ ap (deeds (new_listener flags limit)) (sym calls_skip);
      })

  ran_by : Comes (next world step).world.groups group
      → (listener_at (next world step).world.groups group ≡ None → Ran group (next world step).world more)
      → Ran group (next world step).world more
  ran_by (away still) later = later still
  ran_by (new_one flags limit is) later =
      since flags limit (runs more group (next world step).world (new_listener flags limit) is)

pub ran : (run : List Step) (group : ℕ) (world : WorldState) → listener_at world.groups group ≡ None
    → Ran group world run
unfolding calls_in deeds_in
ran [] group world none = absent none refl refl
ran (step ∷ more) group world none =
    ran_more step more group world none (ran_by step more group world none (none_lift world step group none)
    (ran more group (next world step).world))

none_first : (group : ℕ) → listener_at initial_world.groups group ≡ None
none_first zero = refl
none_first (suc index) = refl

pub ran_first : (run : List Step) (group : ℕ) → Ran group initial_world run
ran_first run group = ran run group initial_world (none_first group)
