-- What a step makes of an access, by the turns that are left of it.
use Rattle.std.proofs.Common.{◌≡◌, ◌≢◌, ◌∙◌, ℕ, ◌+◌, true, false, List, [], ◌∷◌, Some, None, drop, refl, sym, ap, subst}
use Rattle.std.specs.Prelude.{All, slice_get}
use Rattle.std.proofs.lemmas.List.Elements.{All-drop, All-head, All-tail, All-weaker}
use Rattle.fan_access.specs.Access.{AccessState, Asking, Phase, Telling, Waiting, access_step, after_ask, asked, asked_outcome, asks, asks_next, event_of, looked, step_at, tells, tells_next}
use Rattle.fan_access.specs.Kept.{AsksLeft, IsAccess, IsPhase, IsStepped, KeptAccess, SeesSame, TellsLeft, turns_behind, turns_left}
use Rattle.fan_access.specs.Rounds.{Round, Turn, turns}
use Rattle.fan_access.specs.declared.op.Op.{Op}
use Rattle.fan_access.specs.declared.phase.Cursor.{Cursor}
use Rattle.fan_access.specs.declared.phase.Phase.{Phase as KeptPhase}
use Rattle.fan_access.specs.declared.phase.Phase.TheVariants as phases
use Rattle.fan_access.specs.declared.spot.Spot.{Spot}
use Rattle.fan_bits.specs.declared.mark.Mark.{Mark}
use Rattle.fan_bits.specs.declared.place.Happening.{Happening}
use Rattle.fan_bits.specs.declared.place.Place.{Place}
use Rattle.fan_bits.specs.Interest.{interests}
use Rattle.fan_bits.specs.Marks.{IsMarkList}
use Rattle.fan_event.specs.declared.event.Event.{Event}
use Rattle.fan_event.specs.Events.{event_for}
use Rattle.fan_queue.specs.declared.entry.Put.{Put}
use Rattle.fan_queue.specs.declared.entry.Put.TheVariants as puts
use Rattle.fan_listener.specs.Groups.{called_at, listener_at, put_to}
use Rattle.fan_listener.specs.ListenerState.{ListenerState}
use Rattle.fan_listener.specs.Queue.{put}
use Rattle.fan_listener.proofs.PutLemmas.{by_put_to}
use Rattle.fan_access.proofs.Turns.{got-drop, none-drop, turns_behind-start}

-- ---- the marks leave the turns that the view leaves

-- some marks tell the same as others of what happens in a round
abbrev Same : List Mark → List Mark → Round → Type 0
Same marks view round = interests marks round.happening ≡ interests view round.happening

module _ (marks view : List Mark) where
  same_turns : (rounds : List Round) → All (Same marks view) rounds → turns marks rounds ≡ turns view rounds
  same_turns [] each = refl
  same_turns (round ∷ more) each =
      rw (
        All-head (Same marks view) round more each,
        same_turns more (All-tail (Same marks view) round more each),
      ) refl

  same_behind : (rounds : List Round) → All (Same marks view) rounds → (after : ℕ)
      → turns_behind marks rounds after ≡ turns_behind view rounds after
  same_behind [] each after = refl
  same_behind (round ∷ more) each after =
      rw (
        All-head (Same marks view) round more each,
        same_turns more (All-tail (Same marks view) round more each),
      ) refl

  same_left : (rounds : List Round) → All (Same marks view) rounds → (cursor : Cursor)
      → turns_left marks rounds cursor ≡ turns_left view rounds cursor
  same_left rounds each cursor =
      same_behind (drop cursor.round rounds) (All-drop (Same marks view) cursor.round rounds each)
      cursor.after.0

  -- at the start all turns are left
  left_at_start : IsMarkList marks → (rounds : List Round) → All (Same marks view) rounds
      → turns view rounds ≡ turns_behind view rounds 0
  left_at_start is_list rounds each =
      sym (same_turns rounds each) ∙ sym (turns_behind-start marks rounds is_list)
      ∙ same_behind rounds each 0

-- what is true of the place of each spot is true of that of each round
abbrev EachRound : (Op → List Spot → List Round) → Type 1
EachRound rounds_of = (P : Place → Type 0) (op : Op) (spots : List Spot)
    → All (λ spot. P spot.place) spots → All (λ round. P round.happening.place) (rounds_of op spots)

-- ---- the next turn of an access, of its asks or of its tells, by the marks

module _ (rounds_of : Op → List Spot → List Round) (each : EachRound rounds_of) (marks : List Mark)
    (access : AccessState) where
  -- the marks tell of each round what the view tells
  same_rounds : SeesSame marks access → All (Same marks access.view) (rounds_of access.op access.spots)
  same_rounds sees =
      let Tells : Place → Type 0 = λ place. (happening : Happening) → happening.place ≡ place
      → interests marks happening ≡ interests access.view happening in
      All-weaker (λ (round : Round). Tells round.happening.place) (Same marks access.view)
      (λ round same. same round.happening refl) (rounds_of access.op access.spots)
      (each Tells access.op access.spots sees)

  -- at the start all its turns are left
  pub all_at_start : IsMarkList marks → SeesSame marks access
      → turns access.view (rounds_of access.op access.spots)
      ≡ turns_behind access.view (rounds_of access.op access.spots) 0
  all_at_start is_list sees =
      left_at_start marks access.view is_list (rounds_of access.op access.spots) (same_rounds sees)

  module _ (kept : KeptAccess) (is : IsAccess marks kept access) (at : ℕ) (cursor : Cursor)
      (rounds : List Round) (these : rounds ≡ rounds_of kept.op kept.spots) where
    abbrev all : List Turn
    all = turns access.view (rounds_of access.op access.spots)

    abbrev left : Cursor → List Turn
    left from = turns_left access.view (rounds_of access.op access.spots) from

    abbrev found : Cursor → List Turn
    found from = turns_left marks rounds from

    found_left : (from : Cursor) → found from ≡ left from
    found_left from =
        rw (these, is.spots, is.op)
        (same_left marks access.view (rounds_of access.op access.spots) (same_rounds is.sees) from)

    -- the turn that is found is the next one, and those behind it are left
    pub next_Some : drop at all ≡ left cursor → (turn : Turn) (behind : Cursor)
        → found cursor ≡ turn ∷ found behind
        → (slice_get all at ≡ Some turn) × (drop (at + 1) all ≡ left behind)
    next_Some from turn behind first =
        let rest = got-drop all at turn (found behind) (from ∙ sym (found_left cursor) ∙ first) in
        (rest.0, rest.1 ∙ found_left behind)

    -- if none is found, none is left
    pub next_None : drop at all ≡ left cursor → found cursor ≡ [] → slice_get all at ≡ None
    next_None from none = none-drop all at (from ∙ sym (found_left cursor) ∙ none)

-- ---- the step of an access, by where it is kept to stand

module _ (marks : List Mark) (kept : KeptAccess) (access : AccessState)
    (is : IsAccess marks kept access) where
  -- the step by a phase that the access has
  step_by : (phase : Phase) → access.phase ≡ phase → (groups : List ListenerState)
      → access_step groups access ≡ step_at phase groups access
  unfolding access_step
  step_by phase stands groups = rw stands refl

  pub step_asking : (cursor : Cursor) → kept.phase ≡ phases.Asking cursor
      → (at : ℕ) × AsksLeft access at cursor
      × ((groups : List ListenerState)
      → access_step groups access ≡ asks_next (slice_get (asks access) at) at groups access)
  step_asking cursor stands =
      let here = subst (IsPhase access) stands is.phase in (here.0, here.2, step_by (Asking here.0) here.1)

  pub step_waiting : (cursor : Cursor) (group entry : ℕ) → kept.phase ≡ phases.Waiting cursor group entry
      → (at : ℕ) × AsksLeft access (at + 1) cursor
      × ((groups : List ListenerState) → access_step groups access ≡ looked at group entry groups access)
  step_waiting cursor group entry stands =
      let here = subst (IsPhase access) stands is.phase in
      (here.0, here.2, step_by (Waiting here.0 group entry) here.1)

  pub step_telling : (cursor : Cursor) → kept.phase ≡ phases.Telling cursor
      → (at : ℕ) × TellsLeft access at cursor
      × ((groups : List ListenerState)
      → access_step groups access ≡ tells_next (slice_get (tells access) at) at groups access)
  step_telling cursor stands =
      let here = subst (IsPhase access) stands is.phase in (here.0, here.2, step_by (Telling here.0) here.1)

-- ---- a permission event is merged nowhere

put_merges_none : (state : ListenerState) (event : Event) (entry : ℕ) → event.perm ≡ true
    → (put state event).0 ≢ puts.Merged entry
put_merges_none state event entry permission =
    by_put_to (λ r. r.0 ≢ puts.Merged entry) state event (λ closed merged. cc) (λ other opened merged. cc)
    (λ opened merged. cc) (λ other opened plain. absurd (let never : true ≡ false = sym permission ∙ plain in cc))
    (λ opened merged. cc)

-- neither is one that is put on the queue of a group
pub never_merged : (groups later : List ListenerState) (group : ℕ) (event : ℕ → Event) (given : Put)
    → ((flags : ℕ) → (event flags).perm ≡ true) → (given, later) ≡ put_to groups group event
    → (entry : ℕ) → given ≢ puts.Merged entry
unfolding put_to
never_merged groups later group event given permission is entry =
    let P : Put × List ListenerState → Type 0 = λ r. r.0 ≢ puts.Merged entry in
    let call : ListenerState → Put × ListenerState = λ listener. put listener (event listener.flags) in
    subst P (sym is)
    (elim (listener_at groups group) as (λ found. P (called_at puts.Closed call groups group found)) [
      | None ↦ λ merged. cc
      | Some listener ↦ put_merges_none listener (event listener.flags) entry (permission listener.flags)
    ])

-- ---- an ask whose event was put

-- the group of a turn was asked, with the event of the access
pub asks_step : (marks : List Mark) (kept : KeptAccess) (access : AccessState) → IsAccess marks kept access
    → (turn : Turn) (at : ℕ) (groups later : List ListenerState) (given : Put)
    → (given, later) ≡ put_to groups turn.interest.group (λ flags.
    event_for flags turn.happening turn.name turn.interest.bits kept.pid kept.tid true)
    → (phase : KeptPhase)
    → IsPhase (record access { phase = after_ask at turn.interest.group given }) phase
    → IsStepped marks (asked_outcome turn.interest.group given) later (record kept { phase = phase })
    (asked turn at groups access)
asks_step marks kept access is turn at groups later given put_is phase stands =
    let group = turn.interest.group in
    let same : (given, later) ≡ put_to groups group (event_of true turn access) =
    put_is ∙ rw (is.pid, is.tid) refl in
    record {
      answers = ap (λ r. asked_outcome group r.0) same;
      listeners = ap (λ r. r.1) same;
      goes_on = record {
        op = is.op;
        spots = is.spots;
        pid = is.pid;
        tid = is.tid;
        phase = subst (λ (r : Put × List ListenerState).
            IsPhase (record access { phase = after_ask at group r.0 }) phase) same stands;
        sees = is.sees;
      };
    }
