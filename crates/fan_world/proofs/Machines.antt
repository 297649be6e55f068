-- Parts that stand for a state before a step stand for the state after it.
use Rattle.std.proofs.Common.{◌≡◌, ◌∙◌, ℕ, ◌+◌, ◌<◌, ◌≤◌, Bool, true, false, cond, List, [], ◌∷◌, ◌++◌, Option, Some, None, Ok, Err, length, get_or, refl, sym, ap, add-zero, arith, length-append, eq-eqb, le-leb}
use Rattle.std.specs.Prelude.{All, ◌==◌}
use Rattle.std.specs.BTreeMap.{insert_entry, is_at}
use Rattle.std.specs.List.{AllZip}
use Rattle.std.specs.Map.{keys_of, lookup}
use Rattle.std.specs.Ordering.{nat_cmp}
use Rattle.std.proofs.lemmas.List.{length-map}
use Rattle.std.proofs.lemmas.List.Folds.{list_any_at}
use Rattle.fan_access.specs.Access.{AccessState, access_step, new_access}
use Rattle.fan_access.specs.declared.op.Op.{Op}
use Rattle.fan_access.specs.declared.spot.Spot.{Spot}
use Rattle.fan_access.specs.Kept.{IsAccess, SeesSame}
use Rattle.fan_bits.specs.declared.change.Change.{Change}
use Rattle.fan_bits.specs.declared.change.Change.TheVariants.{Clear, DropObject}
use Rattle.fan_bits.specs.declared.errno.Errno.TheVariants as errno
use Rattle.fan_bits.specs.declared.outcome.StepOutcome.{StepOutcome}
use Rattle.fan_bits.specs.declared.mark.Mark.{Mark}
use Rattle.fan_bits.specs.Marks.{IsMarkList, changed, retired}
use Rattle.fan_grace.specs.declared.section.Section.{Section}
use Rattle.fan_listener.specs.ListenerState.{ListenerState}
use Rattle.fan_machine.specs.Accesses.{advanced, begins}
use Rattle.fan_machine.specs.Batches.{batch_of, graced, held, is_held, reclaimed, started}
use Rattle.fan_machine.specs.World.{Batch, RetiredMark, WorldState, retired_now, with_change}
use Rattle.fan_mounts.specs.declared.mount.Mount.{Mount}
use Rattle.fan_script.specs.declared.reply.Reply.TheVariants as replies
use Rattle.fan_world.specs.declared.begin_steps.Actor.{Actor}
use Rattle.fan_world.specs.Plans.{deed_with}
use Rattle.fan_world.specs.declared.open_accesses.OpenAccess.{OpenAccess}
use Rattle.fan_world.specs.declared.retirement.KeptBatch.{KeptBatch}
use Rattle.fan_world.specs.declared.retirement.Retirement.{Retirement}
use Rattle.fan_world.specs.Bounds.{IsClassedIf}
use Rattle.fan_world.specs.Done.{IsDone}
use Rattle.fan_world.specs.Machine.{IsBatch, IsBatchIn, IsMachineOver, IsOpen, IsStepOver, PartsOver, sections_of}
use Rattle.fan_world.specs.Marks.{Dropped, Emptied, HasEdited, MarkEdit, MarksState, Stays, edit_of}
use Rattle.fan_world.specs.Opened.{HasStepped}
use Rattle.fan_world.specs.Sections.{HasEntered, Keeps}
use Rattle.fan_world.specs.Retired.{has_up_to, kept_batch, kept_start, reclaimed_count, still_held}
use Rattle.fan_world.proofs.Batches.{batch_begun, batch_stepped, held_both, keys_both}
use Rattle.fan_world.proofs.Both.{found_both, insert_both, none_both, stepped_both}
use Rattle.fan_world.proofs.OpenSections.{shown_entered, shown_still}

-- the parts as they are kept stand for what they are seen to stand for
pub as_kept : (S : Type 0) (shows : S → Section → List Mark → Type 0) (honest : S → Type 0)
    (kept parts : PartsOver S) (world : WorldState) → kept ≡ parts → IsMachineOver shows honest parts world
    → IsMachineOver shows honest kept world
as_kept S shows honest kept parts world is machine = rw is machine

-- ---- an access does its next step

module _ (S : Type 0) (inside : S → List Section → Type 0) (shows : S → Section → List Mark → Type 0)
    (honest : S → Type 0) where
  -- there is no such access
  pub advance_none : (parts : PartsOver S) (world : WorldState) (number : ℕ)
      → IsMachineOver shows honest parts world → lookup (is_at (nat_cmp number)) parts.accesses ≡ None
      → advanced world number ≡ Err errno.Esrch
  unfolding advanced
  advance_none parts world number machine none =
      rw (none_both S shows parts.sections (is_at (nat_cmp number)) parts.accesses world.accesses machine.accesses none)
      refl

  -- there is one
  pub advance_done : (parts : PartsOver S) (groups : List ListenerState) (sections : S)
      (entries : List (ℕ × OpenAccess)) (last : ℕ) (world : WorldState) (number : ℕ) (outcome : StepOutcome)
      (kept : OpenAccess) → IsMachineOver shows honest parts world
      → lookup (is_at (nat_cmp number)) parts.accesses ≡ Some kept
      → ((kept : OpenAccess) (access : AccessState) → lookup (is_at (nat_cmp number)) parts.accesses ≡ Some kept
      → shows parts.sections kept.section access.view → IsAccess access.view kept.access access
      → HasStepped number kept.section access.view (access_step parts.groups access) outcome groups parts.accesses
      entries)
      → Keeps inside shows honest parts.sections sections (sections_of entries) → last ≡ parts.last_access
      → IsDone shows honest
      (record parts { groups = groups; sections = sections; accesses = entries; last_access = last })
      (Ok (replies.Out (outcome ∷ [])))
      (advanced world number)
  unfolding advanced
  advance_done parts groups sections entries last world number outcome kept machine here steps keeps same =
      let there = found_both S shows parts.sections (is_at (nat_cmp number)) parts.accesses world.accesses
      machine.accesses kept here in
      let access = there.0 in
      let stands = there.2 in
      let own = steps kept access here stands.shown stands.goes_on in
      let did : HasStepped number kept.section access.view (access_step world.groups access) outcome groups
      parts.accesses entries =
      rw machine.groups at own in
      rw there.1 (record {
        answers = ap (λ outcome. replies.Out (outcome ∷ [])) did.answers;
        machine = record {
          tree = machine.tree;
          mounts = machine.mounts;
          groups = did.listeners;
          marks = machine.marks;
          is_honest = keeps.same_honest.0 machine.is_honest;
          waiting = machine.waiting;
          batch = batch_stepped parts.batch world.batch world number (access_step world.groups access)
              (access_step world.groups access).groups machine.batch;
          accesses = shown_still S inside shows honest parts.sections sections entries _ keeps
              (stepped_both S shows parts.sections number kept access outcome world.groups groups parts.accesses entries
              world.accesses stands did machine.accesses);
          last_access = same ∙ machine.last_access;
          limit = machine.limit;
        };
      })

-- ---- retired marks are reclaimed

-- a batch starts with the accesses that are open
batch_starts : (world : WorldState) (waiting : List RetiredMark)
    → All (λ number. number ≤ world.last_access) (keys_of world.accesses)
    → IsBatchIn (kept_batch (length waiting) world.last_access) (batch_of world waiting)
    (record world { waiting = []; batch = batch_of world waiting })
batch_starts world [] begun = tt
batch_starts world (mark ∷ more) begun = record {
  count = refl;
  begun = omega arith;
  own = begun;
  held = λ index other within.
      let keys = keys_of world.accesses in
      let key = get_or keys index other in
      let upto : key ≤ world.last_access = begun index other within in
      list_any_at (λ other. other == key) keys index other within (eq-eqb key key refl)
      ∙ sym (le-leb key world.last_access upto);
}

module _ (S : Type 0) (shows : S → Section → List Mark → Type 0) (honest : S → Type 0) (parts : PartsOver S)
    (world : WorldState) (machine : IsMachineOver shows honest parts world)
    (begun : All (λ number. number ≤ parts.last_access) (keys_of parts.accesses)) where
  -- what is kept after a batch ended, or didn't
  abbrev after : Option KeptBatch → Retirement
  after batch = kept_start parts.waiting parts.last_access batch

  starts : IsMachineOver shows honest (record parts { waiting = 0; batch = kept_batch parts.waiting parts.last_access })
      (record world { waiting = []; batch = batch_of world world.waiting })
  starts = record {
    tree = machine.tree;
    mounts = machine.mounts;
    groups = machine.groups;
    marks = machine.marks;
    is_honest = machine.is_honest;
    waiting = refl;
    batch = rw (machine.waiting, machine.last_access) (batch_starts world world.waiting
        (rw (← machine.last_access, ← keys_both S shows parts.sections parts.accesses world.accesses machine.accesses) begun));
    accesses = machine.accesses;
    last_access = machine.last_access;
    limit = machine.limit;
  }

  -- the batch ends, or goes on
  ends : (kept : KeptBatch) (batch : Batch) → IsBatch kept batch world → (test other : Bool) → other ≡ test
      → IsStepOver shows honest
      (record parts {
        waiting = (after (cond test (Some kept) None)).waiting;
        batch = (after (cond test (Some kept) None)).batch;
      })
      (replies.Reclaimed (cond test 0 kept.marks))
      (record {
        reply = replies.Reclaimed (length (cond other [] batch.retired));
        world = started world (cond other (Some batch) None);
      })
  ends kept batch is true false same = absurd cc
  ends kept batch is false true same = absurd cc
  ends kept batch is false false same =
      record { answers = ap (λ count. replies.Reclaimed count) is.count; machine = starts }
  ends kept batch is true true same = record {
    answers = refl;
    machine = record {
      tree = machine.tree;
      mounts = machine.mounts;
      groups = machine.groups;
      marks = machine.marks;
      is_honest = machine.is_honest;
      waiting = machine.waiting;
      batch = record { count = is.count; begun = is.begun; own = is.own; held = is.held };
      accesses = machine.accesses;
      last_access = machine.last_access;
      limit = machine.limit;
    };
  }

  graced_by : (kept : Option KeptBatch) (batch : Option Batch) → IsBatchIn kept batch world
      → IsStepOver shows honest
      (record parts {
        waiting = (after (still_held parts.accesses kept)).waiting;
        batch = (after (still_held parts.accesses kept)).batch;
      })
      (replies.Reclaimed (reclaimed_count parts.accesses kept))
      (record {
        reply = replies.Reclaimed (length (reclaimed world batch));
        world = started world (held world batch);
      })
  graced_by None None is = record { answers = refl; machine = starts }
  graced_by None (Some batch) is = absurd is
  graced_by (Some kept) None is = absurd is
  graced_by (Some kept) (Some batch) is =
      ends kept batch is (has_up_to parts.accesses kept.last_access) (is_held world batch)
      (held_both S shows parts.sections kept batch world parts.accesses is machine.accesses)

  -- the batch under way ends, if none of its accesses is open, and one starts, if none is under way
  pub grace_done : (count : ℕ) (new : Retirement) → count ≡ reclaimed_count parts.accesses parts.batch
      → new ≡ after (still_held parts.accesses parts.batch)
      → IsDone shows honest (record parts { waiting = new.waiting; batch = new.batch }) (Ok (replies.Reclaimed count))
      (graced world)
  unfolding graced
  grace_done count new counts is = rw (counts, is) (graced_by parts.batch world.batch machine.batch)

-- ---- marks change

-- as many marks wait as before and as a change retires
pub waits_more : (count : ℕ) (waiting : List RetiredMark) (last : ℕ) (marks : List Mark)
    → count ≡ length waiting → count + length marks ≡ length (waiting ++ retired_now last marks)
waits_more count waiting last marks is = rw (length-append, length-map, is) refl

-- the batch under way goes on, while the open accesses stay
batch_same : (kept : Option KeptBatch) (batch : Option Batch) (old new : WorldState)
    → new.last_access ≡ old.last_access → new.accesses ≡ old.accesses → IsBatchIn kept batch old
    → IsBatchIn kept batch new
batch_same None None old new last accesses is = tt
batch_same None (Some batch) old new last accesses is = is
batch_same (Some kept) None old new last accesses is = is
batch_same (Some kept) (Some batch) old new last accesses is = record {
  count = is.count;
  begun = rw last is.begun;
  own = is.own;
  held = rw accesses is.held;
}

module _ (S : Type 0) (inside : S → List Section → Type 0) (shows : S → Section → List Mark → Type 0)
    (honest : S → Type 0) (old : PartsOver S) (world : WorldState) (machine : IsMachineOver shows honest old world)
    (there : inside old.sections (sections_of old.accesses)) where
  -- marks change, with mounts or groups
  pub changed_machine : (change : Change) (mounts left : List Mount) (groups closed : List ListenerState)
      (sections : S) (marks : List Mark) (waiting : ℕ)
      → ((all : List Section) → inside old.sections all → Keeps inside shows honest old.sections sections all)
      → mounts ≡ left → groups ≡ closed → marks ≡ changed old.marks change
      → waiting ≡ old.waiting + length (retired old.marks change)
      → IsMachineOver shows honest
      (record old { mounts = mounts; groups = groups; sections = sections; marks = marks; waiting = waiting })
      (with_change change (record world { mounts = left; groups = closed }))
  changed_machine change mounts left groups closed sections marks waiting keeps is_left is_closed is_changed waits =
      let kept = keeps (sections_of old.accesses) there in record {
        tree = machine.tree;
        mounts = is_left;
        groups = is_closed;
        marks = is_changed ∙ ap (λ (all : List Mark). changed all change) machine.marks;
        is_honest = kept.same_honest.0 machine.is_honest;
        waiting = waits
            ∙ ap (λ (all : List Mark). old.waiting + length (retired all change)) machine.marks
            ∙ waits_more old.waiting world.waiting world.last_access (retired world.marks change) machine.waiting;
        batch = batch_same old.batch world.batch world
            (with_change change (record world { mounts = left; groups = closed })) refl refl machine.batch;
        accesses = shown_still S inside shows honest old.sections sections old.accesses world.accesses kept
            machine.accesses;
        last_access = machine.last_access;
        limit = machine.limit;
      }

-- ---- an access begins

-- the change with which it begins makes no mark
pub edit_classed : (groups : List ListenerState) (edit : MarkEdit) → IsClassedIf groups (edit_of edit)
edit_classed groups Stays = tt
edit_classed groups (Emptied object) = tt
edit_classed groups (Dropped object) = tt

module _ (S : Type 0) (inside : S → List Section → Type 0) (shows : S → Section → List Mark → Type 0)
    (honest : S → Type 0)
    (is_list : (table : S) (section : Section) (marks : List Mark) → shows table section marks → IsMarkList marks)
    (old new : PartsOver S) (world : WorldState) (who : Actor) (op : Op) (spots : List Spot) (kept : OpenAccess)
    (machine : IsMachineOver shows honest old world) (above : old.last_access < who.number)
    (there : inside old.sections (sections_of old.accesses))
    (same : new ≡ record old {
      tree = new.tree;
      sections = new.sections;
      marks = new.marks;
      waiting = new.waiting;
      batch = new.batch;
      accesses = insert_entry nat_cmp old.accesses who.number kept;
      last_access = who.number;
    })
    (goes_on : (marks view : List Mark) → IsMarkList view
    → SeesSame marks (new_access op spots who.pid who.tid view)
    → IsAccess marks kept.access (new_access op spots who.pid who.tid view)) where
  -- the access that begins sees the marks of its view, which its section shows
  begins_in : (view : List Mark) (next : WorldState)
      → HasEntered inside shows honest old.sections new.sections kept.section view
      → new.batch ≡ old.batch → new.marks ≡ next.marks → new.waiting ≡ length next.waiting
      → new.tree ≡ next.tree
      → next.mounts ≡ world.mounts → next.groups ≡ world.groups → next.batch ≡ world.batch
      → next.accesses
      ≡ insert_entry nat_cmp world.accesses who.number (new_access op spots who.pid who.tid view)
      → next.last_access ≡ who.number → next.limit ≡ world.limit → IsMachineOver shows honest new next
  begins_in view next entered batch marks waiting tree same_mounts same_groups same_batch accesses same_last
      same_limit =
      let access = new_access op spots who.pid who.tid view in
      let above_all : world.last_access < who.number = rw machine.last_access at above in
      let shown = entered.shown machine.is_honest in
      let still = shown_entered S inside shows honest old.sections new.sections kept.section view old.accesses
      world.accesses entered there machine.accesses in
      let entries : new.accesses ≡ insert_entry nat_cmp old.accesses who.number kept =
      ap (λ (parts : PartsOver S). parts.accesses) same in
      record {
        tree = tree;
        mounts = ap (λ (parts : PartsOver S). parts.mounts) same ∙ machine.mounts ∙ sym same_mounts;
        groups = ap (λ (parts : PartsOver S). parts.groups) same ∙ machine.groups ∙ sym same_groups;
        marks = marks;
        is_honest = entered.same_honest.0 machine.is_honest;
        waiting = waiting;
        batch = rw batch (batch_begun old.batch next.batch world next who.number access above_all same_last
            accesses (rw same_batch machine.batch));
        accesses = rw (entries, accesses)
            (insert_both S shows new.sections old.accesses world.accesses still who.number kept access (record {
              number = refl;
              shown = shown;
              goes_on = goes_on view view (is_list new.sections kept.section view shown)
                  (λ index other within happening is. refl);
            }));
        last_access = ap (λ (parts : PartsOver S). parts.last_access) same ∙ sym same_last;
        limit = ap (λ (parts : PartsOver S). parts.limit) same ∙ machine.limit ∙ sym same_limit;
      }

  -- the parts that hold the marks, before and after
  abbrev marks_before : ℕ → MarksState S
  marks_before spare = record {
    sections = old.sections;
    marks = old.marks;
    spare = spare;
    waiting = old.waiting;
    batch = old.batch;
  }

  abbrev marks_after : ℕ → MarksState S
  marks_after spare = record {
    sections = new.sections;
    marks = new.marks;
    spare = spare;
    waiting = new.waiting;
    batch = new.batch;
  }

  -- it begins by its deed
  pub begin_done : (edit : MarkEdit) (spare left : ℕ)
      → HasEdited inside shows honest edit (marks_before spare) (marks_after left) kept.section
      → IsMachineOver shows honest new
      (begins who.number op (deed_with spots new.tree edit) who.pid who.tid world)
  begin_done Stays spare left edited =
      begins_in world.marks (begins who.number op (deed_with spots new.tree Stays) who.pid who.tid world)
      (rw machine.marks at edited.entered) edited.batch
      (edited.marks ∙ machine.marks)
      (edited.waiting ∙ add-zero old.waiting ∙ machine.waiting) refl refl refl refl refl refl refl
  begin_done (Emptied object) spare left edited =
      begins_in (changed world.marks (Clear object))
      (begins who.number op (deed_with spots new.tree (Emptied object)) who.pid who.tid world)
      (rw machine.marks at edited.entered) edited.batch
      (edited.marks ∙ ap (λ (all : List Mark). changed all (Clear object)) machine.marks)
      (edited.waiting
      ∙ ap (λ (all : List Mark). old.waiting + length (retired all (Clear object))) machine.marks
      ∙ waits_more old.waiting world.waiting who.number (retired world.marks (Clear object)) machine.waiting)
      refl refl refl refl refl refl refl
  begin_done (Dropped object) spare left edited =
      begins_in world.marks
      (begins who.number op (deed_with spots new.tree (Dropped object)) who.pid who.tid world)
      (rw machine.marks at edited.entered) edited.batch
      (edited.marks ∙ ap (λ (all : List Mark). changed all (DropObject object)) machine.marks)
      (edited.waiting
      ∙ ap (λ (all : List Mark). old.waiting + length (retired all (DropObject object))) machine.marks
      ∙ waits_more old.waiting world.waiting who.number (retired world.marks (DropObject object)) machine.waiting)
      refl refl refl refl refl refl refl
