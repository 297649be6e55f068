-- The bytes of a read, by the fates of the events in it.
use Rattle.std.proofs.Common.{◌≡◌, ◌∙◌, ℕ, ◌==◌, Bool, true, false, cond, List, [], ◌∷◌, ◌++◌, append-nil, Option, Some, None, Result, Ok, Err, length, map, not, ◌+◌, ◌&&◌, refl, ap, sym, subst}
use Rattle.std.proofs.lemmas.Bool.{eq-eqb}
use Rattle.std.proofs.lemmas.List.Elements.{All-head, All-tail}
use Rattle.std.specs.Int.Bits.{or_zero_r}
use Rattle.std.specs.Int.RustNames.{bit_or}
use Rattle.std.specs.Prelude.{All, pos, negsuc}
use Rattle.fan_bits.specs.declared.errno.Errno.{Errno}
use Rattle.fan_bits.specs.declared.errno.Errno.TheVariants as errno
use Rattle.fan_bits.specs.MarkWords.{ondir, overflow_bit}
use Rattle.fan_bits.specs.Words.{bit}
use Rattle.fan_fates.specs.Calls.{Call, Deed, Reads, called, deeds, gone, left_by}
use Rattle.fan_fates.specs.Bits.{AreRecords, HasBits, HasBitsIn, IsLike, StandsFor, dir_bit, fd_for, infos_for, mask_of, record_for, who_for, with_all}
use Rattle.fan_fates.specs.Fates.{left, lost, told}
use Rattle.fan_fates.specs.Steps.{calls_at, deeds_at, deeds_by, deeds_in}
use Rattle.fan_fates.proofs.CallForms.{Front, front_of, rest_left}
use Rattle.fan_fates.proofs.History.{History, gone_is, overflows}
use Rattle.fan_fates.proofs.Lists.{All-first, All-second}
use Rattle.fan_fates.proofs.Lived.{lived}
use Rattle.fan_laws.specs.Whole.{numbers_in}
use Rattle.fan_event.specs.declared.event.Event.{Event}
use Rattle.fan_event.specs.declared.target.Target.{Target}
use Rattle.fan_event.specs.declared.target.Target.TheVariants as targets
use Rattle.fan_queue.specs.declared.entry.Body.{Body}
use Rattle.fan_queue.specs.declared.entry.Body.TheVariants as bodies
use Rattle.fan_queue.specs.declared.entry.Entry.{Entry}
use Rattle.fan_fid.specs.Written.{infos_of}
use Rattle.fan_record.specs.Written.{record_bytes}
use Rattle.fan_listener.specs.Groups.{listener_at, outcome_in, read_from, tried_at}
use Rattle.fan_listener.specs.ListenerState.{ListenerState}
use Rattle.fan_queue.specs.Queue.{is_lost}
use Rattle.fan_listener.specs.Records.{fd_after, fd_field, first_is_longer, front_read, front_within, has_fd, mask_field, read_front, read_of, record_of, records}
use Rattle.fan_machine.specs.Groups.{group_read}
use Rattle.fan_machine.specs.Next.{after, attempted, next}
use Rattle.fan_machine.specs.Outcome.{◌>>=◌, answers, settled}
use Rattle.fan_machine.specs.World.{WorldState, initial_world}
use Rattle.fan_script.specs.declared.reply.Reply.{Reply}
use Rattle.fan_script.specs.declared.reply.Reply.TheVariants as replies
use Rattle.fan_script.specs.declared.step.Step.{Step}
use Rattle.fan_script.specs.declared.step.Step.TheVariants as steps

-- ---- the records of entries

-- the mask that a record has, by what its event is
mask_by : (dir fd : Bool) (bits all : ℕ) → bits ≡ all
    → cond dir (cond fd bits (bit_or bits (bit ondir))) bits ≡ bit_or all (cond (dir && not fd) (bit ondir) 0)
mask_by true true bits all is = is ∙ sym (or_zero_r all)
mask_by true false bits all is = ap (λ (n : ℕ). bit_or n (bit ondir)) is
mask_by false fd bits all is = is ∙ sym (or_zero_r all)

-- and the descriptor
fd_by : (fd : ℕ) (target : Target) → fd_field fd target ≡ cond (has_fd target) (pos fd) (negsuc 0)
fd_by fd (targets.Fd mount inode) = refl
fd_by fd (targets.Handle fs object dir name) = refl

-- an event that stands for some is told as they are
record IsTold (fd : ℕ) (event : Event) (some : List Event) : Type 0 where
  pub mask : mask_field event ≡ mask_of some
  pub its_fd : fd_field fd event.target ≡ fd_for fd some
  pub who : event.who ≡ who_for some
  pub infos : infos_of event.target ≡ infos_for some

stands_told : (fd : ℕ) (event : Event) (some none : List Event) → StandsFor event some none
    → IsTold fd event some
stands_told fd event [] none stands = absurd (stands.some refl)
stands_told fd event (first ∷ more) none stands =
    let like : first ≡ record event { bits = first.bits } =
    All-head (IsLike event) first more stands.alike in
    let target : event.target ≡ first.target = ap (λ (e : Event). e.target) (sym like) in
    record {
      mask = mask_by event.ondir (has_fd event.target) event.bits (with_all 0 (first ∷ more)) stands.bits
          ∙ ap (bit_or (with_all 0 (first ∷ more))) (ap dir_bit (sym like));
      its_fd = ap (fd_field fd) target ∙ fd_by fd first.target;
      who = ap (λ (e : Event). e.who) (sym like);
      infos = ap infos_of target;
    }

-- the record of an entry is the one for the events whose fates name it
spelled : (some none : List Event) (fd : ℕ) (body : Body) → HasBits some none body
    → record_of fd body ≡ record_for fd some
spelled some none fd (bodies.Told event) has =
    let its = stands_told fd event some none has in
    λ i. record_bytes (24 + length (its.infos i)) (its.mask i) (its.its_fd i) (its.who i) ++ its.infos i
spelled some none fd bodies.Lost has = ap (record_for fd) (sym has.0)

-- the lost entry's bits are its own
pub mask_overflows : (past : List Deed) (entry : Entry) → HasBitsIn past entry → is_lost entry ≡ true
    → mask_of (told past entry.number) ≡ overflow_bit
mask_overflows past entry has is =
    let none =
    subst (HasBits (told past entry.number) (lost past entry.number)) (overflows entry.body is) has in
    ap mask_of none.0

-- the events of entries by the fates so far
abbrev events_for : List Deed → List Entry → List (List Event)
events_for past entries = map (λ number. told past number) (numbers_in entries)

-- the records of a front are those for the events of its entries
front_spelled : (past : List Deed) (fd : ℕ) (front : List Entry) → All (HasBitsIn past) front
    → AreRecords (events_for past front) (records fd front)
front_spelled past fd [] each = refl
front_spelled past fd (entry ∷ front) each =
    let its = spelled (told past entry.number) (lost past entry.number) fd entry.body
    (All-head (HasBitsIn past) entry front each) in
    let rest = records (fd_after fd entry.body) front in (
      fd,
      rest,
      ap (λ bytes. bytes ++ rest) its,
      front_spelled past (fd_after fd entry.body) front (All-tail (HasBitsIn past) entry front each),
    )

-- ---- the read

-- a read that gave these bytes took the records of a front
record Gave (listener : ListenerState) (size : ℕ) (given : List ℕ × ListenerState) : Type 0 where
  pub front : List Entry
  pub its : Front listener.queue front
  pub is : front_read listener front ≡ given

gave : (listener : ListenerState) (size : ℕ) (given : List ℕ × ListenerState)
    → read_of listener size ≡ Ok given
    → Gave listener size given
unfolding read_of
gave listener size given done =
    by listener.closed (length listener.queue == 0) (first_is_longer size listener.queue) done
  where
    by : (a b c : Bool) → cond {A = Result (List ℕ × ListenerState) Errno} a (Err errno.Ebadf)
        (cond {A = Result (List ℕ × ListenerState) Errno} b (Err errno.Eagain)
        (cond {A = Result (List ℕ × ListenerState) Errno} c (Err errno.Einval)
        (Ok (front_read listener (front_within size listener.queue))))) ≡ Ok given → Gave listener size given
    by true b c is = absurd cc
    by false true c is = absurd cc
    by false false true is = absurd cc
    by false false false is = record {
      front = front_within size listener.queue;
      its = front_of size listener.queue;
      is = cc;
    }

-- the listener that gave them
record GaveBytes (world : WorldState) (group size : ℕ) (bytes : List ℕ) : Type 0 where
  pub listener : ListenerState
  pub given : List ℕ × ListenerState
  pub there : listener_at world.groups group ≡ Some listener
  pub read : read_of listener size ≡ Ok given
  pub those : given.0 ≡ bytes

-- what is answered, by what was tried
abbrev pub reply_to : WorldState → Result (List ℕ × List ListenerState) Errno → Reply
reply_to world tried =
    (settled world (tried
    >>= λ read. answers (replies.Bytes read.0) (record world { groups = read.1 }))).reply

gave_bytes : (world : WorldState) (group size : ℕ) (bytes : List ℕ)
    → (next world (steps.Read group size)).reply ≡ replies.Bytes bytes → GaveBytes world group size bytes
unfolding next attempted group_read read_from
gave_bytes world group size bytes said = by (listener_at world.groups group) refl said
  where
    by_read : (listener : ListenerState) → listener_at world.groups group ≡ Some listener
        → (tried : Result (List ℕ × ListenerState) Errno) → read_of listener size ≡ tried
        → reply_to world (outcome_in world.groups group tried) ≡ replies.Bytes bytes
        → GaveBytes world group size bytes
    by_read listener there (Err refusal) is said = absurd cc
    by_read listener there (Ok given) is said =
        record { listener = listener; given = given; there = there; read = is; those = cc }

    by : (found : Option ListenerState) → listener_at world.groups group ≡ found
        → reply_to world (tried_at (λ (l : ListenerState). read_of l size) world.groups group found)
        ≡ replies.Bytes bytes
        → GaveBytes world group size bytes
    by None none said = absurd cc
    by (Some listener) there said = by_read listener there (read_of listener size) refl said

-- the entries that leave by a read
left_by_read : (world : WorldState) (group size : ℕ) (listener : ListenerState)
    → listener_at world.groups group ≡ Some listener
    → left (deeds_by world (steps.Read group size) group)
    ≡ gone listener.queue (called listener (Reads size)).queue
unfolding deeds
left_by_read world group size listener there =
    ap (λ found. left (deeds_at found (calls_at world (steps.Read group size) group found))) there
    ∙ ap (λ b. left (deeds listener (cond {A = List Call} b (Reads size ∷ []) []))) (eq-eqb group group refl)
    ∙ append-nil (gone listener.queue (called listener (Reads size)).queue)

-- what is left of the queue
queue_left : (listener : ListenerState) (front : List Entry) (its : Front listener.queue front)
    → (read_front listener front).queue ≡ its.rest
unfolding read_front
queue_left listener front its = rest_left listener.queue front its

pub read_spelled : (before : List Step) (group size : ℕ) (bytes : List ℕ) →
    let world = after initial_world before in
    let past = deeds_in group initial_world before in
    (next world (steps.Read group size)).reply ≡ replies.Bytes bytes →
    AreRecords (events_for past (left (deeds_by world (steps.Read group size) group))) bytes
read_spelled before group size bytes said =
    let world = after initial_world before in
    let past = deeds_in group initial_world before in
    let its = gave_bytes world group size bytes said in
    let listener = its.listener in
    let it = gave listener size its.given its.read in
    let now : called listener (Reads size) ≡ read_front listener it.front =
    ap (left_by listener) its.read ∙ ap (λ (one : List ℕ × ListenerState). one.1) (sym it.is) in
    let queue : (called listener (Reads size)).queue ≡ it.its.rest =
    ap (λ (l : ListenerState). l.queue) now ∙ queue_left listener it.front it.its in
    let went : left (deeds_by world (steps.Read group size) group) ≡ it.front =
    left_by_read world group size listener its.there ∙ ap (gone listener.queue) queue
    ∙ gone_is listener.queue it.front it.its.rest it.its.whole in
    let run = lived before group in
    let history : History past listener =
    subst (History past) (sym (run.own listener its.there)) run.history in
    let bits = All-first (HasBitsIn past) it.front it.its.rest (subst (All (HasBitsIn past)) it.its.whole
    (All-second (HasBitsIn past) (left past) listener.queue history.fits.bits)) in
    let spelled : records listener.next_fd it.front ≡ bytes =
    ap (λ (one : List ℕ × ListenerState). one.0) it.is ∙ its.those in
    subst (λ entries. AreRecords (events_for past entries) bytes) (sym went)
    (subst (AreRecords (events_for past it.front)) spelled (front_spelled past listener.next_fd it.front bits))
