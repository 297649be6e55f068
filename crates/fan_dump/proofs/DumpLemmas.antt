-- What is printed for bytes, and that it is one text.
use Rattle.std.proofs.Common.{◌≡◌, ℕ, ◌<◌, ◌≤◌, List, [], ◌∷◌, ◌++◌, Option, Some, None, length, refl, sym, ap, ◌∙◌, arith, append_assoc, append-nil}
use Rattle.std.specs.Prelude.{true, false}
use Rattle.std.specs.Io.KnownBytes.{Appends}
use Rattle.fan_blocks.specs.Gathers.{Gathers, GathersFront}
use Rattle.fan_blocks.proofs.GathersLemmas.{gathers_nothing, gathers_more, gathers_cut, gathers_end, front_put, front_whole, front_longer, front_end}
use Rattle.fan_dump.specs.Dump.{Event, SpellsEvent, SpellEvents, Dump, Dumps, DumpsFront, lines_text, dump_text}
use Rattle.fan_dump.specs.Gathered.{GathersDump, GathersDumpFront}
use Rattle.fan_dump.specs.Printed.{PutsEvent}
use Rattle.fan_dump.specs.Texts.{bad_text}
use Rattle.fan_dump.proofs.InfoLemmas.{same_infos}
use Rattle.fan_fid.specs.Infos.{SpellsInfos}
use Rattle.fan_fid.specs.Infos.{InfoParts}
use Rattle.fan_io.specs.Bytes.{AppendsFront}
use Rattle.fan_record.proofs.RecordLemmas.{one-at-most}
use Rattle.fan_record.specs.Records.{RecordParts, SpellsRecord, record_end}

abbrev event_of : RecordParts → List InfoParts → Event
event_of metadata infos = record { metadata = metadata; infos = infos }

same_parts : (p q : RecordParts) (x y : List InfoParts) → p ≡ q → x ≡ y → event_of p x ≡ event_of q y
same_parts p q x y parts infos = cc

-- information records of the same part
same_parts_infos : (p q : RecordParts) (x y : List InfoParts) → p ≡ q
    → SpellsInfos p.infos 0 (length p.infos) x → SpellsInfos q.infos 0 (length q.infos) y → x ≡ y
same_parts_infos p q x y same a b = same_infos q.infos 0 x y (rw same at a) b

-- at most one record with its information records is spelled at a place
same_event : (bytes : List ℕ) (at : ℕ) (a b : Event) → SpellsEvent bytes at a → SpellsEvent bytes at b
    → a ≡ b
same_event bytes at a b p q =
    let parts = one-at-most bytes at a.metadata b.metadata p.whole q.whole in
    same_parts a.metadata b.metadata a.infos b.infos parts
    (same_parts_infos a.metadata b.metadata a.infos b.infos parts p.infos q.infos)

-- where a record is spelled, it is the first of all that are spelled from there on
headed : (bytes : List ℕ) (at : ℕ) (events : List Event) (bad : Option ℕ) (event : Event)
    → SpellEvents bytes at events bad → SpellsEvent bytes at event
    → (more : List Event) × SpellEvents bytes (record_end bytes at) more bad
    × (dump_text events bad ≡ lines_text event ++ dump_text more bad)
headed bytes at [] None event spelled here =
    absurd (omega (arith, here.whole.metadata.whole, spelled))
headed bytes at [] (Some bad) event spelled here = absurd (spelled.2 event.metadata here.whole)
headed bytes at (first ∷ more) bad event spelled here =
    (more, spelled.1, ap (λ e. lines_text e ++ dump_text more bad) (same_event bytes at first event spelled.0 here))

-- where none is spelled, nothing but this place is printed from there on
closed : (bytes : List ℕ) (at : ℕ) (events : List Event) (bad : Option ℕ) → SpellEvents bytes at events bad
    → at < length bytes → ((parts : RecordParts) → SpellsRecord bytes at parts → ⊥)
    → (dump_text events bad ≡ bad_text at) × (bad ≡ Some at)
closed bytes at [] None spelled before none = absurd (omega (arith, spelled, before))
closed bytes at [] (Some bad) spelled before none = (ap bad_text spelled.0, ap Some spelled.0)
closed bytes at (first ∷ more) bad spelled before none = absurd (none first.metadata spelled.0.whole)

-- what is printed before a place is `written`: so it is for each list of records from this place on
pub record Leads (bytes written : List ℕ) (at : ℕ) : Type 0 where
  pub onward : (events : List Event) (bad : Option ℕ) → SpellEvents bytes at events bad
      → (all : List Event) × SpellEvents bytes 0 all bad
      × (dump_text all bad ≡ written ++ dump_text events bad)
  pub back : (all : List Event) (bad : Option ℕ) → SpellEvents bytes 0 all bad
      → (events : List Event) × SpellEvents bytes at events bad
      × (dump_text all bad ≡ written ++ dump_text events bad)

-- at the start nothing is printed
leads_start : (bytes : List ℕ) → Leads bytes [] 0
leads_start bytes = record {
  onward = λ events bad spelled. (events, spelled, refl);
  back = λ all bad spelled. (all, spelled, refl);
}

-- behind a record the next one may start
leads_more : (bytes written : List ℕ) (at : ℕ) (event : Event) → Leads bytes written at
    → SpellsEvent bytes at event → Leads bytes (written ++ lines_text event) (record_end bytes at)
leads_more bytes written at event leads here = record {
  onward = λ events bad spelled.
      let all = leads.onward (event ∷ events) bad (here, spelled) in
      (all.0, all.1, all.2 ∙ simp append_assoc);
  back = λ all bad spelled.
      let rest = leads.back all bad spelled in
      let more = headed bytes at rest.0 bad event rest.1 here in
      (more.0, more.1, rest.2 ∙ ap (λ text. written ++ text) more.2 ∙ simp append_assoc);
}

-- all that is printed begins with this
abbrev Ahead : List ℕ → List ℕ → Type 0
Ahead bytes written =
    (text : List ℕ) (bad : Option ℕ) → Dump bytes text bad → (rest : List ℕ) × (text ≡ written ++ rest)

-- what is printed before a place is a front of all
leads_ahead : (bytes written : List ℕ) (at : ℕ) → Leads bytes written at → Ahead bytes written
leads_ahead bytes written at leads = λ text bad dump.
    let rest = leads.back dump.events bad dump.spelled in (dump_text rest.0 bad, dump.printed ∙ rest.2)

-- at the end all is printed
leads_end : (bytes written : List ℕ) (at : ℕ) → Leads bytes written at → at ≡ length bytes
    → Dump bytes written None
leads_end bytes written at leads ended =
    let all = leads.onward [] None ended in
    record { events = all.0; spelled = all.1; printed = sym (all.2 ∙ append-nil written) }

-- and so it is once the place of what is no record is named
leads_bad : (bytes written : List ℕ) (at : ℕ) → Leads bytes written at → at < length bytes
    → ((parts : RecordParts) → SpellsRecord bytes at parts → ⊥)
    → Dump bytes (written ++ bad_text at) (Some at)
leads_bad bytes written at leads before none =
    let all = leads.onward [] (Some at) (refl, before, none) in
    record { events = all.0; spelled = all.1; printed = sym all.2 }

-- and all that is printed begins with this
bad_ahead : (bytes written : List ℕ) (at : ℕ) → Leads bytes written at → at < length bytes
    → ((parts : RecordParts) → SpellsRecord bytes at parts → ⊥) → Ahead bytes (written ++ bad_text at)
bad_ahead bytes written at leads before none = λ text bad dump.
    let rest = leads.back dump.events bad dump.spelled in
    let last = closed bytes at rest.0 bad rest.1 before none in
    ([], dump.printed ∙ rest.2 ∙ ap (λ line. written ++ line) last.0 ∙ sym (append-nil (written ++ bad_text at)))

-- a front of what all that is printed begins with is a front of all
front_of_all : {old new : Option (List ℕ)} {bytes written waiting : List ℕ} → Ahead bytes written
    → GathersFront old new waiting written → GathersDumpFront old new waiting bytes
front_of_all ahead front = λ whole bad dump.
    let rest = ahead whole bad dump in front_longer whole rest.0 front rest.1

-- two lists of records that are spelled from a place on are one
same_events : (bytes : List ℕ) (at : ℕ) (a b : List Event) (p q : Option ℕ) → SpellEvents bytes at a p
    → SpellEvents bytes at b q → (a ≡ b) × (p ≡ q)
same_events bytes at [] [] None None x y = (refl, refl)
same_events bytes at [] [] None (Some bad) x y = absurd (omega (arith, x, y.1))
same_events bytes at [] [] (Some bad) None x y = absurd (omega (arith, y, x.1))
same_events bytes at [] [] (Some bad) (Some other) x y = (refl, ap Some (x.0 ∙ sym y.0))
same_events bytes at [] (event ∷ events) None q x y = absurd (omega (arith, x, y.0.whole.metadata.whole))
same_events bytes at [] (event ∷ events) (Some bad) q x y = absurd (x.2 event.metadata y.0.whole)
same_events bytes at (event ∷ events) [] p None x y = absurd (omega (arith, y, x.0.whole.metadata.whole))
same_events bytes at (event ∷ events) [] p (Some bad) x y = absurd (y.2 event.metadata x.0.whole)
same_events bytes at (a ∷ others) (b ∷ rest) p q x y =
    let first : a ≡ b = same_event bytes at a b x.0 y.0 in
    let more = same_events bytes (record_end bytes at) others rest p q x.1 y.1 in
    let same : others ≡ rest = more.0 in
    (cc, more.1)

-- at most one text is printed
pub one_text : (bytes a b : List ℕ) (p q : Option ℕ) → Dump bytes a p → Dump bytes b q → a ≡ b
one_text bytes a b p q x y =
    let same = same_events bytes 0 x.events y.events p q x.spelled y.spelled in
    x.printed ∙ rw (same.0, same.1) refl ∙ sym y.printed

-- with one bad place at most
pub one_bad : (bytes a b : List ℕ) (p q : Option ℕ) → Dump bytes a p → Dump bytes b q → p ≡ q
one_bad bytes a b p q x y = (same_events bytes 0 x.events y.events p q x.spelled y.spelled).1

-- all that came is what is printed before a place; what is gathered of it was not put yet
pub record Written (old now : Option (List ℕ)) (gathered bytes : List ℕ) (at : ℕ) : Type 0 where
  pub text : List ℕ
  pub gathers : Gathers old now gathered text
  pub leads : Leads bytes text at
  pub within : at ≤ length bytes

pub nothing_written : (old : Option (List ℕ)) (gathered bytes : List ℕ) → gathered ≡ []
    → Written old old gathered bytes 0
nothing_written old gathered bytes empty = record {
  text = [];
  gathers = gathers_nothing old gathered empty;
  leads = leads_start bytes;
  within = omega arith;
}

-- the text that came for a record are its lines, where nothing stood before them
event_lines : (parts : RecordParts) {before line : List ℕ} (text : List ℕ) (puts : PutsEvent parts before line)
    → before ≡ [] → text ≡ line → text ≡ lines_text (event_of parts puts.infos)
event_lines parts text puts empty is = is ∙ puts.put ∙ rw empty refl

module _ {old now : Option (List ℕ)} {gathered bytes : List ℕ} {at : ℕ}
    (written : Written old now gathered bytes at) where
  -- a front of all that is printed came
  pub front_now : GathersDumpFront old now gathered bytes
  front_now = front_of_all (leads_ahead bytes written.text at written.leads) (front_whole written.gathers)

  -- at the end, all that is printed
  pub all_came : at ≡ length bytes → GathersDump old now gathered bytes None
  all_came ended = record {
    text = written.text;
    dump = leads_end bytes written.text at written.leads ended;
    gathers = written.gathers;
  }

  -- the lines of the record at this place
  module _ (parts : RecordParts) {before line : List ℕ} (text : List ℕ) (whole : SpellsRecord bytes at parts)
      (puts : PutsEvent parts before line) (empty : before ≡ []) (is : text ≡ line) where
    abbrev event : Event
    event = event_of parts puts.infos

    leads_on : Leads bytes (written.text ++ text) (record_end bytes at)
    leads_on =
        let here : SpellsEvent bytes at event = record { whole = whole; infos = puts.spelled } in
        rw (event_lines parts text puts empty is) (leads_more bytes written.text at event written.leads here)

    -- they came
    pub event_came : {new : Option (List ℕ)} {waiting : List ℕ} → Gathers now new waiting (gathered ++ text)
        → Written old new waiting bytes (record_end bytes at)
    event_came more = record {
      text = written.text ++ text;
      gathers = gathers_more written.gathers text more;
      leads = leads_on;
      within = whole.metadata.within;
    }

    -- they came, and the sink failed
    pub event_cut : {new : Option (List ℕ)} {waiting : List ℕ} → AppendsFront now new (gathered ++ text)
        → waiting ≡ [] → GathersDumpFront old new waiting bytes
    event_cut front none =
        front_of_all (leads_ahead bytes (written.text ++ text) (record_end bytes at) leads_on)
        (front_put (gathers_cut written.gathers text front) none)

  -- the line that names this place, at which no record is
  module _ {before line : List ℕ} (text : List ℕ) (goes_on : at ≡ length bytes → true ≡ false)
      (none : (parts : RecordParts) → SpellsRecord bytes at parts → ⊥)
      (said : line ≡ before ++ bad_text at) (empty : before ≡ []) (is : text ≡ line) where
    before_end : at < length bytes
    before_end =
        let not_ended : at ≡ length bytes → ⊥ = λ ended. let no = goes_on ended in cc in
        omega (arith, written.within, not_ended)

    is_bad : text ≡ bad_text at
    is_bad = is ∙ said ∙ rw empty refl

    ahead : Ahead bytes (written.text ++ text)
    ahead = rw is_bad (bad_ahead bytes written.text at written.leads before_end none)

    -- it came
    pub bad_came : {new : Option (List ℕ)} {waiting : List ℕ} → Gathers now new waiting (gathered ++ text)
        → GathersDump old new waiting bytes (Some at)
    bad_came more = record {
      text = written.text ++ text;
      dump = rw is_bad (leads_bad bytes written.text at written.leads before_end none);
      gathers = gathers_more written.gathers text more;
    }

    -- a front of all came then
    pub bad_front : {new : Option (List ℕ)} {waiting : List ℕ} → Gathers now new waiting (gathered ++ text)
        → GathersDumpFront old new waiting bytes
    bad_front more = front_of_all ahead (front_whole (gathers_more written.gathers text more))

    -- it came, and the sink failed
    pub bad_cut : {new : Option (List ℕ)} {waiting : List ℕ} → AppendsFront now new (gathered ++ text)
        → waiting ≡ [] → GathersDumpFront old new waiting bytes
    bad_cut front emptied = front_of_all ahead (front_put (gathers_cut written.gathers text front) emptied)

-- what waits of all that is printed is put
pub dumps_end : {old now : Option (List ℕ)} {gathered bytes : List ℕ} {bad : Option ℕ}
    (new : Option (List ℕ)) → GathersDump old now gathered bytes bad → Appends now new gathered
    → Dumps old new bytes bad
dumps_end new came put =
    record { text = came.text; dump = came.dump; put = gathers_end came.gathers new put }

-- what waits of a front of it is put, or a front of that
pub dumps_front_end : {old now : Option (List ℕ)} {gathered bytes : List ℕ} (new : Option (List ℕ))
    → GathersDumpFront old now gathered bytes → AppendsFront now new gathered → DumpsFront old new bytes
dumps_front_end new came last = λ text bad dump. front_end (came text bad dump) last
