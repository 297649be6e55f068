-- Playing a script line by line, and what its transcript is.
use Rattle.std.proofs.Common.{◌≡◌, ℕ, ◌+◌, List, [], ◌∷◌, ◌++◌, Bool, true, false, Option, Some, None, length, refl, sym, ap, ◌∙◌, append_assoc, append-nil}
use Rattle.std.proofs.lemmas.List.{nil_from_length}
use Rattle.fan_blocks.specs.Gathers.{Gathers, GathersFront}
use Rattle.fan_blocks.proofs.GathersLemmas.{gathers_nothing, gathers_more, gathers_cut, front_put, front_whole, front_longer}
use Rattle.fan_io.specs.Bytes.{AppendsFront}
use Rattle.fan_machine.specs.World.{WorldState, initial_world}
use Rattle.fan_shell.specs.Answers.{IsStart, IsTurn}
use Rattle.fan_shell.specs.declared.status.Status.TheVariants as statuses
use Rattle.fan_shell.specs.Playing.{Turn, turn, after_turn, played, play}
use Rattle.fan_shell.specs.Script.{Printed, behind, lines_of}
use Rattle.fan_world.specs.Machine.{IsMachine, Parts}

-- what is printed before `rest` was put, but for what is gathered, and the parts stand for the world that the
-- next line starts from
pub record Leads (old now : Option (List ℕ)) (gathered script rest : List ℕ) (parts : Parts) (number : ℕ) : Type 0
  where
    pub written : List ℕ
    pub gathers : Gathers old now gathered written
    pub world : WorldState
    pub machine : IsMachine parts world
    pub is : play script ≡ behind written (played (lines_of rest) world number)

-- at the start nothing is printed
pub leads_start : (old : Option (List ℕ)) (gathered script : List ℕ) (parts : Parts)
    → gathered ≡ [] → IsMachine parts initial_world → Leads old old gathered script script parts 1
unfolding play
leads_start old gathered script parts empty machine = record {
  written = [];
  gathers = gathers_nothing old gathered empty;
  world = initial_world;
  machine = machine;
  is = refl;
}

-- behind a good line the next one starts
started : (text : List ℕ) (start : Option WorldState) (go_on : WorldState → Printed) (parts : Parts)
    → IsStart parts true start
    → (world : WorldState) × IsMachine parts world × (after_turn text start go_on ≡ behind text (go_on world))
started text None go_on parts start = absurd start
started text (Some world) go_on parts start = (world, start, refl)

-- behind a bad line nothing follows
stopped : (text : List ℕ) (start : Option WorldState) (go_on : WorldState → Printed) (parts : Parts)
    → IsStart parts false start
    → after_turn text start go_on ≡ record { text = text; status = statuses.BadLine }
stopped text None go_on parts start = refl
stopped text (Some world) go_on parts start = absurd start

-- the text of a turn stands at the front of what follows it
text_after : (text : List ℕ) (start : Option WorldState) (go_on : WorldState → Printed)
    → (rest : List ℕ) × ((after_turn text start go_on).text ≡ text ++ rest)
text_after text None go_on = ([], sym (append-nil text))
text_after text (Some start) go_on = ((go_on start).text, refl)

-- the text of a turn is all that was put, if nothing was there before
turn_text : {parts : Parts} {before now : List ℕ} {good : Bool} {turn : Turn} (text : List ℕ)
    → IsTurn parts before now good turn → before ≡ [] → text ≡ now → text ≡ turn.text
turn_text text done empty is = is ∙ done.put ∙ rw empty refl

module _ {old now : Option (List ℕ)} {gathered script rest : List ℕ} {parts : Parts} {number : ℕ}
    (leads : Leads old now gathered script rest parts number)
    (line more : List ℕ) (lines : lines_of rest ≡ line ∷ lines_of more) where
  abbrev here : Turn
  here = turn leads.world number line

  abbrev later : WorldState → Printed
  later world = played (lines_of more) world (number + 1)

  -- what a script prints, from its next line on
  turned : play script ≡ behind leads.written (after_turn here.text here.start later)
  turned = leads.is ∙ ap (λ pieces. behind leads.written (played pieces leads.world number)) lines

  -- the next line was answered, and is a good one
  pub leads_more : {new : Option (List ℕ)} {waiting text before answer : List ℕ} {next_parts : Parts} {good : Bool}
      → IsTurn next_parts before answer good here → before ≡ [] → text ≡ answer → good ≡ true
      → Gathers now new waiting (gathered ++ text) → Leads old new waiting script more next_parts (number + 1)
  leads_more {new} {waiting} {text} {before} {answer} {next_parts} done empty is is_good came =
      let said : text ≡ here.text = turn_text text done empty is in
      let next = started here.text here.start later next_parts (rw is_good at done.start) in
      record {
        written = leads.written ++ text;
        gathers = gathers_more leads.gathers text came;
        world = next.0;
        machine = next.1;
        is = turned ∙ ap (λ printed. behind leads.written printed) next.2 ∙ rw said (simp append_assoc);
      }

  -- a bad line ends what is printed
  leads_bad : {before answer : List ℕ} {next_parts : Parts} {good : Bool}
      → IsTurn next_parts before answer good here → good ≡ false
      → play script ≡ record { text = leads.written ++ here.text; status = statuses.BadLine }
  leads_bad {before} {answer} {next_parts} done is_bad =
      turned ∙ ap (λ printed. behind leads.written printed)
      (stopped here.text here.start later next_parts (rw is_bad at done.start))

  -- so all came, once its text did
  pub leads_bad_all : {new : Option (List ℕ)} {waiting text before answer : List ℕ} {next_parts : Parts}
      {good : Bool} → IsTurn next_parts before answer good here → before ≡ [] → text ≡ answer → good ≡ false
      → Gathers now new waiting (gathered ++ text) → Gathers old new waiting (play script).text
  leads_bad_all {text = text} done empty is is_bad came =
      let said : text ≡ here.text = turn_text text done empty is in
      rw (leads_bad done is_bad, ← said) (gathers_more leads.gathers text came)

  -- what the script prints begins with what came before and the next line's text
  begins : (text : List ℕ) → text ≡ here.text
      → (after : List ℕ) × ((play script).text ≡ (leads.written ++ text) ++ after)
  begins text said =
      let next = text_after here.text here.start later in (
        next.0,
        ap (λ (r : Printed). r.text) turned ∙ ap (λ after. leads.written ++ after) next.1
            ∙ rw said (simp append_assoc),
      )

  -- the text of the next line came: a front of all came
  pub leads_front : {new : Option (List ℕ)} {waiting text before answer : List ℕ} {next_parts : Parts}
      {good : Bool} → IsTurn next_parts before answer good here → before ≡ [] → text ≡ answer
      → Gathers now new waiting (gathered ++ text) → GathersFront old new waiting (play script).text
  leads_front {text = text} done empty is came =
      let longer = begins text (turn_text text done empty is) in
      front_longer (play script).text longer.0 (front_whole (gathers_more leads.gathers text came)) longer.1

  -- it came, and the sink failed
  pub leads_cut : {new : Option (List ℕ)} {waiting text before answer : List ℕ} {next_parts : Parts}
      {good : Bool} → IsTurn next_parts before answer good here → before ≡ [] → text ≡ answer
      → AppendsFront now new (gathered ++ text) → waiting ≡ []
      → GathersFront old new waiting (play script).text
  leads_cut {text = text} done empty is front none =
      let longer = begins text (turn_text text done empty is) in
      front_longer (play script).text longer.0 (front_put (gathers_cut leads.gathers text front) none) longer.1

-- a front of all came before the next line
pub leads_so_far : {old now : Option (List ℕ)} {gathered script rest : List ℕ} {parts : Parts} {number : ℕ}
    (leads : Leads old now gathered script rest parts number)
    → GathersFront old now gathered (play script).text
leads_so_far {script = script} {rest = rest} {number = number} leads =
    front_longer (play script).text (played (lines_of rest) leads.world number).text
    (front_whole leads.gathers) (ap (λ (r : Printed). r.text) leads.is)

-- at the end all is printed
pub leads_end : {old now : Option (List ℕ)} {gathered script rest : List ℕ} {parts : Parts} {number : ℕ}
    (leads : Leads old now gathered script rest parts number)
    → length rest ≡ 0 → play script ≡ record { text = leads.written; status = statuses.Ok }
unfolding lines_of
leads_end {old} {now} {gathered} {script} {rest} leads none =
    leads.is ∙ rw (nil_from_length rest none, append-nil) refl
