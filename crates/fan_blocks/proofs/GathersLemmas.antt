-- What was put and what waits, as texts come and blocks are put.
use Rattle.std.proofs.Common.{◌≡◌, ℕ, List, [], ◌++◌, Option, refl, sym, ap, ◌∙◌, append_assoc, append-nil}
use Rattle.std.specs.Io.KnownBytes.{Appends}
use Rattle.std.proofs.KnownBytes.{Appends-nil, Appends-trans}
use Rattle.fan_io.specs.Bytes.{AppendsFront}
use Rattle.fan_blocks.specs.Gathers.{Gathers, GathersFront}

-- at the start nothing was put and nothing waits
pub gathers_nothing : (old : Option (List ℕ)) (gathered : List ℕ) → gathered ≡ []
    → Gathers old old gathered []
gathers_nothing old gathered empty = record { put = []; whole = empty; appended = Appends-nil old }

-- a text waits behind what was gathered
pub gathers_behind : (old : Option (List ℕ)) (before text gathered : List ℕ) → gathered ≡ before ++ text
    → Gathers old old gathered (before ++ text)
gathers_behind old before text gathered behind =
    record { put = []; whole = behind; appended = Appends-nil old }

-- all was put
pub gathers_put : (old now : Option (List ℕ)) (text gathered : List ℕ) → Appends old now text → gathered ≡ []
    → Gathers old now gathered text
gathers_put old now text gathered put empty =
    record { put = text; whole = rw (empty, append-nil) refl; appended = put }

module _ {old now : Option (List ℕ)} {gathered written : List ℕ} (before : Gathers old now gathered written)
  where
    -- one more text came
    pub gathers_more : {new : Option (List ℕ)} {waiting : List ℕ} (text : List ℕ)
        → Gathers now new waiting (gathered ++ text) → Gathers old new waiting (written ++ text)
    gathers_more {new} {waiting} text more = record {
      put = before.put ++ more.put;
      whole = append_assoc before.put more.put waiting
          ∙ ap (λ rest. before.put ++ rest) more.whole
          ∙ sym (append_assoc before.put gathered text)
          ∙ ap (λ front. front ++ text) before.whole;
      appended = Appends-trans old now new before.put more.put before.appended more.appended;
    }

    -- a text came, and the sink failed
    pub gathers_cut : {new : Option (List ℕ)} (text : List ℕ) → AppendsFront now new (gathered ++ text)
        → AppendsFront old new (written ++ text)
    gathers_cut {new} text front = record {
      put = before.put ++ front.put;
      rest = front.rest;
      whole = append_assoc before.put front.put front.rest
          ∙ ap (λ rest. before.put ++ rest) front.whole
          ∙ sym (append_assoc before.put gathered text)
          ∙ ap (λ front. front ++ text) before.whole;
      appended = Appends-trans old now new before.put front.put before.appended front.appended;
    }

    -- what waited is put
    pub gathers_end : (new : Option (List ℕ)) → Appends now new gathered → Appends old new written
    gathers_end new put =
        rw (← before.whole) (Appends-trans old now new before.put gathered before.appended put)

-- what waited of a front of a text is put, or a front of it
pub front_end : {old now new : Option (List ℕ)} {gathered text : List ℕ} → GathersFront old now gathered text
    → AppendsFront now new gathered → AppendsFront old new text
front_end {old} {now} {new} {gathered} {text} before last =
    let gathers = before.gathers in
    record {
      put = gathers.put ++ last.put;
      rest = last.rest ++ before.rest;
      whole = rw (← before.whole, ← gathers.whole, ← last.whole) (simp append_assoc);
      appended = Appends-trans old now new gathers.put last.put gathers.appended last.appended;
    }

-- a front of a text was put, and nothing waits
pub front_put : {old now : Option (List ℕ)} {gathered text : List ℕ} → AppendsFront old now text
    → gathered ≡ [] → GathersFront old now gathered text
front_put {old} {now} {gathered} {text} front empty = record {
  front = front.put;
  rest = front.rest;
  whole = front.whole;
  gathers = gathers_put old now front.put gathered front.appended empty;
}

-- a text is a front of itself
pub front_whole : {old now : Option (List ℕ)} {gathered text : List ℕ} → Gathers old now gathered text
    → GathersFront old now gathered text
front_whole {text = text} gathers =
    record { front = text; rest = []; whole = append-nil text; gathers = gathers }

-- a front of a text is a front of all that begins with this text
pub front_longer : {old now : Option (List ℕ)} {gathered written : List ℕ} (text rest : List ℕ)
    → GathersFront old now gathered written → text ≡ written ++ rest → GathersFront old now gathered text
front_longer text rest front longer = record {
  front = front.front;
  rest = front.rest ++ rest;
  whole = rw (longer, ← front.whole) (simp append_assoc);
  gathers = front.gathers;
}
