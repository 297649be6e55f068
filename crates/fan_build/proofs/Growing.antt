-- Rows that are taken and given up, step after step.
use Rattle.std.proofs.Common.{◌≡◌, ◌∙◌, ℕ, ◌+◌, ◌*◌, ◌≤◌, List, [], ◌∷◌, ◌++◌, Option, refl, sym, ap, arith, append-nil, append_assoc, length-append}
use Rattle.fan_rows.specs.Rows.{KeepsRows, Rows, times}
use Rattle.fan_rows.proofs.Chains.{times_append}
use Rattle.fan_build.specs.Steps.{Apart, Counts, Grown}

-- nothing was taken and given up
pub grown_none : (words : ℕ → Option ℕ) (rows : Rows) → Grown words words rows rows [] []
grown_none words rows = record {
  given_on = sym (append-nil rows.given);
  retired_on = sym (append-nil rows.retired);
  from_free = λ row. omega arith;
  fewer = omega arith;
  others = λ row place small none. refl;
}

-- one step after another
pub grown_on : (words later last : ℕ → Option ℕ) (rows after end : Rows) (more gone next lost : List ℕ)
    → Grown words later rows after more gone → Grown later last after end next lost
    → Grown words last rows end (more ++ next) (gone ++ lost)
grown_on words later last rows after end more gone next lost first second = record {
  given_on = second.given_on ∙ ap (λ given. given ++ next) first.given_on ∙ append_assoc rows.given more next;
  retired_on = second.retired_on
      ∙ ap (λ retired. retired ++ lost) first.retired_on
      ∙ append_assoc rows.retired gone lost;
  from_free = λ row.
      omega (arith, first.from_free row, second.from_free row, times_append row more next);
  fewer = omega (arith, first.fewer, second.fewer, length-append more next);
  others = λ row place small none.
      let all = times_append row more next in
      second.others row place small (omega arith) ∙ first.others row place small (omega arith);
}

-- a row was given up
pub grown_retired : (words later : ℕ → Option ℕ) (rows after : Rows) (row : ℕ) → later ≡ words
    → after.free ≡ rows.free → after.given ≡ rows.given → after.retired ≡ rows.retired ++ row ∷ []
    → Grown words later rows after [] (row ∷ [])
grown_retired words later rows after row same free given retired = record {
  given_on = given ∙ sym (append-nil rows.given);
  retired_on = retired;
  from_free = λ one. rw free (omega arith);
  fewer = rw free (omega arith);
  others = λ one place small none. ap (λ (w : ℕ → Option ℕ). w (4 * one + place)) same;
}

-- rows that are apart from the free ones are kept
pub keeps : (words later : ℕ → Option ℕ) (rows after : Rows) (more gone reached : List ℕ)
    → Grown words later rows after more gone → Apart reached rows → KeepsRows words later reached
keeps words later rows after more gone reached grown apart row place some small =
    let all = apart row in
    let free = grown.from_free row in
    grown.others row place small (omega arith)

-- fewer rows are apart too
pub apart_fewer : (rows : Rows) (reached fewer : List ℕ) → Apart reached rows
    → ((row : ℕ) → times row fewer ≤ times row reached) → Apart fewer rows
apart_fewer rows reached fewer apart less = λ row. omega (arith, apart row, less row)

-- after a step what became of rows that were apart is apart, with others that were not touched
pub apart_after : (words later : ℕ → Option ℕ) (rows after : Rows) (more gone old new reached left : List ℕ)
    → Grown words later rows after more gone → Counts old more new gone → Apart reached rows
    → ((row : ℕ) → times row old + times row left ≤ times row reached)
    → (row : ℕ)
    → times row new + times row left + times row after.free + times row after.retired ≤ 1
apart_after words later rows after more gone old new reached left grown counts apart less row =
    let retired : times row after.retired ≡ times row rows.retired + times row gone =
    ap (times row) grown.retired_on ∙ times_append row rows.retired gone in
    omega (arith, apart row, less row, counts row, grown.from_free row)
