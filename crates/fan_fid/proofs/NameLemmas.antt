-- A name and the first 0 behind it.
use Rattle.std.proofs.Common.{◌≡◌, ℕ, suc, ◌<◌, true, false, List, ◌∷◌, ◌++◌, length, take, drop, get_or, Some, sym, ap, ◌∙◌, eq-eqb, arith}
use Rattle.std.specs.Prelude.{◌==◌, position}
use Rattle.std.proofs.Math.Seq.{drop-cons}
use Rattle.std.proofs.lemmas.Bool.{eqb-true}
use Rattle.std.proofs.lemmas.List.{take-append-drop, get_or-take, length-take}
use Rattle.std.proofs.lemmas.List.Quantifiers.{position-Some}
use Rattle.fan_fid.specs.Infos.{SpellsName}

-- the bytes before the first 0 are a name
pub splits : (text : List ℕ) (end : ℕ)
    → position (λ byte. byte == 0) text ≡ Some end → SpellsName text (take end text)
splits text end found =
    let facts = position-Some (λ byte. byte == 0) text end 0 found in
    let zero : get_or text end 0 ≡ 0 = eqb-true _ _ facts.1 in
    let within : end < length text = facts.0 in
    let behind : drop end text ≡ 0 ∷ drop (suc end) text =
    drop-cons text end 0 within ∙ ap (λ (byte : ℕ). byte ∷ drop (suc end) text) zero in
    record {
      rest = drop (suc end) text;
      ends = sym (take-append-drop end text) ∙ ap (λ (rest : List ℕ). take end text ++ rest) behind;
      first = λ there.
          let before : there.0 < end = omega (arith, there.1, length-take end text) in
          let same = get_or-take end text there.0 0 before in
          let zero_there : (get_or text there.0 0 == 0) ≡ true =
          eq-eqb (get_or text there.0 0) 0 (sym same ∙ there.2) in
          let none_there : (get_or text there.0 0 == 0) ≡ false = facts.2 there.0 before in
          absurd cc;
    }
