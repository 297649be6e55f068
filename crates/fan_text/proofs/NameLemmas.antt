-- A word is read as a name exactly where it is one.
use Rattle.std.proofs.Common.{◌≡◌, ◌≢◌, ℕ, true, false, eqb, ltb, List, [], ◌∷◌, length, Decides, refl, arith}
use Rattle.std.specs.Prelude.{codes, All}
use Rattle.std.specs.List.{list_all}
use Rattle.std.specs.Str.{bytes_eq}
use Rattle.std.proofs.lemmas.Bool.{ltb-false, le-ltb, eqb-false, ne_eqb, false_from_ne_true}
use Rattle.std.proofs.lemmas.Bool.Decides.{nat_tests, not_from_Decides, Decides-by_and}
use Rattle.std.proofs.lemmas.List.Elements.{All-head, All-tail}
use Rattle.std.proofs.lemmas.Slice.Eq.{bytes_eq-Decides}
use Rattle.fan_text.specs.Reading.{is_name_byte, is_name}
use Rattle.fan_text.specs.Spelling.{IsNameByte, IsName}
use Rattle.fan_lists.proofs.Choices.{true_past}
use Rattle.fan_text.proofs.SpaceLemmas.{is_space, is_spaceless}

-- the test of a byte tells whether it is a name byte
name_byte_decides : (byte : ℕ) → Decides (is_name_byte byte) (IsNameByte byte)
name_byte_decides byte = (λ e. grind (arith, nat_tests), λ h. grind (arith, nat_tests))

-- the same of each byte of a name
name_bytes_decides : (name : List ℕ) → Decides (list_all is_name_byte name) (All IsNameByte name)
name_bytes_decides name = Decides-by_and is_name_byte IsNameByte
    (list_all is_name_byte) name_byte_decides refl (λ _ _. refl) name

-- what passes the test is a name
pub name_takes : (name : List ℕ) → is_name name ≡ true → IsName name
unfolding is_name
name_takes name e =
    let some = true_past (eqb (length name) 0) _ e in
    let most = true_past (ltb 255 (length name)) _ some.1 in
    let dot = true_past (bytes_eq name (codes ".")) _ most.1 in
    let dots = true_past (bytes_eq name (codes "..")) _ dot.1 in
    let nonempty : length name ≡ 0 → ⊥ = eqb-false _ _ some.0 in
    record {
      some = omega arith;
      most = ltb-false _ _ most.0;
      bytes = (name_bytes_decides name).0 dots.1;
      not_dot = not_from_Decides _ (bytes_eq-Decides name (codes ".")) dot.0;
      not_dots = not_from_Decides _ (bytes_eq-Decides name (codes "..")) dots.0;
    }

-- two lists that differ fail the test of equality
differs : (xs ys : List ℕ) → xs ≢ ys → bytes_eq xs ys ≡ false
differs xs ys ne = false_from_ne_true _ (λ e. ne ((bytes_eq-Decides xs ys).0 e))

-- a name passes the test
pub name_again : (name : List ℕ) → IsName name → is_name name ≡ true
unfolding is_name
name_again name h =
    let some : eqb (length name) 0 ≡ false = ne_eqb _ _ (λ e. absurd (omega (arith, h.some))) in
    let most : ltb 255 (length name) ≡ false = le-ltb _ _ h.most in
    let dot = differs name (codes ".") h.not_dot in
    let dots = differs name (codes "..") h.not_dots in
    rw (some, most, dot, dots) ((name_bytes_decides name).1 h.bytes)

-- the test tells whether a word is a name
pub name_decides : (name : List ℕ) → Decides (is_name name) (IsName name)
name_decides name = (name_takes name, name_again name)

-- name bytes have no space among them
name_bytes_spaceless : (name : List ℕ) → All IsNameByte name → is_spaceless name ≡ true
name_bytes_spaceless [] each = refl
name_bytes_spaceless (c ∷ name) each =
    let first = All-head IsNameByte c name each in
    let other : is_space c ≡ false = ne_eqb _ _ (λ e. absurd (omega (arith, first.0, e))) in
    rw (other, name_bytes_spaceless name (All-tail IsNameByte c name each)) refl

-- no byte of a name is a space
pub name_spaceless : (name : List ℕ) → IsName name → is_spaceless name ≡ true
name_spaceless name h = name_bytes_spaceless name h.bytes
