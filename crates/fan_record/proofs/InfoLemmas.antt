-- What is known of information records that fill a part.
use Rattle.std.proofs.Common.{◌≡◌, ◌↔◌, ℕ, false, ◌-◌, ◌<◌, ◌≤◌, List, [], ◌∷◌, ◌++◌, length, take, drop, get_or, refl, sym, ap, subst, ◌∙◌, arith}
use Rattle.std.specs.Prelude.{Option, Some, None, IfSome, IfNone, IsTrue}
use Rattle.std.specs.List.{AllByRecursion, concat}
use Rattle.std.proofs.lemmas.List.{take_at, drop_at, take-append-drop, length-append, length-take, length-take-le, get_or-take, get_or-drop, take_rest}
use Rattle.fan_record.specs.Fields.{u16_at}
use Rattle.fan_record.specs.Infos.{AreInfos, BeginsWithInfo, IsInfo}

-- a length at 2 is read in the front
pub u16_at-take : (len : ℕ) (bytes : List ℕ) → 4 ≤ len → u16_at 2 (take len bytes) ≡ u16_at 2 bytes
u16_at-take len bytes le =
    let low : get_or (take len bytes) 2 0 ≡ get_or bytes 2 0 = get_or-take len bytes 2 0 (omega arith) in
    let high : get_or (take len bytes) 3 0 ≡ get_or bytes 3 0 = get_or-take len bytes 3 0 (omega arith) in
    simp get_or-drop (rw (low, high) refl)

-- an information record has its length at 2
pub front-len : (bytes : List ℕ) (len : ℕ) → BeginsWithInfo bytes len → u16_at 2 bytes ≡ len
front-len bytes len front =
    let size : length (take len bytes) ≡ len = length-take-le len bytes front.within in
    let least : 4 ≤ len = omega (arith, front.info.header, size) in
    sym (u16_at-take len bytes least) ∙ front.info.len ∙ size

-- at most one information record stands at the front
pub one-front : (bytes : List ℕ) (m n : ℕ) → BeginsWithInfo bytes m → BeginsWithInfo bytes n → m ≡ n
one-front bytes m n p q = sym (front-len bytes m p) ∙ front-len bytes n q

-- the first of some information records stands at the front of them
pub first-front : (info rest : List ℕ) → IsInfo info → BeginsWithInfo (info ++ rest) (length info)
first-front info rest whole = record {
  within = omega (arith, length-append info rest);
  info = rw (take_at info rest (length info) refl) whole;
}

-- behind the first of some information records stand the others
others-are : (infos : List (List ℕ)) (bytes : List ℕ) (len : ℕ) → BeginsWithInfo bytes len
    → AllByRecursion IsInfo infos → concat infos ≡ bytes → AreInfos (drop len bytes)
others-are [] bytes len front each joined =
    let none : length bytes ≡ 0 = ap length (sym joined) in
    absurd (omega (arith, front.info.header, length-take len bytes, none))
others-are (info ∷ rest) bytes len front each joined =
    let first : BeginsWithInfo bytes (length info) =
    subst (λ (whole : List ℕ). BeginsWithInfo whole (length info)) joined (first-front info (concat rest) each.0) in
    let same : length info ≡ len = one-front bytes (length info) len first front in
    record { infos = rest; each = each.1; joined = rw (← joined) (sym (drop_at info (concat rest) len same)) }

-- the information records behind the first
pub rest-are : (bytes : List ℕ) (len : ℕ) → BeginsWithInfo bytes len → AreInfos bytes → AreInfos (drop len bytes)
rest-are bytes len front whole = others-are whole.infos bytes len front whole.each whole.joined

-- one more information record in front
pub front-and-rest : (bytes : List ℕ) (len : ℕ) → BeginsWithInfo bytes len → AreInfos (drop len bytes) → AreInfos bytes
front-and-rest bytes len front rest = record {
  infos = take len bytes ∷ rest.infos;
  each = (front.info, rest.each);
  joined = rw rest.joined (take-append-drop len bytes);
}

-- where some information records stand, one stands at the front
begins : (infos : List (List ℕ)) (bytes : List ℕ) → 0 < length bytes → AllByRecursion IsInfo infos
    → concat infos ≡ bytes
    → (len : ℕ) × BeginsWithInfo bytes len
begins [] bytes some each joined =
    let none : length bytes ≡ 0 = ap length (sym joined) in absurd (omega arith)
begins (info ∷ rest) bytes some each joined =
    let first = first-front info (concat rest) each.0 in
    (length info, subst (λ (whole : List ℕ). BeginsWithInfo whole (length info)) joined first)

-- where none stands at the front, there are none
pub no-front : (bytes : List ℕ) → 0 < length bytes → ((len : ℕ) → BeginsWithInfo bytes len → ⊥) → AreInfos bytes → ⊥
no-front bytes some none whole =
    let front = begins whole.infos bytes some whole.each whole.joined in none front.0 front.1

-- nothing at all is information records
pub none-are : AreInfos []
none-are = record { infos = []; each = tt; joined = refl }

-- whether all is information records depends on what stands behind the first of the rest
pub goes-on : (all rest : List ℕ) (len : ℕ) → BeginsWithInfo rest len → AreInfos all ↔ AreInfos rest
    → AreInfos all ↔ AreInfos (take (length rest - len) (drop len rest))
goes-on all rest len front so_far = rw take_rest (
  λ whole. rest-are rest len front (so_far.0 whole),
  λ others. so_far.1 (front-and-rest rest len front others),
)

-- all isn't information records where none stands at the front of the rest
pub stops : (all rest : List ℕ) → 0 < length rest → ((len : ℕ) → BeginsWithInfo rest len → ⊥)
    → AreInfos all ↔ AreInfos rest → IsTrue false ↔ AreInfos all
stops all rest some none so_far = (λ wrong. absurd cc, λ whole. absurd (no-front rest some none (so_far.0 whole)))

-- where none stands at the front, there are no bytes
no-bytes : (bytes : List ℕ) → ((len : ℕ) → BeginsWithInfo bytes len → ⊥) → AreInfos bytes → length bytes ≡ 0
no-bytes [] none whole = refl
no-bytes (b ∷ bytes) none whole = absurd (no-front (b ∷ bytes) (omega arith) none whole)

-- the length that was found is the one at 2
pub len-is : (bytes : List ℕ) (found : Option ℕ) → IfSome found (BeginsWithInfo bytes)
    → IfSome found (λ len. len ≡ u16_at 2 bytes)
len-is bytes None some = tt
len-is bytes (Some len) front = sym (front-len bytes len front)

-- no other length serves at the front
pub only-one : (bytes : List ℕ) (found : Option ℕ) → IfSome found (BeginsWithInfo bytes)
    → IfSome found (λ len. (n : ℕ) → BeginsWithInfo bytes n → n ≡ len)
only-one bytes None some = tt
only-one bytes (Some len) front = λ n other. one-front bytes n len other front

-- whether some are there depends on what stands behind the first
pub rest-decides : (bytes : List ℕ) (found : Option ℕ) → IfSome found (BeginsWithInfo bytes)
    → IfSome found (λ len. AreInfos bytes ↔ AreInfos (drop len bytes))
rest-decides bytes None some = tt
rest-decides bytes (Some len) front = (rest-are bytes len front, front-and-rest bytes len front)

-- where none stands at the front, only no bytes are information records
pub only-nothing : (bytes : List ℕ) (found : Option ℕ) → IfNone found ((len : ℕ) → BeginsWithInfo bytes len → ⊥)
    → IfNone found (AreInfos bytes → length bytes ≡ 0)
only-nothing bytes (Some len) none = tt
only-nothing bytes None none = λ whole. no-bytes bytes none whole
