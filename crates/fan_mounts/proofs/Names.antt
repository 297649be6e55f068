-- The names of a path.
use Rattle.std.proofs.Common.{◌≡◌, ◌≢◌, ◌∙◌, ℕ, ◌+◌, ◌-◌, ◌<◌, ◌==◌, Bool, true, false, not, cond, List, [], ◌∷◌, ◌++◌, length, take, drop, get_or, reverse, refl, sym, ap, suc, arith}
use Rattle.std.proofs.lemmas.Bool.Decides.{nat_tests}
use Rattle.std.proofs.lemmas.List.{append-nil, drop_more, get_or-drop, get_or-take, length-drop, length-take-le, reverse-append, take-append-drop, take_rest}
use Rattle.std.proofs.lemmas.List.Elements.{All-from_get_or, filter-append}
use Rattle.std.proofs.lemmas.List.Splits.{slice_split_none}
use Rattle.std.specs.List.{slice_split, onto_first}
use Rattle.fan_mounts.specs.Reaches.{names_of}

-- there is a first part
starts : {X : Type 0} (test : X → Bool) (xs : List X)
    → (part : List X) × (parts : List (List X)) × (slice_split test xs ≡ part ∷ parts)
starts {X = X} test [] = ([], [], refl)
starts {X = X} test (x ∷ xs) =
    let rest = starts test xs in
    elim (test x) as (λ b. (part : List X) × (parts : List (List X))
    × (cond b ([] ∷ slice_split test xs) (onto_first x (slice_split test xs)) ≡ part ∷ parts)) [
      | true ↦ ([], slice_split test xs, refl)
      | false ↦ (x ∷ rest.0, rest.1, ap (onto_first x) rest.2)
    ]

onto_append : {X : Type 0} (x : X) (all more : List (List X)) (part : List X) (parts : List (List X))
    → all ≡ part ∷ parts → onto_first x (all ++ more) ≡ onto_first x all ++ more
onto_append x all more part parts is = rw is refl

-- what is cut around a cut stands side by side
pub slice_split_around : {X : Type 0} (test : X → Bool) (xs : List X) (y : X) (ys : List X) → test y ≡ true
    → slice_split test (xs ++ y ∷ ys) ≡ slice_split test xs ++ slice_split test ys
slice_split_around test [] y ys cut = rw cut refl
slice_split_around test (x ∷ xs) y ys cut =
    let rest = slice_split_around test xs y ys cut in
    let first = starts test xs in
    elim (test x) as (λ b.
    cond b ([] ∷ slice_split test (xs ++ y ∷ ys)) (onto_first x (slice_split test (xs ++ y ∷ ys)))
    ≡ cond b ([] ∷ slice_split test xs) (onto_first x (slice_split test xs)) ++ slice_split test ys) [
      | true ↦ ap (λ parts. [] ∷ parts) rest
      | false ↦
          ap (onto_first x) rest
          ∙ onto_append x (slice_split test xs) (slice_split test ys) first.0 first.1 first.2
    ]

-- the names around a slash stand side by side
pub names_around : (before after : List ℕ)
    → names_of (before ++ 47 ∷ after) ≡ names_of before ++ names_of after
names_around before after =
    ap (λ parts. Rattle.std.specs.Prelude.filter (λ name. not (length name == 0)) parts)
    (slice_split_around (λ byte. byte == 47) before 47 after refl)
    ∙ filter-append (λ name. not (length name == 0)) (slice_split (λ byte. byte == 47) before)
    (slice_split (λ byte. byte == 47) after)

-- slashes alone have no names
pub no_names : (bytes : List ℕ) → ((k : ℕ) → k < length bytes → get_or bytes k 0 ≡ 47) → names_of bytes ≡ []
no_names [] each = refl
no_names (byte ∷ bytes) each =
    let here : byte ≡ 47 = each 0 (omega arith) in
    let rest = no_names bytes (λ k below. each (suc k) (omega arith)) in
    rw here (names_around [] bytes ∙ rest)

-- slashes at the end add none
trailed : (front rest : List ℕ) → ((k : ℕ) → k < length rest → get_or rest k 0 ≡ 47)
    → names_of (front ++ rest) ≡ names_of front
trailed front [] each = ap names_of (append-nil front)
trailed front (byte ∷ rest) each =
    let here : byte ≡ 47 = each 0 (omega arith) in
    let none = no_names rest (λ k below. each (suc k) (omega arith)) in
    rw here (names_around front rest ∙ ap (λ more. names_of front ++ more) none ∙ append-nil (names_of front))

pub names_trimmed : (path : List ℕ) (end : ℕ)
    → ((k : ℕ) → end < k → k < length path → get_or path k 0 ≡ 47)
    → names_of path ≡ names_of (take (end + 1) path)
names_trimmed path end behind =
    ap names_of (sym (take-append-drop (end + 1) path))
    ∙ trailed (take (end + 1) path) (drop (end + 1) path)
    (λ k below. get_or-drop (end + 1) path k 0
    ∙ behind (end + 1 + k) (omega arith) (omega (arith, length-drop (end + 1) path)))

-- bytes without a slash are one name
pub one_name : (bytes : List ℕ) → 0 < length bytes → ((k : ℕ) → k < length bytes → get_or bytes k 0 ≢ 47)
    → names_of bytes ≡ bytes ∷ []
one_name bytes some each =
    let whole = slice_split_none (λ byte. byte == 47) bytes
    (All-from_get_or (λ byte. (byte == 47) ≡ false) bytes 0 (λ k below.
    let apart = each k below in grind (arith, nat_tests))) in
    let kept : (length bytes == 0) ≡ false = grind (arith, nat_tests) in
    rw whole (rw kept refl)

-- what stands behind the last slash is the last name
pub last_name : (bytes : List ℕ) (slash : ℕ) → slash + 1 < length bytes → get_or bytes slash 0 ≡ 47
    → ((k : ℕ) → slash < k → k < length bytes → get_or bytes k 0 ≢ 47)
    → names_of bytes ≡ names_of (take slash bytes) ++ drop (slash + 1) bytes ∷ []
last_name bytes slash within at behind =
    let cut : slash < length bytes = omega arith in
    let rest : drop slash bytes ≡ 47 ∷ drop (slash + 1) bytes =
    drop_more bytes slash 0 cut ∙ ap (λ byte. byte ∷ drop (slash + 1) bytes) at in
    ap names_of (sym (take-append-drop slash bytes) ∙ ap (λ more. take slash bytes ++ more) rest)
    ∙ names_around (take slash bytes) (drop (slash + 1) bytes)
    ∙ ap (λ more. names_of (take slash bytes) ++ more) (one_name (drop (slash + 1) bytes)
    (omega (arith, length-drop (slash + 1) bytes))
    (λ k below same. behind (slash + 1 + k) (omega arith) (omega (arith, length-drop (slash + 1) bytes))
    (sym (get_or-drop (slash + 1) bytes k 0) ∙ same)))

-- a path whose last byte that is no slash stands at one place, with a slash before it
pub split_at_slash : (path : List ℕ) (end slash : ℕ) → end < length path → get_or path end 0 ≢ 47
    → ((k : ℕ) → end < k → k < length path → get_or path k 0 ≡ 47)
    → slash < length (take (end + 1) path) → get_or (take (end + 1) path) slash 0 ≡ 47
    → ((k : ℕ) → slash < k → k < length (take (end + 1) path) → get_or (take (end + 1) path) k 0 ≢ 47)
    → reverse (names_of path)
    ≡ take (length (take (end + 1) path) - (slash + 1)) (drop (slash + 1) (take (end + 1) path))
    ∷ reverse (names_of (take slash (take (end + 1) path)))
split_at_slash path end slash within last behind below at others =
    let front = take (end + 1) path in
    let size : length front ≡ end + 1 = length-take-le (end + 1) path (omega arith) in
    let apart : slash ≢ end =
    (λ same. last (sym (get_or-take (end + 1) path end 0 (omega arith))
    ∙ ap (λ k. get_or front k 0) (sym same) ∙ at)) in
    let names = names_trimmed path end behind ∙ last_name front slash (omega arith) at others in
    ap reverse names
    ∙ reverse-append (names_of (take slash front)) (drop (slash + 1) front ∷ [])
    ∙ ap (λ name. name ∷ reverse (names_of (take slash front))) (sym (take_rest front (slash + 1)))

-- and one without
pub split_nowhere : (path : List ℕ) (end : ℕ) → end < length path
    → ((k : ℕ) → end < k → k < length path → get_or path k 0 ≡ 47)
    → ((k : ℕ) → k < length (take (end + 1) path) → get_or (take (end + 1) path) k 0 ≢ 47)
    → reverse (names_of path) ≡ take (end + 1) path ∷ []
split_nowhere path end within behind none =
    ap reverse (names_trimmed path end behind
    ∙ one_name (take (end + 1) path) (omega (arith, length-take-le (end + 1) path (omega arith))) none)
