-- A loop over a chain whose items are known: those behind it, the next one, and the rest.
use Rattle.std.proofs.Common.{◌≡◌, ℕ, ◌+◌, ◌<◌, List, [], ◌∷◌, ◌++◌, Option, Some, None, length, take, drop, get_or, map}
use Rattle.std.proofs.lemmas.Iterator.{YieldsList}
use Rattle.std.proofs.lemmas.Iterator.Consumers.{YieldsList-end, YieldsList-so_far, YieldsList-turn}
use Rattle.std.proofs.lemmas.List.{take-append-drop, take_more}
use Rattle.std.specs.Iterator.{Yields}

-- what stands before a place, and at it, is a front
front : {X : Type 0} (all before : List X) (x : X) (at : ℕ) → before ≡ take at all
    → at < length all → x ≡ get_or all at x → (before ++ x ∷ []) ++ drop (at + 1) all ≡ all
front all before x at behind within here =
    let next = take_more all at x within in
    let whole = take-append-drop (at + 1) all in
    cc

-- the items so far with the next one are a front of all
pub walked_front : {S A B : Type 0} (v : A → B) (steps : S → Option A → S → Type 0) {s : S} {all : List B}
    (xs : List A) (t : S) (y : Yields steps s xs t) (r : Option A) (u : S) (x : A) → r ≡ Some x → steps t r u
    → YieldsList steps v s all → (map v xs ++ v x ∷ []) ++ drop (length xs + 1) all ≡ all
walked_front v steps {all = all} xs t y r u x is step road =
    let turn = YieldsList-turn road xs t y r u x is step in
    front all (map v xs) (v x) (length xs) (YieldsList-so_far road xs t y) turn.0 turn.1

-- at the end they are all
pub walked_all : {S A B : Type 0} (v : A → B) (steps : S → Option A → S → Type 0) {s : S} {all : List B}
    (xs : List A) (t : S) (y : Yields steps s xs t) (r : Option A) (u : S) → r ≡ None → steps t r u
    → YieldsList steps v s all → map v xs ≡ all
walked_all v steps xs t y r u is step road = (YieldsList-end road xs t y r u is step).0
