-- The words of a command.
use Rattle.std.proofs.Common.{◌≡◌, ℕ, ◌^◌, ◌<◌, ◌≤◌, length, get_or, map, Some, List, [], ◌∷◌, refl, sym, ◌∙◌, arith}
use Rattle.std.specs.Prelude.{String, codes, string_bytes}
use Rattle.std.specs.Fmt.{decimal}
use Rattle.std.proofs.lemmas.Option.{same_Some}
use Rattle.fan_text.specs.Reading.{decimal_at}
use Rattle.fan_text.proofs.DecimalLemmas.{decimal_again}
use Rattle.fan_shell.specs.Command.{Names, NamesBulk, NamesNoBulk, name}
use Rattle.fan_shell.specs.declared.command.Command.{Command}
use Rattle.fan_shell.specs.declared.command.Command.TheVariants as commands

-- no two commands have one name
same_name : (a b : Command) → name a ≡ name b → a ≡ b
unfolding name
same_name commands.Script commands.Script same = refl
same_name commands.Script commands.Dump same = absurd cc
same_name commands.Dump commands.Script same = absurd cc
same_name commands.Dump commands.Dump same = refl

-- words name one command at most
pub one_command : {Z : Type 0} (words : List (String Z)) (a b : Command) → Names words a → Names words b → a ≡ b
one_command words a b x y =
    let same : name a ∷ [] ≡ name b ∷ [] = sym x ∙ y in
    let names : name a ≡ name b = cc in
    same_name a b names

-- words that name a command with an input are not those of `bulk`
pub no_bulk : {Z : Type 0} (words : List (String Z)) (command : Command) → Names words command
    → NamesNoBulk words
no_bulk words command names = λ seed count bulk.
    let same : name command ∷ [] ≡ codes "bulk" ∷ decimal seed ∷ decimal count ∷ [] =
    sym names ∙ bulk.words_are in
    absurd cc

-- a number has one decimal
same_decimal : (a b : ℕ) → a < 2 ^ 64 → b < 2 ^ 64 → decimal a ≡ decimal b → a ≡ b
same_decimal a b small other same =
    let first : decimal_at (decimal b) ≡ Some a = rw same at (decimal_again a small) in
    same_Some a b (sym first ∙ decimal_again b other)

-- the words of `bulk` have one seed and one count
pub one_bulk : {Z : Type 0} (words : List (String Z)) (a b c d : ℕ) → NamesBulk words a b → NamesBulk words c d
    → (a ≡ c) × (b ≡ d)
one_bulk words a b c d x y =
    let same : codes "bulk" ∷ decimal a ∷ decimal b ∷ [] ≡ codes "bulk" ∷ decimal c ∷ decimal d ∷ [] =
    sym x.words_are ∙ y.words_are in
    let seeds : decimal a ≡ decimal c = cc in
    let counts : decimal b ≡ decimal d = cc in
    (same_decimal a c x.seed_fits y.seed_fits seeds, same_decimal b d x.count_fits y.count_fits counts)

-- the bytes of three words
pub three_words : {Z : Type 0} (words : List (String Z)) (first second third : String Z) {a b c : List ℕ}
    → 3 ≤ length words → length words < 4
    → first ≡ get_or words 0 first → second ≡ get_or words 1 second → third ≡ get_or words 2 third
    → string_bytes first ≡ a → string_bytes second ≡ b → string_bytes third ≡ c
    → map (λ word. string_bytes word) words ≡ a ∷ b ∷ c ∷ []
three_words (x ∷ y ∷ z ∷ []) first second third some few p q r a b c =
    rw (← p, ← q, ← r, a, b, c) refl
three_words [] first second third some few p q r a b c = absurd (omega arith)
three_words (x ∷ []) first second third some few p q r a b c = absurd (omega arith)
three_words (x ∷ y ∷ []) first second third some few p q r a b c = absurd (omega arith)
three_words (x ∷ y ∷ z ∷ next ∷ more) first second third some few p q r a b c = absurd (omega arith)
