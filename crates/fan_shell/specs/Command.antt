-- The commands, and the words that name them.
use Rattle.std.specs.Prelude.{◌≡◌, ◌⊎◌, ℕ, ◌<◌, ◌^◌, List, [], ◌∷◌, codes, String, map, string_bytes}
use Rattle.std.specs.Fmt.{decimal}
use Rattle.fan_shell.specs.declared.command.Command.{Command}
use Rattle.fan_shell.specs.declared.command.Command.TheVariants as commands
use Rattle.fan_shell.specs.declared.command.Form.{Form}
use Rattle.fan_shell.specs.declared.command.Form.TheVariants as forms

-- the word that names a command
unfoldable pub name : Command → List ℕ
name commands.Script = codes "script"
name commands.Dump = codes "dump"

-- the words are the name of this command alone
abbrev pub Names : {Z : Type 0} → List (String Z) → Command → Type 0
Names words command = map (λ word. string_bytes word) words ≡ name command ∷ []

-- the words are `bulk` and the decimals of two numbers below 2^64, alone
pub record NamesBulk {Z : Type 0} (words : List (String Z)) (seed count : ℕ) : Type 0 where
  pub words_are :
      map (λ word. string_bytes word) words ≡ codes "bulk" ∷ decimal seed ∷ decimal count ∷ []
  pub seed_fits : seed < 2 ^ 64
  pub count_fits : count < 2 ^ 64

-- the words name no command that reads an input
abbrev pub NamesNoInput : {Z : Type 0} → List (String Z) → Type 0
NamesNoInput words = (command : Command) → Names words command → ⊥

-- the words are not those of `bulk`
abbrev pub NamesNoBulk : {Z : Type 0} → List (String Z) → Type 0
NamesNoBulk words = (seed count : ℕ) → NamesBulk words seed count → ⊥

-- the words name no command
abbrev pub NamesNone : {Z : Type 0} → List (String Z) → Type 0
NamesNone words = NamesNoInput words × NamesNoBulk words

-- the words name a command
abbrev pub NamesOne : {Z : Type 0} → List (String Z) → Type 0
NamesOne words =
    ((command : Command) × Names words command)
    ⊎ ((seed : ℕ) × (count : ℕ) × NamesBulk words seed count)

-- the words are of this form, and of no other
abbrev pub IsForm : {Z : Type 0} → List (String Z) → Form → Type 0
IsForm words (forms.Input command) = Names words command × NamesNoBulk words
IsForm words (forms.Bulk seed count) = NamesBulk words seed count × NamesNoInput words
IsForm words forms.Other = NamesNone words
