-- How a line of a script is spelled: its words, with one space between each two.
use Rattle.std.specs.Prelude.{◌≡◌, ℕ, Bool, true, false, ◌<◌, ◌≤◌, ◌^◌, List, [], ◌∷◌, Option, Some, None, codes}
use Rattle.std.specs.Bool.{MatchBool}
use Rattle.std.specs.List.{join_with_byte}
use Rattle.std.specs.Fmt.{decimal}
use Rattle.fan_text.specs.Spelling.{IsPath, IsResponse, hex, hex_text}
use Rattle.fan_script.specs.declared.line.Line.{Line}
use Rattle.fan_script.specs.declared.line.Line.TheVariants.{One, Run}
use Rattle.fan_script.specs.declared.step.OpWord.{OpWord}
use Rattle.fan_script.specs.declared.step.OpWord.TheVariants as ops
use Rattle.fan_script.specs.declared.step.Step.{Step}
use Rattle.fan_script.specs.declared.step.Step.TheVariants as steps

-- the word of an operation
abbrev pub op_word : OpWord → List ℕ
op_word ops.Opens = codes "open"
op_word ops.Execs = codes "exec"
op_word ops.Reads = codes "read"
op_word ops.Writes = codes "write"
op_word ops.ClosesWrite = codes "closew"
op_word ops.ClosesRead = codes "closer"
op_word ops.Attribs = codes "attrib"
op_word ops.Creates = codes "create"
op_word ops.MakesDir = codes "mkdir"
op_word ops.Unlinks = codes "unlink"
op_word ops.RemovesDir = codes "rmdir"
op_word ops.Renames = codes "rename"

-- the word of a second path, where there is one
abbrev pub second_words : Option (List ℕ) → List (List ℕ)
second_words None = []
second_words (Some path) = path ∷ []

-- the words of a step
abbrev pub step_words : Step → List (List ℕ)
step_words (steps.MkFile path) = codes "mkfile" ∷ path ∷ []
step_words (steps.MkDir path) = codes "mkdir" ∷ path ∷ []
step_words steps.MkFs = codes "mkfs" ∷ []
step_words (steps.Mount fs path) = codes "mount" ∷ decimal fs ∷ path ∷ []
step_words (steps.Umount path) = codes "umount" ∷ path ∷ []
step_words (steps.Limit entries) = codes "limit" ∷ decimal entries ∷ []
step_words (steps.Init flags) = codes "init" ∷ hex flags ∷ []
step_words (steps.Mark group flags mask path) =
    codes "mark" ∷ decimal group ∷ hex flags ∷ hex mask ∷ path ∷ []
step_words (steps.Begin access pid tid op path second) =
    codes "begin" ∷ decimal access ∷ decimal pid ∷ decimal tid ∷ op_word op ∷ path ∷ second_words second
step_words (steps.Advance access) = codes "step" ∷ decimal access ∷ []
step_words (steps.Read group size) = codes "read" ∷ decimal group ∷ decimal size ∷ []
step_words (steps.Write group bytes) = codes "write" ∷ decimal group ∷ hex_text bytes ∷ []
step_words (steps.Close group) = codes "close" ∷ decimal group ∷ []
step_words steps.Grace = codes "grace" ∷ []

-- the words of a line
abbrev pub words_of : Line → List (List ℕ)
words_of (One step) = step_words step
words_of (Run access) = codes "run" ∷ decimal access ∷ []

-- the number of a group or an access
abbrev pub IsNumber : ℕ → Type 0
IsNumber number = (1 ≤ number) × (number ≤ 4294967295)

-- the number of a process or a thread
abbrev pub IsPid : ℕ → Type 0
IsPid number = (1 ≤ number) × (number ≤ 2147483647)

-- the operations that have a second path
abbrev pub takes_second : OpWord → Bool
takes_second ops.Renames = true
takes_second _ = false

-- a second path stands with `rename`, and with no other operation
abbrev pub FitsOp : OpWord → Option (List ℕ) → Type 0
FitsOp op second =
    MatchBool (takes_second op) ((path : List ℕ) × (second ≡ Some path) × IsPath path) (second ≡ None)

-- the fields of a step are in their ranges
abbrev pub FitsStep : Step → Type 0
FitsStep (steps.MkFile path) = IsPath path
FitsStep (steps.MkDir path) = IsPath path
FitsStep steps.MkFs = Unit {0}
FitsStep (steps.Mount fs path) = ((1 ≤ fs) × (fs ≤ 65535)) × IsPath path
FitsStep (steps.Umount path) = IsPath path
FitsStep (steps.Limit entries) = (1 ≤ entries) × (entries ≤ 16384)
FitsStep (steps.Init flags) = flags < 2 ^ 32
FitsStep (steps.Mark group flags mask path) =
    IsNumber group × (flags < 2 ^ 32) × (mask < 2 ^ 64) × IsPath path
FitsStep (steps.Begin access pid tid op path second) =
    IsNumber access × IsPid pid × IsPid tid × IsPath path × FitsOp op second
FitsStep (steps.Advance access) = IsNumber access
FitsStep (steps.Read group size) = IsNumber group × (size ≤ 1048576)
FitsStep (steps.Write group bytes) = IsNumber group × IsResponse bytes
FitsStep (steps.Close group) = IsNumber group
FitsStep steps.Grace = Unit {0}

-- the fields of a line are in their ranges
abbrev pub Fits : Line → Type 0
Fits (One step) = FitsStep step
Fits (Run access) = IsNumber access

-- the bytes spell the line
abbrev pub LineOf : List ℕ → Line → Type 0
LineOf bytes line = (bytes ≡ join_with_byte 32 (words_of line)) × Fits line
