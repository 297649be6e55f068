-- Reading a line word by word, one function for each function of the reader. A law of the crate ties it to
-- the spelling of lines.
use Rattle.std.specs.Prelude.{◌≡◌, ℕ, ◌+◌, List, [], ◌∷◌, take, drop, Option, Some, None, Result, Ok, Err, nat_lt, ◌==◌, if◌then◌else◌, option_and_then, position, codes}
use Rattle.std.specs.List.{find}
use Rattle.std.specs.Str.{bytes_eq}
use Rattle.fan_text.specs.Reading.{bytes_at, decimal_at, hex_at, is_path}
use Rattle.fan_script.specs.declared.forms.Form.{Form}
use Rattle.fan_script.specs.declared.forms.Form.TheVariants as forms
use Rattle.fan_script.specs.declared.line.Line.{Line}
use Rattle.fan_script.specs.declared.line.Line.TheVariants.{One, Run}
use Rattle.fan_script.specs.declared.line.LineRefused.{LineRefused}
use Rattle.fan_script.specs.declared.line.LineRefused.TheVariants.{BadLine, NoMemory}
use Rattle.fan_script.specs.declared.step.OpWord.{OpWord}
use Rattle.fan_script.specs.declared.step.OpWord.TheVariants as ops
use Rattle.fan_script.specs.declared.step.Step.TheVariants as steps
use Rattle.fan_script.specs.Lines.{op_word, takes_second}

infixl 10 ◌>>=◌
abbrev pub ◌>>=◌ : {A B : Type 0} → Option A → (A → Option B) → Option B
read >>= then_read = option_and_then then_read read

-- a refusal is right where nothing is read, or memory ran out
abbrev pub IsRefused : {B : Type 0} → LineRefused → Option B → Type 0
IsRefused BadLine read = read ≡ None
IsRefused NoMemory read = Unit {0}

-- a function gave what is read, as view shows it, or was refused
abbrev pub Gives : {A B : Type 0} → (A → B) → Result A LineRefused → Option B → Type 0
Gives view (Ok value) read = read ≡ Some (view value)
Gives view (Err refused) read = IsRefused refused read

-- the bytes before the first space, and those behind it
unfoldable pub split_at_space : List ℕ → Option (List ℕ × List ℕ)
split_at_space bytes = do
  at ← position (λ byte. byte == 32) bytes
  Some (take at bytes, drop (at + 1) bytes)

-- the number that a word spells, where it is from least to most
unfoldable pub number_at : ℕ → ℕ → List ℕ → Option ℕ
number_at least most word = do
  value ← decimal_at word
  if nat_lt value least then None else (if nat_lt most value then None else Some value)

-- the number that the first word spells, and the bytes behind its space
unfoldable pub number_and_rest : ℕ → ℕ → List ℕ → Option (ℕ × List ℕ)
number_and_rest least most bytes = do
  parts ← split_at_space bytes
  number ← number_at least most parts.0
  Some (number, parts.1)

-- the flags that a word spells, where they are below 2^32
unfoldable pub flags_at : List ℕ → Option ℕ
flags_at word = do
  value ← hex_at word
  if nat_lt 4294967295 value then None else Some value

-- the flags that the first word spells, and the bytes behind its space
unfoldable pub flags_and_rest : List ℕ → Option (ℕ × List ℕ)
flags_and_rest bytes = do
  parts ← split_at_space bytes
  flags ← flags_at parts.0
  Some (flags, parts.1)

-- the mask that the first word spells, and the bytes behind its space
unfoldable pub mask_and_rest : List ℕ → Option (ℕ × List ℕ)
mask_and_rest bytes = do
  parts ← split_at_space bytes
  mask ← hex_at parts.0
  Some (mask, parts.1)

-- the path that a word is
unfoldable pub path_at : List ℕ → Option (List ℕ)
path_at word = if is_path word then Some word else None

-- a path
unfoldable pub mkfile_at : List ℕ → Option Line
mkfile_at fields = do
  path ← path_at fields
  Some (One (steps.MkFile path))

-- a path
unfoldable pub mkdir_at : List ℕ → Option Line
mkdir_at fields = do
  path ← path_at fields
  Some (One (steps.MkDir path))

-- a filesystem and a path
unfoldable pub mount_at : List ℕ → Option Line
mount_at fields = do
  fs ← number_and_rest 1 65535 fields
  path ← path_at fs.1
  Some (One (steps.Mount fs.0 path))

-- a path
unfoldable pub umount_at : List ℕ → Option Line
umount_at fields = do
  path ← path_at fields
  Some (One (steps.Umount path))

-- a limit
unfoldable pub limit_at : List ℕ → Option Line
limit_at fields = do
  entries ← number_at 1 16384 fields
  Some (One (steps.Limit entries))

-- flags
unfoldable pub init_at : List ℕ → Option Line
init_at fields = do
  flags ← flags_at fields
  Some (One (steps.Init flags))

-- a group, flags, a mask and a path
unfoldable pub mark_at : List ℕ → Option Line
mark_at fields = do
  group ← number_and_rest 1 4294967295 fields
  flags ← flags_and_rest group.1
  mask ← mask_and_rest flags.1
  path ← path_at mask.1
  Some (One (steps.Mark group.0 flags.0 mask.0 path))

-- a group and a size
unfoldable pub read_at : List ℕ → Option Line
read_at fields = do
  group ← number_and_rest 1 4294967295 fields
  size ← number_at 0 1048576 group.1
  Some (One (steps.Read group.0 size))

-- a group and a response
unfoldable pub write_at : List ℕ → Option Line
write_at fields = do
  group ← number_and_rest 1 4294967295 fields
  bytes ← bytes_at group.1
  Some (One (steps.Write group.0 bytes))

-- a group
unfoldable pub close_at : List ℕ → Option Line
close_at fields = do
  group ← number_at 1 4294967295 fields
  Some (One (steps.Close group))

-- the operations, in the order in which a word is compared with theirs
abbrev pub all_ops : List OpWord
all_ops =
    ops.Opens ∷ ops.Execs ∷ ops.Reads ∷ ops.Writes ∷ ops.ClosesWrite ∷ ops.ClosesRead ∷ ops.Attribs
    ∷ ops.Creates ∷ ops.MakesDir ∷ ops.Unlinks ∷ ops.RemovesDir ∷ ops.Renames ∷ []

-- the operation that a word names
unfoldable pub op_at : List ℕ → Option OpWord
op_at word = find (λ op. bytes_eq (op_word op) word) all_ops

-- one path
unfoldable pub one_path_at : List ℕ → Option (List ℕ × Option (List ℕ))
one_path_at fields = do
  path ← path_at fields
  Some (path, None)

-- two paths
unfoldable pub two_paths_at : List ℕ → Option (List ℕ × Option (List ℕ))
two_paths_at fields = do
  parts ← split_at_space fields
  from ← path_at parts.0
  to ← path_at parts.1
  Some (from, Some to)

-- the paths of an operation: two of a rename, and one of any other
abbrev pub paths_at : OpWord → List ℕ → Option (List ℕ × Option (List ℕ))
paths_at op fields = if takes_second op then two_paths_at fields else one_path_at fields

-- an access, a process, a thread, an operation and its paths
unfoldable pub begin_at : List ℕ → Option Line
begin_at fields = do
  access ← number_and_rest 1 4294967295 fields
  pid ← number_and_rest 1 2147483647 access.1
  tid ← number_and_rest 1 2147483647 pid.1
  word ← split_at_space tid.1
  op ← op_at word.0
  paths ← paths_at op word.1
  Some (One (steps.Begin access.0 pid.0 tid.0 op paths.0 paths.1))

-- an access
unfoldable pub step_at : List ℕ → Option Line
step_at fields = do
  access ← number_at 1 4294967295 fields
  Some (One (steps.Advance access))

-- an access
unfoldable pub run_at : List ℕ → Option Line
run_at fields = do
  access ← number_at 1 4294967295 fields
  Some (Run access)

-- the first word of a form
abbrev pub form_word : Form → List ℕ
form_word forms.MkFile = codes "mkfile"
form_word forms.MkDir = codes "mkdir"
form_word forms.Mount = codes "mount"
form_word forms.Umount = codes "umount"
form_word forms.Limit = codes "limit"
form_word forms.Init = codes "init"
form_word forms.Mark = codes "mark"
form_word forms.Begin = codes "begin"
form_word forms.Advance = codes "step"
form_word forms.Run = codes "run"
form_word forms.Read = codes "read"
form_word forms.Write = codes "write"
form_word forms.Close = codes "close"

-- the forms that have fields, in the order in which a word is compared with their names
abbrev pub all_forms : List Form
all_forms =
    forms.MkFile ∷ forms.MkDir ∷ forms.Mount ∷ forms.Umount ∷ forms.Limit ∷ forms.Init ∷ forms.Mark
    ∷ forms.Begin ∷ forms.Advance ∷ forms.Run ∷ forms.Read ∷ forms.Write ∷ forms.Close ∷ []

-- the form that a word names
unfoldable pub form_named : List ℕ → Option Form
form_named word = find (λ form. bytes_eq (form_word form) word) all_forms

-- the line of a form with these fields
abbrev pub fields_at : Form → List ℕ → Option Line
fields_at forms.MkFile fields = mkfile_at fields
fields_at forms.MkDir fields = mkdir_at fields
fields_at forms.Mount fields = mount_at fields
fields_at forms.Umount fields = umount_at fields
fields_at forms.Limit fields = limit_at fields
fields_at forms.Init fields = init_at fields
fields_at forms.Mark fields = mark_at fields
fields_at forms.Begin fields = begin_at fields
fields_at forms.Advance fields = step_at fields
fields_at forms.Run fields = run_at fields
fields_at forms.Read fields = read_at fields
fields_at forms.Write fields = write_at fields
fields_at forms.Close fields = close_at fields

-- the line that is its name alone
unfoldable pub bare_at : List ℕ → Option Line
bare_at word =
    if bytes_eq word (codes "mkfs") then Some (One steps.MkFs)
    else (if bytes_eq word (codes "grace") then Some (One steps.Grace) else None)

-- the line with this first word, by the fields behind it
unfoldable pub named_at : List ℕ → List ℕ → Option Line
named_at name fields = do
  form ← form_named name
  fields_at form fields

-- the line that the bytes spell, by its first word and its fields, where there is a space
abbrev pub line_by : List ℕ → Option (List ℕ × List ℕ) → Option Line
line_by bytes None = bare_at bytes
line_by bytes (Some parts) = named_at parts.0 parts.1

-- the line that the bytes spell
unfoldable pub line_at : List ℕ → Option Line
line_at bytes = line_by bytes (split_at_space bytes)
