-- A whole line: what is read is spelled so, and what is spelled so is read.
use Rattle.std.proofs.Common.{◌≡◌, ◌∙◌, ℕ, ◌≤◌, List, ◌∷◌, ◌++◌, length, Option, Some, None, Result, Ok, Err, refl, sym, arith}
use Rattle.std.specs.Prelude.{◌↔◌, IfOk, OnOk}
use Rattle.std.proofs.lemmas.Option.{same_Some}
use Rattle.fan_script.specs.declared.forms.Form.{Form}
use Rattle.fan_script.specs.declared.forms.Form.TheVariants as forms
use Rattle.fan_script.specs.declared.line.Line.{Line}
use Rattle.fan_script.specs.declared.line.Line.TheVariants.{One, Run}
use Rattle.fan_script.specs.declared.line.LineRefused.{LineRefused}
use Rattle.fan_script.specs.declared.line.LineRefused.TheVariants.{BadLine, NoMemory}
use Rattle.fan_script.specs.declared.step.Step.TheVariants as steps
use Rattle.fan_script.specs.Lines.{LineOf}
use Rattle.fan_script.specs.Reading.{Gives, form_word, fields_at, split_at_space, bare_at, line_by, line_at}
use Rattle.fan_script.proofs.WordLemmas.{split_takes, split_again}
use Rattle.fan_script.proofs.TreeLemmas.{mkfile_again, mkdir_again, mount_again, umount_again}
use Rattle.fan_script.proofs.GroupLemmas.{limit_again, init_again, mark_again, read_again, write_again, close_again}
use Rattle.fan_script.proofs.AccessLemmas.{begin_again, step_again, run_again}
use Rattle.fan_script.proofs.FormLemmas.{named_takes, named_again, form_again, bare_takes}

-- what is read by the place of the first space is spelled so
taken_by : (bytes : List ℕ) (parts : Option (List ℕ × List ℕ)) (line : Line) → split_at_space bytes ≡ parts
    → line_by bytes parts ≡ Some line → LineOf bytes line
taken_by bytes None line cut e = bare_takes bytes line e
taken_by bytes (Some parts) line cut e =
    rw (split_takes bytes parts.0 parts.1 cut) (named_takes parts.0 parts.1 line e)

-- what is read is spelled so, and fits
pub line_takes : (bytes : List ℕ) (line : Line) → line_at bytes ≡ Some line → LineOf bytes line
unfolding line_at
line_takes bytes line e = taken_by bytes (split_at_space bytes) line refl e

-- fields that are read for a form are read behind its first word and a space
by_form : (form : Form) (fields bytes : List ℕ) (line : Line) → bytes ≡ form_word form ++ 32 ∷ fields
    → fields_at form fields ≡ Some line → line_at bytes ≡ Some line
unfolding line_at
by_form form fields bytes line spelled e =
    rw (spelled, split_again (form_word form) fields (form_again form).1) (named_again form fields line e)

-- what is spelled so and fits is read
pub line_again : (bytes : List ℕ) (line : Line) → LineOf bytes line → line_at bytes ≡ Some line
unfolding line_at bare_at split_at_space
line_again bytes (One (steps.MkFile path)) h = by_form forms.MkFile _ bytes _ h.0 (mkfile_again path h.1)
line_again bytes (One (steps.MkDir path)) h = by_form forms.MkDir _ bytes _ h.0 (mkdir_again path h.1)
line_again bytes (One steps.MkFs) h = rw h.0 refl
line_again bytes (One (steps.Mount fs path)) h =
    by_form forms.Mount _ bytes _ h.0 (mount_again fs path h.1.0.0 h.1.0.1 h.1.1)
line_again bytes (One (steps.Umount path)) h = by_form forms.Umount _ bytes _ h.0 (umount_again path h.1)
line_again bytes (One (steps.Limit entries)) h =
    by_form forms.Limit _ bytes _ h.0 (limit_again entries h.1.0 h.1.1)
line_again bytes (One (steps.Init flags)) h = by_form forms.Init _ bytes _ h.0 (init_again flags h.1)
line_again bytes (One (steps.Mark group flags mask path)) h =
    by_form forms.Mark _ bytes _ h.0 (mark_again group flags mask path h.1.0 h.1.1 h.1.2 h.1.3)
line_again bytes (One (steps.Begin access pid tid op path second)) h =
    by_form forms.Begin _ bytes _ h.0
    (begin_again access pid tid op path second h.1.0 h.1.1 h.1.2 h.1.3 h.1.4)
line_again bytes (One (steps.Advance access)) h = by_form forms.Advance _ bytes _ h.0 (step_again access h.1)
line_again bytes (One (steps.Read group size)) h =
    by_form forms.Read _ bytes _ h.0 (read_again group size h.1.0 h.1.1)
line_again bytes (One (steps.Write group response)) h =
    by_form forms.Write _ bytes _ h.0 (write_again group response h.1.0 h.1.1)
line_again bytes (One (steps.Close group)) h = by_form forms.Close _ bytes _ h.0 (close_again group h.1)
line_again bytes (One steps.Grace) h = rw h.0 refl
line_again bytes (Run access) h = by_form forms.Run _ bytes _ h.0 (run_again access h.1)

-- the reader finds just the line that the bytes spell
pub finds_line : (bytes : List ℕ) (line : Line) → (line_at bytes ≡ Some line) ↔ LineOf bytes line
finds_line bytes line = (line_takes bytes line, line_again bytes line)

-- a list of bytes is at most one line
pub one_line : (bytes : List ℕ) (a b : Line) → LineOf bytes a → LineOf bytes b → a ≡ b
one_line bytes a b of_a of_b = same_Some a b (sym (line_again bytes a of_a) ∙ line_again bytes b of_b)

-- the shortest line has four bytes
pub line_long : (bytes : List ℕ) (line : Line) → LineOf bytes line → 4 ≤ length bytes
line_long bytes (Run access) h = rw h.0 (omega arith)
line_long bytes (One steps.MkFs) h = rw h.0 (omega arith)
line_long bytes (One _) h = rw h.0 (omega arith)

-- a line that was found is the one that is read
pub line_from_found : (bytes : List ℕ) (line : Line) → LineOf bytes line → Some line ≡ line_at bytes
line_from_found bytes line found = sym (line_again bytes line found)

none_at : (bytes : List ℕ) (read : Option Line) → line_at bytes ≡ read
    → ((line : Line) → LineOf bytes line → ⊥) → read ≡ None
none_at bytes None is bad = refl
none_at bytes (Some line) is bad = absurd (bad line (line_takes bytes line is))

-- no line is read where there is none
pub no_line_from_bad : (bytes : List ℕ) → ((line : Line) → LineOf bytes line → ⊥)
    → ◌≡◌ {A = Option Line} None (line_at bytes)
no_line_from_bad bytes bad = sym (none_at bytes (line_at bytes) refl bad)

-- what the reader returned is a line that the bytes spell
pub found_from : (bytes : List ℕ) (result : Result Line LineRefused)
    → Gives (λ line. line) result (line_at bytes) → IfOk result (λ line. LineOf bytes line)
found_from bytes (Ok line) read = line_takes bytes line read
found_from bytes (Err refused) read = tt

-- a reader that gave a line took four bytes at least
pub long_from : (bytes : List ℕ) (result : Result Line LineRefused)
    → Gives (λ line. line) result (line_at bytes) → OnOk result (4 ≤ length bytes)
long_from bytes (Ok line) read = line_long bytes line (line_takes bytes line read)
long_from bytes (Err refused) read = tt

-- a reader that called the bytes a bad line took none that is a line
pub bad_from : (bytes : List ℕ) (result : Result Line LineRefused)
    → Gives (λ line. line) result (line_at bytes) → result ≡ Err BadLine
    → (line : Line) → LineOf bytes line → ⊥
bad_from bytes (Ok line) read bad other of_other = absurd cc
bad_from bytes (Err BadLine) read bad other of_other =
    let again = line_again bytes other of_other in
    absurd cc
bad_from bytes (Err NoMemory) read bad other of_other = absurd cc
