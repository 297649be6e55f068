-- A line by its first word: what is read is spelled so, and what is spelled so is read.
use Rattle.std.proofs.Common.{◌≡◌, ℕ, true, List, Some, refl, sym}
use Rattle.std.specs.Prelude.{codes}
use Rattle.std.specs.Str.{bytes_eq}
use Rattle.std.proofs.lemmas.Option.{option_and_then_some, same_Some}
use Rattle.std.proofs.lemmas.Slice.Eq.{bytes_eq-Decides}
use Rattle.fan_text.proofs.SpaceLemmas.{is_spaceless}
use Rattle.fan_script.specs.declared.forms.Form.{Form}
use Rattle.fan_script.specs.declared.forms.Form.TheVariants as forms
use Rattle.fan_script.specs.declared.line.Line.{Line}
use Rattle.fan_script.specs.declared.line.Line.TheVariants.{One}
use Rattle.fan_script.specs.declared.step.Step.TheVariants as steps
use Rattle.fan_script.specs.Lines.{LineOf}
use Rattle.fan_script.specs.Reading.{all_forms, form_word, form_named, fields_at, named_at, bare_at}
use Rattle.fan_lists.proofs.Choices.{choice_some}
use Rattle.fan_lists.proofs.Finds.{find_passes}
use Rattle.fan_script.proofs.WordLemmas.{Spells}
use Rattle.fan_script.proofs.TreeLemmas.{mkfile_takes, mkdir_takes, mount_takes, umount_takes}
use Rattle.fan_script.proofs.GroupLemmas.{limit_takes, init_takes, mark_takes, read_takes, write_takes, close_takes}
use Rattle.fan_script.proofs.AccessLemmas.{begin_takes, step_takes, run_takes}

-- a word that is read as the name of a form is its first word
form_takes : (word : List ℕ) (form : Form) → form_named word ≡ Some form → word ≡ form_word form
unfolding form_named
form_takes word form e =
    let found : bytes_eq (form_word form) word ≡ true =
    find_passes (λ form. bytes_eq (form_word form) word) all_forms form e in
    sym ((bytes_eq-Decides (form_word form) word).0 found)

-- the first word of a form is read again, and has no space
pub form_again : (form : Form)
    → (form_named (form_word form) ≡ Some form) × (is_spaceless (form_word form) ≡ true)
unfolding form_named
form_again forms.MkFile = (refl, refl)
form_again forms.MkDir = (refl, refl)
form_again forms.Mount = (refl, refl)
form_again forms.Umount = (refl, refl)
form_again forms.Limit = (refl, refl)
form_again forms.Init = (refl, refl)
form_again forms.Mark = (refl, refl)
form_again forms.Begin = (refl, refl)
form_again forms.Advance = (refl, refl)
form_again forms.Run = (refl, refl)
form_again forms.Read = (refl, refl)
form_again forms.Write = (refl, refl)
form_again forms.Close = (refl, refl)

-- the fields that are read for a form are spelled so
fields_takes : (form : Form) (fields : List ℕ) (line : Line) → fields_at form fields ≡ Some line
    → Spells (form_word form) fields line
fields_takes forms.MkFile = mkfile_takes
fields_takes forms.MkDir = mkdir_takes
fields_takes forms.Mount = mount_takes
fields_takes forms.Umount = umount_takes
fields_takes forms.Limit = limit_takes
fields_takes forms.Init = init_takes
fields_takes forms.Mark = mark_takes
fields_takes forms.Begin = begin_takes
fields_takes forms.Advance = step_takes
fields_takes forms.Run = run_takes
fields_takes forms.Read = read_takes
fields_takes forms.Write = write_takes
fields_takes forms.Close = close_takes

-- what is read by a first word is spelled by it and its fields
pub named_takes : (name fields : List ℕ) (line : Line) → named_at name fields ≡ Some line
    → Spells name fields line
unfolding named_at
named_takes name fields line e =
    option_and_then_some _ _ _ e
    (λ form f read. rw (form_takes name form f) (fields_takes form fields line read))

-- fields that are read for a form are read behind its first word
pub named_again : (form : Form) (fields : List ℕ) (line : Line) → fields_at form fields ≡ Some line
    → named_at (form_word form) fields ≡ Some line
unfolding named_at
named_again form fields line e = rw (form_again form).0 e

-- what is read as a name alone is spelled so
pub bare_takes : (word : List ℕ) (line : Line) → bare_at word ≡ Some line → LineOf word line
unfolding bare_at
bare_takes word line e =
    choice_some _ _ _ _ e (λ same is. alone (codes "mkfs") (One steps.MkFs) same is (refl, tt)) (λ _ e.
    choice_some _ _ _ _ e (λ same is. alone (codes "grace") (One steps.Grace) same is (refl, tt))
    (λ _ e. absurd cc))
  where
    alone : (text : List ℕ) (known : Line) → bytes_eq word text ≡ true → Some known ≡ Some line
        → LineOf text known → LineOf word line
    alone text known same is spells =
        rw (← same_Some known line is, (bytes_eq-Decides word text).0 same) spells
