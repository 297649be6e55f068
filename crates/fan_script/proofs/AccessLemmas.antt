-- The lines of accesses: what is read is spelled so, and what is spelled so is read.
use Rattle.std.proofs.Common.{◌≡◌, ℕ, true, List, ◌∷◌, ◌++◌, Option, Some, None, refl, subst, sym, arith}
use Rattle.std.specs.Prelude.{codes}
use Rattle.std.specs.Fmt.{decimal}
use Rattle.std.specs.List.{join_with_byte}
use Rattle.std.specs.Str.{bytes_eq}
use Rattle.std.proofs.lemmas.Option.{option_and_then_some, same_Some}
use Rattle.std.proofs.lemmas.Slice.Eq.{bytes_eq-Decides}
use Rattle.fan_text.specs.Spelling.{IsPath}
use Rattle.fan_text.proofs.PathLemmas.{path_spaceless}
use Rattle.fan_text.proofs.SpaceLemmas.{is_spaceless}
use Rattle.fan_script.specs.declared.line.Line.{Line}
use Rattle.fan_script.specs.declared.line.Line.TheVariants.{One, Run}
use Rattle.fan_script.specs.declared.step.OpWord.{OpWord}
use Rattle.fan_script.specs.declared.step.OpWord.TheVariants as ops
use Rattle.fan_script.specs.declared.step.Step.TheVariants as steps
use Rattle.fan_script.specs.Lines.{IsNumber, IsPid, FitsOp, op_word, second_words}
use Rattle.fan_script.specs.Reading.{all_ops, op_at, one_path_at, two_paths_at, paths_at, begin_at, step_at, run_at}
use Rattle.fan_lists.proofs.Finds.{find_passes}
use Rattle.fan_script.proofs.FieldLemmas.{path_takes, path_again, number_takes, number_again, split_number_takes, split_number_again}
use Rattle.fan_script.proofs.WordLemmas.{Spells, split_takes, split_again}

-- a word that is read as an operation is its word
pub op_takes : (word : List ℕ) (op : OpWord) → op_at word ≡ Some op → word ≡ op_word op
unfolding op_at
op_takes word op e =
    let found : bytes_eq (op_word op) word ≡ true =
    find_passes (λ op. bytes_eq (op_word op) word) all_ops op e in
    sym ((bytes_eq-Decides (op_word op) word).0 found)

-- the word of an operation is read again, and has no space
op_again : (op : OpWord) → (op_at (op_word op) ≡ Some op) × (is_spaceless (op_word op) ≡ true)
unfolding op_at
op_again ops.Opens = (refl, refl)
op_again ops.Execs = (refl, refl)
op_again ops.Reads = (refl, refl)
op_again ops.Writes = (refl, refl)
op_again ops.ClosesWrite = (refl, refl)
op_again ops.ClosesRead = (refl, refl)
op_again ops.Attribs = (refl, refl)
op_again ops.Creates = (refl, refl)
op_again ops.MakesDir = (refl, refl)
op_again ops.Unlinks = (refl, refl)
op_again ops.RemovesDir = (refl, refl)
op_again ops.Renames = (refl, refl)

-- the fields spell the paths of an operation
pub record ArePaths (op : OpWord) (fields : List ℕ) (paths : List ℕ × Option (List ℕ)) : Type 0 where
  pub spelled : fields ≡ join_with_byte 32 (paths.0 ∷ second_words paths.1)
  pub first : IsPath paths.0
  pub second : FitsOp op paths.1

-- what is read of an operation with one path spells it
one_path_takes : (fields : List ℕ) (paths : List ℕ × Option (List ℕ)) → one_path_at fields ≡ Some paths
    → (fields ≡ join_with_byte 32 (paths.0 ∷ second_words paths.1)) × IsPath paths.0 × (paths.1 ≡ None)
unfolding one_path_at
one_path_takes fields paths e =
    option_and_then_some _ _ _ e (λ path p same.
    let word = path_takes fields path p in
    rw (← same_Some _ _ same) (word.0, word.1, refl))

-- what is read of an operation with two paths spells them
two_paths_takes : (fields : List ℕ) (paths : List ℕ × Option (List ℕ)) → two_paths_at fields ≡ Some paths
    → ArePaths ops.Renames fields paths
unfolding two_paths_at
two_paths_takes fields paths e =
    option_and_then_some _ _ _ e (λ (parts : List ℕ × List ℕ) cut e.
    option_and_then_some _ _ _ e (λ from f e.
    option_and_then_some _ _ _ e (λ to t same.
    let first = path_takes parts.0 from f in
    let second = path_takes parts.1 to t in
    let are : ArePaths ops.Renames fields (from, Some to) = record {
      spelled = rw (← first.0, ← second.0) (split_takes fields parts.0 parts.1 cut);
      first = first.1;
      second = (to, refl, second.1);
    } in
    subst (ArePaths ops.Renames fields) (same_Some (from, Some to) paths same) are)))

-- what is read as the paths of an operation spells them
pub paths_takes : (op : OpWord) (fields : List ℕ) (paths : List ℕ × Option (List ℕ))
    → paths_at op fields ≡ Some paths → ArePaths op fields paths
paths_takes ops.Renames fields paths e = two_paths_takes fields paths e
paths_takes _ fields paths e =
    let one = one_path_takes fields paths e in
    record { spelled = one.0; first = one.1; second = one.2 }

-- one path is read again
one_path_again : (path : List ℕ) → IsPath path → one_path_at path ≡ Some (path, None)
unfolding one_path_at
one_path_again path p = rw (path_again path p) refl

-- two paths are read again
two_paths_again : (from to : List ℕ) → IsPath from → IsPath to
    → two_paths_at (from ++ 32 ∷ to) ≡ Some (from, Some to)
unfolding two_paths_at
two_paths_again from to f t =
    rw (split_again from to (path_spaceless from f), path_again from f, path_again to t) refl

-- the paths of an operation are read again
pub paths_again : (op : OpWord) (path : List ℕ) (second : Option (List ℕ)) → IsPath path → FitsOp op second
    → paths_at op (join_with_byte 32 (path ∷ second_words second)) ≡ Some (path, second)
paths_again ops.Renames path second p s = rw s.1 (two_paths_again path s.0 p s.2)
paths_again _ path second p none = rw none (one_path_again path p)

-- the fields that are read as `begin` are spelled so
pub begin_takes : (fields : List ℕ) (line : Line) → begin_at fields ≡ Some line
    → Spells (codes "begin") fields line
unfolding begin_at
begin_takes fields line e =
    option_and_then_some _ _ _ e (λ (access : ℕ × List ℕ) a e.
    option_and_then_some _ _ _ e (λ (pid : ℕ × List ℕ) p e.
    option_and_then_some _ _ _ e (λ (tid : ℕ × List ℕ) t e.
    option_and_then_some _ _ _ e (λ (word : List ℕ × List ℕ) w e.
    option_and_then_some _ _ _ e (λ op o e.
    option_and_then_some _ _ _ e (λ (paths : List ℕ × Option (List ℕ)) r same.
    let number = split_number_takes 1 4294967295 fields access.0 access.1 a in
    let process = split_number_takes 1 2147483647 access.1 pid.0 pid.1 p in
    let thread = split_number_takes 1 2147483647 pid.1 tid.0 tid.1 t in
    let are = paths_takes op word.1 paths r in
    rw (
      ← same_Some _ _ same,
      number.spelled,
      process.spelled,
      thread.spelled,
      split_takes tid.1 word.0 word.1 w,
      op_takes word.0 op o,
      are.spelled,
    ) (
      refl,
      (
        (number.low, number.high),
        (process.low, process.high),
        (thread.low, thread.high),
        are.first,
        are.second,
      ),
    )))))))

-- fields of `begin` are read again
pub begin_again : (access pid tid : ℕ) (op : OpWord) (path : List ℕ) (second : Option (List ℕ))
    → IsNumber access
    → IsPid pid → IsPid tid → IsPath path → FitsOp op second
    → begin_at (decimal access ++ 32 ∷ (decimal pid ++ 32 ∷ (decimal tid ++ 32 ∷ (op_word op ++ 32 ∷
    join_with_byte 32 (path ∷ second_words second)))))
    ≡ Some (One (steps.Begin access pid tid op path second))
unfolding begin_at
begin_again access pid tid op path second a p t first fits =
    let paths = join_with_byte 32 (path ∷ second_words second) in
    let last = op_word op ++ 32 ∷ paths in
    let third = decimal tid ++ 32 ∷ last in
    rw (
      split_number_again 1 4294967295 access (decimal pid ++ 32 ∷ third) a.0 a.1 (omega arith),
      split_number_again 1 2147483647 pid third p.0 p.1 (omega arith),
      split_number_again 1 2147483647 tid last t.0 t.1 (omega arith),
      split_again (op_word op) paths (op_again op).1,
      (op_again op).0,
      paths_again op path second first fits,
    ) refl

-- the fields that are read as `step` are spelled so
pub step_takes : (fields : List ℕ) (line : Line) → step_at fields ≡ Some line
    → Spells (codes "step") fields line
unfolding step_at
step_takes fields line e =
    option_and_then_some _ _ _ e (λ access a same.
    let number = number_takes 1 4294967295 fields access a in
    rw (← same_Some _ _ same, number.spelled) (refl, (number.low, number.high)))

-- fields of `step` are read again
pub step_again : (access : ℕ) → IsNumber access → step_at (decimal access) ≡ Some (One (steps.Advance access))
unfolding step_at
step_again access a = rw (number_again 1 4294967295 access a.0 a.1 (omega arith)) refl

-- the fields that are read as `run` are spelled so
pub run_takes : (fields : List ℕ) (line : Line) → run_at fields ≡ Some line → Spells (codes "run") fields line
unfolding run_at
run_takes fields line e =
    option_and_then_some _ _ _ e (λ access a same.
    let number = number_takes 1 4294967295 fields access a in
    rw (← same_Some _ _ same, number.spelled) (refl, (number.low, number.high)))

-- fields of `run` are read again
pub run_again : (access : ℕ) → IsNumber access → run_at (decimal access) ≡ Some (Run access)
unfolding run_at
run_again access a = rw (number_again 1 4294967295 access a.0 a.1 (omega arith)) refl
