use Rattle.fan_tree.specs.Changes.{removed, renamed}
use Rattle.fan_tree.specs.Tree.{drawn, made, made_fs}
use Rattle.fan_tree.specs.Whole.{IsTree}
use Rattle.fan_tree.proofs.Kept.{drawn_keeps, if_ok, if_some, initial_is, made_fs_keeps, made_keeps}
use Rattle.fan_tree.proofs.Moving.{renamed_keeps}
use Rattle.fan_tree.proofs.Removing.{removed_keeps}
use Rattle.fan_tree.proofs.laws.changes_keep_trees.Goals as goal

pub returns-clause-initial : goal.returns-clause-initial
returns-clause-initial c = initial_is

pub returns-clause-made : goal.returns-clause-made
returns-clause-made c = λ tree dir name is_dir whole.
    if_ok (λ done. IsTree done.1) (made tree dir name is_dir)
    (λ done is. made_keeps tree dir name is_dir done whole is)

pub returns-clause-made_fs : goal.returns-clause-made_fs
returns-clause-made_fs c = λ tree whole.
    if_ok (λ done. IsTree done.1) (made_fs tree) (λ done is. made_fs_keeps tree done whole is)

pub returns-clause-drawn : goal.returns-clause-drawn
returns-clause-drawn c = λ tree whole.
    if_some (λ done. IsTree done.1) (drawn tree) (λ done is. drawn_keeps tree done whole is)

pub returns-clause-removed : goal.returns-clause-removed
returns-clause-removed c = λ tree dir name whole.
    if_ok (λ done. IsTree done.1) (removed tree dir name) (λ done is. removed_keeps tree dir name done whole is)

pub returns-clause-renamed : goal.returns-clause-renamed
returns-clause-renamed c = λ tree dir name to new_name whole.
    if_ok (λ done. IsTree done.1) (renamed tree dir name to new_name)
    (λ done is. renamed_keeps tree dir name to new_name done whole is)
