use Rattle.std.proofs.Common.{refl}
use Rattle.fan_tree.proofs.Upward.{told_within, within_root, within_told}
use Rattle.fan_tree.proofs.laws.ways_up_are_told.Goals as goal

pub returns-clause-told : goal.returns-clause-told
returns-clause-told c = λ tree inode dir is. (within_told tree inode dir, told_within tree inode dir is)

pub returns-clause-rooted : goal.returns-clause-rooted
returns-clause-rooted c = λ tree inode is at. within_root tree inode.number inode.fs inode is.rooted at refl
