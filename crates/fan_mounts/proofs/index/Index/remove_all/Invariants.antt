use Rattle.std.proofs.Common.{◌≡◌, ℕ, ◌+◌, length}
use Rattle.std.specs.Prelude.{count_by}
use Rattle.fan_mounts.specs.Pairs.{has_number, left_at, standing}
use Rattle.fan_mounts.proofs.index.Index.remove_all.Given as goal

-- the mounts that are left to look at leave what all of them leave of the index as it was, and have the number as
-- often as it is not counted yet
pub record invariant-loop-mount (l : goal.Live-loop-mount) : Type 0 where
  pub left : (a b : ℕ) → left_at a b l.number l.left (standing l.self a b)
      ≡ left_at a b l.number l.mounts (standing l.fn.self a b)
  pub counted : l.count + count_by (has_number l.number) l.left ≡ count_by (has_number l.number) l.mounts

abbrev pub decreases-loop-mount : goal.decreases-loop-mount
decreases-loop-mount l = length l.left
