use Rattle.fan_tree.proofs.Kept.{if_ok}
use Rattle.fan_mounts.proofs.Rising.{AreOf, initial_of, mounted_keeps, unmounted_keeps}
use Rattle.fan_mounts.specs.Mounts.{mounted, unmounted}
use Rattle.fan_mounts.proofs.laws.mounts_stay_mounts.Goals as goal

pub returns-clause-initial : goal.returns-clause-initial
returns-clause-initial c = initial_of

pub returns-clause-mounted : goal.returns-clause-mounted
returns-clause-mounted c = λ tree mounts fs at whole are drawn.
    if_ok (λ done. AreOf done.1 done.2) (mounted tree mounts fs at)
    (λ done is. mounted_keeps tree mounts fs at done whole (are, drawn) is)

pub returns-clause-unmounted : goal.returns-clause-unmounted
returns-clause-unmounted c = λ tree mounts number are drawn.
    if_ok (λ left. AreOf tree left) (unmounted mounts number)
    (λ left is. unmounted_keeps tree mounts left number (are, drawn) is)
