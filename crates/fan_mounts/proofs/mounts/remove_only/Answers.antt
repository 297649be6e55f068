use Rattle.std.proofs.Common.{◌≡◌, ◌∙◌, None, position, arith}
use Rattle.fan_lists.proofs.Counts.{count_from_none}
use Rattle.fan_lists.proofs.Finds.{find_from_position}
use Rattle.fan_lists.proofs.FirstLemmas.{place_in, removed_at}
use Rattle.fan_mounts.specs.Pairs.{has_number}
use Rattle.fan_mounts.proofs.Only.{only_one}
use Rattle.fan_mounts.proofs.mounts.remove_only.Goals as goal

pub returns-in-Some : goal.returns-in-Some
returns-in-Some c =
    let test = has_number c.args.number in
    let mounts = c.args.mounts.now.items in
    let at = place_in test mounts c.deref.ensures.value c.index_of.ensures c.in-Some.is in
    c.remove.ensures.items ∙ removed_at test mounts c.in-Some.index c.remove.result at
    ∙ only_one c.args.number mounts c.requires

pub returns-in_default : goal.returns-in_default
returns-in_default c =
    let test = has_number c.args.number in
    let mounts = c.args.mounts.now.items in
    let at : position test mounts ≡ None = place_in test mounts c.deref.ensures.value c.index_of.ensures c.in_default.is in
    let none = count_from_none test mounts (find_from_position test mounts at) in
    absurd (omega (arith, none, c.requires))
