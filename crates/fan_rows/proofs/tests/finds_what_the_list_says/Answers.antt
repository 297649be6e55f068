use Rattle.fan_rows.proofs.tests.finds_what_the_list_says.Goals as goal

pub next-found-requires-clause-shown : goal.next-found-requires-clause-shown
next-found-requires-clause-shown g c =
    let shown = c.loop-after.invariant in
    (shown.0, (shown.1, shown.2))

pub loop-after-preserved : goal.loop-after-preserved
loop-after-preserved g c =
    let shown = c.loop-after.invariant in
    let same = c.next-found.ensures.same shown.0 (shown.1, shown.2) in
    (shown.0, same.0, same.1)
