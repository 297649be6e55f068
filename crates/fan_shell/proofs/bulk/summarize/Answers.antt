use Rattle.std.proofs.Common.{◌++◌, refl, arith}
use Rattle.fan_bulk.specs.Lines.{bulk_lines, opening, round_lines}
use Rattle.fan_shell.proofs.BulkLemmas.{played_start, script_start, script_on, script_end}
use Rattle.fan_shell.proofs.bulk.summarize.Goals as goal

pub loop-init : goal.loop-init
loop-init c =
    let start = played_start _ _ c.in_ok-world.ensures.machine c.new-summary.ensures.counts in
    let now = c.in_ok-count_opening.ensures in
    record {
      done = opening;
      played = now.ok start;
      whole = rw c.new-rounds.ensures (script_start c.args.seed c.args.count);
      steps = now.steps;
      replies = now.replies;
      lines = omega (arith, now.lines);
      access = rw c.new-rounds.ensures refl;
    }

pub loop-preserved : goal.loop-preserved
loop-preserved c =
    let was = c.loop.invariant in
    let now = c.in_ok-count_round.ensures in
    record {
      done = was.done ++ round_lines c.loop.rounds;
      played = now.ok was.done was.played;
      whole =
          rw now.next
          (script_on was.done (bulk_lines c.args.seed c.args.count) c.args.count c.loop.counter c.loop.rounds
          was.whole c.loop-test.true);
      steps = omega (arith, was.steps, now.steps);
      replies = now.replies;
      lines = omega (arith, was.lines, now.lines);
      access = omega (arith, was.access, now.access);
    }

pub returns : goal.returns
returns c =
    let was = c.loop.invariant in
    rw (← script_end was.done (bulk_lines c.args.seed c.args.count) c.args.count c.loop.counter c.loop.rounds
    was.whole c.loop-test.false) was.played.counted
