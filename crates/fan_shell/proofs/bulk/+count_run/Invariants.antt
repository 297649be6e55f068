use Rattle.fan_shell.proofs.bulk.+count_run.Given as goal

abbrev pub decreases-count_run : goal.decreases-count_run
decreases-count_run l = l.left
