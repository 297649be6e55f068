use Rattle.std.specs.Prelude.{◌≡◌}
use Rattle.fan_world.proofs.shown.step_by.Given as goal

-- the table is the one that is handed in
abbrev pub ghosts-step_shown : goal.ghosts-step_shown
ghosts-step_shown g a = record { known = λ it. it ≡ a.shown.now.sections }
