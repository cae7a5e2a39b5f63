use Rattle.stepped_runs.proofs.going.carry_out.Given as goal

abbrev pub ghosts-touch : goal.ghosts-touch
ghosts-touch g a = record { name = a.blank.name; parts = a.blank.parts }
