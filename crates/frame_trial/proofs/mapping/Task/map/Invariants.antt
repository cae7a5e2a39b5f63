use Rattle.frame_trial.proofs.mapping.Task.map.Given as goal

-- the ledger is the blank's
abbrev pub ghosts-map_over : goal.ghosts-map_over
ghosts-map_over g a = record { name = a.blank.name; parts = a.blank.parts }
