use Rattle.gen_core.proofs.telling.totals.Given as goal

-- the ledger is the blank's
abbrev pub ghosts-sum_over : goal.ghosts-sum_over
ghosts-sum_over a = record { name = a.blank.name; parts = a.blank.parts }
