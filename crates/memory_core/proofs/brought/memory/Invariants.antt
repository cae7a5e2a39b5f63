use Rattle.memory_core.proofs.brought.memory.Given as goal

-- the ledger is the blank's
abbrev pub ghosts-all_held : goal.ghosts-all_held
ghosts-all_held a = record { name = a.blank.name; parts = a.blank.parts }
