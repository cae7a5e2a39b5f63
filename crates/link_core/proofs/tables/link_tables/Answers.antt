use Rattle.link_core.proofs.tables.link_tables.Goals as goal

pub returns : goal.returns
returns c = λ pairs imports procs. c.in_ok-add_forwards.ensures pairs (c.in_ok-tables.ensures pairs imports procs)
