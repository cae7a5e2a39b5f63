use Rattle.link_model.proofs.Growing.{IsBegun, unpicked}
use Rattle.sym_table.specs.Choices.{IsChoice}
use Rattle.sym_table.proofs.choosing.choose_all.Given as goal

abbrev pub invariant-choosing : goal.invariant-choosing
invariant-choosing l = IsBegun l.input l.choice.picks × IsChoice l.input l.choice

abbrev pub decreases-choosing : goal.decreases-choosing
decreases-choosing l = unpicked l.input l.choice.picks
