use Rattle.def_grammar.proofs.Faults.{faults_first}
use Rattle.def_grammar.proofs.OneFault.{first_are_faults}
use Rattle.def_grammar.proofs.laws.faults_are_the_first.Goals as goal

pub returns-clause-only : goal.returns-clause-only
returns-clause-only c = faults_first

pub returns-clause-all : goal.returns-clause-all
returns-clause-all c = first_are_faults
