use Rattle.omf_model.proofs.BegunLaws.{begun-first, begun-kept, read-good, begun-whole, begun-ends}
use Rattle.omf_model.proofs.begun.unfinished_module.Goals as goal

pub returns-clause-begins : goal.returns-clause-begins
returns-clause-begins c = begun-first

pub returns-clause-goes_on : goal.returns-clause-goes_on
returns-clause-goes_on c = begun-kept

pub returns-clause-read : goal.returns-clause-read
returns-clause-read c = read-good

pub returns-clause-gives : goal.returns-clause-gives
returns-clause-gives c = begun-whole

pub returns-clause-ends : goal.returns-clause-ends
returns-clause-ends c = begun-ends
