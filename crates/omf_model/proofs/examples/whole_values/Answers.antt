use Rattle.omf_model.proofs.WholeValues.{definition-whole, input-whole}
use Rattle.omf_model.proofs.examples.whole_values.Goals as goal

pub returns-clause-definition : goal.returns-clause-definition
returns-clause-definition c = definition-whole

pub returns-clause-input : goal.returns-clause-input
returns-clause-input c = input-whole
