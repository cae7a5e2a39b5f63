use Rattle.omf_model.proofs.CopiesLaws.{copies-found, copies-counted}
use Rattle.omf_model.proofs.blocks.copies_are_computed.Goals as goal

pub returns-clause-found : goal.returns-clause-found
returns-clause-found c = copies-found

pub returns-clause-counted : goal.returns-clause-counted
returns-clause-counted c = copies-counted
