use Rattle.omf_model.proofs.LibraryLaws.{library_one}
use Rattle.omf_model.proofs.LibraryFaults.{library_fault_one, library_either, library_not_both}
use Rattle.omf_model.proofs.laws.library_is_one.Goals as goal

pub returns-clause-modules : goal.returns-clause-modules
returns-clause-modules c = library_one

pub returns-clause-fault : goal.returns-clause-fault
returns-clause-fault c = library_fault_one

pub returns-clause-either : goal.returns-clause-either
returns-clause-either c = library_either

pub returns-clause-apart : goal.returns-clause-apart
returns-clause-apart c = library_not_both
