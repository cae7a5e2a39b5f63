use Rattle.omf_model.proofs.LibraryLaws.{library_sound, library_complete}
use Rattle.omf_model.proofs.LibraryFaults.{library_faults, library_meets}
use Rattle.omf_model.proofs.laws.library_is_read.Goals as goal

pub returns-clause-found : goal.returns-clause-found
returns-clause-found c = library_sound

pub returns-clause-only : goal.returns-clause-only
returns-clause-only c = library_complete

pub returns-clause-refused : goal.returns-clause-refused
returns-clause-refused c = library_faults

pub returns-clause-first : goal.returns-clause-first
returns-clause-first c = library_meets
