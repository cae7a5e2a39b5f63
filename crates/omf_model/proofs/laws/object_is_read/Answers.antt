use Rattle.omf_model.proofs.ModuleLaws.{object_sound, object_complete, object_faults, object_meets}
use Rattle.omf_model.proofs.laws.object_is_read.Goals as goal

pub returns-clause-found : goal.returns-clause-found
returns-clause-found c = object_sound

pub returns-clause-only : goal.returns-clause-only
returns-clause-only c = object_complete

pub returns-clause-refused : goal.returns-clause-refused
returns-clause-refused c = object_faults

pub returns-clause-first : goal.returns-clause-first
returns-clause-first c = object_meets
