use Rattle.omf_model.proofs.WholeLaws.{object_whole, library_whole}
use Rattle.omf_model.proofs.laws.meaning_is_whole.Goals as goal

pub returns-clause-object : goal.returns-clause-object
returns-clause-object c = object_whole

pub returns-clause-library : goal.returns-clause-library
returns-clause-library c = library_whole
