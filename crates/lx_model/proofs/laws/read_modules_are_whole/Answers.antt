use Rattle.lx_model.proofs.ReadNames.{read_is_named}
use Rattle.lx_model.proofs.FitModules.{data_expands}
use Rattle.lx_model.proofs.ReadModules.{read_is_sound, records_are_good, targets_are_there, references_are_listed}
use Rattle.lx_model.proofs.laws.read_modules_are_whole.Goals as goal

pub returns-clause-sound : goal.returns-clause-sound
returns-clause-sound c = read_is_sound

pub returns-clause-records : goal.returns-clause-records
returns-clause-records c = records_are_good

pub returns-clause-targets : goal.returns-clause-targets
returns-clause-targets c = targets_are_there

pub returns-clause-references : goal.returns-clause-references
returns-clause-references c = references_are_listed

pub returns-clause-pages : goal.returns-clause-pages
returns-clause-pages c = data_expands

pub returns-clause-named : goal.returns-clause-named
returns-clause-named c = read_is_named
