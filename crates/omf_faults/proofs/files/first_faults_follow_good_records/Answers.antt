use Rattle.omf_faults.proofs.FileTold.{module_found, module_shown}
use Rattle.omf_faults.proofs.files.first_faults_follow_good_records.Goals as goal

pub returns : goal.returns
returns c = record { told = module_found; first = module_shown }
