use Rattle.omf_faults.proofs.WorkedTold.{each_is_told}
use Rattle.omf_faults.proofs.worked.the_first_of_two_faults.Goals as goal

pub returns : goal.returns
returns c = each_is_told
