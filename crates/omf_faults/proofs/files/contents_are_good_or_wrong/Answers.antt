use Rattle.omf_faults.proofs.FileTold.{good_or_wrong, not_good_and_wrong, one_wrong}
use Rattle.omf_faults.proofs.files.contents_are_good_or_wrong.Goals as goal

pub returns : goal.returns
returns c = record { either = good_or_wrong; apart = not_good_and_wrong; one = one_wrong }
