use Rattle.omf_frame.proofs.Records.{cut_off-not, cut_off-else}
use Rattle.omf_frame.proofs.laws.cut_off_or_whole.Goals as goal

pub returns-clause-not_both : goal.returns-clause-not_both
returns-clause-not_both c = cut_off-not

pub returns-clause-either : goal.returns-clause-either
returns-clause-either c = cut_off-else
