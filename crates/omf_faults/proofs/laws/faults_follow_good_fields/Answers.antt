use Rattle.omf_faults.proofs.TypeTold.{contents_found, contents_shown}
use Rattle.omf_faults.proofs.laws.faults_follow_good_fields.Goals as goal

pub returns : goal.returns
returns c = record { refused = contents_found; first = contents_shown }
