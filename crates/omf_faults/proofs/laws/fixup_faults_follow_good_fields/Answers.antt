use Rattle.omf_faults.proofs.FixupTold.{fixupp_told, modend_told}
use Rattle.omf_faults.proofs.laws.fixup_faults_follow_good_fields.Goals as goal

pub returns : goal.returns
returns c = record { fixupp = fixupp_told; modend = modend_told }
