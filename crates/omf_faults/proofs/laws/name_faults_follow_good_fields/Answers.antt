use Rattle.omf_faults.proofs.NameTold.{lnames_told, segdef_told, grpdef_told, pubdef_told, extdef_told, comdef_told}
use Rattle.omf_faults.proofs.laws.name_faults_follow_good_fields.Goals as goal

pub returns : goal.returns
returns c = record { lnames = lnames_told; segdef = segdef_told; grpdef = grpdef_told; pubdef = pubdef_told; extdef = extdef_told; comdef = comdef_told }
