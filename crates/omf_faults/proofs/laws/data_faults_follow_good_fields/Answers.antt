use Rattle.omf_faults.proofs.CommentTold.{coment_told}
use Rattle.omf_faults.proofs.DataTold.{ledata_told, lidata_told}
use Rattle.omf_faults.proofs.ComdatTold.{comdat_told}
use Rattle.omf_faults.proofs.laws.data_faults_follow_good_fields.Goals as goal

pub returns : goal.returns
returns c = record { coment = coment_told; ledata = ledata_told; lidata = lidata_told; comdat = comdat_told }
