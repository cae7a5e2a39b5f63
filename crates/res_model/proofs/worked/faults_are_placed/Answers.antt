use Rattle.std.proofs.Common.{refl}
use Rattle.res_model.specs.ItemFields.{fields_fault}
use Rattle.res_model.proofs.worked.faults_are_placed.Goals as goal

pub returns : goal.returns
unfolding fields_fault
returns c = record { spelled = refl; two = refl; read = refl; good = refl; cut = refl; gone = refl; mark_alone = refl; flags_cut = refl; second_mark = refl; first_mark = refl; again = refl; other_id = refl; other_type = refl; cut_first = refl }
