use Rattle.std.proofs.Common.{refl, arith, [], ◌∷◌}
use Rattle.std.specs.Prelude.{codes}
use Rattle.std.specs.Fmt.{digits}
use Rattle.res_model.specs.ItemFields.{fields_fault}
use Rattle.res_model.specs.declared.item.ResItem.{ResItem}
use Rattle.show_model.specs.Worked.{part}
use Rattle.show_model.proofs.worked.files_are_shown.Goals as goal

abbrev abc : ResItem
abc = record { ty = 1; id = 2; flags = 0x1030; bytes = codes "ABC" }

pub returns : goal.returns
unfolding digits fields_fault
returns c = record {
  item = (
    abc ∷ [],
    record { spelled = refl; fit = (record { ty = omega arith; id = omega arith; flags = omega arith; bytes = omega arith }, tt); apart = (tt, tt) },
    record { before = []; listed = part (codes "resources") (codes "type 1 identifier 2 flags 00001030 length 3" ∷ []) ∷ []; after = []; told = refl; tallied = refl },
  );
  cut = (
    record { before = []; left = _; good = record { spelled = refl; fit = tt; apart = tt }; spelled = refl; some = omega arith; wrong = refl },
    record { before = part (codes "resources") [] ∷ []; listed = []; after = []; told = refl; tallied = refl },
  );
}
