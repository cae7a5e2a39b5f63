use Rattle.std.proofs.Common.{refl, [], ◌∷◌, arith}
use Rattle.std.specs.Prelude.{codes}
use Rattle.std.specs.Fmt.{digits}
use Rattle.std.proofs.lemmas.List.Sorted.{IsPermutation-refl, IsPermutation-swap}
use Rattle.link_model.proofs.Rules.{rules}
use Rattle.map_model.specs.Lines.{map_line, object_line, segment_line, common_line, public_line, constant_line, import_line}
use Rattle.map_model.specs.Maps.{by_number, by_name, map_text}
use Rattle.map_model.specs.Worked.{listed}
use Rattle.map_model.proofs.Sorting.{sorted-from_ascends}
use Rattle.map_model.proofs.worked.links_are_mapped.Goals as goal

pub returns-clause-one_object : goal.returns-clause-one_object
unfolding rules map_text map_line object_line segment_line digits
returns-clause-one_object c = record {
  places = [];
  by_address = record { same = IsPermutation-refl []; ascend = sorted-from_ascends by_number [] tt };
  values = [];
  by_name = record { same = IsPermutation-refl []; ascend = sorted-from_ascends by_name [] tt };
  is = refl;
}

pub returns-clause-two_modules : goal.returns-clause-two_modules
unfolding rules map_text map_line object_line segment_line common_line public_line constant_line import_line digits
returns-clause-two_modules c = record {
  placed = refl;
  valued = refl;
  capital = refl;
  text = refl;
}

pub returns-clause-in_order : goal.returns-clause-in_order
unfolding rules map_text map_line object_line segment_line common_line public_line constant_line import_line digits
returns-clause-in_order c =
    let z = listed 0x10000001 (codes "z") in
    let bc = listed 0x10000003 (codes "b c") in
    let aa = listed 0x10000006 (codes "aa") in
    let b = listed 0x10000006 (codes "B") in
    let seven = listed 7 (codes "b") in
    let last = listed 0xFFFFFFFF (codes "a") in
    record {
      places = z ∷ bc ∷ b ∷ aa ∷ [];
      by_address = record {
        same = IsPermutation-swap (z ∷ bc ∷ aa ∷ b ∷ []) (z ∷ bc ∷ b ∷ aa ∷ []) 2 3 (omega arith) (omega arith) refl;
        ascend = sorted-from_ascends by_number (z ∷ bc ∷ b ∷ aa ∷ []) (refl, (refl, (refl, tt)));
      };
      values = last ∷ seven ∷ [];
      by_name = record {
        same = IsPermutation-swap (seven ∷ last ∷ []) (last ∷ seven ∷ []) 0 1 (omega arith) (omega arith) refl;
        ascend = sorted-from_ascends by_name (last ∷ seven ∷ []) (refl, tt);
      };
      is = refl;
    }
