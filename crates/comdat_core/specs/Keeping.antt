-- Modules without what is taken out of each.
use Rattle.std.specs.Prelude.{List, map}
use Rattle.std.specs.Global.{Vec}
use Rattle.std.specs.List.{zip}
use Rattle.obj_types.specs.declared.object.ObjModule.{ObjModule}
use Rattle.link_model.specs.Kept.{is_seg_of, without}
use Rattle.comdat_core.specs.declared.taking.Taken.{Taken}
use Rattle.comdat_core.specs.Taking.{comdat_of}

abbrev pub without_taken : ObjModule → List Taken → ObjModule
without_taken m out = without (is_seg_of (map comdat_of out)) m

abbrev pub without_lists : List ObjModule → List (Vec Taken) → List ObjModule
without_lists ms outs = map (λ q. without_taken q.0 q.1.items) (zip ms outs)
