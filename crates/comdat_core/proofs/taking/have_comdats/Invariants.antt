use Rattle.std.proofs.Common.{◌≡◌, [], take}
use Rattle.std.specs.List.{All}
use Rattle.obj_types.specs.declared.object.ObjModule.{ObjModule}
use Rattle.comdat_core.proofs.taking.have_comdats.Given as goal

abbrev pub invariant-loop-object : goal.invariant-loop-object
invariant-loop-object l = All (λ (m : ObjModule). m.comdats ≡ []) (take l.object-index l.modules)
