use Rattle.std.proofs.Common.{List, subst}
use Rattle.std.specs.List.{All}
use Rattle.obj_types.specs.declared.object.ObjModule.{ObjModule}
use Rattle.layer_laws.specs.Ranges.{ModuleInRange}
use Rattle.layer_laws.proofs.ranges.input_range.Goals as goal

pub returns : goal.returns
returns c = record {
  objects = subst (λ (ms : List ObjModule). All ModuleInRange ms) c.as_slice.ensures c.object_ranges.ensures;
  libs = subst (λ (ms : List ObjModule). All ModuleInRange ms) c.as_slice-2.ensures c.object_ranges-2.ensures;
  def = c.def_range.ensures;
  stem = c.bytes-stem.ensures.short;
}
