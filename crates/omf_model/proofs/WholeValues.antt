-- A definition file, a module and a link's input that are whole.
use Rattle.std.proofs.Common.{◌≢◌, [], ◌∷◌, length, replicate, refl, arith}
use Rattle.obj_types.specs.declared.definition.SegAttrs.{SegAttrs}
use Rattle.obj_types.specs.declared.object.Piece.{Piece}
use Rattle.obj_types.specs.declared.object.ObjModule.{ObjModule}
use Rattle.obj_types.specs.Definition.{WholeDef, WholeExport, WholeImport}
use Rattle.obj_types.specs.Input.{WholeInput}
use Rattle.obj_types.specs.Whole.{LiesIn, WholeSeg, WholeGroup, WholeFix, WholeModule}
use Rattle.omf_model.specs.Examples.{module_a, piece, fix_at, imported}
use Rattle.omf_model.specs.WholeExamples.{definition_d, input_d}
use Rattle.omf_model.proofs.PairLaws.{all-at, pairs-at}
use Rattle.omf_model.proofs.SaneLaws.{HasModule}
use Rattle.omf_model.proofs.SaneStep.{Apart}

pub definition-whole : WholeDef definition_d
definition-whole = record {
  name = λ e. cc;
  stack = omega arith;
  base = (refl, omega arith, omega arith);
  segs = all-at (λ (s : SegAttrs). s.name ≢ []) definition_d.segs ((λ e. cc), tt);
  exports = all-at WholeExport definition_d.exports (record { name = λ e. cc; internal = λ e. cc; ordinal = (omega arith, omega arith); words = omega arith }, tt);
  imports = all-at WholeImport definition_d.imports (record { name = λ e. cc; «module» = λ e. cc; entry = λ e. cc }, tt);
}

abbrev module_1 : ObjModule
module_1 = module_a 8 (piece (replicate 8 0) ∷ []) (fix_at 9 4 ∷ [])

module-whole : WholeModule module_1
module-whole = record {
  segs = all-at WholeSeg module_1.segs (record { align = omega arith; combine = omega arith; not_reserved = ((λ e. omega (arith, e)), (λ e. omega (arith, e))) }, tt);
  groups = all-at (WholeGroup module_1) module_1.groups (record { members = λ k d lt. absurd (omega (arith, lt)); flat = λ e. refl }, tt);
  pubs = λ k d lt. absurd (omega (arith, lt));
  pieces = all-at (λ (q : Piece). LiesIn module_1 q.seg q.offset (length q.bytes)) module_1.pieces ((refl, omega arith), tt);
  fixes = all-at (WholeFix module_1) module_1.fixes (record { location = omega arith; relative = λ e. absurd cc; place = (refl, omega arith); frame = (omega arith, omega arith); goal = refl }, tt);
  apart = pairs-at Apart module_1.fixes (tt, tt);
  imports = λ k d lt. absurd (omega (arith, lt));
  exports = λ k d lt. absurd (omega (arith, lt));
  start = tt;
  data_limit = omega arith;
  fix_limit = omega arith;
  comdats = λ k d lt. absurd (omega (arith, lt));
  comdats_apart = λ i j d lt past. absurd (omega (arith, past));
}

imported-whole : WholeModule imported
imported-whole = record {
  segs = λ k d lt. absurd (omega (arith, lt));
  groups = λ k d lt. absurd (omega (arith, lt));
  pubs = λ k d lt. absurd (omega (arith, lt));
  pieces = λ k d lt. absurd (omega (arith, lt));
  fixes = λ k d lt. absurd (omega (arith, lt));
  apart = pairs-at Apart imported.fixes tt;
  imports = all-at HasModule imported.imports ((λ e. cc), tt);
  exports = λ k d lt. absurd (omega (arith, lt));
  start = tt;
  data_limit = omega arith;
  fix_limit = omega arith;
  comdats = λ k d lt. absurd (omega (arith, lt));
  comdats_apart = λ i j d lt past. absurd (omega (arith, past));
}

pub input-whole : WholeInput input_d
input-whole = record {
  objects = all-at WholeModule input_d.objects (module-whole, tt);
  libs = all-at WholeModule input_d.libs (imported-whole, tt);
  def = definition-whole;
  stem = λ e. cc;
  few = omega arith;
}
