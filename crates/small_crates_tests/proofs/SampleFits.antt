-- The sample can be written.
use Rattle.std.proofs.Common.{◌≡◌, false, [], length, refl, arith}
use Rattle.std.proofs.lemmas.List.Elements.{All-from_recursion}
use Rattle.obj_types.specs.declared.object.Piece.{Piece}
use Rattle.obj_types.specs.declared.symbol.Pub.{Pub}
use Rattle.obj_types.specs.declared.symbol.Imp.{Imp}
use Rattle.obj_types.specs.Location.{meets}
use Rattle.obj_types.specs.Whole.{WholeModule, WholeSeg, WholeGroup, WholePlace, WholeFix, WholeExp, IsPlainSeg, LiesIn}
use Rattle.omf_model.proofs.PairLaws.{pairs-at}
use Rattle.omf_write.specs.Writable.{IsWritable}
use Rattle.small_crates_tests.specs.Sample.{sample_segs, sample_groups, sample_pubs, sample_imports, sample_exports, sample_pieces, sample_fixes, sample_module}

whole : WholeModule sample_module
whole = record {
  segs = All-from_recursion WholeSeg sample_segs (record { align = omega arith; combine = omega arith; not_reserved = (λ e. absurd (omega (arith, e)), λ e. absurd (omega (arith, e))) }, tt);
  groups = All-from_recursion (WholeGroup sample_module) sample_groups (record { members = All-from_recursion (IsPlainSeg sample_module) [] tt; flat = λ e. refl }, tt);
  pubs = All-from_recursion (λ (p : Pub). WholePlace sample_module p.place) sample_pubs (refl, tt);
  pieces = All-from_recursion (λ (p : Piece). LiesIn sample_module p.seg p.offset (length p.bytes)) sample_pieces ((refl, omega arith), tt);
  fixes = All-from_recursion (WholeFix sample_module) sample_fixes (
    record { location = omega arith; relative = λ e. absurd cc; place = (refl, omega arith); frame = tt; goal = (omega arith, omega arith) },
    (record { location = omega arith; relative = λ e. absurd cc; place = (refl, omega arith); frame = (omega arith, omega arith); goal = refl }, tt),
  );
  apart = pairs-at (λ f g. meets f g ≡ false) sample_fixes ((refl, tt), (tt, tt));
  imports = All-from_recursion (λ (i : Imp). i.module ≡ [] → ⊥) sample_imports (λ e. absurd cc, tt);
  exports = All-from_recursion WholeExp sample_exports ((λ e. absurd cc, omega arith), tt);
  start = (tt, refl);
  data_limit = omega arith;
  fix_limit = omega arith;
  comdats = λ k d lt. absurd (omega (arith, lt));
  comdats_apart = λ i j d lt past. absurd (omega (arith, past));
}

pub sample_fits : IsWritable sample_module
sample_fits = record {
  whole = whole;
  names = omega arith;
  segs = omega arith;
  groups = omega arith;
  exts = omega arith;
  no_debug = ((refl, refl), tt);
  members = (omega arith, tt);
  plain_pubs = ((refl, tt), tt);
  plain_exts = ((refl, refl), tt);
  fit_imports = (record { from = λ e. absurd cc; entry = omega arith }, tt);
  internal = (λ e. absurd cc, tt);
  short = (omega arith, tt);
  follow = (sample_fixes, [], refl, (refl, (refl, tt)), tt, tt, refl);
  no_comdats = refl;
}
