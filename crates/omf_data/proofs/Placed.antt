-- What the conditions on data come to, one by one.
use Rattle.std.proofs.Common.{◌≡◌, ℕ, ◌+◌, ◌<◌, ◌≤◌, true, false, Some, Ok, Err, refl}
use Rattle.std.specs.List.{list_any}
use Rattle.std.proofs.lemmas.Bool.{le-leb, lt-leb}
use Rattle.obj_types.specs.declared.limits.TheConstants.{MAX_DATA}
use Rattle.obj_types.specs.declared.refusal.OmfRefusal.TheVariants.{DataRange, TooMany, DataOverFix}
use Rattle.obj_types.specs.declared.object.Seg.{Seg}
use Rattle.obj_types.specs.declared.parts.ObjParts.{ObjParts}
use Rattle.obj_types.specs.Items.{item}
use Rattle.omf_model.specs.Fixups.{touches}
use Rattle.omf_model.specs.Items.{data_so_far, is_debug_seg}
use Rattle.omf_model.specs.ReadData.{judge_data}
use Rattle.omf_model.specs.Begun.{IsBegun}
use Rattle.omf_model.proofs.BegunLaws.{begun-whole}

-- an unfinished module keeps the limit
pub so_far : (p : ObjParts) → IsBegun p → data_so_far p ≤ MAX_DATA
so_far p begun = (begun-whole p begun).data_limit

-- whether it is a debug segment
pub is_debug : (p : ObjParts) (seg : ℕ) (s : Seg) → item p.module.segs seg ≡ Some s → is_debug_seg p.module.segs seg ≡ s.debug
is_debug p seg s there = rw there refl

module _ (p : ObjParts) (at offset_at seg offset len : ℕ) (s : Seg) (there : item p.module.segs seg ≡ Some s) where
  pub passed_over : s.debug ≡ true → judge_data p at offset_at seg offset len ≡ Ok tt
  unfolding judge_data
  passed_over debug = rw (there, debug) refl

  pub past_the_end : s.debug ≡ false → s.len < offset + len → judge_data p at offset_at seg offset len ≡ Err (DataRange offset_at)
  unfolding judge_data
  past_the_end plain past = rw (there, plain, lt-leb _ _ past) refl

  pub too_many : s.debug ≡ false → offset + len ≤ s.len → MAX_DATA < data_so_far p + len → judge_data p at offset_at seg offset len ≡ Err (TooMany at)
  unfolding judge_data
  too_many plain fits more = rw (there, plain, le-leb _ _ fits, lt-leb _ _ more) refl

  pub on_a_fix : s.debug ≡ false → offset + len ≤ s.len → data_so_far p + len ≤ MAX_DATA → list_any (touches seg offset len) p.module.fixes ≡ true → judge_data p at offset_at seg offset len ≡ Err (DataOverFix offset_at)
  unfolding judge_data
  on_a_fix plain fits few on = rw (there, plain, le-leb _ _ fits, le-leb _ _ few, on) refl

  pub good : s.debug ≡ false → offset + len ≤ s.len → data_so_far p + len ≤ MAX_DATA → list_any (touches seg offset len) p.module.fixes ≡ false → judge_data p at offset_at seg offset len ≡ Ok tt
  unfolding judge_data
  good plain fits few apart = rw (there, plain, le-leb _ _ fits, le-leb _ _ few, apart) refl
