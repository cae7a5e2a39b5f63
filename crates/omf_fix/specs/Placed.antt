-- What is done with a fixup whose fields are good: it is judged for its place, and adds its fixes.
use Rattle.std.specs.Prelude.{ℕ, ◌≤◌, ◌<◌, ◌⊎◌, List, IsSomeAnd, Result, Ok}
use Rattle.obj_types.specs.declared.limits.TheConstants.{MAX_DATA}
use Rattle.obj_types.specs.declared.refusal.OmfRefusal.{OmfRefusal}
use Rattle.obj_types.specs.declared.object.Seg.{Seg}
use Rattle.obj_types.specs.declared.object.FixAt.{FixAt}
use Rattle.obj_types.specs.declared.object.StartAt.{StartAt}
use Rattle.obj_types.specs.declared.parts.LastData.{LastData}
use Rattle.obj_types.specs.declared.parts.LastData.TheVariants as datas
use Rattle.obj_types.specs.declared.parts.ObjParts.{ObjParts}
use Rattle.obj_types.specs.declared.parts.TheConstants.{COMDAT_BASE}
use Rattle.obj_types.specs.Items.{item}
use Rattle.lx_types.specs.Answers.{◌>>=◌}
use Rattle.omf_model.specs.Record.{FixData, fixup, location_of, is_self_relative}
use Rattle.omf_model.specs.ReadFixups.{FirstByte, judge_fixup}
use Rattle.omf_model.specs.Add.{add_field}
use Rattle.omf_fix.specs.declared.place.FixPlace.{FixPlace}

abbrev pub first_of : FixPlace → FirstByte
first_of place = record { of_record = place.of_record; at = place.at; byte = place.high }

abbrev pub placed : ObjParts → FixPlace → FixData → Result ObjParts OmfRefusal
placed p place d = judge_fixup p (first_of place) place.low d >>= λ good. Ok (add_field p (fixup place.high place.low d))

-- The fix at an offset of a segment.
abbrev pub fix_of : ℕ → ℕ → ℕ → StartAt → FixAt
fix_of seg offset high what = record {
  seg = seg;
  offset = offset;
  loc = location_of high;
  selfrel = is_self_relative high;
  frame = what.frame;
  goal = what.goal;
  disp = what.disp;
}

-- Data up to an offset lies in the segment of a number. That of a COMDAT ends within the limit of a module's data.
abbrev pub LiesUpTo : List Seg → ℕ → ℕ → Type 0
LiesUpTo segs number past = ((number ≤ COMDAT_BASE) × IsSomeAnd (item segs number) (λ (s : Seg). past ≤ s.len)) ⊎ ((COMDAT_BASE < number) × (past ≤ MAX_DATA))

-- An LIDATA record's data.
abbrev pub IsBlocks : LastData → Type 0
IsBlocks datas.None = ⊥
IsBlocks (datas.Straight seg start len) = ⊥
IsBlocks (datas.Blocks seg start wide body) = Unit {0}
IsBlocks datas.Dropped = ⊥
