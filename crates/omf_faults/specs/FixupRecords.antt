-- What is wrong in fixups and in a module's end: a line a field or a condition, in their order. "9Ch FIXUPP", "8Ah MODEND".
use Rattle.std.specs.Prelude.{◌≡◌, ◌≢◌, ℕ, ◌+◌, ◌%◌, ◌<◌, ◌≤◌, ◌⊎◌, Bool, true, false, ◌&&◌, not, List, length, get_or, Option, Some, None, IsSome}
use Rattle.obj_types.specs.declared.limits.TheConstants.{MAX_FIXES}
use Rattle.obj_types.specs.declared.refusal.OmfRefusal.{OmfRefusal}
use Rattle.obj_types.specs.declared.refusal.OmfRefusal.TheVariants.{BadField, BadIndex, NoThread, BadLocation, NoData, FixOverlap, TooMany}
use Rattle.obj_types.specs.declared.object.FixAt.{FixAt}
use Rattle.obj_types.specs.declared.object.Frame.{Frame}
use Rattle.obj_types.specs.declared.object.Frame.TheVariants as frames
use Rattle.obj_types.specs.declared.object.Goal.{Goal}
use Rattle.obj_types.specs.declared.object.Goal.TheVariants as goals
use Rattle.obj_types.specs.declared.parts.LastData.TheVariants as datas
use Rattle.obj_types.specs.declared.parts.ObjParts.{ObjParts}
use Rattle.obj_types.specs.Location.{location_len}
use Rattle.omf_fields.specs.Fields.{width}
use Rattle.omf_model.specs.Record.{FixData, FixField, fixup, thread_method, location_of, offset_of, has_start}
use Rattle.omf_model.specs.Record.{by_frame_thread, frame_bits, by_target_thread, target_bits, has_displacement}
use Rattle.omf_model.specs.Items.{is_debug_seg}
use Rattle.omf_model.specs.ReadFixups.{FirstByte}
use Rattle.omf_model.specs.Fixups.{has_index, has_data, fixes_by, are_apart, are_methods, have_of, is_location, is_thread_method}
use Rattle.omf_model.specs.Good.{GoodMethods, GoodFixData, GoodField, HasMethod}
use Rattle.omf_model.specs.Spelling.{fix_data_form, field_form}
use Rattle.omf_model.specs.Add.{add_field}
use Rattle.omf_faults.specs.Parts.{Part, Wrong, PartThen, ConditionThen, Breaks, only, Items, WrongAfter}
use Rattle.omf_faults.specs.FieldParts.{a_byte, a_number, field, index_with, index_from_one, second_byte}
use Rattle.omf_fields.specs.Forms.{index}

-- ---- a fix byte and what stands after it. On data of a debug segment indices and what threads name are not judged.

-- The index that a method calls for is of what came before, and no debug segment's.
abbrev pub IsOfMethod : ObjParts → ℕ → ℕ → Type 0
IsOfMethod p m i = HasMethod p m i × (m ≡ 0 → is_debug_seg p.module.segs i ≡ false)

abbrev pub method_index : Bool → ObjParts → ℕ → Part ℕ
method_index true p m = index_with (IsOfMethod p m) (have_of p m)
method_index false p m = field index

-- What the thread of a number was set to.
abbrev pub frame_thread : ObjParts → ℕ → Option Frame
frame_thread p n = get_or p.threads.frame n None

abbrev pub target_thread : ObjParts → ℕ → Option Goal
target_thread p n = get_or p.threads.goal n None

-- The threads that a fix byte names are set.
pub record AreSet (p : ObjParts) (fix : ℕ) : Type 0 where
  pub frame : by_frame_thread fix ≡ true → IsSome (frame_thread p (frame_bits fix % 4))
  pub target : by_target_thread fix ≡ true → IsSome (target_thread p (target_bits fix))

-- The fix byte's thread names this segment, a debug segment, where that is judged.
abbrev pub FrameIsDebug : Bool → ObjParts → ℕ → ℕ → Type 0
FrameIsDebug judged p fix i =
    (judged ≡ true) × (by_frame_thread fix ≡ true)
    × (frame_thread p (frame_bits fix % 4) ≡ Some (frames.Seg i)) × (is_debug_seg p.module.segs i ≡ true)

abbrev pub TargetIsDebug : Bool → ObjParts → ℕ → ℕ → Type 0
TargetIsDebug judged p fix i =
    (judged ≡ true) × (by_target_thread fix ≡ true)
    × (target_thread p (target_bits fix) ≡ Some (goals.Seg i)) × (is_debug_seg p.module.segs i ≡ true)

-- A segment of this kind is told at the fix byte; or there is none, and what is after it is wrong.
abbrev pub NoneThen : ObjParts → (ℕ → Type 0) → ℕ → OmfRefusal → Type 0 → Type 0
NoneThen p IsDebug at e After = ((i : ℕ) × IsDebug i × (e ≡ BadIndex at i (length p.module.segs))) ⊎ (((i : ℕ) → IsDebug i → ⊥) × After)

abbrev pub WrongFixData : Bool → Bool → ObjParts → Wrong
WrongFixData judged wide p c e =
    PartThen a_byte c e λ fix c1.
    ConditionThen (AreSet p fix) (NoThread c.at) e (
    ConditionThen (are_methods fix ≡ true) (BadField c.at) e (
    NoneThen p (FrameIsDebug judged p fix) c.at e (
    NoneThen p (TargetIsDebug judged p fix) c.at e (
    PartThen (only (not (by_frame_thread fix) && has_index (frame_bits fix)) (method_index judged p (frame_bits fix))) c1 e λ frame c2.
    PartThen (only (not (by_target_thread fix)) (method_index judged p (target_bits fix))) c2 e λ target c3.
    (only (has_displacement fix) (a_number (width wide))).wrong c3 e))))

abbrev pub GoodFixBy : Bool → ObjParts → FixData → Type 0
GoodFixBy true p d = GoodFixData p d
GoodFixBy false p d = GoodMethods p d

abbrev pub fix_data : Bool → Bool → ObjParts → Part FixData
fix_data judged wide p = record { form = fix_data_form wide; good = GoodFixBy judged p; wrong = WrongFixData judged wide p }

-- ---- a field, by its first byte, the place of that and the place of its record

-- A THREAD may name a debug segment.
abbrev pub WrongThread : ObjParts → FirstByte → Wrong
WrongThread p first c e =
    ConditionThen (is_thread_method first.byte ≡ true) (BadField first.at) e (
    (only (has_index (thread_method first.byte)) (index_from_one (have_of p (thread_method first.byte)))).wrong c e)

-- the fixes of a FIXUP
abbrev pub fixes_made : ObjParts → (high low : ℕ) → FixData → List FixAt
fixes_made p high low what = fixes_by p.last p.threads (fixup high low what)

-- Of a FIXUP the location is tried first; then the fields; then the conditions on the whole.
abbrev pub WrongJudged : Bool → ObjParts → FirstByte → Wrong
WrongJudged wide p first c e =
    ConditionThen (is_location first.byte ≡ true) (BadLocation first.at (location_of first.byte)) e (
    PartThen (second_byte first.at) c e λ low c1.
    PartThen (fix_data true wide p) c1 e λ what _.
    ConditionThen (has_data p.last (offset_of first.byte low) (location_len (location_of first.byte)) ≡ true) (NoData first.at) e (
    ConditionThen (are_apart p.module.fixes (fixes_made p first.byte low what) ≡ true) (FixOverlap first.at) e (
    Breaks (length p.module.fixes + length (fixes_made p first.byte low what) ≤ MAX_FIXES) (TooMany first.of_record) e)))

-- On data of a debug segment its fields are judged, and no more.
abbrev pub WrongDropped : Bool → ObjParts → FirstByte → Wrong
WrongDropped wide p first c e =
    PartThen (second_byte first.at) c e λ low c1.
    (fix_data false wide p).wrong c1 e

abbrev pub WrongFixup : Bool → ObjParts → FirstByte → Wrong
WrongFixup wide p first c e = ((p.last ≡ datas.Dropped) × WrongDropped wide p first c e) ⊎ ((p.last ≢ datas.Dropped) × WrongJudged wide p first c e)

abbrev pub WrongField : Bool → ℕ → ObjParts → Wrong
WrongField wide record_at p c e =
    PartThen a_byte c e λ b d.
    let first : FirstByte = record { of_record = record_at; at = c.at; byte = b } in
    ((b < 128) × WrongThread p first d e) ⊎ ((128 ≤ b) × WrongFixup wide p first d e)

-- The fields of a record that begins at a place, each after the fields before it.
abbrev pub fields : Bool → ℕ → Items ObjParts FixField
fields wide record_at = record { form = field_form wide; good = GoodField; next = add_field; wrong = WrongField wide record_at }

abbrev pub WrongFixupp : Bool → ObjParts → ℕ → Wrong
WrongFixupp wide p record_at c e = WrongAfter (fields wide record_at) p c e

-- ---- the end

abbrev pub WrongModend : Bool → ObjParts → Wrong
WrongModend wide p c e =
    PartThen a_byte c e λ kind d.
    (only (has_start kind) (fix_data true wide p)).wrong d e
