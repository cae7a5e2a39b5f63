-- Reading fixups and a module's end after the records before them. "9Ch FIXUPP", "8Ah MODEND".
use Rattle.std.specs.Prelude.{ℕ, ◌+◌, ◌%◌, Bool, true, false, ◌&&◌, ◌||◌, not, List, [], ◌∷◌, length, Option, Some, None, Result, Ok, Err, nat_lt, nat_le, ◌==◌, if◌then◌else◌, is_some, get_or}
use Rattle.lx_bytes.specs.Cursor.{Cursor}
use Rattle.obj_types.specs.declared.limits.TheConstants.{MAX_FIXES}
use Rattle.obj_types.specs.declared.refusal.OmfRefusal.{OmfRefusal}
use Rattle.obj_types.specs.declared.refusal.OmfRefusal.TheVariants.{Short, BadField, BadIndex, NoThread, BadLocation, NoData, FixOverlap, TooMany}
use Rattle.obj_types.specs.declared.object.Frame.{Frame}
use Rattle.obj_types.specs.declared.object.Frame.TheVariants as frames
use Rattle.obj_types.specs.declared.object.Goal.{Goal}
use Rattle.obj_types.specs.declared.object.Goal.TheVariants as goals
use Rattle.obj_types.specs.declared.parts.LastData.{LastData}
use Rattle.obj_types.specs.declared.parts.LastData.TheVariants as datas
use Rattle.obj_types.specs.declared.parts.Threads.{Threads}
use Rattle.obj_types.specs.declared.parts.ObjParts.{ObjParts}
use Rattle.obj_types.specs.Location.{location_len}
use Rattle.omf_fields.specs.Within.{within}
use Rattle.lx_types.specs.Answers.{◌>>=◌}
use Rattle.omf_fields.specs.Fields.{Reading, check, width, byte_at, number_at, index_at, index_below, where_so}
use Rattle.omf_model.specs.Record.{Record, fixupp, modend, FixData, FixField, thread, fixup, by_frame_thread, frame_bits, by_target_thread, target_bits, has_displacement, thread_method, location_of, offset_of, has_start}
use Rattle.omf_model.specs.ReadNames.{plain_seg_at}
use Rattle.omf_model.specs.Fixups.{has_index, frame_meant, goal_meant, has_data, fixes_by, are_apart, are_methods, have_of, is_location, is_thread_method}
use Rattle.omf_model.specs.Items.{is_debug_seg}
use Rattle.omf_model.specs.Add.{add_field}

-- ---- what stands after a fix byte

-- An index of a method's kind; of a fixup on data of a debug segment it may be any.
abbrev pub method_index_at : Bool → ObjParts → ℕ → Cursor → Reading ℕ
method_index_at judged p m c = if not judged then index_at c else if m == 0 then plain_seg_at p c else index_below (have_of p m) c

abbrev pub are_set : Threads → FixData → Bool
are_set ts d = is_some (frame_meant ts d) && is_some (goal_meant ts d)

-- The debug segment that a thread names is a fault of the fix byte.
abbrev pub check_plain : Bool → ObjParts → ℕ → ℕ → Result (Unit {0}) OmfRefusal
check_plain judged p at i = check (not judged || not (is_debug_seg p.module.segs i)) (BadIndex at i (length p.module.segs))

abbrev pub check_frame : Bool → ObjParts → ℕ → Option Frame → Result (Unit {0}) OmfRefusal
check_frame judged p at None = Ok tt
check_frame judged p at (Some (frames.Seg i)) = check_plain judged p at i
check_frame judged p at (Some (frames.Group i)) = Ok tt
check_frame judged p at (Some (frames.Ext i)) = Ok tt
check_frame judged p at (Some frames.Here) = Ok tt
check_frame judged p at (Some frames.OfTarget) = Ok tt

abbrev pub check_goal : Bool → ObjParts → ℕ → Option Goal → Result (Unit {0}) OmfRefusal
check_goal judged p at None = Ok tt
check_goal judged p at (Some (goals.Seg i)) = check_plain judged p at i
check_goal judged p at (Some (goals.Group i)) = Ok tt
check_goal judged p at (Some (goals.Ext i)) = Ok tt

-- The threads that a fix byte names, where it names any.
abbrev pub thread_frame : ObjParts → ℕ → Option Frame
thread_frame p fix = if by_frame_thread fix then get_or p.threads.frame (frame_bits fix % 4) None else None

abbrev pub thread_goal : ObjParts → ℕ → Option Goal
thread_goal p fix = if by_target_thread fix then get_or p.threads.goal (target_bits fix) None else None

abbrev pub has_threads : ObjParts → ℕ → Bool
has_threads p fix = (not (by_frame_thread fix) || is_some (thread_frame p fix)) && (not (by_target_thread fix) || is_some (thread_goal p fix))

unfoldable pub fix_data_at : Bool → Bool → ObjParts → Cursor → Reading FixData
fix_data_at judged wide p c = do
  fix ← byte_at c
  _ ← check (has_threads p fix.0) (NoThread c.at)
  _ ← check (are_methods fix.0) (BadField c.at)
  _ ← check_frame judged p c.at (thread_frame p fix.0)
  _ ← check_goal judged p c.at (thread_goal p fix.0)
  frame ← where_so (not (by_frame_thread fix.0) && has_index (frame_bits fix.0)) (method_index_at judged p (frame_bits fix.0)) fix.1
  target ← where_so (not (by_target_thread fix.0)) (method_index_at judged p (target_bits fix.0)) frame.1
  displacement ← where_so (has_displacement fix.0) (number_at (width wide)) target.1
  Ok (record { fix = fix.0; frame = frame.0; target = target.0; displacement = displacement.0 }, displacement.1)

-- ---- the fields of FIXUPP

-- The first byte of a field, its place, and the place of its record.
pub record FirstByte : Type 0 where
  pub of_record : ℕ
  pub at : ℕ
  pub byte : ℕ

-- A THREAD may name a debug segment.
unfoldable pub thread_at : ObjParts → FirstByte → Cursor → Reading FixField
thread_at p first c = do
  _ ← check (is_thread_method first.byte) (BadField first.at)
  index ← where_so (has_index (thread_method first.byte)) (index_below (have_of p (thread_method first.byte))) c
  Ok (thread first.byte index.0, index.1)

abbrev pub is_dropped : LastData → Bool
is_dropped datas.None = false
is_dropped (datas.Straight seg start len) = false
is_dropped (datas.Blocks seg start wide body) = false
is_dropped datas.Dropped = true

-- The second byte of a field of two bytes that began at a place.
abbrev pub second_of : ℕ → Cursor → Reading ℕ
second_of at c = if length c.left == 0 then Err (Short at) else byte_at c

-- The conditions on a fixup's place: within the last data record's data, apart from earlier locations,
-- and within the module's limit.
unfoldable pub judge_fixup : ObjParts → FirstByte → (low : ℕ) → FixData → Result (Unit {0}) OmfRefusal
judge_fixup p first low what = do
  _ ← check (has_data p.last (offset_of first.byte low) (location_len (location_of first.byte))) (NoData first.at)
  _ ← check (are_apart p.module.fixes (fixes_by p.last p.threads (fixup first.byte low what))) (FixOverlap first.at)
  check (nat_le (length p.module.fixes + length (fixes_by p.last p.threads (fixup first.byte low what))) MAX_FIXES) (TooMany first.of_record)

-- A fixup. Of one on data of a debug segment its thread and its methods alone are judged.
unfoldable pub fixup_at : Bool → ObjParts → FirstByte → Cursor → Reading FixField
fixup_at wide p first c = do
  _ ← check (is_dropped p.last || is_location first.byte) (BadLocation first.at (location_of first.byte))
  low ← second_of first.at c
  what ← fix_data_at (not (is_dropped p.last)) wide p low.1
  _ ← if is_dropped p.last then Ok tt else judge_fixup p first low.0 what.0
  Ok (fixup first.byte low.0 what.0, what.1)

-- A field of a record that begins at a place.
abbrev pub field_by : Bool → ObjParts → FirstByte → Cursor → Reading FixField
field_by wide p first c = if nat_lt first.byte 128 then thread_at p first c else fixup_at wide p first c

unfoldable pub field_at : Bool → ObjParts → ℕ → Cursor → Reading FixField
field_at wide p of_record c = do
  first ← byte_at c
  field_by wide p (record { of_record = of_record; at = c.at; byte = first.0 }) first.1

-- Each field is read after those before it.
abbrev pub fields_turn : Bool → ℕ → (ObjParts × Cursor → Result (List FixField) OmfRefusal) → ObjParts × Cursor → Result (List FixField) OmfRefusal
fields_turn wide of_record others_at s = if length s.1.left == 0 then Ok [] else do
  first ← field_at wide s.0 of_record s.1
  others ← others_at (add_field s.0 first.0, first.1)
  Ok (first.0 ∷ others)

abbrev pub no_fields : ObjParts × Cursor → Result (List FixField) OmfRefusal
no_fields s = Ok []

unfoldable pub fields_within : Bool → ℕ → ℕ → ObjParts → Cursor → Result (List FixField) OmfRefusal
fields_within wide of_record most p c = within (fields_turn wide of_record) no_fields most (p, c)

-- The fields of a record that begins at a place.
abbrev pub fields_at : Bool → ℕ → ObjParts → Cursor → Result (List FixField) OmfRefusal
fields_at wide of_record p c = fields_within wide of_record (length c.left) p c

unfoldable pub fixupp_at : Bool → ObjParts → ℕ → Cursor → Result Record OmfRefusal
fixupp_at wide p of_record c = fields_at wide of_record p c >>= λ fields. Ok (fixupp fields)

-- ---- the end

unfoldable pub modend_at : Bool → ObjParts → Cursor → Result Record OmfRefusal
modend_at wide p c = do
  kind ← byte_at c
  start ← where_so (has_start kind.0) (fix_data_at true wide p) kind.1
  Ok (modend kind.0 start.0)
