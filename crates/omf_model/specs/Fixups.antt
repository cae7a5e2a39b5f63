-- What the fields of "9Ch FIXUPP" mean: threads, frames, targets and locations.
use Rattle.std.specs.Prelude.{ℕ, ◌+◌, ◌%◌, Bool, true, false, ◌&&◌, ◌||◌, List, [], ◌∷◌, length, map, get_or, replicate, slice_index, not, Option, Some, None, nat_lt, nat_le, ◌==◌, if◌then◌else◌, unwrap_or}
use Rattle.std.specs.List.{filter, filter_map, list_any, range_with_len}
use Rattle.obj_types.specs.declared.object.Frame.{Frame}
use Rattle.obj_types.specs.declared.object.Frame.TheVariants as frames
use Rattle.obj_types.specs.declared.object.Goal.{Goal}
use Rattle.obj_types.specs.declared.object.Goal.TheVariants as goals
use Rattle.obj_types.specs.declared.object.FixAt.{FixAt}
use Rattle.obj_types.specs.declared.parts.LastData.{LastData}
use Rattle.obj_types.specs.declared.parts.LastData.TheVariants as datas
use Rattle.obj_types.specs.declared.parts.Threads.{Threads}
use Rattle.obj_types.specs.declared.parts.ObjParts.{ObjParts}
use Rattle.obj_types.specs.Location.{location_len, has_selector, end_of, meets}
use Rattle.omf_model.specs.Lists.{latest}
use Rattle.omf_model.specs.Blocks.{origins, contents}
use Rattle.omf_model.specs.ReadBlocks.{blocks_in}
use Rattle.omf_model.specs.Record.{FixData, FixField, thread, fixup, by_frame_thread, frame_bits, by_target_thread, target_bits, is_frame_thread, thread_method, thread_number, is_self_relative, location_of, offset_of}

-- The frame methods: 0 segment, 1 group, 2 external, 4 the location's segment, 5 the target's frame.
abbrev pub is_frame_method : ℕ → Bool
is_frame_method m = nat_le m 2 || m == 4 || m == 5

abbrev pub frame_by : ℕ → ℕ → Frame
frame_by m i =
    if m == 0 then frames.Seg i else if m == 1 then frames.Group i else if m == 2 then frames.Ext i else if m == 4 then frames.Here else frames.OfTarget

-- The target methods: 0 segment, 1 group, 2 external.
abbrev pub is_target_method : ℕ → Bool
is_target_method m = nat_le m 2

abbrev pub goal_by : ℕ → ℕ → Goal
goal_by m i = if m == 0 then goals.Seg i else if m == 1 then goals.Group i else goals.Ext i

-- The methods that have an index.
abbrev pub has_index : ℕ → Bool
has_index m = nat_le m 2

-- What a THREAD sets the thread of a kind and number to.
abbrev pub frame_set : ℕ → FixField → Option Frame
frame_set n (thread b i) = if is_frame_thread b && thread_number b == n then Some (frame_by (thread_method b) (unwrap_or i 0)) else None
frame_set n (fixup high low what) = None

abbrev pub goal_set : ℕ → FixField → Option Goal
goal_set n (thread b i) = if is_frame_thread b then None else if thread_number b == n then Some (goal_by (thread_method b) (unwrap_or i 0)) else None
goal_set n (fixup high low what) = None

-- A thread means what the last THREAD of its kind and number says. Threads last to the module's end.
abbrev pub some : {A : Type 0} → A → Option A
some x = Some x

abbrev pub of_each_number : {A : Type 0} → (ℕ → A) → List A
of_each_number f = f 0 ∷ f 1 ∷ f 2 ∷ f 3 ∷ []

unfoldable pub set_threads : Threads → List FixField → Threads
set_threads ts fields = record {
  frame = of_each_number (λ n. latest (get_or ts.frame n None) (map some (filter_map (frame_set n) fields)));
  goal = of_each_number (λ n. latest (get_or ts.goal n None) (map some (filter_map (goal_set n) fields)));
}

-- No thread is set before a module's first record.
abbrev pub unset : Threads
unset = record { frame = replicate 4 None; goal = replicate 4 None }

unfoldable pub threads_of : List FixField → Threads
threads_of fields = set_threads unset fields

-- The frame and the goal of a fix byte and what stands after it. There is none where the thread is not set.
abbrev pub frame_meant : Threads → FixData → Option Frame
frame_meant ts d = if by_frame_thread d.fix then get_or ts.frame (frame_bits d.fix % 4) None else Some (frame_by (frame_bits d.fix) (unwrap_or d.frame 0))

abbrev pub goal_meant : Threads → FixData → Option Goal
goal_meant ts d = if by_target_thread d.fix then get_or ts.goal (target_bits d.fix) None else Some (goal_by (target_bits d.fix) (unwrap_or d.target 0))

-- So many bytes of the last data record lie there, from an offset of its data on. The offset counts in
-- the record's blocks where these are unexpanded, and the bytes are those of one innermost block.
abbrev pub has_data : LastData → ℕ → ℕ → Bool
has_data datas.None offset len = false
has_data (datas.Straight seg start have) offset len = nat_le (offset + len) have
has_data (datas.Blocks seg start wide body) offset len =
    list_any (λ (block : ℕ × ℕ). nat_le block.0 offset && nat_le (offset + len) block.1) (contents wide 0 (blocks_in wide body))
has_data datas.Dropped offset len = true

-- The segment of that data.
abbrev pub data_segment : LastData → ℕ
data_segment datas.None = 0
data_segment (datas.Straight seg start have) = seg
data_segment (datas.Blocks seg start wide body) = seg
data_segment datas.Dropped = 0

-- The places of a list at which a number stands.
abbrev pub places_of : ℕ → List ℕ → List ℕ
places_of n xs = filter (λ x. slice_index xs x == n) (range_with_len 0 (length xs))

-- The offsets in the segment that an offset of the last data record's data means: in blocks one in
-- every copy, ascending.
abbrev pub copies_of : LastData → ℕ → List ℕ
copies_of datas.None offset = []
copies_of (datas.Straight seg start have) offset = (start + offset) ∷ []
copies_of (datas.Blocks seg start wide body) offset = map (λ x. start + x) (places_of offset (origins wide 0 (blocks_in wide body)))
copies_of datas.Dropped offset = []

-- The fixes of a field.
unfoldable pub fixes_by : LastData → Threads → FixField → List FixAt
fixes_by last ts (thread b i) = []
fixes_by last ts (fixup high low d) = map (λ x. record {
  seg = data_segment last;
  offset = x;
  loc = location_of high;
  selfrel = is_self_relative high;
  frame = unwrap_or (frame_meant ts d) frames.Here;
  goal = unwrap_or (goal_meant ts d) (goals.Seg 0);
  disp = unwrap_or d.displacement 0;
}) (copies_of last (offset_of high low))

-- ---- what is asked of them

-- How many items of a method's kind there are.
abbrev pub have_of : ObjParts → ℕ → ℕ
have_of p m = if m == 0 then length p.module.segs else if m == 1 then length p.module.groups else length p.module.exts

abbrev pub are_methods : ℕ → Bool
are_methods fix = (by_frame_thread fix || is_frame_method (frame_bits fix)) && (by_target_thread fix || is_target_method (target_bits fix))

abbrev pub is_thread_method : ℕ → Bool
is_thread_method b = if is_frame_thread b then is_frame_method (thread_method b) else is_target_method (thread_method b)

-- A location that there is, and that is not self-relative where it has a selector.
abbrev pub is_location : ℕ → Bool
is_location high = nat_lt 0 (location_len (location_of high)) && not (is_self_relative high && has_selector (location_of high))

-- So many bytes from an offset on share one with a fix.
abbrev pub touches : ℕ → ℕ → ℕ → FixAt → Bool
touches seg offset len f = f.seg == seg && nat_lt 0 len && nat_lt f.offset (offset + len) && nat_lt offset (end_of f)

-- New fixes share no byte with earlier ones.
abbrev pub are_apart : List FixAt → List FixAt → Bool
are_apart earlier new = not (list_any (λ g. list_any (λ f. meets f g) earlier) new)
