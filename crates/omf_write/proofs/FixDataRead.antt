-- A written fix byte and what stands after it are read as their frame, goal and displacement.
use Rattle.std.proofs.Common.{◌≡◌, ℕ, ◌+◌, ◌*◌, ◌/◌, ◌%◌, ◌<◌, ◌≤◌, Bool, true, false, cond, List, [], ◌∷◌, ◌++◌, length, get_or, Option, Some, None, refl, sym, ap, subst, ◌∙◌, arith, length-append}
use Rattle.std.proofs.lemmas.Bool.Decides.{nat_tests}
use Rattle.std.specs.Prelude.{◌==◌, ◌&&◌, ◌||◌, not, nat_le, IfSome, IsSome, IsSomeAnd, is_some, unwrap_or, option_map}
use Rattle.lx_bytes.specs.LittleEndian.{little_bytes}
use Rattle.lx_bytes.proofs.Numbers.{length-little_bytes}
use Rattle.obj_types.specs.declared.object.Seg.{Seg}
use Rattle.obj_types.specs.declared.object.Piece.{Piece}
use Rattle.obj_types.specs.declared.object.Frame.{Frame}
use Rattle.obj_types.specs.declared.object.Frame.TheVariants as frames
use Rattle.obj_types.specs.declared.object.Goal.{Goal}
use Rattle.obj_types.specs.declared.object.Goal.TheVariants as goals
use Rattle.obj_types.specs.declared.object.FixAt.{FixAt}
use Rattle.obj_types.specs.declared.object.StartAt.{StartAt}
use Rattle.obj_types.specs.declared.object.ObjModule.{ObjModule}
use Rattle.obj_types.specs.declared.parts.LastData.{LastData}
use Rattle.obj_types.specs.declared.parts.ObjParts.{ObjParts}
use Rattle.obj_types.specs.Items.{item, IsIndex}
use Rattle.obj_types.specs.Whole.{IsPlainSeg, WholeFrame, WholeGoal}
use Rattle.omf_fields.specs.Forms.{Form, ◌then◌, present, byte, number, index}
use Rattle.omf_model.specs.Record.{FixData, by_frame_thread, frame_bits, by_target_thread, target_bits, has_displacement}
use Rattle.omf_model.specs.Items.{is_debug_seg, start_of}
use Rattle.omf_model.specs.Fixups.{unset, is_frame_method, is_target_method, has_index, frame_by, goal_by, frame_meant, goal_meant}
use Rattle.omf_model.specs.Spelling.{fix_data_form}
use Rattle.omf_model.specs.Good.{GoodFixData, HasMethod, IsPlainFrame, IsPlainGoal}
use Rattle.omf_write.specs.ObjectBytes.{index_bytes, frame_method, frame_bytes, goal_method, goal_index, fix_data_bytes}
use Rattle.omf_write.proofs.FieldBytes.{index_spelled, index_len}
use Rattle.omf_write.proofs.ImportRead.{both}
use Rattle.omf_write.proofs.Listed.{index_there}

-- an unfinished module with some of its data
abbrev pub data_parts : List (List ℕ) → ObjModule → List Piece → List FixAt → LastData → ObjParts
data_parts names m pieces fixes last = record { names = names; «module» = record m { pieces = pieces; fixes = fixes; start = None; comdats = [] }; last = last; threads = unset; comdats = [] }

abbrev pub frame_index : Frame → Option ℕ
frame_index (frames.Seg i) = Some i
frame_index (frames.Group i) = Some i
frame_index (frames.Ext i) = Some i
frame_index frames.Here = None
frame_index frames.OfTarget = None

abbrev pub data_of : Frame → Goal → ℕ → FixData
data_of frame goal disp = record { fix = frame_method frame * 16 + goal_method goal; frame = frame_index frame; target = Some (goal_index goal); displacement = Some disp }

-- ---- the fix byte

-- its parts: frame thread, frame, target thread, target, displacement
abbrev Bits : Type 0
Bits = Bool × ℕ × Bool × ℕ × Bool

abbrev bits_of : ℕ → Bits
bits_of a = (by_frame_thread a, frame_bits a, by_target_thread a, target_bits a, has_displacement a)

abbrev plain_bits : ℕ → ℕ → Bits
plain_bits f g = (false, f, false, g, true)

no_thread : (f g : ℕ) → f ≤ 5 → g ≤ 2 → nat_le 128 (f * 16 + g) ≡ false
no_thread f g a b = grind (arith, nat_tests)

bits_are : (f g : ℕ) → f ≤ 5 → g ≤ 2 → bits_of (f * 16 + g) ≡ plain_bits f g
bits_are f g a b =
    let first = no_thread f g a b in
    let frame : frame_bits (f * 16 + g) ≡ f = omega (arith, a, b) in
    let second : (f * 16 + g) / 8 % 2 ≡ 0 = omega (arith, a, b) in
    let target : target_bits (f * 16 + g) ≡ g = omega (arith, a, b) in
    let third : (f * 16 + g) / 4 % 2 ≡ 0 = omega (arith, a, b) in
    λ i. (first i, frame i, (second i == 1), target i, (third i == 0))

frame_most : (frame : Frame) → frame_method frame ≤ 5
frame_most (frames.Seg i) = omega arith
frame_most (frames.Group i) = omega arith
frame_most (frames.Ext i) = omega arith
frame_most frames.Here = omega arith
frame_most frames.OfTarget = omega arith

goal_most : (goal : Goal) → goal_method goal ≤ 2
goal_most (goals.Seg i) = omega arith
goal_most (goals.Group i) = omega arith
goal_most (goals.Ext i) = omega arith

byte_bits : (frame : Frame) (goal : Goal) → bits_of (frame_method frame * 16 + goal_method goal) ≡ plain_bits (frame_method frame) (goal_method goal)
byte_bits frame goal = bits_are (frame_method frame) (goal_method goal) (frame_most frame) (goal_most goal)

-- ---- what it means

abbrev frame_by_bits : Bits → Option ℕ → Option Frame
frame_by_bits t o = cond t.0 (get_or unset.frame (t.1 % 4) None) (Some (frame_by t.1 (unwrap_or o 0)))

abbrev goal_by_bits : Bits → Option ℕ → Option Goal
goal_by_bits t o = cond t.2 (get_or unset.goal t.3 None) (Some (goal_by t.3 (unwrap_or o 0)))

frame_back : (frame : Frame) → frame_by (frame_method frame) (unwrap_or (frame_index frame) 0) ≡ frame
frame_back (frames.Seg i) = refl
frame_back (frames.Group i) = refl
frame_back (frames.Ext i) = refl
frame_back frames.Here = refl
frame_back frames.OfTarget = refl

goal_back : (goal : Goal) → goal_by (goal_method goal) (goal_index goal) ≡ goal
goal_back (goals.Seg i) = refl
goal_back (goals.Group i) = refl
goal_back (goals.Ext i) = refl

pub frame_is : (frame : Frame) (goal : Goal) (disp : ℕ) → frame_meant unset (data_of frame goal disp) ≡ Some frame
frame_is frame goal disp = ap (λ (t : Bits). frame_by_bits t (frame_index frame)) (byte_bits frame goal) ∙ ap (λ (f : Frame). Some f) (frame_back frame)

pub goal_is : (frame : Frame) (goal : Goal) (disp : ℕ) → goal_meant unset (data_of frame goal disp) ≡ Some goal
goal_is frame goal disp = ap (λ (t : Bits). goal_by_bits t (Some (goal_index goal))) (byte_bits frame goal) ∙ ap (λ (g : Goal). Some g) (goal_back goal)

pub start_is : (s : StartAt) → start_of unset (Some (data_of s.frame s.goal s.disp)) ≡ Some s
start_is s = λ i. Some (record {
  frame = unwrap_or (frame_is s.frame s.goal s.disp i) frames.Here;
  goal = unwrap_or (goal_is s.frame s.goal s.disp i) (goals.Seg 0);
  disp = s.disp;
})

-- ---- what it spells

pub record Few (m : ObjModule) : Type 0 where
  pub segs : length m.segs ≤ 32767
  pub groups : length m.groups ≤ 32767
  pub exts : length m.exts ≤ 32767

abbrev form_by : Bits → ℕ → Option ℕ → ℕ → ℕ → Form
form_by t fix frame goal disp =
    byte fix then present (not t.0 && has_index t.1) index frame then present (not t.2) index (Some goal) then present t.4 (number 4) (Some disp)

pub seg_least : (m : ObjModule) (i : ℕ) → IsPlainSeg m i → IsIndex m.segs i
seg_least m i plain = index_there (λ (s : Seg). s.debug ≡ false) m.segs i plain

within : (i n : ℕ) → i ≤ n → n ≤ 32767 → i ≤ 32767
within i n a b = omega (arith, a, b)

frame_spelled : (m : ObjModule) → Few m → (frame : Frame) → WholeFrame m frame → present (has_index (frame_method frame)) index (frame_index frame) (frame_bytes frame)
frame_spelled m few (frames.Seg i) whole = index_spelled i (within i (length m.segs) (seg_least m i whole).1 few.segs)
frame_spelled m few (frames.Group i) whole = index_spelled i (within i (length m.groups) whole.1 few.groups)
frame_spelled m few (frames.Ext i) whole = index_spelled i (within i (length m.exts) whole.1 few.exts)
frame_spelled m few frames.Here whole = refl
frame_spelled m few frames.OfTarget whole = refl

goal_few : (m : ObjModule) → Few m → (goal : Goal) → WholeGoal m goal → goal_index goal ≤ 32767
goal_few m few (goals.Seg i) whole = within i (length m.segs) (seg_least m i whole).1 few.segs
goal_few m few (goals.Group i) whole = within i (length m.groups) whole.1 few.groups
goal_few m few (goals.Ext i) whole = within i (length m.exts) whole.1 few.exts

fix_small : (f g : ℕ) → f ≤ 5 → g ≤ 2 → f * 16 + g < 256
fix_small f g a b = omega (arith, a, b)

pub fix_data_spelled : (m : ObjModule) → Few m → (frame : Frame) (goal : Goal) (disp : ℕ) → WholeFrame m frame → WholeGoal m goal → disp < 0x100000000 → fix_data_form true (data_of frame goal disp) (fix_data_bytes frame goal disp)
fix_data_spelled m few frame goal disp whole_frame whole_goal fits =
    let fix : ℕ = frame_method frame * 16 + goal_method goal in
    let g : ℕ = goal_index goal in
    let tail : List ℕ = little_bytes 4 disp in
    let end : number 4 disp tail = (omega (arith, fits), refl) in
    let target : (index g then number 4 disp) (index_bytes g ++ tail) = both (index g) (number 4 disp) (index_bytes g) tail (index_spelled g (goal_few m few goal whole_goal)) end in
    let framed = both (present (has_index (frame_method frame)) index (frame_index frame)) (index g then number 4 disp) (frame_bytes frame) (index_bytes g ++ tail) (frame_spelled m few frame whole_frame) target in
    let plain : form_by (plain_bits (frame_method frame) (goal_method goal)) fix (frame_index frame) g disp (fix_data_bytes frame goal disp)
    = both (byte fix) _ (fix ∷ []) (frame_bytes frame ++ (index_bytes g ++ tail)) (fix_small (frame_method frame) (goal_method goal) (frame_most frame) (goal_most goal), refl) framed in
    subst (λ (t : Bits). form_by t fix (frame_index frame) g disp (fix_data_bytes frame goal disp)) (sym (byte_bits frame goal)) plain

frame_len : (frame : Frame) → length (frame_bytes frame) ≤ 2
frame_len (frames.Seg i) = index_len i
frame_len (frames.Group i) = index_len i
frame_len (frames.Ext i) = index_len i
frame_len frames.Here = omega arith
frame_len frames.OfTarget = omega arith

pub fix_data_len : (frame : Frame) (goal : Goal) (disp : ℕ) → length (fix_data_bytes frame goal disp) ≤ 9
fix_data_len frame goal disp =
    let four = length-little_bytes 4 disp in
    let f = frame_len frame in
    let g = index_len (goal_index goal) in
    let l2 = length-append (frame_bytes frame) (index_bytes (goal_index goal) ++ little_bytes 4 disp) in
    let l1 = length-append (index_bytes (goal_index goal)) (little_bytes 4 disp) in
    omega (arith, four, f, g, l1, l2)

-- ---- it is good

no_debug_at : (o : Option Seg) → IsSomeAnd o (λ s. s.debug ≡ false) → unwrap_or (option_map (λ (s : Seg). s.debug) o) false ≡ false
no_debug_at (Some s) is = is
no_debug_at None is = absurd is

pub no_debug : (m : ObjModule) (i : ℕ) → IsPlainSeg m i → is_debug_seg m.segs i ≡ false
no_debug m i plain = no_debug_at (item m.segs i) plain

module _ (names : List (List ℕ)) (m : ObjModule) (pieces : List Piece) (fixes : List FixAt) (last : LastData) where
  abbrev here : ObjParts
  here = data_parts names m pieces fixes last

  frame_has : (frame : Frame) → WholeFrame m frame → IfSome (frame_index frame) (HasMethod here (frame_method frame))
  frame_has (frames.Seg i) whole = seg_least m i whole
  frame_has (frames.Group i) whole = whole
  frame_has (frames.Ext i) whole = whole
  frame_has frames.Here whole = tt
  frame_has frames.OfTarget whole = tt

  goal_has : (goal : Goal) → WholeGoal m goal → HasMethod here (goal_method goal) (goal_index goal)
  goal_has (goals.Seg i) whole = seg_least m i whole
  goal_has (goals.Group i) whole = whole
  goal_has (goals.Ext i) whole = whole

  frame_plain : (frame : Frame) → WholeFrame m frame → IsPlainFrame here frame
  frame_plain (frames.Seg i) whole = no_debug m i whole
  frame_plain (frames.Group i) whole = tt
  frame_plain (frames.Ext i) whole = tt
  frame_plain frames.Here whole = tt
  frame_plain frames.OfTarget whole = tt

  goal_plain : (goal : Goal) → WholeGoal m goal → IsPlainGoal here goal
  goal_plain (goals.Seg i) whole = no_debug m i whole
  goal_plain (goals.Group i) whole = tt
  goal_plain (goals.Ext i) whole = tt

  frame_indexed : (frame : Frame) → is_some (frame_index frame) ≡ has_index (frame_method frame)
  frame_indexed (frames.Seg i) = refl
  frame_indexed (frames.Group i) = refl
  frame_indexed (frames.Ext i) = refl
  frame_indexed frames.Here = refl
  frame_indexed frames.OfTarget = refl

  frame_allowed : (frame : Frame) → is_frame_method (frame_method frame) ≡ true
  frame_allowed (frames.Seg i) = refl
  frame_allowed (frames.Group i) = refl
  frame_allowed (frames.Ext i) = refl
  frame_allowed frames.Here = refl
  frame_allowed frames.OfTarget = refl

  goal_allowed : (goal : Goal) → is_target_method (goal_method goal) ≡ true
  goal_allowed (goals.Seg i) = refl
  goal_allowed (goals.Group i) = refl
  goal_allowed (goals.Ext i) = refl

  allowed : (frame : Frame) (goal : Goal) → (is_frame_method (frame_method frame) && is_target_method (goal_method goal)) ≡ true
  allowed frame goal = λ i. (frame_allowed frame i && goal_allowed goal i)

  pub good_data : (frame : Frame) (goal : Goal) (disp : ℕ) → WholeFrame m frame → WholeGoal m goal → GoodFixData here (data_of frame goal disp)
  good_data frame goal disp whole_frame whole_goal =
      let bits = sym (byte_bits frame goal) in
      record {
        meant = record {
          frame_there = subst (λ (t : Bits). is_some (frame_index frame) ≡ (not t.0 && has_index t.1)) bits (frame_indexed frame);
          target_there = subst (λ (t : Bits). true ≡ not t.2) bits refl;
          methods = subst (λ (t : Bits). ((t.0 || is_frame_method t.1) && (t.2 || is_target_method t.3)) ≡ true) bits (allowed frame goal);
          frame_set = subst (λ (o : Option Frame). IsSome o) (sym (frame_is frame goal disp)) refl;
          goal_set = subst (λ (o : Option Goal). IsSome o) (sym (goal_is frame goal disp)) refl;
        };
        frame_index = subst (λ (t : Bits). IfSome (frame_index frame) (HasMethod here t.1)) bits (frame_has frame whole_frame);
        target_index = subst (λ (t : Bits). HasMethod here t.3 (goal_index goal)) bits (goal_has goal whole_goal);
        frame = subst (λ (o : Option Frame). IfSome o (IsPlainFrame here)) (sym (frame_is frame goal disp)) (frame_plain frame whole_frame);
        goal = subst (λ (o : Option Goal). IfSome o (IsPlainGoal here)) (sym (goal_is frame goal disp)) (goal_plain goal whole_goal);
      }
