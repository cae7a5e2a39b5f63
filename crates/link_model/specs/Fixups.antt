-- The fixups of a link, and which are refused.
use Rattle.std.specs.Prelude.{ℕ, ◌+◌, ◌-◌, ◌^◌, Bool, true, false, not, ◌&&◌, ◌||◌, List, Option, Some, None, if◌then◌else◌, nat_lt, ◌==◌}
use Rattle.std.specs.List.{filter_map}
use Rattle.std.specs.Option.{option_map, option_and_then}
use Rattle.lx_bytes.specs.LittleEndian.{little}
use Rattle.obj_types.specs.declared.object.ObjModule.{ObjModule}
use Rattle.obj_types.specs.declared.object.FixAt.{FixAt}
use Rattle.obj_types.specs.declared.location.TheConstants.{LOCATION_BYTE, LOCATION_OFFSET_16, LOCATION_SELECTOR, LOCATION_FAR_16, LOCATION_LOADER_16, LOCATION_OFFSET_32, LOCATION_LOADER_32}
use Rattle.obj_types.specs.Items.{item}
use Rattle.obj_types.specs.Location.{has_selector}
use Rattle.link_model.specs.declared.refusals.FixRefusal.{FixRefusal}
use Rattle.link_model.specs.declared.refusals.FixRefusal.TheVariants.{FarSelf, FrameApart, ConstSelector}
use Rattle.link_model.specs.Words.{difference, option_any}
use Rattle.link_model.specs.Link.{Link, of_modules}
use Rattle.link_model.specs.Data.{data_bytes}
use Rattle.link_model.specs.Goals.{Target, Internal, Constant, Entry, target_of, location, object_of_target, object_of_frame}

-- The bytes of a location's offset part.
abbrev pub offset_width : ℕ → ℕ
offset_width loc =
    if loc == LOCATION_BYTE then 1
    else if loc == LOCATION_SELECTOR then 0
    else if loc == LOCATION_OFFSET_16 || loc == LOCATION_LOADER_16 || loc == LOCATION_FAR_16 then 2
    else 4

abbrev pub standing_number : ObjModule → FixAt → ℕ
standing_number m f = little (data_bytes m f.seg f.offset (offset_width f.loc))

-- A number of one byte, with its sign, modulo 2^32.
abbrev pub signed_byte : ℕ → ℕ
signed_byte s = if nat_lt s 128 then s else s + 2 ^ 32 - 256

-- A fixup with all that its value needs but bases.
pub record Fixup : Type 0 where
  pub by : ℕ  -- its chosen module's number
  pub fix : FixAt
  pub object : ℕ  -- the location's object, and the offset there
  pub offset : ℕ
  pub narrow : Bool  -- whether its segment is 16-bit
  pub target : Target
  pub frame : Option ℕ  -- the object that its frame names
  pub standing : ℕ  -- the number that stands in it

-- The low byte of a self-relative location has a sign; every other number has none.
abbrev pub standing_in : ObjModule → FixAt → ℕ
standing_in m f =
    if f.selfrel && f.loc == LOCATION_BYTE then signed_byte (standing_number m f) else standing_number m f

abbrev pub is_narrow : ObjModule → ℕ → Bool
is_narrow m seg = option_any (λ s. not s.wide) (item m.segs seg)

abbrev pub fixup_at : Link → ℕ → ObjModule → FixAt → Target → ℕ × ℕ → Fixup
fixup_at l n m f target q =
    record {
      by = n;
      fix = f;
      object = q.0;
      offset = q.1;
      narrow = is_narrow m f.seg;
      target = target;
      frame = object_of_frame l n f f.frame;
      standing = standing_in m f;
    }

abbrev pub fixup_of : Link → ℕ → ObjModule → FixAt → Option Fixup
fixup_of l n m f =
    option_and_then (λ target. option_map (fixup_at l n m f target) (location l n f)) (target_of l n f.goal)

-- All fixups, in chosen order and in file order.
unfoldable pub fixups : Link → List Fixup
fixups l = of_modules l (λ n m. filter_map (fixup_of l n m) m.fixes)

-- ---- refusals, which no base changes

abbrev pub is_constant : Target → Bool
is_constant (Internal o offset) = false
is_constant (Constant value) = true
is_constant (Entry slot) = false

abbrev pub is_short : ℕ → Bool
is_short loc = loc == LOCATION_BYTE || loc == LOCATION_OFFSET_16 || loc == LOCATION_LOADER_16

-- The goal is in the location's object.
abbrev pub stays_in_object : Fixup → Bool
stays_in_object q = option_any (λ o. o == q.object) (object_of_target q.target)

-- From the byte after the location to the target, where both are in one object.
abbrev pub distance : Fixup → Target → ℕ
distance q (Internal o offset) = difference (offset + q.fix.disp + q.standing) (q.offset + 1)
distance q (Constant value) = 0
distance q (Entry slot) = 0

-- A low byte reaches from -128 to 127.
abbrev pub is_past_reach : ℕ → Bool
is_past_reach d = nat_lt 127 d && nat_lt d (2 ^ 32 - 128)

-- `FarSelf`: a self-relative location to a constant; of 8 or 16 bits, to another object or module; of 8 bits, past its
-- reach.
abbrev pub is_far_self : Fixup → Bool
is_far_self q =
    q.fix.selfrel && (is_constant q.target
    || is_short q.fix.loc && not (stays_in_object q)
    || q.fix.loc == LOCATION_BYTE && is_past_reach (distance q q.target))

-- `FrameApart`: a segment-relative location other than a 32-bit offset to a place in the link, whose frame names
-- another object than the goal's.
abbrev pub is_frame_apart : Fixup → Bool
is_frame_apart q =
    not q.fix.selfrel && not (q.fix.loc == LOCATION_OFFSET_32 || q.fix.loc == LOCATION_LOADER_32)
    && option_any (λ o. option_any (λ f. not (f == o)) q.frame) (object_of_target q.target)

-- `ConstSelector`: a location with a selector to a constant.
abbrev pub is_const_selector : Fixup → Bool
is_const_selector q = has_selector q.fix.loc && is_constant q.target

-- The refusal of a fixup, by its module, segment and offset. Of one fixup at most one is due.
unfoldable pub fix_refusal : Fixup → Option FixRefusal
fix_refusal q =
    if is_far_self q then Some (FarSelf q.by q.fix.seg q.fix.offset)
    else if is_frame_apart q then Some (FrameApart q.by q.fix.seg q.fix.offset)
    else if is_const_selector q then Some (ConstSelector q.by q.fix.seg q.fix.offset)
    else None
