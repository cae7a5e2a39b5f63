-- The records of an object module as values: their fields, without the forms in which bytes spell them.
-- "Relocatable Object Module Format", the sections of the record types.
use Rattle.std.specs.Prelude.{ℕ, ◌+◌, ◌*◌, ◌/◌, ◌%◌, Bool, true, false, ◌&&◌, not, List, Option, nat_le, ◌==◌, if◌then◌else◌}
use Rattle.omf_model.specs.Blocks.{Blocks}
use Rattle.omf_model.specs.Comdat.{ComDat}

-- "98h SEGDEF". The frame and the offset stand there for the alignment 0.
pub record SegDef : Type 0 where
  pub attributes : ℕ
  pub frame : Option ℕ
  pub offset : Option ℕ
  pub len : ℕ
  pub name : ℕ
  pub class : ℕ
  pub overlay : ℕ

-- The attribute byte: bits 7 to 5 alignment, 4 to 2 combine type, 1 big, 0 use32.
abbrev pub align_of : ℕ → ℕ
align_of a = a / 32

abbrev pub combine_of : ℕ → ℕ
combine_of a = a / 4 % 8

abbrev pub is_big : ℕ → Bool
is_big a = a / 2 % 2 == 1

abbrev pub is_use32 : ℕ → Bool
is_use32 a = a % 2 == 1

-- In 99h big with length 0 would be a segment of 4 GiB.
abbrev pub is_too_long : Bool → ℕ → ℕ → Bool
is_too_long wide a len = wide && is_big a && len == 0

-- "90h PUBDEF".
pub record PubDef : Type 0 where
  pub name : List ℕ
  pub offset : ℕ
  pub type : ℕ

-- "8Ch EXTDEF".
pub record ExtDef : Type 0 where
  pub name : List ℕ
  pub type : ℕ

-- "B0h COMDEF": FAR has a number of elements and their size, NEAR the size alone.
pub data Communal : Type 0 where
  far : (count size : ℕ) → Communal
  near : (size : ℕ) → Communal

pub record ComDef : Type 0 where
  pub name : List ℕ
  pub type : ℕ
  pub communal : Communal

-- "88h COMENT", IMPDEF: by ordinal where the flag is not 0. An empty entry name is the internal name.
pub data ImpEntry : Type 0 where
  by_ordinal : ℕ → ImpEntry
  by_name : List ℕ → ImpEntry

pub record ImpDef : Type 0 where
  pub flag : ℕ
  pub internal : List ℕ
  pub from : List ℕ
  pub entry : ImpEntry

-- "88h COMENT", EXPDEF: the flag byte has 80h ordinal present, 40h resident name, 20h no data, and the
-- number of parameter words in its low five bits. An empty internal name is the exported one.
pub record ExpDef : Type 0 where
  pub flag : ℕ
  pub exported : List ℕ
  pub internal : List ℕ
  pub ordinal : Option ℕ

-- "9Ch FIXUPP": the fix byte and what stands after it.
pub record FixData : Type 0 where
  pub fix : ℕ
  pub frame : Option ℕ
  pub target : Option ℕ
  pub displacement : Option ℕ

-- The fix byte: 80h F, bits 6 to 4 frame, 08h T, 04h P, bits 1 and 0 target.
abbrev pub by_frame_thread : ℕ → Bool
by_frame_thread fix = nat_le 128 fix

abbrev pub frame_bits : ℕ → ℕ
frame_bits fix = fix / 16 % 8

abbrev pub by_target_thread : ℕ → Bool
by_target_thread fix = fix / 8 % 2 == 1

abbrev pub has_displacement : ℕ → Bool
has_displacement fix = fix / 4 % 2 == 0

abbrev pub target_bits : ℕ → ℕ
target_bits fix = fix % 4

-- A field of "9Ch FIXUPP": a THREAD, whose byte has bit 7 clear, or a FIXUP, by its first two bytes.
pub data FixField : Type 0 where
  thread : (byte : ℕ) (index : Option ℕ) → FixField
  fixup : (high low : ℕ) (what : FixData) → FixField

-- The THREAD byte: 40h a frame thread, bits 4 to 2 method, bits 1 and 0 number.
abbrev pub is_frame_thread : ℕ → Bool
is_frame_thread b = b / 64 % 2 == 1

-- A target thread has only bits 3 and 2 for its method.
abbrev pub thread_method : ℕ → ℕ
thread_method b = if is_frame_thread b then b / 4 % 8 else b / 4 % 4

abbrev pub thread_number : ℕ → ℕ
thread_number b = b % 4

-- The first two bytes of a FIXUP, high byte first: 1, M, four bits of location, ten of offset. M is set
-- where the fixup is segment-relative.
abbrev pub is_self_relative : ℕ → Bool
is_self_relative high = high / 64 % 2 == 0

abbrev pub location_of : ℕ → ℕ
location_of high = high / 4 % 16

abbrev pub offset_of : ℕ → ℕ → ℕ
offset_of high low = high % 4 * 256 + low

-- The module type byte of "8Ah MODEND": 80h main, 40h start address.
abbrev pub has_start : ℕ → Bool
has_start kind = kind / 64 % 2 == 1

-- A record. Those that are passed over are LINNUM, and THEADR and LHEADR after a module's first record. A
-- comment is a COMENT of another class or subtype than those of the three constructors after it.
pub data Record : Type 0 where
  header : (name : List ℕ) → Record
  passed : Record
  comment : Record
  default_library : (name : List ℕ) → Record
  impdef : ImpDef → Record
  expdef : ExpDef → Record
  lnames : List (List ℕ) → Record
  segdef : SegDef → Record
  grpdef : (name : ℕ) (members : List ℕ) → Record
  pubdef : (local : Bool) (group segment : ℕ) (frame : Option ℕ) → List PubDef → Record
  extdef : (local : Bool) → List ExtDef → Record
  comdef : List ComDef → Record
  ledata : (segment offset : ℕ) (bytes : List ℕ) → Record
  lidata : (wide : Bool) (segment offset : ℕ) → Blocks → Record
  comdat : ComDat → Record
  fixupp : List FixField → Record
  modend : (kind : ℕ) (start : Option FixData) → Record

-- The alignments 6 and 7 and the combine types 1 and 3 are not used.
abbrev pub are_attributes : ℕ → Bool
are_attributes a = nat_le (align_of a) 5 && not (combine_of a == 1) && not (combine_of a == 3)

abbrev pub is_end : Record → Bool
is_end (modend kind start) = true
is_end _ = false
