-- What bytes spell a record: its type, its contents, and the record around them.
-- "Relocatable Object Module Format", the sections of the record types.
use Rattle.std.specs.Prelude.{◌≡◌, ◌≢◌, ℕ, ◌+◌, ◌≤◌, ◌<◌, ◌⊎◌, Bool, true, false, ◌&&◌, not, List, [], ◌∷◌, Contains, nat_le, ◌==◌, if◌then◌else◌}
use Rattle.omf_frame.specs.declared.record_type.TheConstants.{THEADR, LHEADR, COMENT, MODEND, EXTDEF, PUBDEF, LINNUM, LNAMES, SEGDEF, GRPDEF, FIXUPP, LEDATA, LIDATA, LIDATA_32, COMDEF, LEXTDEF, LPUBDEF, COMDAT}
use Rattle.omf_frame.specs.declared.comment_class.TheConstants.{DEFAULT_LIBRARY, EXTENSION, IMPDEF, EXPDEF}
use Rattle.omf_frame.specs.Frame.{BeginsRecord}
use Rattle.omf_model.specs.Blocks.{block_bytes}
use Rattle.omf_fields.specs.Fields.{width}
use Rattle.omf_fields.specs.Forms.{Form, Then, ◌then◌, anything, each, present, byte, number, name, index, length_form}
use Rattle.omf_model.specs.Fixups.{has_index}
use Rattle.omf_model.specs.Comdat.{Base, ComDat, has_base}
use Rattle.omf_model.specs.Record.{Record, header, passed, comment, default_library, impdef, expdef, lnames, segdef, grpdef, pubdef, extdef, comdef, ledata, lidata, comdat, fixupp, modend, SegDef, align_of, is_too_long, PubDef, ExtDef, ComDef, Communal, far, near, ImpDef, ImpEntry, by_ordinal, by_name, ExpDef, FixData, FixField, thread, fixup, by_frame_thread, frame_bits, by_target_thread, has_displacement, thread_method, has_start}

-- ---- the types. Of a pair the odd type has offsets and lengths of 4 bytes.

abbrev pub pair : ℕ → List (ℕ × Bool)
pair ty = (ty, false) ∷ (ty + 1, true) ∷ []

abbrev pub types_of : Record → List (ℕ × Bool)
types_of (header text) = (THEADR, false) ∷ (LHEADR, false) ∷ []
types_of passed = (THEADR, false) ∷ (LHEADR, false) ∷ pair LINNUM
types_of comment = (COMENT, false) ∷ []
types_of (default_library text) = (COMENT, false) ∷ []
types_of (impdef d) = (COMENT, false) ∷ []
types_of (expdef d) = (COMENT, false) ∷ []
types_of (lnames texts) = (LNAMES, false) ∷ []
types_of (segdef d) = pair SEGDEF
types_of (grpdef i members) = (GRPDEF, false) ∷ []
types_of (pubdef local group segment frame defs) = if local then pair LPUBDEF else pair PUBDEF
types_of (extdef local defs) = if local then pair LEXTDEF else (EXTDEF, false) ∷ []
types_of (comdef defs) = (COMDEF, false) ∷ []
types_of (ledata segment offset content) = pair LEDATA
types_of (lidata wide segment offset blocks) = (if wide then LIDATA_32 else LIDATA, wide) ∷ []
types_of (comdat d) = pair COMDAT
types_of (fixupp fields) = pair FIXUPP
types_of (modend kind start) = pair MODEND

-- ---- the contents

-- A COMENT's flags and class.
abbrev pub class_form : ℕ → Form
class_form class = Then (λ bytes. (flags : ℕ) × byte flags bytes) (byte class)

-- Another class than these two, or another subtype of extensions than these two.
abbrev pub other_comment : Form
other_comment bytes =
    ((class : ℕ) × (class ≢ DEFAULT_LIBRARY) × (class ≢ EXTENSION) × (class_form class then anything) bytes)
    ⊎ ((subtype : ℕ) × (subtype ≢ IMPDEF) × (subtype ≢ EXPDEF) × (class_form EXTENSION then byte subtype then anything) bytes)

abbrev pub entry_form : ℕ → ImpEntry → Form
entry_form flag (by_ordinal n) bytes = (flag ≢ 0) × number 2 n bytes
entry_form flag (by_name text) bytes = (flag ≡ 0) × name text bytes

abbrev pub impdef_form : ImpDef → Form
impdef_form d =
    class_form EXTENSION then byte IMPDEF then byte d.flag then name d.internal then name d.from then entry_form d.flag d.entry then anything

abbrev pub expdef_form : ExpDef → Form
expdef_form d =
    class_form EXTENSION then byte EXPDEF then byte d.flag then name d.exported then name d.internal
    then present (nat_le 128 d.flag) (number 2) d.ordinal then anything

abbrev pub segdef_form : Bool → SegDef → Form
segdef_form wide d bytes = (is_too_long wide d.attributes d.len ≡ false) × (
    byte d.attributes
    then present (align_of d.attributes == 0) (number 2) d.frame
    then present (align_of d.attributes == 0) byte d.offset
    then number (width wide) d.len
    then index d.name then index d.class then index d.overlay then anything) bytes

abbrev pub member_form : ℕ → Form
member_form i = byte 255 then index i

abbrev pub pub_form : Bool → PubDef → Form
pub_form wide d = name d.name then number (width wide) d.offset then index d.type

abbrev pub ext_form : ExtDef → Form
ext_form d = name d.name then index d.type

abbrev pub communal_form : Communal → Form
communal_form (far count size) = byte 0x61 then length_form count then length_form size
communal_form (near size) = byte 0x62 then length_form size

abbrev pub com_form : ComDef → Form
com_form d = name d.name then index d.type then communal_form d.communal

abbrev pub base_form : Base → Form
base_form base = index base.group then index base.segment

abbrev pub comdat_form : Bool → ComDat → Form
comdat_form wide d =
    byte d.flags
    then byte d.attributes
    then byte d.align
    then number (width wide) d.offset
    then index d.type
    then present (has_base d.attributes) base_form d.base
    then index d.name
    then λ bytes. bytes ≡ d.content

-- The fix byte says which of the fields after it stand there.
abbrev pub fix_data_form : Bool → FixData → Form
fix_data_form wide d =
    byte d.fix
    then present (not (by_frame_thread d.fix) && has_index (frame_bits d.fix)) index d.frame
    then present (not (by_target_thread d.fix)) index d.target
    then present (has_displacement d.fix) (number (width wide)) d.displacement

abbrev pub field_form : Bool → FixField → Form
field_form wide (thread b i) bytes = (b < 128) × (byte b then present (has_index (thread_method b)) index i) bytes
field_form wide (fixup high low what) bytes = (128 ≤ high) × (byte high then byte low then fix_data_form wide what) bytes

abbrev pub contents_form : Bool → Record → Form
contents_form wide (header text) = name text then anything
contents_form wide passed = anything
contents_form wide comment = other_comment
contents_form wide (default_library text) = class_form DEFAULT_LIBRARY then λ bytes. bytes ≡ text
contents_form wide (impdef d) = impdef_form d
contents_form wide (expdef d) = expdef_form d
contents_form wide (lnames texts) = each name texts
contents_form wide (segdef d) = segdef_form wide d
contents_form wide (grpdef i members) = index i then each member_form members
contents_form wide (pubdef local group segment frame defs) =
    index group then index segment then present (segment == 0) (number 2) frame then each (pub_form wide) defs
contents_form wide (extdef local defs) = each ext_form defs
contents_form wide (comdef defs) = each com_form defs
contents_form wide (ledata segment offset content) = index segment then number (width wide) offset then λ bytes. bytes ≡ content
contents_form wide (lidata w segment offset blocks) = index segment then number (width w) offset then λ bytes. bytes ≡ block_bytes w blocks
contents_form wide (comdat d) = comdat_form wide d
contents_form wide (fixupp fields) = each (field_form wide) fields
contents_form wide (modend kind start) = byte kind then present (has_start kind) (fix_data_form wide) start then anything

-- ---- the record around them

pub record Spells (bytes : List ℕ) (r : Record) : Type 0 where
  pub ty : ℕ
  pub wide : Bool
  pub contents : List ℕ
  pub is_type : Contains (types_of r) (ty, wide)
  pub framed : BeginsRecord bytes ty contents []
  pub content : contents_form wide r contents

-- The records, one after another.
abbrev pub SpellsAll : List Record → Form
SpellsAll rs = each (λ r bytes. Spells bytes r) rs
