-- What is wrong in the records of names, segments, groups and symbols: a line a field or a condition, in their order.
-- "96h LNAMES", "98h SEGDEF", "9Ah GRPDEF", "90h PUBDEF", "8Ch EXTDEF", "B0h COMDEF".
use Rattle.std.specs.Prelude.{◌≡◌, ℕ, ◌*◌, ◌≤◌, ◌⊎◌, Bool, true, false, length, ◌==◌, bytes_eq, codes}
use Rattle.obj_types.specs.declared.limits.TheConstants.{MAX_DATA}
use Rattle.obj_types.specs.declared.refusal.OmfRefusal.TheVariants.{BadField}
use Rattle.obj_types.specs.declared.parts.ObjParts.{ObjParts}
use Rattle.omf_fields.specs.Fields.{width}
use Rattle.omf_model.specs.Record.{PubDef, ExtDef, ComDef, Communal, align_of, is_too_long, are_attributes}
use Rattle.omf_model.specs.Items.{name_with, communal_of}
use Rattle.omf_model.specs.Spelling.{member_form, pub_form, ext_form, communal_form, com_form}
use Rattle.omf_faults.specs.Parts.{Part, Wrong, PartThen, ConditionThen, Breaks, only, WrongItem}
use Rattle.omf_faults.specs.FieldParts.{a_byte, a_number, a_name, a_length, index_from_one, index_or_none, no_type, plain_segment, plain_segment_or_none}

abbrev pub WrongLnames : Wrong
WrongLnames c e = WrongItem a_name c e

-- ---- SEGDEF. Attributes that are none are told before what follows them; a length that is too long is told at the
-- attributes too, but only once it was spelled.

abbrev pub WrongSegdef : Bool → ObjParts → Wrong
WrongSegdef wide p c e =
    PartThen a_byte c e λ a c1.
    ConditionThen (are_attributes a ≡ true) (BadField c.at) e (
    PartThen (only (align_of a == 0) (a_number 2)) c1 e λ frame c2.
    PartThen (only (align_of a == 0) a_byte) c2 e λ offset c3.
    PartThen (a_number (width wide)) c3 e λ len c4.
    ConditionThen (is_too_long wide a len ≡ false) (BadField c.at) e (
    PartThen (index_from_one (length p.names)) c4 e λ name c5.
    PartThen (index_from_one (length p.names)) c5 e λ class c6.
    (index_or_none (length p.names)).wrong c6 e))

-- ---- GRPDEF. The members of FLAT may be any segments.

abbrev pub is_flat : ObjParts → ℕ → Bool
is_flat p name = bytes_eq (name_with p.names name) (codes "FLAT")

abbrev pub segment_of : Bool → ObjParts → Part ℕ
segment_of true p = index_from_one (length p.module.segs)
segment_of false p = plain_segment p

abbrev pub member : Bool → ObjParts → Part ℕ
member flat p = record {
  form = member_form;
  good = (segment_of flat p).good;
  wrong = λ c e.
      PartThen a_byte c e λ mark d.
      ConditionThen (mark ≡ 255) (BadField c.at) e (
      (segment_of flat p).wrong d e);
}

abbrev pub WrongGrpdef : ObjParts → Wrong
WrongGrpdef p c e =
    PartThen (index_from_one (length p.names)) c e λ name d.
    WrongItem (member (is_flat p name) p) d e

-- ---- PUBDEF

abbrev pub symbol : Bool → Part PubDef
symbol wide = record {
  form = pub_form wide;
  good = λ d. d.type ≡ 0;
  wrong = λ c e.
      PartThen a_name c e λ name c1.
      PartThen (a_number (width wide)) c1 e λ offset c2.
      no_type.wrong c2 e;
}

abbrev pub WrongPubdef : Bool → ObjParts → Wrong
WrongPubdef wide p c e =
    PartThen (index_or_none (length p.module.groups)) c e λ group c1.
    PartThen (plain_segment_or_none p) c1 e λ segment c2.
    PartThen (only (segment == 0) (a_number 2)) c2 e λ frame c3.
    WrongItem (symbol wide) c3 e

-- ---- EXTDEF

abbrev pub external : Part ExtDef
external = record {
  form = ext_form;
  good = λ d. d.type ≡ 0;
  wrong = λ c e.
      PartThen a_name c e λ name d.
      no_type.wrong d e;
}

abbrev pub WrongExtdef : Wrong
WrongExtdef c e = WrongItem external c e

-- ---- COMDEF. A length over the limit is told at its first number, once all of them were spelled.

abbrev pub WrongFar : Wrong
WrongFar c e =
    PartThen a_length c e λ count d.
    PartThen a_length d e λ size _.
    Breaks (count * size ≤ MAX_DATA) (BadField c.at) e

abbrev pub WrongNear : Wrong
WrongNear c e =
    PartThen a_length c e λ size _.
    Breaks (size ≤ MAX_DATA) (BadField c.at) e

abbrev pub communal : Part Communal
communal = record {
  form = communal_form;
  good = λ k. (communal_of k).len ≤ MAX_DATA;
  wrong = λ c e.
      PartThen a_byte c e λ kind d.
      ConditionThen ((kind ≡ 0x61) ⊎ (kind ≡ 0x62)) (BadField c.at) e (
      ((kind ≡ 0x61) × WrongFar d e) ⊎ ((kind ≡ 0x62) × WrongNear d e));
}

abbrev pub common_symbol : Part ComDef
common_symbol = record {
  form = com_form;
  good = λ d. (d.type ≡ 0) × communal.good d.communal;
  wrong = λ c e.
      PartThen a_name c e λ name c1.
      PartThen no_type c1 e λ type c2.
      communal.wrong c2 e;
}

abbrev pub WrongComdef : Wrong
WrongComdef c e = WrongItem common_symbol c e
