-- What is wrong in the record of a COMDAT: a line a field or a condition, in their order. "C2h COMDAT".
use Rattle.std.specs.Prelude.{◌≡◌, ◌≢◌, ℕ, ◌+◌, ◌≤◌, Bool, true, false, List, length}
use Rattle.std.specs.List.{list_any}
use Rattle.obj_types.specs.declared.limits.TheConstants.{MAX_DATA}
use Rattle.obj_types.specs.declared.refusal.OmfRefusal.{OmfRefusal}
use Rattle.obj_types.specs.declared.refusal.OmfRefusal.TheVariants.{BadField, DataRange, TooMany, DataOverFix}
use Rattle.obj_types.specs.declared.parts.ObjParts.{ObjParts}
use Rattle.omf_fields.specs.Fields.{width}
use Rattle.omf_model.specs.Comdat.{Base, is_continued, are_flags, is_selected, has_base, is_begun, number_of}
use Rattle.omf_model.specs.Items.{name_with, begun_names, data_so_far}
use Rattle.omf_model.specs.Fixups.{touches}
use Rattle.omf_model.specs.Spelling.{base_form}
use Rattle.omf_model.specs.Good.{GoodBase}
use Rattle.omf_faults.specs.Parts.{Part, Wrong, PartThen, ConditionThen, Breaks, only}
use Rattle.omf_faults.specs.FieldParts.{a_byte, a_number, index_from_one, index_or_none, no_type, plain_segment_or_none}

-- The base: segment 0 is told otherwise than one that there is not.
abbrev pub WrongBaseSegment : ObjParts → Wrong
WrongBaseSegment p c e =
    PartThen (plain_segment_or_none p) c e λ segment _.
    Breaks (segment ≢ 0) (BadField c.at) e

abbrev pub the_base : ObjParts → Part Base
the_base p = record {
  form = base_form;
  good = GoodBase p;
  wrong = λ c e.
      PartThen (index_or_none (length p.module.groups)) c e λ group d.
      WrongBaseSegment p d e;
}

-- ---- conditions on the whole, after all fields

-- What is asked of the data: which name it is of, whether it goes on, and where it lies in its segment.
pub record Named : Type 0 where
  pub name : List ℕ
  pub continued : Bool
  pub offset : ℕ
  pub len : ℕ

-- A continuation goes on with a COMDAT of the module, and another record begins one.
abbrev pub IsInTurn : ObjParts → Named → Type 0
IsInTurn p d = is_begun (begun_names p.comdats) d.name ≡ d.continued

abbrev pub number_for : ObjParts → Named → ℕ
number_for p d = number_of (begun_names p.comdats) d.name

abbrev pub WrongNamed : ObjParts → (record_at offset_at : ℕ) → Named → OmfRefusal → Type 0
WrongNamed p record_at offset_at d e =
    ConditionThen (IsInTurn p d) (BadField record_at) e (
    ConditionThen (d.offset + d.len ≤ MAX_DATA) (DataRange offset_at) e (
    ConditionThen (data_so_far p + d.len ≤ MAX_DATA) (TooMany record_at) e (
    Breaks (list_any (touches (number_for p d) d.offset d.len) p.module.fixes ≡ false) (DataOverFix offset_at) e)))

-- ---- the record

abbrev pub WrongComdat : Bool → ObjParts → ℕ → Wrong
WrongComdat wide p record_at c e =
    PartThen a_byte c e λ flags c1.
    ConditionThen (are_flags flags ≡ true) (BadField c.at) e (
    PartThen a_byte c1 e λ attributes c2.
    ConditionThen (is_selected attributes ≡ true) (BadField c1.at) e (
    PartThen a_byte c2 e λ align c3.
    ConditionThen (align ≤ 5) (BadField c2.at) e (
    PartThen (a_number (width wide)) c3 e λ offset c4.
    PartThen no_type c4 e λ type c5.
    PartThen (only (has_base attributes) (the_base p)) c5 e λ base c6.
    PartThen (index_from_one (length p.names)) c6 e λ name c7.
    WrongNamed p record_at c3.at (record {
      name = name_with p.names name;
      continued = is_continued flags;
      offset = offset;
      len = length c7.left;
    }) e)))
