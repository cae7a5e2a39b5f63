-- The first fault of a record, of a module's records and of a file, by what is spelled. "Record Format", "Object Record Order".
use Rattle.std.specs.Prelude.{◌≡◌, ℕ, ◌+◌, ◌⊎◌, Bool, List, ◌++◌, length, Contains}
use Rattle.lx_bytes.specs.Cursor.{Cursor}
use Rattle.obj_types.specs.declared.refusal.OmfRefusal.{OmfRefusal}
use Rattle.obj_types.specs.declared.refusal.OmfRefusal.TheVariants.{BadField}
use Rattle.obj_types.specs.declared.parts.ObjParts.{ObjParts}
use Rattle.omf_frame.specs.Frame.{BeginsRecord}
use Rattle.omf_frame.specs.Refusal.{Refuses}
use Rattle.omf_frame.specs.declared.refusal.FrameRefusal.{FrameRefusal}
use Rattle.omf_model.specs.RawRecord.{as_omf}
use Rattle.omf_model.specs.Record.{Record}
use Rattle.omf_model.specs.Spelling.{types_of, contents_form, SpellsAll}
use Rattle.omf_model.specs.Good.{GoodAfter}
use Rattle.omf_model.specs.Begun.{AreBegun, IsOpen}
use Rattle.omf_model.specs.Parts.{parts_of}
use Rattle.omf_faults.specs.Parts.{Wrong, ConditionThen}
use Rattle.omf_faults.specs.FieldParts.{a_name}
use Rattle.omf_faults.specs.WrongContents.{WrongContents}

-- The contents spell a record of this type that is good after those before it.
pub record GoodContents (ty : ℕ) (p : ObjParts) (c : Cursor) : Type 0 where
  pub spelled : Record
  pub wide : Bool
  pub is_type : Contains (types_of spelled) (ty, wide)
  pub content : contents_form wide spelled c.left
  pub good : GoodAfter p spelled

-- What stands round a record's contents is wrong, as its bytes say: it is cut off, or of no known type, or its checksum is wrong.
abbrev pub WrongFrame : Wrong
WrongFrame c e = (refusal : FrameRefusal) × Refuses c refusal × (e ≡ as_omf refusal)

-- The contents of a record at a cursor.
abbrev pub contents_at : Cursor → List ℕ → Cursor
contents_at c body = record { at = c.at + 3; left = body }

-- No record stands there; or one does, and its contents are wrong, by its type.
abbrev pub FrameThen : Cursor → OmfRefusal → (ℕ → Cursor → Type 0) → Type 0
FrameThen c e Inside =
    WrongFrame c e
    ⊎ ((ty : ℕ) × (body : List ℕ) × (rest : List ℕ) × BeginsRecord c.left ty body rest × Inside ty (contents_at c body))

-- a record after those before it
abbrev pub WrongRecord : ObjParts → Wrong
WrongRecord p c e = FrameThen c e λ ty d. WrongContents ty p c.at d e

-- A module's first record is a THEADR or an LHEADR: another one is told at its first byte.
abbrev pub WrongHeader : Wrong
WrongHeader c e =
    FrameThen c e λ ty d.
    ConditionThen ((ty ≡ 0x80) ⊎ (ty ≡ 0x82)) (BadField c.at) e (
    a_name.wrong d e)

-- A module's records stand there without fault, none of which ends it, and what stands after them is wrong.
pub record WrongAfterRecords (at : ℕ) (bytes : List ℕ) (e : OmfRefusal) : Type 0 where
  pub records : List Record
  pub front : List ℕ
  pub back : List ℕ
  pub joined : bytes ≡ front ++ back
  pub spelled : SpellsAll records front
  pub begun : AreBegun records
  pub open_ended : IsOpen records
  pub wrong : WrongRecord (parts_of records) (record { at = at + length front; left = back }) e

-- a module from a place on
abbrev pub WrongModule : ℕ → List ℕ → OmfRefusal → Type 0
WrongModule at bytes e = WrongHeader (record { at = at; left = bytes }) e ⊎ WrongAfterRecords at bytes e
