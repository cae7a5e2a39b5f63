-- What an object file means, and its first fault. "Object Record Order".
use Rattle.std.specs.Prelude.{◌≡◌, ℕ, ◌+◌, List, [], ◌∷◌, ◌++◌, length, Option, Err}
use Rattle.obj_types.specs.declared.refusal.OmfRefusal.{OmfRefusal}
use Rattle.obj_types.specs.declared.object.ObjModule.{ObjModule}
use Rattle.omf_fields.specs.Forms.{◌then◌, anything}
use Rattle.omf_model.specs.Record.{Record, modend, FixData}
use Rattle.omf_model.specs.Spelling.{SpellsAll}
use Rattle.omf_model.specs.Parts.{parts_of}
use Rattle.omf_model.specs.Finished.{finished}
use Rattle.omf_model.specs.Begun.{AreBegun, IsOpen}
use Rattle.omf_model.specs.ReadModule.{header_at, record_at}
pub use Rattle.obj_types.specs.Data.{Data}

-- All records of a module: the last is its only MODEND.
pub record AreModule (rs : List Record) : Type 0 where
  pub begun : AreBegun rs
  pub front : List Record
  pub kind : ℕ
  pub start : Option FixData
  pub ended : rs ≡ front ++ modend kind start ∷ []
  pub once : IsOpen front

-- The bytes spell the records of a module that means m.
pub record IsModule (bytes : List ℕ) (m : ObjModule) : Type 0 where
  pub records : List Record
  pub are : AreModule records
  pub spelled : SpellsAll records bytes
  pub meant : m ≡ finished (parts_of records)

-- An object file means m: it begins with the records of such a module. Bytes after them are not read.
abbrev pub Obj : List ℕ → ObjModule → Type 0
Obj bytes m = ((λ front. IsModule front m) then anything) bytes

-- ---- faults

-- Records of a module without fault, none of which ends it, and after them the fault of what should be
-- the next record. The fault of one record is the first of its fields' conditions that does not hold.
pub record FaultsAfter (at : ℕ) (bytes : List ℕ) (refusal : OmfRefusal) : Type 0 where
  pub records : List Record
  pub front : List ℕ
  pub back : List ℕ
  pub joined : bytes ≡ front ++ back
  pub spelled : SpellsAll records front
  pub begun : AreBegun records
  pub open_ended : IsOpen records
  pub fault : record_at (parts_of records) (record { at = at + length front; left = back }) ≡ Err refusal

-- The first fault of a module from a place on.
pub data FaultAt : ℕ → List ℕ → OmfRefusal → Type 0 where
  at_header : {at : ℕ} {bytes : List ℕ} {refusal : OmfRefusal} → header_at (record { at = at; left = bytes }) ≡ Err refusal → FaultAt at bytes refusal
  after_records : {at : ℕ} {bytes : List ℕ} {refusal : OmfRefusal} → FaultsAfter at bytes refusal → FaultAt at bytes refusal

abbrev pub FirstFault : List ℕ → OmfRefusal → Type 0
FirstFault bytes refusal = FaultAt 0 bytes refusal
