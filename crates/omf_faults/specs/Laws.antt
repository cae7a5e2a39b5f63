-- Readings that fail exactly with what is wrong.
use Rattle.std.specs.Prelude.{◌≡◌, ◌↔◌, Result, Err}
use Rattle.lx_bytes.specs.Cursor.{Cursor}
use Rattle.lx_bytes.specs.LittleEndian.{AreBytes}
use Rattle.obj_types.specs.declared.refusal.OmfRefusal.{OmfRefusal}
use Rattle.omf_model.specs.Record.{Record}
use Rattle.omf_faults.specs.Parts.{Wrong}

-- Over bytes the reading of a record's contents fails with a refusal exactly where that is what is wrong.
abbrev pub FailsAs : (Cursor → Result Record OmfRefusal) → Wrong → Type 0
FailsAs read WrongHere = (c : Cursor) (e : OmfRefusal) → AreBytes c.left → (read c ≡ Err e) ↔ WrongHere c e
