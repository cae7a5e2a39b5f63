-- What is taken of a cursor's bytes.
use Rattle.std.specs.Prelude.{◌≡◌, ◌<◌, length, Result, Ok, Err}
use Rattle.lx_bytes.specs.Cursor.{Cursor}
use Rattle.lx_bytes.specs.LittleEndian.{AreBytes}
use Rattle.lx_bytes.specs.declared.cursor.Short.{Short as BytesShort}
use Rattle.obj_types.specs.declared.refusal.OmfRefusal.{OmfRefusal}
use Rattle.obj_types.specs.declared.refusal.OmfRefusal.TheVariants.{Short}
use Rattle.omf_fields.specs.Fields.{Reading}

-- A read of the byte cursor, with the refusal of object files.
abbrev pub with_short : {A : Type 0} → Result A BytesShort → Result A OmfRefusal
with_short (Ok x) = Ok x
with_short (Err short) = Err (Short short.at)

-- What is read takes a byte at least, and bytes are left.
abbrev pub TakesBytes : {A : Type 0} → (Cursor → Reading A) → Type 0
TakesBytes {A} read = (c : Cursor) (x : A) (d : Cursor) → AreBytes c.left → read c ≡ Ok (x, d) → (length d.left < length c.left) × AreBytes d.left
