-- Reading an object file and a library from their first byte on.
-- "Record Format"; "Object Record Order"; "Microsoft LIB Library Format".
use Rattle.omf_model.specs.RawRecord.{RawRecord, raw_at, whole_at}
use Rattle.std.specs.Prelude.{ℕ, ◌+◌, ◌-◌, ◌%◌, Bool, true, false, ◌||◌, List, [], ◌∷◌, length, Result, Ok, Err, ◌==◌, if◌then◌else◌}
use Rattle.std.specs.List.{list_any}
use Rattle.lx_bytes.specs.Cursor.{Cursor, advance}
use Rattle.obj_types.specs.declared.refusal.OmfRefusal.{OmfRefusal}
use Rattle.obj_types.specs.declared.refusal.OmfRefusal.TheVariants.{Short, BadField, UnknownType}
use Rattle.obj_types.specs.declared.object.ObjModule.{ObjModule}
use Rattle.obj_types.specs.declared.parts.ObjParts.{ObjParts}
use Rattle.obj_types.specs.Fresh.{fresh_parts}
use Rattle.omf_frame.specs.declared.record_type.TheConstants.{THEADR, LHEADR, COMENT, MODEND, MODEND_32, EXTDEF, PUBDEF, PUBDEF_32, LINNUM, LINNUM_32, LNAMES, SEGDEF, SEGDEF_32, GRPDEF, FIXUPP, FIXUPP_32, LEDATA, LEDATA_32, LIDATA, LIDATA_32, COMDEF, LEXTDEF, LEXTDEF_32, LPUBDEF, LPUBDEF_32, COMDAT, COMDAT_32, LIBRARY_HEADER, LIBRARY_END}
use Rattle.omf_fields.specs.Within.{within}
use Rattle.lx_types.specs.Answers.{◌>>=◌}
use Rattle.omf_fields.specs.Fields.{Reading, check, name_at}
use Rattle.omf_model.specs.Record.{Record, header, passed, is_end}
use Rattle.omf_model.specs.ReadNames.{lnames_at, segdef_at, grpdef_at, pubdef_at, extdef_at, comdef_at}
use Rattle.omf_model.specs.ReadComments.{coment_at}
use Rattle.omf_model.specs.ReadData.{ledata_at, lidata_at}
use Rattle.omf_model.specs.ReadFixups.{fixupp_at, modend_at}
use Rattle.omf_model.specs.ReadComdat.{comdat_at}
use Rattle.omf_model.specs.Add.{add}
use Rattle.omf_model.specs.Finished.{finished}

-- ---- contents

abbrev pub contents_of : RawRecord → Cursor
contents_of f = record { at = f.at + 3; left = f.contents }

-- The odd type of a pair has offsets and lengths of 4 bytes.
abbrev pub is_wide : ℕ → Bool
is_wide ty = ty % 2 == 1

-- How the contents of a record of a type are read after the records before it.
abbrev pub reader_of : ℕ → ObjParts → ℕ → Cursor → Result Record OmfRefusal
reader_of ty =
    if ty == COMENT then (λ p at c. coment_at c)
    else if ty == MODEND || ty == MODEND_32 then (λ p at c. modend_at (is_wide ty) p c)
    else if ty == EXTDEF then (λ p at c. extdef_at false c)
    else if ty == PUBDEF || ty == PUBDEF_32 then (λ p at c. pubdef_at false (is_wide ty) p c)
    else if ty == LNAMES then (λ p at c. lnames_at c)
    else if ty == SEGDEF || ty == SEGDEF_32 then (λ p at c. segdef_at (is_wide ty) p c)
    else if ty == GRPDEF then (λ p at c. grpdef_at p c)
    else if ty == FIXUPP || ty == FIXUPP_32 then (λ p at c. fixupp_at (is_wide ty) p at c)
    else if ty == LEDATA || ty == LEDATA_32 then (λ p at c. ledata_at (is_wide ty) p at c)
    else if ty == LIDATA || ty == LIDATA_32 then (λ p at c. lidata_at (is_wide ty) p at c)
    else if ty == COMDEF then (λ p at c. comdef_at c)
    else if ty == LEXTDEF || ty == LEXTDEF_32 then (λ p at c. extdef_at true c)
    else if ty == LPUBDEF || ty == LPUBDEF_32 then (λ p at c. pubdef_at true (is_wide ty) p c)
    else if ty == COMDAT || ty == COMDAT_32 then (λ p at c. comdat_at (is_wide ty) p at c)
    else if ty == THEADR || ty == LHEADR || ty == LINNUM || ty == LINNUM_32 then (λ p at c. Ok passed)
    else (λ p at c. Err (UnknownType at ty))

-- The next record.
unfoldable pub record_at : ObjParts → Cursor → Reading Record
record_at p c = do
  f ← raw_at c
  r ← reader_of f.ty p f.at (contents_of f)
  Ok (r, f.after)

-- The first record of a module is a THEADR or an LHEADR.
unfoldable pub header_at : Cursor → Reading Record
header_at c = do
  f ← raw_at c
  _ ← check (f.ty == THEADR || f.ty == LHEADR) (BadField c.at)
  name ← name_at (contents_of f)
  Ok (header name.0, f.after)

-- ---- modules

-- The records up to MODEND. There are no more of them than bytes.
abbrev pub rest_turn : (ObjParts × Cursor → Reading ObjParts) → ObjParts × Cursor → Reading ObjParts
rest_turn others_at s = do
  r ← record_at s.0 s.1
  if is_end r.0 then Ok (add s.0 r.0, r.1) else others_at (add s.0 r.0, r.1)

abbrev pub records_missing : ObjParts × Cursor → Reading ObjParts
records_missing s = Err (Short s.1.at)

unfoldable pub rest_within : ℕ → ObjParts → Cursor → Reading ObjParts
rest_within most p c = within rest_turn records_missing most (p, c)

abbrev pub rest_at : ObjParts → Cursor → Reading ObjParts
rest_at p c = rest_within (length c.left) p c

unfoldable pub module_at : Cursor → Reading ObjModule
module_at c = do
  first ← header_at c
  p ← rest_within (length c.left) (add fresh_parts first.0) first.1
  Ok (finished p.0, p.1)

-- An object file. The bytes after MODEND are not read.
unfoldable pub object_of : List ℕ → Result ObjModule OmfRefusal
object_of bytes = module_at (record { at = 0; left = bytes }) >>= λ m. Ok m.0

-- ---- libraries

abbrev pub is_page_size : ℕ → Bool
is_page_size n = list_any (λ size. size == n) (16 ∷ 32 ∷ 64 ∷ 128 ∷ 256 ∷ 512 ∷ 1024 ∷ 2048 ∷ 4096 ∷ 8192 ∷ 16384 ∷ 32768 ∷ [])

-- The cursor at the next multiple of the page size.
abbrev pub up_to_page : ℕ → Cursor → Cursor
up_to_page size c = advance ((size - c.at % size) % size) c

-- F1h in a module's place ends a library, and nothing after its type byte is read.
abbrev pub ends_library : List ℕ → Bool
ends_library [] = false
ends_library (b ∷ rest) = b == LIBRARY_END

abbrev pub modules_turn : ℕ → (Cursor → Result (List ObjModule) OmfRefusal) → Cursor → Result (List ObjModule) OmfRefusal
modules_turn size others_at c = if ends_library c.left then Ok [] else do
  m ← module_at c
  others ← others_at (up_to_page size m.1)
  Ok (m.0 ∷ others)

abbrev pub module_missing : Cursor → Result (List ObjModule) OmfRefusal
module_missing c = Err (Short c.at)

unfoldable pub modules_within : ℕ → ℕ → Cursor → Result (List ObjModule) OmfRefusal
modules_within most size c = within (modules_turn size) module_missing most c

abbrev pub modules_at : ℕ → Cursor → Result (List ObjModule) OmfRefusal
modules_at size c = modules_within (length c.left) size c

-- A library's header: F0h, and a length that gives the page size. Its checksum is not tried.
unfoldable pub library_of : List ℕ → Result (List ObjModule) OmfRefusal
library_of bytes = do
  f ← whole_at (record { at = 0; left = bytes })
  _ ← check (f.ty == LIBRARY_HEADER) (BadField 0)
  _ ← check (is_page_size f.after.at) (BadField 1)
  modules_within (length bytes) f.after.at f.after
