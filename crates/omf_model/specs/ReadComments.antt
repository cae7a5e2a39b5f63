-- Reading the comments. "88h COMENT".
use Rattle.std.specs.Prelude.{ℕ, not, List, length, Result, Ok, Err, nat_lt, nat_le, ◌==◌, if◌then◌else◌}
use Rattle.lx_bytes.specs.Cursor.{Cursor}
use Rattle.obj_types.specs.declared.refusal.OmfRefusal.{OmfRefusal}
use Rattle.obj_types.specs.declared.refusal.OmfRefusal.TheVariants.{BadField}
use Rattle.lx_types.specs.Answers.{◌>>=◌}
use Rattle.omf_frame.specs.declared.comment_class.TheConstants.{DEFAULT_LIBRARY, EXTENSION, IMPDEF, EXPDEF}
use Rattle.omf_fields.specs.Fields.{Reading, check, byte_at, number_at, name_at, where_so}
use Rattle.omf_model.specs.Record.{Record, comment, default_library, impdef, expdef, ImpEntry, by_ordinal, by_name}

-- A name that may not be empty.
unfoldable pub given_name_at : Cursor → Reading (List ℕ)
given_name_at c = do
  name ← name_at c
  _ ← check (not (length name.0 == 0)) (BadField c.at)
  Ok name

unfoldable pub entry_at : ℕ → Cursor → Reading ImpEntry
entry_at flag c =
    if flag == 0 then (name_at c >>= λ name. Ok (by_name name.0, name.1))
    else (number_at 2 c >>= λ ordinal. Ok (by_ordinal ordinal.0, ordinal.1))

unfoldable pub impdef_at : Cursor → Result Record OmfRefusal
impdef_at c = do
  flag ← byte_at c
  internal ← name_at flag.1
  from ← given_name_at internal.1
  entry ← entry_at flag.0 from.1
  Ok (impdef (record { flag = flag.0; internal = internal.0; from = from.0; entry = entry.0 }))

unfoldable pub expdef_at : Cursor → Result Record OmfRefusal
expdef_at c = do
  flag ← byte_at c
  exported ← given_name_at flag.1
  internal ← name_at exported.1
  ordinal ← where_so (nat_le 128 flag.0) (number_at 2) internal.1
  Ok (expdef (record { flag = flag.0; exported = exported.0; internal = internal.0; ordinal = ordinal.0 }))

-- The subtypes of the class of extensions.
unfoldable pub extension_at : Cursor → Result Record OmfRefusal
extension_at c = do
  subtype ← byte_at c
  if subtype.0 == IMPDEF then impdef_at subtype.1 else if subtype.0 == EXPDEF then expdef_at subtype.1 else Ok comment

-- The text of the class of default libraries is a name without a length byte.
abbrev pub library_at : Cursor → Result Record OmfRefusal
library_at c = if nat_lt 255 (length c.left) then Err (BadField c.at) else Ok (default_library c.left)

unfoldable pub coment_at : Cursor → Result Record OmfRefusal
coment_at c = do
  flags ← byte_at c
  class ← byte_at flags.1
  if class.0 == DEFAULT_LIBRARY then library_at class.1 else if class.0 == EXTENSION then extension_at class.1 else Ok comment
