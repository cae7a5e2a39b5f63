-- Whole files: what their readers speak of besides the definitions.
use Rattle.std.specs.Prelude.{◌≡◌, ℕ, ◌||◌, Bool, List, Option, Result, Ok, ◌==◌}
use Rattle.lx_bytes.specs.Cursor.{Cursor}
use Rattle.obj_types.specs.declared.object.ObjModule.{ObjModule}
use Rattle.obj_types.specs.declared.object.StartAt.{StartAt}
use Rattle.obj_types.specs.declared.parts.ObjParts.{ObjParts}
use Rattle.obj_types.specs.Fresh.{fresh_parts}
use Rattle.lx_types.specs.Answers.{◌>>=◌}
use Rattle.omf_frame.specs.declared.record_type.TheConstants.{LIBRARY_HEADER}
use Rattle.omf_fields.specs.Fields.{Reading, check}
use Rattle.omf_frame.specs.declared.omf_record.Rec.{Rec}
use Rattle.omf_model.specs.Add.{add}
use Rattle.omf_model.specs.Finished.{finished}
use Rattle.omf_model.specs.RawRecord.{raw_at, whole_at}
use Rattle.omf_model.specs.ReadModule.{header_at, is_page_size, rest_at}
use Rattle.obj_types.specs.declared.refusal.OmfRefusal.{OmfRefusal}
use Rattle.obj_types.specs.declared.refusal.OmfRefusal.TheVariants.{BadField}

-- The unfinished module with a start address.
abbrev pub started : ObjParts → Option StartAt → ObjParts
started p start = record p { «module» = record p.module { start = start } }

-- The record stands at the cursor, and the second cursor after it.
pub record StandsAt (rec : Rec) (old new : Cursor) : Type 0 where
  pub checksum : ℕ
  pub raw : raw_at old ≡ Ok (record { at = rec.at; ty = rec.ty; contents = rec.body.now; checksum = checksum; after = new })

-- A MODEND ends the module.
abbrev pub ends_module : ℕ → Bool
ends_module ty = ty == 0x8A || ty == 0x8B

-- The module that its first record begins.
unfoldable pub begun_at : Cursor → Reading ObjParts
begun_at c = header_at c >>= λ first. Ok (add fresh_parts first.0, first.1)

-- The module that the records end.
unfoldable pub finished_at : ObjParts → Cursor → Reading ObjModule
finished_at p c = rest_at p c >>= λ q. Ok (finished q.0, q.1)

-- The page size that a library's header gives.
unfoldable pub page_size_of : List ℕ → Result ℕ OmfRefusal
page_size_of bytes = do
  f ← whole_at (record { at = 0; left = bytes })
  _ ← check (f.ty == LIBRARY_HEADER) (BadField 0)
  _ ← check (is_page_size f.after.at) (BadField 1)
  Ok f.after.at
