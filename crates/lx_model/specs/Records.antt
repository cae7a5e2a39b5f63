-- Fixup records: how records are read up to the first fault.
-- "32-bit Linear eXecutable Module Format": "Fixup Record Table".
use Rattle.std.specs.Prelude.{ℕ, ◌==◌, List, [], ◌∷◌, length, map, Option, Some, None, Ok, Err, if◌then◌else◌, ℤ}
use Rattle.std.specs.List.{flat_map}
use Rattle.lx_bytes.specs.Cursor.{Cursor}
use Rattle.lx_types.specs.declared.refusal.LxKind.TheVariants as kinds
use Rattle.lx_types.specs.declared.fix.FixTarget.{FixTarget}
use Rattle.lx_types.specs.declared.fix.Fix.{Fix}
use Rattle.lx_model.specs.Reading.{fault, cursor, number, Read, ◌>>=◌, Step, ends, Many, many}
use Rattle.lx_model.specs.Sources.{SourceKind, source_of_byte}
use Rattle.lx_model.specs.RecordFields.{has, target_at, additive_at, offset_at, offsets_at}
use Rattle.lx_model.specs.declared.record_fields.TheConstants.{CHAIN}

-- ---- a record

-- the fixups of a record: one for each offset
abbrev pub fixes_at_offsets : SourceKind → FixTarget → ℕ → List ℤ → List Fix
fixes_at_offsets kind target additive offsets =
    map (λ offset. record { source = kind.source; alias = kind.alias; offset = offset; target = target; additive = additive }) offsets

-- one source: the offset, the target, the additive
unfoldable pub single_at : SourceKind → ℕ → Cursor → Read (List Fix)
single_at kind flags c = do
  offset ← offset_at kind.source c
  target ← target_at kind.source flags offset.1
  additive ← additive_at flags target.1
  Ok (fixes_at_offsets kind target.0 additive.0 (offset.0 ∷ []), additive.1)

-- a list: how many, the target, the additive, the offsets
unfoldable pub list_at : SourceKind → ℕ → Cursor → Read (List Fix)
list_at kind flags c = do
  count ← number 1 c
  target ← target_at kind.source flags count.1
  additive ← additive_at flags target.1
  offsets ← offsets_at count.0 kind.source additive.1
  Ok (fixes_at_offsets kind target.0 additive.0 offsets.0, offsets.1)

-- A record is a source byte, a flags byte, and one source or a list. One that begins a chain in the page
-- image is no source.
abbrev pub after_source : ℕ → Option SourceKind → Cursor → Read (List Fix)
after_source at None c = Err (fault kinds.BadSource at)
after_source at (Some kind) c = do
  flags ← number 1 c
  if has CHAIN flags.0 then Err (fault kinds.BadSource at) else if kind.listed then list_at kind flags.0 flags.1 else single_at kind flags.0 flags.1

unfoldable pub record_at : Cursor → Read (List Fix)
record_at c = do
  source ← number 1 c
  after_source c.at (source_of_byte source.0) source.1

-- ---- the records of a page

-- a record: its place, and its fixups
pub record Record : Type 0 where
  pub at : ℕ
  pub fixes : List Fix

-- Records stand up to the end of the bytes. Nothing has to be known of those before.
unfoldable pub next_record : Step (Unit {0}) Record
next_record known c =
    if length c.left == 0 then ends c else do
      fixes ← record_at c
      Ok (Some (record { at = c.at; fixes = fixes.0 }, tt), fixes.1)

-- the records in bytes that stand at a place of the file, up to the first fault
abbrev pub records_at : ℕ → List ℕ → Many Record
records_at at bytes = many next_record tt (cursor at bytes)

-- the same where places are places in the bytes
abbrev pub records_in : List ℕ → Many Record
records_in bytes = records_at 0 bytes

-- the fixups of the records, in order
abbrev pub fixes_of : Many Record → List Fix
fixes_of records = flat_map (λ r. r.fixes) records.items
