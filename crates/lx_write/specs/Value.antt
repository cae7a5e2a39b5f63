-- Which module an image in memory is, and which images can be written.
-- "32-bit Linear eXecutable Module Format": "LX Header", "Object Table", "Fixup Record Table".
use Rattle.std.specs.Prelude.{◌≡◌, ℕ, ◌<◌, ◌==◌, not, true, List, length, map, All, IfSome, bit_or}
use Rattle.std.specs.List.{flat_map, list_any, AllByRecursion}
use Rattle.lx_types.specs.Sound.{IsNumberOf}
use Rattle.lx_types.specs.declared.fix.Fix.{Fix}
use Rattle.lx_types.specs.declared.fix.FixTarget.{FixTarget}
use Rattle.lx_types.specs.declared.fix.FixTarget.TheVariants.{Internal, Ordinal, Named, Own}
use Rattle.lx_types.specs.declared.parts.TheConstants.{MODULE_LIBRARY}
use Rattle.link_model.specs.Order.{is_program}
use Rattle.link_model.specs.Flags.{flag}
use Rattle.link_model.specs.ImportTables.{with_offset}
use Rattle.link_model.specs.Records.{page_count}
use Rattle.lx_model.specs.ExportTables.{resident_table, other_table}
use Rattle.lx_model.specs.JoinedEntries.{bundles_for}
use Rattle.lx_model.specs.JoinedRecords.{records_for}
use Rattle.lx_exports.specs.Exports.{ExportFits, exported_of}
use Rattle.lx_fixrec.specs.Writable.{MayBeWritten}
use Rattle.image_model.specs.Image as written
use Rattle.image_model.specs.PageForms.{pages_in, form_of_page}
use Rattle.image_model.specs.ObjectTable.{object_heads_from}
use Rattle.lx_write.specs.declared.image.Image.{Image}

-- ---- the module

-- A library has a flag of its own, beside the image's.
abbrev pub flags_of : Image → ℕ
flags_of m = bit_or (flag (not (is_program m.kind)) MODULE_LIBRARY) m.flags

-- A target by name has the name's offset in the file's table.
abbrev pub fix_in_file : Image → Fix → Fix
fix_in_file m f = record f { target = with_offset m.procs f.target }

-- The fixups of each page of the page table.
unfoldable pub page_fixes : Image → List (List Fix)
page_fixes m = map (map (fix_in_file m)) (flat_map (λ pages. pages) m.fixes)

unfoldable pub image_value : Image → written.Image
image_value m = record {
  flags = flags_of m;
  start = m.start;
  stack = m.stack;
  auto = m.auto;
  heap = m.heap;
  objects = object_heads_from 1 m.objects;
  pages = map form_of_page (flat_map pages_in m.bytes);
  records = map records_for (page_fixes m);
  residents = resident_table m.name (exported_of m.exports);
  others = other_table m.name m.about (exported_of m.exports);
  entries = bundles_for (exported_of m.exports);
  imports = m.imports;
  procs = m.procs;
}

-- ---- what is asked of an image

-- The object, the import module and the name, or the export, that a target names is there.
abbrev pub TargetIsThere : Image → FixTarget → Type 0
TargetIsThere m (Internal object offset) = IsNumberOf object (length m.objects)
TargetIsThere m (Ordinal import ordinal) = IsNumberOf import (length m.imports)
TargetIsThere m (Named import k) = IsNumberOf import (length m.imports) × (k < length m.procs)
TargetIsThere m (Own ordinal) = list_any (λ x. x.ordinal == ordinal) (exported_of m.exports) ≡ true

pub record CanBeWritten (m : Image) : Type 0 where
  -- each object has as many bytes as its size, and fixups of each of its pages
  pub sizes : map length m.bytes ≡ map (λ o. o.size) m.objects
  pub pages : map length m.fixes ≡ map (λ o. page_count o.size) m.objects
  -- the fixups of each page can be records, and what they name is there
  pub fixes : All (All MayBeWritten) m.fixes
  pub targets : All (All (All (λ f. TargetIsThere m f.target))) m.fixes
  -- so are the objects of the start and of the stack
  pub start : IfSome m.start (λ place. IsNumberOf place.0 (length m.objects))
  pub stack : IfSome m.stack (λ place. IsNumberOf place.0 (length m.objects))
  -- the module has a name, and its exports fit the entry table
  pub named : 0 < length m.name
  pub exports : AllByRecursion ExportFits m.exports
