-- The module that is written of a link.
use Rattle.std.specs.Prelude.{◌≡◌, ℕ, ◌+◌, not, List, map, unwrap_or}
use Rattle.std.specs.List.{flat_map}
use Rattle.lx_types.specs.declared.fix.Fix.{Fix}
use Rattle.lx_types.specs.declared.parts.TheConstants.{MODULE_LIBRARY, MODULE_INIT_EACH, MODULE_TERM_EACH}
use Rattle.obj_types.specs.declared.definition.DefFile.{DefFile}
use Rattle.obj_types.specs.declared.input.LinkInput.{LinkInput}
use Rattle.link_model.specs.Link.{Link, IsLinkOf}
use Rattle.link_model.specs.Order.{is_program}
use Rattle.link_model.specs.Flags.{flag}
use Rattle.link_model.specs.Layout.{objects, stack_top}
use Rattle.link_model.specs.Start.{Start}
use Rattle.link_model.specs.Header.{auto_data}
use Rattle.link_model.specs.Patches.{object_bytes}
use Rattle.link_model.specs.Records.{object_records}
use Rattle.link_model.specs.ImportTables.{modules_in, procs_in, link_pairs, with_offset}
use Rattle.lx_model.specs.ExportTables.{resident_table, other_table}
use Rattle.lx_model.specs.JoinedEntries.{bundles_for}
use Rattle.lx_model.specs.JoinedRecords.{records_for}
use Rattle.lx_model.specs.RecordSpelling.{Written}
use Rattle.image_model.specs.Image.{Image, PageForm}
use Rattle.image_model.specs.PageForms.{pages_in, form_of_page}
use Rattle.image_model.specs.ObjectTable.{object_heads_from}
use Rattle.image_model.specs.Exported.{exported_of}
use Rattle.image_model.specs.File.{file_of}

-- "LX Header", module flags: a library; its initialisation and its termination for each process.
abbrev pub module_flags : DefFile → ℕ
module_flags d = flag (not (is_program d.kind)) MODULE_LIBRARY + flag d.init_each MODULE_INIT_EACH + flag d.term_each MODULE_TERM_EACH

-- ---- imports

abbrev pub link_modules : Link → List (List ℕ)
link_modules l = modules_in (link_pairs l)

abbrev pub link_procs : Link → List (List ℕ)
link_procs l = procs_in (link_pairs l)

-- ---- pages and their records

-- The pages of all objects, in the order of objects.
unfoldable pub page_forms : Link → List PageForm
page_forms l = map form_of_page (flat_map pages_in (object_bytes l))

-- A target by name has the name's offset in the file's table.
abbrev pub fix_in_file : Link → Fix → Fix
fix_in_file l f = record f { target = with_offset (link_procs l) f.target }

-- The fixups of each page of the page table.
unfoldable pub page_fixes : Link → List (List Fix)
page_fixes l = map (map (fix_in_file l)) (flat_map (λ pages. pages) (object_records l))

-- The fixup records of each page of the page table.
unfoldable pub fixup_records : Link → List (List Written)
fixup_records l = map records_for (page_fixes l)

-- ---- the module

-- The name of NAME or LIBRARY, else the stem. The tables have it in upper case.
abbrev pub called : Link → List ℕ
called l = unwrap_or l.def.name l.stem

unfoldable pub image_of : Link → Image
image_of l = record {
  flags = module_flags l.def;
  start = Start l;
  stack = stack_top l;
  auto = auto_data l;
  heap = l.def.heap;
  objects = object_heads_from 1 (objects l);
  pages = page_forms l;
  records = fixup_records l;
  residents = resident_table (called l) (exported_of l);
  others = other_table (called l) l.def.about (exported_of l);
  entries = bundles_for (exported_of l);
  imports = link_modules l;
  procs = link_procs l;
}

-- The image of an input is that of its link, and its file is the one file that the image has. There is one of each, since
-- an input has one list of chosen modules.
pub record IsImageOf (input : LinkInput) (m : Image) : Type 0 where
  pub link : Link
  pub linked : IsLinkOf input link
  pub image : m ≡ image_of link

pub record IsFileOf (input : LinkInput) (file : List ℕ) : Type 0 where
  pub image : Image
  pub written : IsImageOf input image
  pub spelled : file ≡ file_of image
