-- Images of links: what an image has of a link, and that it is then the link's module.
use Rattle.std.specs.Prelude.{◌≡◌, ◌+◌}
use Rattle.lx_types.specs.declared.parts.TheConstants.{MODULE_INIT_EACH, MODULE_TERM_EACH}
use Rattle.link_model.specs.Link.{Link}
use Rattle.link_model.specs.Flags.{flag}
use Rattle.link_model.specs.Layout.{objects, stack_top}
use Rattle.link_model.specs.Start.{Start}
use Rattle.link_model.specs.Header.{auto_data}
use Rattle.link_model.specs.Patches.{object_bytes}
use Rattle.link_model.specs.Records.{object_records}
use Rattle.lx_exports.specs.Exports as entries
use Rattle.image_model.specs.Exported as links
use Rattle.image_model.specs.Linked.{image_of, called, link_modules, link_procs}
use Rattle.lx_write.specs.declared.image.Image.{Image}
use Rattle.lx_write.specs.Value.{image_value}

-- The image has the parts of the link.
pub record IsImageOfLink (l : Link) (m : Image) : Type 0 where
  pub kind : m.kind ≡ l.def.kind
  pub name : m.name ≡ called l
  pub about : m.about ≡ l.def.about
  -- beside a library's own flag
  pub flags : m.flags ≡ flag l.def.init_each MODULE_INIT_EACH + flag l.def.term_each MODULE_TERM_EACH
  pub start : m.start ≡ Start l
  pub stack : m.stack ≡ stack_top l
  pub heap : m.heap ≡ l.def.heap
  pub auto : m.auto ≡ auto_data l
  pub objects : m.objects ≡ objects l
  pub bytes : m.bytes ≡ object_bytes l
  pub fixes : m.fixes ≡ object_records l
  pub imports : m.imports ≡ link_modules l
  pub procs : m.procs ≡ link_procs l
  pub exports : entries.exported_of m.exports ≡ links.exported_of l

-- Then its module is the link's, and so is its file.
abbrev pub LinkImagesAreWritten : Type 0
LinkImagesAreWritten = (l : Link) (m : Image) → IsImageOfLink l m → image_value m ≡ image_of l
