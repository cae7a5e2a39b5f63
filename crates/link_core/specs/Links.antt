-- What an input is linked to, and why it is refused.
use Rattle.std.specs.Prelude.{◌≡◌, ℕ, List, None, Some, length, sum_by}
use Rattle.lx_types.specs.Names.{uppercase}
use Rattle.obj_types.specs.declared.input.LinkInput.{LinkInput}
use Rattle.link_model.specs.declared.refusals.LinkRefusal.{LinkRefusal}
use Rattle.link_model.specs.Link.{Link, IsLinkOf}
use Rattle.link_model.specs.Layout as layout
use Rattle.link_model.specs.Refusal.{link_refusal}
use Rattle.image_model.specs.File.{file_of}
use Rattle.image_model.specs.Linked.{image_of, called, page_forms}
use Rattle.image_model.specs.LinkedFile.{source_count}
use Rattle.lx_write.specs.declared.image.Image.{Image}
use Rattle.link_core.specs.declared.linking.Linked.{Linked}

-- The input's link is accepted; this is the file of its module, with the module's name, which is in upper case, and the
-- numbers of its objects, its pages and the fixups of these.
pub record IsLinked (input : LinkInput) (linked : Linked) : Type 0 where
  pub link : Link
  pub of_input : IsLinkOf input link
  pub accepted : link_refusal link ≡ None
  pub file : linked.file ≡ file_of (image_of link)
  pub name : linked.name ≡ uppercase (called link)
  pub objects : linked.objects ≡ length (layout.objects link)
  pub pages : linked.pages ≡ length (page_forms link)
  pub sources : linked.sources ≡ source_count link

-- The input's link has this refusal.
pub record RefusesLink (input : LinkInput) (refusal : LinkRefusal) : Type 0 where
  pub link : Link
  pub of_input : IsLinkOf input link
  pub refused : link_refusal link ≡ Some refusal

-- What was linked has this file, and what the image tells of it.
pub record IsLinkedImage (m : Image) (written : List ℕ) (linked : Linked) : Type 0 where
  pub file : linked.file ≡ written
  pub name : linked.name ≡ uppercase m.name
  pub objects : linked.objects ≡ length m.objects
  pub pages : linked.pages ≡ sum_by length m.fixes
  pub sources : linked.sources ≡ sum_by (λ pages. sum_by length pages) m.fixes
