-- The file of a link that is accepted, and what it counts.
use Rattle.std.specs.Prelude.{◌≡◌, ℕ, List, None, length, sum_by}
use Rattle.obj_types.specs.declared.input.LinkInput.{LinkInput}
use Rattle.link_model.specs.Link.{Link, IsLinkOf}
use Rattle.link_model.specs.Refusal.{link_refusal}
use Rattle.image_model.specs.File.{file_of}
use Rattle.image_model.specs.Linked.{image_of, page_fixes}

-- The input's link is accepted, and this is the one file of its module.
pub record IsLinkedFile (input : LinkInput) (written : List ℕ) : Type 0 where
  pub link : Link
  pub of_input : IsLinkOf input link
  pub accepted : link_refusal link ≡ None
  pub file : written ≡ file_of (image_of link)

-- The fixups of all pages. One whose field stands on two pages counts on each.
abbrev pub source_count : Link → ℕ
source_count l = sum_by length (page_fixes l)
