-- The tables of a link's image fit each other, whatever the link is.
use Rattle.std.specs.Prelude.{◌≡◌, true, length}
use Rattle.std.specs.List.{AllByRecursion}
use Rattle.lx_types.specs.Sound.{HasPages}
use Rattle.lx_model.specs.Header.{is_module_flags}
use Rattle.link_model.specs.Link.{Link}
use Rattle.image_model.specs.Linked.{image_of}

-- The module flags are those of a program or a library; each page has its list of records; each object's pages are in the
-- page table.
pub record TablesFit (l : Link) : Type 0 where
  pub kind : is_module_flags (image_of l).flags ≡ true
  pub each : length (image_of l).records ≡ length (image_of l).pages
  pub own_pages : AllByRecursion (HasPages (length (image_of l).pages)) (image_of l).objects

abbrev pub LinkTablesFit : Type 0
LinkTablesFit = (l : Link) → TablesFit l
