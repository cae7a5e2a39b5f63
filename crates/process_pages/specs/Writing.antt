-- A write that is put into pages which are found by their places.
use Rattle.std.specs.Prelude.{◌≡◌, ℕ, ◌+◌, ◌-◌, ◌/◌, List, length, position, if◌then◌else◌}
use Rattle.lx_types.specs.declared.limits.TheConstants.{PAGE_LEN}
use Rattle.lx_types.specs.declared.object.PageId.{PageId}
use Rattle.lx_types.specs.declared.object.TheConstants.{PAGE_SIZE}
use Rattle.load_model.specs.State.{Written}
use Rattle.load_model.specs.declared.commands.Place.{Place}
use Rattle.load_model.specs.ViewAnswers.{is_mapped_at}
use Rattle.load_model.specs.Views.{Mapped}
use Rattle.load_model.specs.WrittenPages.{over_page}
use Rattle.process_pages.specs.PageRows.{PagePlaces, place_in}

-- a write to a place
pub record IsWriteTo (at : Place) (w : Written) : Type 0 where
  pub object : w.object ≡ at.object
  pub offset : w.offset ≡ at.offset
  pub long : length w.bytes ≡ at.len

-- the number after that of the last page of its object that a place covers, and how many it covers
abbrev pub covered_end : Place → ℕ
covered_end at = (at.offset + at.len + (PAGE_LEN - 1)) / PAGE_LEN

abbrev pub covered_count : Place → ℕ
covered_count at = covered_end at - at.offset / PAGE_SIZE

-- a write goes into one page of a residence
abbrev pub written_at : ℕ → PageId → Written → Mapped → Mapped
written_at serial p w x = if is_mapped_at serial p x then record x { bytes = over_page w x.of.page x.bytes } else x

-- the rows have the place at which a page of a residence stands, and none where it does not
abbrev pub IsFound : ℕ → PagePlaces → List Mapped → PageId → Type 0
IsFound serial rows mapped p = place_in rows p ≡ position (is_mapped_at serial p) mapped
