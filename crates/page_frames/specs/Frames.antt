-- Which page each frame of a residence is for.
use Rattle.std.specs.Prelude.{ℕ, List, length, map, if◌then◌else◌}
use Rattle.std.specs.List.{range_with_len}
use Rattle.lx_types.specs.Object.{class_of, pages_of}
use Rattle.lx_types.specs.Parts.{object_of}
use Rattle.lx_types.specs.declared.bases.Bases.{Bases}
use Rattle.lx_types.specs.declared.object.PageId.{PageId}
use Rattle.lx_types.specs.declared.parts.Parts.{Parts}
use Rattle.lx_model.specs.Library.{module_of}
use Rattle.lx_model.specs.ModuleBytes.{fixed_page}
use Rattle.page_fix.specs.Fixable.{has_shared_pages}

-- the page that a frame is for
pub record FramePage : Type 0 where
  pub library : List Parts
  pub «module» : ℕ
  pub bases : Bases
  pub page : PageId

-- the bytes that a frame may hold, and no others
abbrev pub frame_bytes : FramePage → List ℕ
frame_bytes f = fixed_page f.library f.«module» f.bases f.page

-- how many frames an object has: one for each page that all processes share
abbrev pub frame_count : Parts → ℕ → ℕ
frame_count m object = if has_shared_pages (class_of (object_of m object)) then pages_of (object_of m object) else 0

-- the frames of an object, by page
unfoldable pub frame_row : List Parts → ℕ → Bases → ℕ → List FramePage
frame_row lib m bases object =
    map (λ n. record { library = lib; «module» = m; bases = bases; page = record { object = object; page = n } })
    (range_with_len 0 (frame_count (module_of lib m) object))

-- the frames of a module, a row for each object
unfoldable pub frame_rows : List Parts → ℕ → Bases → List (List FramePage)
frame_rows lib m bases = map (frame_row lib m bases) (range_with_len 1 (length (module_of lib m).objects))
