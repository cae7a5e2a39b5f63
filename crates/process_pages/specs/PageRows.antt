-- Where the pages of a residence stand in the list of those that are mapped: a row for each object, a number for each page.
use Rattle.std.specs.Prelude.{◌≡◌, ℕ, ◌-◌, ◌<◌, List, [], length, Option, Some, None, position, slice_index_or, slice_set, map, replicate, is_none, nat_lt, ◌&&◌, if◌then◌else◌, Bool}
use Rattle.lx_types.specs.declared.object.PageId.{PageId}
use Rattle.lx_types.specs.declared.parts.Parts.{Parts}
use Rattle.lx_types.specs.Object.{pages_of}
use Rattle.lx_types.specs.Parts.{object_of}
use Rattle.lx_types.specs.Sound.{IsNumberOf}
use Rattle.load_model.specs.Memory.{page}
use Rattle.load_model.specs.Views.{Mapped}
use Rattle.load_model.specs.ViewAnswers.{is_mapped_at}

abbrev pub PagePlaces : Type 0
PagePlaces = List (List (Option ℕ))

-- what the rows have for a page
abbrev pub place_in : PagePlaces → PageId → Option ℕ
place_in rows p = slice_index_or (slice_index_or rows (p.object - 1) []) p.page None

-- there is a number for each page of each object
pub record Cover (m : Parts) (rows : PagePlaces) : Type 0 where
  pub objects : length rows ≡ length m.objects
  pub pages : (object : ℕ) → IsNumberOf object (length m.objects) → length (slice_index_or rows (object - 1) []) ≡ pages_of (object_of m object)

-- Each page of the residence has the place at which it stands among those that are mapped, and none where it does not.
abbrev pub ArePlaces : Parts → ℕ → PagePlaces → List Mapped → Type 0
ArePlaces m serial rows mapped =
    (object n : ℕ) → IsNumberOf object (length m.objects) → n < pages_of (object_of m object) →
    place_in rows (page object n) ≡ position (is_mapped_at serial (page object n)) mapped

-- the rows of a module that has no page mapped
pub record HaveNone (m : Parts) (rows : PagePlaces) : Type 0 where
  pub cover : Cover m rows
  pub none : (p : PageId) → place_in rows p ≡ None

-- the rows with a page at a place
abbrev pub with_place : PagePlaces → PageId → ℕ → PagePlaces
with_place rows p k = slice_set rows (p.object - 1) (slice_set (slice_index_or rows (p.object - 1) []) p.page (Some k))

-- the rows with no place for any page
abbrev pub without_any : PagePlaces → PagePlaces
without_any rows = map (λ row. replicate (length row) None) rows

-- the rows have a number for the page
abbrev pub has_number : PagePlaces → PageId → Bool
has_number rows p = nat_lt 0 p.object && nat_lt (p.object - 1) (length rows) && nat_lt p.page (length (slice_index_or rows (p.object - 1) []))

-- the rows with a page at a place, where they have a number for it and no place yet
abbrev pub with_first_place : PagePlaces → PageId → ℕ → PagePlaces
with_first_place rows p k = if has_number rows p && is_none (place_in rows p) then with_place rows p k else rows
