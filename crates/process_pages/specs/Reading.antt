-- Bytes that are copied out of mapped pages.
use Rattle.std.specs.Prelude.{◌≡◌, ◌≤◌, ◌<◌, ℕ, ◌+◌, ◌/◌, ◌%◌, List, [], length, Option, Some, None, slice_get, slice_index}
use Rattle.load_model.specs.ViewAnswers.{bytes_in}
use Rattle.lx_types.specs.declared.object.PageId.{PageId}
use Rattle.lx_types.specs.declared.object.TheConstants.{PAGE_SIZE}
use Rattle.load_model.specs.Memory.{page}
use Rattle.load_model.specs.Views.{Mapped}
use Rattle.process_pages.specs.PageRows.{PagePlaces, place_in}

-- the page has a place, at which one stands
abbrev pub IsThere : PagePlaces → List Mapped → PageId → Type 0
IsThere rows mapped p = (k : ℕ) × (place_in rows p ≡ Some k) × (k < length mapped)

-- so has the page of each byte, of so many from an offset on
abbrev pub AreThere : PagePlaces → List Mapped → ℕ → ℕ → ℕ → Type 0
AreThere rows mapped object offset len = (x : ℕ) → offset ≤ x → x < offset + len → IsThere rows mapped (page object (x / PAGE_SIZE))

-- the bytes of the page at a place
abbrev pub bytes_at : List Mapped → Option ℕ → List ℕ
bytes_at mapped None = []
bytes_at mapped (Some k) = bytes_in (slice_get mapped k)

-- a byte of an object
abbrev pub byte_by : PagePlaces → List Mapped → ℕ → ℕ → ℕ
byte_by rows mapped object x = slice_index (bytes_at mapped (place_in rows (page object (x / PAGE_SIZE)))) (x % PAGE_SIZE)
