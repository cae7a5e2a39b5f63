-- Which bytes of numbered rows are marked.
use Rattle.std.specs.Prelude.{◌≡◌, ℕ, ◌/◌, ◌%◌, Bool, false, Some, ◌&&◌, ◌==◌, slice_get}
use Rattle.std.specs.Option.{option_map_or}
use Rattle.indexmap.specs.IndexMap.{ContainsKey, get}
use Rattle.byte_marks.specs.declared.page.Page.{Page}
use Rattle.byte_marks.specs.declared.marks.PageAt.{PageAt}
use Rattle.byte_marks.specs.declared.marks.ByteMarks.{ByteMarks}
use Rattle.byte_marks.specs.Bits.{is_set}

abbrev pub is_page : PageAt → PageAt → Bool
is_page a b = a.row == b.row && a.page == b.page

-- The page that has a byte of a row.
abbrev pub page_of : ℕ → ℕ → PageAt
page_of row x = record { row = row; page = x / 4096 }

abbrev pub HasPage : ByteMarks → PageAt → Type 0
HasPage m at = ContainsKey is_page m.pages at

-- The place of a page among the pages.
pub record IsPlaceOf (m : ByteMarks) (at : PageAt) (place : ℕ) : Type 0 where
  pub page : Page
  pub entry : slice_get m.pages.entries place ≡ Some (at, page)
  pub found : get is_page m.pages at ≡ Some page

-- A byte of a row is marked where there is its page, and has the bit.
abbrev pub is_marked : ByteMarks → ℕ → ℕ → Bool
is_marked m row x = option_map_or (λ (page : Page). is_set page.words (x % 4096)) (get is_page m.pages (page_of row x)) false
