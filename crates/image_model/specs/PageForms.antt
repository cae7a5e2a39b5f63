-- When a page is zero-filled, iterated or plain.
-- "32-bit Linear eXecutable Module Format": "Object Page Table", "Iterated Data Pages".
use Rattle.std.specs.Prelude.{ℕ, ◌*◌, List, [], ◌∷◌, length, map, take, drop, nat_lt, if◌then◌else◌}
use Rattle.std.specs.List.{range_with_len}
use Rattle.lx_types.specs.declared.object.TheConstants.{PAGE_SIZE}
use Rattle.link_model.specs.Records.{page_count}
use Rattle.lx_model.specs.Iterated.{groups_spelling}
use Rattle.lx_model.specs.Packed.{data_of, groups_of}
use Rattle.image_model.specs.Image.{PageForm, plain, iterated, zeros}

-- ---- the pages of an object

-- Page k of these bytes; the last one may be cut off.
abbrev pub page_in : List ℕ → ℕ → List ℕ
page_in bytes k = take PAGE_SIZE (drop (k * PAGE_SIZE) bytes)

abbrev pub pages_in : List ℕ → List (List ℕ)
pages_in bytes = map (page_in bytes) (range_with_len 0 (page_count (length bytes)))

-- ---- the form of a page

-- Data goes up to the last byte that is not 0. Where there is none the page is zero-filled, where its groups are shorter it
-- is iterated, and otherwise it is plain.
abbrev pub form_of_data : List ℕ → PageForm
form_of_data [] = zeros
form_of_data (b ∷ bytes) =
    if nat_lt (length (groups_spelling (groups_of (b ∷ bytes)))) (length (b ∷ bytes))
    then iterated (groups_of (b ∷ bytes))
    else plain (b ∷ bytes)

unfoldable pub form_of_page : List ℕ → PageForm
form_of_page page = form_of_data (data_of page)
