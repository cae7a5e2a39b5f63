-- The two tables that have an item for each page: where its data begins, and where its fixup records end.
-- "32-bit Linear eXecutable Module Format": "Object Page Table", "Fixup Page Table".
use Rattle.std.specs.Prelude.{ℕ, ◌+◌, List, [], ◌∷◌, length}
use Rattle.std.specs.List.{flat_map}
use Rattle.lx_types.specs.Object.{zero_page}
use Rattle.lx_types.specs.declared.object.PageHead.{PageHead}
use Rattle.lx_types.specs.declared.object.PageKind.TheVariants.{Plain, Iterated}
use Rattle.lx_model.specs.Iterated.{groups_spelling}
use Rattle.lx_model.specs.RecordSpelling.{Written, record_spelling}
use Rattle.image_model.specs.Image.{PageForm, plain, iterated, zeros}

-- ---- page data, in page order and without gaps

abbrev pub form_data : PageForm → List ℕ
form_data (plain bytes) = bytes
form_data (iterated groups) = groups_spelling groups
form_data zeros = []

-- A page's entry, where its data begins so many bytes after the begin of all page data. One of zeros has offset and size 0.
abbrev pub page_head : ℕ → PageForm → PageHead
page_head at (plain bytes) = record { kind = Plain; at = at; len = length bytes }
page_head at (iterated groups) = record { kind = Iterated; at = at; len = length (groups_spelling groups) }
page_head at zeros = zero_page

abbrev pub page_heads_from : ℕ → List PageForm → List PageHead
page_heads_from at [] = []
page_heads_from at (form ∷ forms) = page_head at form ∷ page_heads_from (at + length (form_data form)) forms

-- ---- fixup records, in page order and without gaps

abbrev pub page_records : List Written → List ℕ
page_records records = flat_map record_spelling records

-- Where the records of each page begin, counted from those of the first, and where the last ones end.
abbrev pub record_offsets_from : ℕ → List (List Written) → List ℕ
record_offsets_from at [] = at ∷ []
record_offsets_from at (page ∷ pages) = at ∷ record_offsets_from (at + length (page_records page)) pages
