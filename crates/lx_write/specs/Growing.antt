-- Tables that grow page by page, with what is still to come.
use Rattle.std.specs.Prelude.{ℕ, List, ◌++◌, length}
use Rattle.std.specs.List.{flat_map}
use Rattle.lx_types.specs.declared.object.PageHead.{PageHead}
use Rattle.lx_model.specs.RecordSpelling.{Written}
use Rattle.lx_model.specs.TableSpelling.{doublewords}
use Rattle.image_model.specs.Image.{PageForm}
use Rattle.image_model.specs.PageTables.{form_data, page_heads_from, page_records, record_offsets_from}
use Rattle.lx_write.specs.declared.pages.Pages.{Pages}
use Rattle.lx_write.specs.declared.records.Records.{Records}

-- The entries and the data of these pages and of others after them.
abbrev pub with_pages : Pages → List PageForm → List PageHead × List ℕ
with_pages p others = (p.heads.items ++ page_heads_from (length p.contents.items) others, p.contents.items ++ flat_map form_data others)

-- The fixup page table and the records of these pages and of others after them.
abbrev pub with_records : Records → List (List Written) → List ℕ × List ℕ
with_records r others = (r.spans.items ++ doublewords (record_offsets_from (length r.records.items) others), r.records.items ++ flat_map page_records others)
