-- What the parts of a module answer.
use Rattle.std.specs.Prelude.{ℕ, ◌+◌, ◌-◌, ◌==◌, ◌&&◌, nat_le, nat_lt, Bool, List, length, take, drop, find, bytes_eq, if◌then◌else◌, bit_and, slice_index, slice_index_or, Option, Some, None, option_map}
use Rattle.lx_types.specs.declared.object.ObjHead.{ObjHead}
use Rattle.lx_types.specs.declared.object.PageHead.{PageHead}
use Rattle.lx_types.specs.declared.object.PageId.{PageId}
use Rattle.lx_types.specs.declared.entry.EntryHead.{EntryHead}
use Rattle.lx_types.specs.declared.parts.Parts.{Parts}
use Rattle.lx_types.specs.declared.parts.TheConstants.{MODULE_KIND, MODULE_LIBRARY}
use Rattle.lx_types.specs.Object.{page_of}

-- the bytes of a file from one place up to another
abbrev pub span : List ℕ → ℕ → ℕ → List ℕ
span file from to = take (to - from) (drop from file)

-- the module is a library
abbrev pub is_library_of : Parts → Bool
is_library_of p = bit_and p.flags MODULE_KIND == MODULE_LIBRARY

-- an object that no table has
abbrev pub no_object : ObjHead
no_object = record { size = 0; base = 0; flags = 0; first = 0; count = 0 }

-- an object by its number, from 1
abbrev pub object_of : Parts → ℕ → ObjHead
object_of p object = slice_index_or p.objects (object - 1) no_object

-- what the page table has for a page
abbrev pub page_at : Parts → PageId → PageHead
page_at p id = page_of p.pages (object_of p id.object) id.page

-- the data of a page
abbrev pub data_at : Parts → PageId → List ℕ
data_at p id = let page = page_at p id in span p.file page.at (page.at + page.len)

-- where a page's fixup records begin and end; a page past its object's page count has none
abbrev pub fix_span_at : Parts → PageId → ℕ × ℕ
fix_span_at p id =
    let o = object_of p id.object in
    if nat_lt id.page o.count then slice_index_or p.fix_spans (o.first - 1 + id.page) (0, 0) else (0, 0)

-- a page's fixup records
abbrev pub fixes_at : Parts → PageId → List ℕ
fixes_at p id = let s = fix_span_at p id in span p.file s.0 s.1

-- A name at a place of a file: a length byte, and as many bytes. There is none where they pass the
-- file's end.
abbrev pub name_at : List ℕ → ℕ → Option (List ℕ)
name_at file at =
    let len = slice_index file at in
    if nat_lt at (length file) && nat_le (at + 1 + len) (length file)
    then Some (span file (at + 1) (at + 1 + len)) else None

-- a name of the import procedure table
abbrev pub proc_name_of : Parts → ℕ → Option (List ℕ)
proc_name_of p at = name_at p.file (p.procs_at + at)

-- what an ordinal stands for: the first entry that has it
abbrev pub entry_of : List (ℕ × EntryHead) → ℕ → Option EntryHead
entry_of entries ordinal = option_map (λ e. e.1) (find (λ e. e.0 == ordinal) entries)

-- the ordinal of the first name that has these bytes
abbrev pub ordinal_named : List (List ℕ × ℕ) → List ℕ → Option ℕ
ordinal_named names name = option_map (λ n. n.1) (find (λ n. bytes_eq n.0 name) names)
