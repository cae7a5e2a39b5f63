-- The page of an entry, by what the entry has beside its flags.
use Rattle.std.specs.Prelude.{ℕ, ◌+◌, ◌*◌, ◌^◌, List, length, Option, Some, None, nat_le, if◌then◌else◌}
use Rattle.lx_types.specs.declared.refusal.LxRefusal.{LxRefusal}
use Rattle.lx_types.specs.declared.refusal.LxKind.TheVariants as kinds
use Rattle.lx_types.specs.declared.object.PageHead.{PageHead}
use Rattle.lx_types.specs.declared.object.PageKind.{PageKind}
use Rattle.lx_types.specs.declared.object.PageKind.TheVariants.{Plain, Iterated, Invalid, Zero}
use Rattle.lx_model.specs.declared.header_fields.TheConstants.{PAGE_OFFSET_SHIFT, ITERATED_PAGES, DATA_PAGES}
use Rattle.lx_model.specs.Reading.{fault}
use Rattle.lx_model.specs.Header.{field}
use Rattle.lx_types.specs.Object.{zero_page}
use Rattle.lx_read.specs.declared.pages.Entry.{Entry}

-- so many bytes at a place are not in the file: this is told at the entry
abbrev pub data_fault : List ℕ → ℕ → ℕ → ℕ → Option LxRefusal
data_fault file entry at len = if nat_le (at + len) (length file) then None else Some (fault kinds.PageData entry)

abbrev pub page_with : List ℕ → Entry → PageKind → PageHead
page_with file e Plain = record { kind = Plain; at = field file DATA_PAGES + e.offset * 2 ^ field file PAGE_OFFSET_SHIFT; len = e.len }
page_with file e Iterated = record { kind = Iterated; at = field file ITERATED_PAGES + e.offset * 2 ^ field file PAGE_OFFSET_SHIFT; len = e.len }
page_with file e Invalid = record { kind = Invalid; at = 0; len = 0 }
page_with file e Zero = zero_page
