-- The bytes of a page: as the file has them, and with its fixups at the bases of a load.
-- "32-bit Linear eXecutable Module Format": "Object Page Table", "Fixup Record Table".
use Rattle.std.specs.Prelude.{ℕ, suc, ◌+◌, ◌*◌, ◌-◌, ◌^◌, ◌%◌, ◌==◌, Bool, List, [], ◌++◌, map, reverse, find, slice_get, slice_index, Option, Some, None, unwrap_or, Result, Ok, Err, nat_le, if◌then◌else◌, ℤ, pos, negsuc}
use Rattle.lx_bytes.specs.LittleEndian.{little_bytes}
use Rattle.lx_types.specs.Addresses.{address, selector, selected_offset}
pub use Rattle.lx_types.specs.Bases.{bases_of, base_of}
use Rattle.lx_types.specs.Parts.{object_of, page_at, data_at, fix_span_at, fixes_at}
use Rattle.lx_types.specs.declared.object.PageId.{PageId}
use Rattle.lx_types.specs.declared.object.PageKind.{PageKind}
use Rattle.lx_types.specs.declared.object.PageKind.TheVariants.{Plain, Iterated, Invalid, Zero}
use Rattle.lx_types.specs.declared.object.TheConstants.{PAGE_SIZE}
use Rattle.lx_types.specs.declared.parts.Parts.{Parts}
use Rattle.lx_types.specs.declared.bases.Bases.{Bases}
use Rattle.lx_types.specs.declared.fix.Source.{Source}
use Rattle.lx_types.specs.declared.fix.Source.TheVariants.{Byte, Sel, Far16, Off16, Far32, Off32, Self32}
use Rattle.lx_types.specs.declared.fix.Fix.{Fix}
use Rattle.lx_model.specs.declared.library.Spot.{Spot}
use Rattle.lx_model.specs.declared.library.EntryFault.{EntryFault}
use Rattle.lx_model.specs.Reading.{first, value_or, Many}
use Rattle.lx_model.specs.Iterated.{expansion}
use Rattle.lx_model.specs.Sources.{source_size}
use Rattle.lx_model.specs.Records.{Record, records_at, fixes_of}
use Rattle.lx_model.specs.Library.{module_of}
use Rattle.lx_model.specs.Entries.{target_spot}

-- ---- as the file has them

-- the bytes that a page's data gives; zeros follow them
abbrev pub kind_bytes : PageKind → List ℕ → List ℕ
kind_bytes Plain bytes = bytes
kind_bytes Iterated bytes = value_or [] (expansion bytes)
kind_bytes Invalid bytes = []
kind_bytes Zero bytes = []

unfoldable pub page_bytes : Parts → PageId → List ℕ
page_bytes m p = kind_bytes (page_at m p).kind (data_at m p)

-- Byte i of a page: the file's byte, a repeated byte, or 0. Nobody asks it of an invalid page, which has
-- no bytes.
unfoldable pub Raw : Parts → PageId → ℕ → ℕ
Raw m p i = slice_index (page_bytes m p) i

-- ---- addresses under the bases of a load

abbrev pub spot_address : Bases → Spot → ℕ
spot_address bases s = address (base_of bases s.«module» s.object) s.offset

-- the place that lies an offset, which may be negative, after another
abbrev pub after : ℕ → ℤ → ℕ
after at (pos n) = at + n
after at (negsuc n) = at - suc n

-- the address at which a source of a page ends
abbrev pub end_address : Bases → ℕ → PageId → Fix → ℕ
end_address bases m p f = after (2 ^ 32 + base_of bases m p.object + PAGE_SIZE * p.page + source_size f.source) f.offset % 2 ^ 32

-- ---- what a source puts

-- The bytes of a field for the address v in an object with these flags. The field ends at an address.
abbrev pub field_bytes : Source → Bool → ℕ → ℕ → ℕ → List ℕ
field_bytes Byte alias flags v end_at = little_bytes 1 v
field_bytes Sel alias flags v end_at = little_bytes 2 (selector alias flags v)
field_bytes Far16 alias flags v end_at = little_bytes 2 v ++ little_bytes 2 (selector alias flags v)
field_bytes Off16 alias flags v end_at = little_bytes 2 v
field_bytes Far32 alias flags v end_at = little_bytes 4 (selected_offset alias flags v) ++ little_bytes 2 (selector alias flags v)
field_bytes Off32 alias flags v end_at = little_bytes 4 v
field_bytes Self32 alias flags v end_at = little_bytes 4 (v + (2 ^ 32 - end_at))

-- bytes, and the offset in the page at which they begin
pub record Patch : Type 0 where
  pub offset : ℤ
  pub bytes : List ℕ

-- The bytes for a target at a spot: the target's address and the additive give the address of the field.
abbrev pub bytes_for : List Parts → ℕ → Bases → PageId → Fix → Spot → List ℕ
bytes_for lib m bases p f s =
    field_bytes f.source f.alias (object_of (module_of lib s.«module») s.object).flags (address (spot_address bases s) f.additive) (end_address bases m p f)

abbrev pub bytes_if : List Parts → ℕ → Bases → PageId → Fix → Result Spot EntryFault → List ℕ
bytes_if lib m bases p f (Ok s) = bytes_for lib m bases p f s
bytes_if lib m bases p f (Err e) = []

-- What a source puts into a page of module m. A target without a spot, which no fit module has, gives
-- nothing.
unfoldable pub patch_of : List Parts → ℕ → Bases → PageId → Fix → Patch
patch_of lib m bases p f = record { offset = f.offset; bytes = bytes_if lib m bases p f (target_spot lib m f.target) }

-- which byte of a field that begins at an offset is byte i of the page
abbrev pub index_in : ℤ → ℕ → Option ℕ
index_in (pos n) i = if nat_le n i then Some (i - n) else None
index_in (negsuc n) i = Some (i + suc n)

abbrev pub byte_if : List ℕ → Option ℕ → Option ℕ
byte_if bytes (Some k) = slice_get bytes k
byte_if bytes None = None

-- the byte that a source puts at i, where it covers i
abbrev pub patched : Patch → ℕ → Option ℕ
patched q i = byte_if q.bytes (index_in q.offset i)

-- ---- with its fixups

-- the records of a page, at their place of the file
abbrev pub records_of_page : Parts → PageId → Many Record
records_of_page m p = records_at (fix_span_at m p).0 (fixes_at m p)

-- the sources of a page, in the order of its records
unfoldable pub sources_of : Parts → PageId → List Fix
sources_of m p = fixes_of (records_of_page m p)

abbrev pub patches_of : List Parts → ℕ → Bases → PageId → List Patch
patches_of lib m bases p = map (patch_of lib m bases p) (sources_of (module_of lib m) p)

-- Byte i of a page of module m: what the last source that covers i puts there, otherwise the file's byte.
unfoldable pub Fixed : List Parts → ℕ → Bases → PageId → ℕ → ℕ
Fixed lib m bases p i = unwrap_or (first (map (λ q. patched q i) (reverse (patches_of lib m bases p)))) (Raw (module_of lib m) p i)
