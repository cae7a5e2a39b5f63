-- The bytes of a module by object and offset, and whole pages.
use Rattle.std.specs.Prelude.{ℕ, ◌/◌, ◌%◌, Bool, true, false, List, map}
use Rattle.std.specs.List.{range_with_len}
use Rattle.lx_types.specs.Parts.{object_of}
use Rattle.lx_types.specs.declared.object.PageId.{PageId}
use Rattle.lx_types.specs.declared.object.PageKind.{PageKind}
use Rattle.lx_types.specs.declared.object.PageKind.TheVariants.{Plain, Iterated, Invalid, Zero}
use Rattle.lx_types.specs.declared.object.TheConstants.{PAGE_SIZE}
use Rattle.lx_types.specs.declared.parts.Parts.{Parts}
use Rattle.lx_types.specs.declared.bases.Bases.{Bases}
use Rattle.lx_model.specs.declared.library.Spot.{Spot}
use Rattle.lx_model.specs.Library.{module_of}
use Rattle.lx_model.specs.Fixed.{Raw, Fixed}

-- the page of an object in which an offset lies
abbrev pub page_with : ℕ → ℕ → PageId
page_with object offset = record { object = object; page = offset / PAGE_SIZE }

-- Byte `offset` of an object of module m, as its fixups leave it.
abbrev pub FixedByte : List Parts → ℕ → Bases → ℕ → ℕ → ℕ
FixedByte lib m bases object offset = Fixed lib m bases (page_with object offset) (offset % PAGE_SIZE)

-- the bytes of a page, as the file has them and as its fixups leave them
abbrev pub raw_page : Parts → PageId → List ℕ
raw_page m p = map (Raw m p) (range_with_len 0 PAGE_SIZE)

abbrev pub fixed_page : List Parts → ℕ → Bases → PageId → List ℕ
fixed_page lib m bases p = map (Fixed lib m bases p) (range_with_len 0 PAGE_SIZE)

-- ---- invalid pages

abbrev pub is_invalid : PageKind → Bool
is_invalid Plain = false
is_invalid Iterated = false
is_invalid Invalid = true
is_invalid Zero = false

-- ---- spots

-- the flags of the object in which a spot lies
abbrev pub spot_flags : List Parts → Spot → ℕ
spot_flags lib s = (object_of (module_of lib s.«module») s.object).flags
