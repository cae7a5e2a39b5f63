-- What the objects of a module hold that stands at the bases of a load.
use Rattle.std.specs.Prelude.{◌≡◌, ℕ, ◌-◌, List, map, length, slice_index, take, if◌then◌else◌}
use Rattle.std.specs.List.{range_with_len}
use Rattle.lx_types.specs.Object.{pages_of}
use Rattle.lx_types.specs.Parts.{object_of, page_at}
use Rattle.lx_types.specs.declared.object.PageId.{PageId}
use Rattle.lx_types.specs.declared.parts.Parts.{Parts}
use Rattle.load_model.specs.Memory.{page}
use Rattle.lx_model.specs.Library.{module_of}
use Rattle.lx_model.specs.ModuleBytes.{fixed_page, is_invalid}
use Rattle.memory_model.specs.declared.held.PageMemory.{PageMemory}
use Rattle.memory_model.specs.declared.held.PageMemory.TheVariants.{Invalid, Held}
use Rattle.memory_model.specs.declared.held.ObjectMemory.{ObjectMemory}
use Rattle.memory_model.specs.Memory.{bytes_in}
use Rattle.module_pages.specs.Placed.{PlacedModule}
use Rattle.memory_core.specs.declared.objects.Standing.{Standing}

abbrev pub parts_of : PlacedModule → Parts
parts_of at = module_of at.library at.«module»

-- a page, up to the end of its object
abbrev pub page_held : PlacedModule → PageId → PageMemory
page_held at p =
    if is_invalid (page_at (parts_of at) p).kind then Invalid
    else Held (take (bytes_in (object_of (parts_of at) p.object) p.page) (fixed_page at.library at.«module» at.bases p))

-- an object's first pages, and the object, where these are the bases of the module's objects
abbrev pub pages_held : PlacedModule → ℕ → ℕ → List PageMemory
pages_held at object n = map (λ p. page_held at (page object p)) (range_with_len 0 n)

abbrev pub object_held : PlacedModule → List ℕ → ℕ → ObjectMemory
object_held at own number = record {
  number = number;
  base = slice_index own (number - 1);
  size = (object_of (parts_of at) number).size;
  flags = (object_of (parts_of at) number).flags;
  pages = pages_held at number (pages_of (object_of (parts_of at) number));
}

-- the first objects, and all
abbrev pub first_held : PlacedModule → List ℕ → ℕ → List ObjectMemory
first_held at own n = map (object_held at own) (range_with_len 1 n)

abbrev pub objects_held : PlacedModule → List ℕ → List ObjectMemory
objects_held at own = first_held at own (length (parts_of at).objects)

-- The parts are those of the module whose pages these are.
abbrev pub IsStanding : Standing → Type 0
IsStanding at = at.«module».now ≡ parts_of at.pages
