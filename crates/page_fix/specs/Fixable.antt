-- Which pages of a module are fixed once for all processes: those of Code and Shared objects that are not invalid.
-- "32-bit Linear eXecutable Module Format": "Object Table" (flags), "Object Page Table" (flags).
use Rattle.std.specs.Prelude.{◌≡◌, ◌<◌, ℕ, ◌==◌, ◌&&◌, nat_lt, nat_le, not, Bool, true, false, List, length, map}
use Rattle.std.specs.List.{filter, flat_map, range_with_len}
use Rattle.lx_types.specs.Object.{class_of, pages_of}
use Rattle.lx_types.specs.Parts.{object_of, page_at}
use Rattle.lx_types.specs.Sound.{IsNumberOf}
use Rattle.lx_types.specs.declared.object.Class.{Class}
use Rattle.lx_types.specs.declared.object.Class.TheVariants.{Code, Private, Shared}
use Rattle.lx_types.specs.declared.object.PageId.{PageId}
use Rattle.lx_types.specs.declared.parts.Parts.{Parts}
use Rattle.lx_model.specs.ModuleBytes.{is_invalid}

abbrev pub is_page : PageId → PageId → Bool
is_page p q = (p.object == q.object) && (p.page == q.page)

-- a page of an object that the module has
abbrev pub is_page_of : Parts → PageId → Bool
is_page_of m p = nat_lt 0 p.object && nat_le p.object (length m.objects) && nat_lt p.page (pages_of (object_of m p.object))

-- all processes have one copy of the object's pages
abbrev pub has_shared_pages : Class → Bool
has_shared_pages Code = true
has_shared_pages Private = false
has_shared_pages Shared = true

unfoldable pub is_fixable : Parts → PageId → Bool
is_fixable m p = is_page_of m p && has_shared_pages (class_of (object_of m p.object)) && not (is_invalid (page_at m p).kind)

-- the same, part by part
pub record IsFixable (m : Parts) (p : PageId) : Type 0 where
  pub object : IsNumberOf p.object (length m.objects)
  pub page : p.page < pages_of (object_of m p.object)
  pub shared : has_shared_pages (class_of (object_of m p.object)) ≡ true
  pub valid : is_invalid (page_at m p).kind ≡ false

-- the pages of an object, ascending
abbrev pub object_pages : Parts → ℕ → List PageId
object_pages m object = map (λ n. record { object = object; page = n }) (range_with_len 0 (pages_of (object_of m object)))

-- object by object
unfoldable pub fixable_pages : Parts → List PageId
fixable_pages m = filter (is_fixable m) (flat_map (object_pages m) (range_with_len 1 (length m.objects)))
